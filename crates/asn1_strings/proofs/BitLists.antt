-- Bits, the octets that hold them, and the bits of those.
use Rattle.std.proofs.Common.{◌≡◌, ℕ, zero, suc, ◌+◌, ◌-◌, ◌*◌, ◌/◌, ◌%◌, ◌^◌, ◌<◌, ◌≤◌, Bool, true, false, cond, eqb, List, [], ◌∷◌, ◌++◌, length, take, drop, get_or, set, Some, None, refl, sym, ap, ap₂, ◌∙◌, arith}
use Rattle.std.specs.Prelude.{slice_get}
use Rattle.std.specs.Cmp.{booleans_Decides}
use Rattle.std.specs.Cmp.Lexicographic.{pointwise, pointwise_decides, bytes_decides}
use Rattle.std.proofs.Math.Bool.{beq}
use Rattle.std.proofs.Common.{Decides}
use Rattle.std.proofs.lemmas.Bool.Decides.{same_from_decides}
use Rattle.std.proofs.lemmas.Bool.{eqb-true, eq-eqb, ne_eqb, agree_below_at, false_from_ne_true}
use Rattle.std.proofs.lemmas.List.{length-take-le}
use Rattle.asn1_core.specs.Octets.{Octets, AreOctets, is_odd, bits8, bits_of, octet_of, pack_into, octets_for, pack}

pub length-bits_of : (o : Octets) → length (bits_of o) ≡ 8 * length o
length-bits_of [] = refl
length-bits_of (x ∷ o) = omega (arith, length-bits_of o)

pub length-front : (o : Octets) (n : ℕ) → n ≤ 8 * length o → length (take n (bits_of o)) ≡ n
length-front o n le = length-take-le n (bits_of o) (omega (arith, length-bits_of o))

-- ---- eight bits and their octet

weight : Bool → ℕ
weight b = cond b 1 0

odd_is : (n : ℕ) (b : Bool) → n % 2 ≡ cond b 1 0 → is_odd n ≡ b
odd_is n true e = eq-eqb (n % 2) 1 e
odd_is n false e = rw e refl

at_most_1 : (b : Bool) → cond b 1 0 ≤ 1
at_most_1 true = omega arith
at_most_1 false = omega arith

eight : {A : Type 0} → A → A → A → A → A → A → A → A → List A
eight a b c d e f g h = a ∷ b ∷ c ∷ d ∷ e ∷ f ∷ g ∷ h ∷ []

bits8_octet : (a b c d e f g h : Bool) (l : List Bool) → bits8 (octet_of (a ∷ b ∷ c ∷ d ∷ e ∷ f ∷ g ∷ h ∷ l)) ≡ a ∷ b ∷ c ∷ d ∷ e ∷ f ∷ g ∷ h ∷ []
bits8_octet a b c d e f g h l =
    go (cond a 1 0) (cond b 1 0) (cond c 1 0) (cond d 1 0) (cond e 1 0) (cond f 1 0) (cond g 1 0) (cond h 1 0)
    (at_most_1 a) (at_most_1 b) (at_most_1 c) (at_most_1 d) (at_most_1 e) (at_most_1 f) (at_most_1 g) (at_most_1 h)
    refl refl refl refl refl refl refl refl
  where
    go : (p q r s t u v w : ℕ) → p ≤ 1 → q ≤ 1 → r ≤ 1 → s ≤ 1 → t ≤ 1 → u ≤ 1 → v ≤ 1 → w ≤ 1
        → p ≡ cond a 1 0 → q ≡ cond b 1 0 → r ≡ cond c 1 0 → s ≡ cond d 1 0 → t ≡ cond e 1 0 → u ≡ cond f 1 0 → v ≡ cond g 1 0 → w ≡ cond h 1 0
        → bits8 (p * 128 + q * 64 + r * 32 + s * 16 + t * 8 + u * 4 + v * 2 + w) ≡ a ∷ b ∷ c ∷ d ∷ e ∷ f ∷ g ∷ h ∷ []
    go p q r s t u v w lp lq lr ls lt lu lv lw ep eq er es et eu ev ew =
        let n : ℕ = p * 128 + q * 64 + r * 32 + s * 16 + t * 8 + u * 4 + v * 2 + w in
        let ia = odd_is (n / 128) a (omega (arith, ep)) in
        let ib = odd_is (n / 64) b (omega (arith, eq)) in
        let ic = odd_is (n / 32) c (omega (arith, er)) in
        let id = odd_is (n / 16) d (omega (arith, es)) in
        let ie = odd_is (n / 8) e (omega (arith, et)) in
        let if' = odd_is (n / 4) f (omega (arith, eu)) in
        let ig = odd_is (n / 2) g (omega (arith, ev)) in
        let ih = odd_is n h (omega (arith, ew)) in
        cc

-- the bits of packed bits are these bits, and zero bits
back : (k : ℕ) (l : List Bool) → length l ≤ 8 * k → take (length l) (bits_of (pack_into k l)) ≡ l
back k [] le = refl
back zero (a ∷ l) le = absurd (omega arith)
back (suc k) (a ∷ []) le = ap (λ z. take 1 (z ++ bits_of (pack_into k (drop 8 (a ∷ []))))) (bits8_octet a false false false false false false false [])
back (suc k) (a ∷ b ∷ []) le = ap (λ z. take 2 (z ++ bits_of (pack_into k (drop 8 (a ∷ b ∷ []))))) (bits8_octet a b false false false false false false [])
back (suc k) (a ∷ b ∷ c ∷ []) le = ap (λ z. take 3 (z ++ bits_of (pack_into k (drop 8 (a ∷ b ∷ c ∷ []))))) (bits8_octet a b c false false false false false [])
back (suc k) (a ∷ b ∷ c ∷ d ∷ []) le = ap (λ z. take 4 (z ++ bits_of (pack_into k (drop 8 (a ∷ b ∷ c ∷ d ∷ []))))) (bits8_octet a b c d false false false false [])
back (suc k) (a ∷ b ∷ c ∷ d ∷ e ∷ []) le = ap (λ z. take 5 (z ++ bits_of (pack_into k (drop 8 (a ∷ b ∷ c ∷ d ∷ e ∷ []))))) (bits8_octet a b c d e false false false [])
back (suc k) (a ∷ b ∷ c ∷ d ∷ e ∷ f ∷ []) le = ap (λ z. take 6 (z ++ bits_of (pack_into k (drop 8 (a ∷ b ∷ c ∷ d ∷ e ∷ f ∷ []))))) (bits8_octet a b c d e f false false [])
back (suc k) (a ∷ b ∷ c ∷ d ∷ e ∷ f ∷ g ∷ []) le = ap (λ z. take 7 (z ++ bits_of (pack_into k (drop 8 (a ∷ b ∷ c ∷ d ∷ e ∷ f ∷ g ∷ []))))) (bits8_octet a b c d e f g false [])
back (suc k) (a ∷ b ∷ c ∷ d ∷ e ∷ f ∷ g ∷ h ∷ l) le =
    ap (λ z. take (length (a ∷ b ∷ c ∷ d ∷ e ∷ f ∷ g ∷ h ∷ l)) (z ++ bits_of (pack_into k l))) (bits8_octet a b c d e f g h l)
    ∙ ap (λ z. a ∷ b ∷ c ∷ d ∷ e ∷ f ∷ g ∷ h ∷ z) (back k l (omega arith))

pub bits_of-pack : (l : List Bool) → take (length l) (bits_of (pack l)) ≡ l
bits_of-pack l = back (octets_for (length l)) l (omega arith)

pub length-pack_into : (k : ℕ) (l : List Bool) → length (pack_into k l) ≡ k
length-pack_into zero l = refl
length-pack_into (suc k) l = ap suc (length-pack_into k (drop 8 l))

-- ---- the first bits of octets

abbrev front_test : ℕ → ℕ → Bool
front_test n x = eqb (x / 2 ^ (8 - n) * 2 ^ (8 - n) % 256) (octet_of (take n (bits8 x)))

pub octet_front : (n x : ℕ) → 0 < n → n < 8 → x < 256 → x / 2 ^ (8 - n) * 2 ^ (8 - n) % 256 ≡ octet_of (take n (bits8 x))
octet_front n x some few f = eqb-true (x / 2 ^ (8 - n) * 2 ^ (8 - n) % 256) (octet_of (take n (bits8 x))) (go n some few)
  where
    go : (n : ℕ) → 0 < n → n < 8 → front_test n x ≡ true
    go zero some few = absurd (omega arith)
    go (suc zero) some few = agree_below_at (front_test 1) (λ _. true) 256 x refl f
    go (suc (suc zero)) some few = agree_below_at (front_test 2) (λ _. true) 256 x refl f
    go (suc (suc (suc zero))) some few = agree_below_at (front_test 3) (λ _. true) 256 x refl f
    go (suc (suc (suc (suc zero)))) some few = agree_below_at (front_test 4) (λ _. true) 256 x refl f
    go (suc (suc (suc (suc (suc zero))))) some few = agree_below_at (front_test 5) (λ _. true) 256 x refl f
    go (suc (suc (suc (suc (suc (suc zero)))))) some few = agree_below_at (front_test 6) (λ _. true) 256 x refl f
    go (suc (suc (suc (suc (suc (suc (suc zero))))))) some few = agree_below_at (front_test 7) (λ _. true) 256 x refl f
    go (suc (suc (suc (suc (suc (suc (suc (suc n)))))))) some few = absurd (omega arith)

abbrev whole_test : ℕ → Bool
whole_test x = eqb (octet_of (bits8 x)) x

octet_whole : (x : ℕ) (l : List Bool) → x < 256 → octet_of (bits8 x ++ l) ≡ x
octet_whole x l f = eqb-true (octet_of (bits8 x)) x (agree_below_at whole_test (λ _. true) 256 x refl f)

-- octets, of which the one at place k is replaced by its first n bits, unless there is none to replace
abbrev pub with_front : ℕ → ℕ → Octets → Octets
with_front n k o = cond (eqb n 0) o (set o k (octet_of (take n (bits8 (get_or o k 0)))))

front_later : (n k x : ℕ) (o : Octets) → x ∷ with_front n k o ≡ with_front n (suc k) (x ∷ o)
front_later n k x o =
    elim (eqb n 0) as (λ b. x ∷ cond b o (set o k (octet_of (take n (bits8 (get_or o k 0))))) ≡ cond b (x ∷ o) (x ∷ set o k (octet_of (take n (bits8 (get_or o k 0)))))) [ true ↦ refl | false ↦ refl ]

pub packed_front : (o : Octets) (n : ℕ) → AreOctets o → length o ≡ octets_for n → pack_into (length o) (take n (bits_of o)) ≡ with_front (n % 8) (length o - 1) o
packed_front [] zero f e = refl
packed_front [] (suc n) f e = absurd (omega arith)
packed_front (x ∷ o) zero f e = absurd (omega arith)
packed_front (x ∷ []) (suc zero) f e = refl
packed_front (x ∷ []) (suc (suc zero)) f e = refl
packed_front (x ∷ []) (suc (suc (suc zero))) f e = refl
packed_front (x ∷ []) (suc (suc (suc (suc zero)))) f e = refl
packed_front (x ∷ []) (suc (suc (suc (suc (suc zero))))) f e = refl
packed_front (x ∷ []) (suc (suc (suc (suc (suc (suc zero)))))) f e = refl
packed_front (x ∷ []) (suc (suc (suc (suc (suc (suc (suc zero))))))) f e = refl
packed_front (x ∷ []) (suc (suc (suc (suc (suc (suc (suc (suc zero)))))))) f e = ap (λ z. z ∷ []) (octet_whole x [] f.0)
packed_front (x ∷ []) (suc (suc (suc (suc (suc (suc (suc (suc (suc n))))))))) f e = absurd (omega arith)
packed_front (x ∷ y ∷ o) (suc (suc (suc (suc (suc (suc (suc (suc n)))))))) f e =
    let rest : length (y ∷ o) ≡ octets_for n = omega arith in
    let same : suc (suc (suc (suc (suc (suc (suc (suc n))))))) % 8 ≡ n % 8 = omega arith in
    let last : length (y ∷ o) - 1 ≡ length o = omega arith in
    let later : length (x ∷ y ∷ o) - 1 ≡ suc (length o) = omega arith in
    ap₂ ◌∷◌ (octet_whole x (take n (bits_of (y ∷ o))) f.0) (packed_front (y ∷ o) n f.1 rest)
    ∙ ap (λ k. x ∷ with_front (n % 8) k (y ∷ o)) last
    ∙ front_later (n % 8) (length o) x (y ∷ o)
    ∙ ap₂ (λ r k. with_front r k (x ∷ y ∷ o)) (sym same) (sym later)
packed_front (x ∷ y ∷ o) n f e = absurd (omega arith)

-- ---- a bit at a place

bit_of : (x i : ℕ) (l : List Bool) → i < 8 → slice_get (bits8 x ++ l) i ≡ Some (is_odd (x / 2 ^ (7 - i)))
bit_of x zero l h = refl
bit_of x (suc zero) l h = refl
bit_of x (suc (suc zero)) l h = refl
bit_of x (suc (suc (suc zero))) l h = refl
bit_of x (suc (suc (suc (suc zero)))) l h = refl
bit_of x (suc (suc (suc (suc (suc zero))))) l h = refl
bit_of x (suc (suc (suc (suc (suc (suc zero)))))) l h = refl
bit_of x (suc (suc (suc (suc (suc (suc (suc zero))))))) l h = let one : x / 1 ≡ x = omega arith in ap (λ z. Some (is_odd z)) (sym one)
bit_of x (suc (suc (suc (suc (suc (suc (suc (suc i)))))))) l h = absurd (omega arith)

pub get_in_bits : (o : Octets) (i : ℕ) → i < 8 * length o → slice_get (bits_of o) i ≡ Some (is_odd (get_or o (i / 8) 0 / 2 ^ (7 - i % 8)))
get_in_bits [] i lt = absurd (omega arith)
get_in_bits (x ∷ o) (suc (suc (suc (suc (suc (suc (suc (suc i)))))))) lt =
    let place : suc (suc (suc (suc (suc (suc (suc (suc i))))))) / 8 ≡ suc (i / 8) = omega arith in
    let bit : suc (suc (suc (suc (suc (suc (suc (suc i))))))) % 8 ≡ i % 8 = omega arith in
    get_in_bits o i (omega arith) ∙ ap₂ (λ k r. Some (is_odd (get_or (x ∷ o) k 0 / 2 ^ (7 - r)))) (sym place) (sym bit)
get_in_bits (x ∷ o) i lt = first_octet (omega arith)
  where
    first_octet : i < 8 → slice_get (bits8 x ++ bits_of o) i ≡ Some (is_odd (get_or (x ∷ o) (i / 8) 0 / 2 ^ (7 - i % 8)))
    first_octet few =
        let place : i / 8 ≡ 0 = omega arith in
        let bit : i % 8 ≡ i = omega arith in
        bit_of x i (bits_of o) few ∙ ap₂ (λ k r. Some (is_odd (get_or (x ∷ o) k 0 / 2 ^ (7 - r)))) (sym place) (sym bit)

slice_get-take : (l : List Bool) (n i : ℕ) → i < n → slice_get (take n l) i ≡ slice_get l i
slice_get-take [] zero i lt = refl
slice_get-take [] (suc n) i lt = refl
slice_get-take (x ∷ l) zero i lt = absurd (omega arith)
slice_get-take (x ∷ l) (suc n) zero lt = refl
slice_get-take (x ∷ l) (suc n) (suc i) lt = slice_get-take l n i (omega arith)

pub slice_get-past : (l : List Bool) (i : ℕ) → length l ≤ i → None ≡ slice_get l i
slice_get-past [] i le = refl
slice_get-past (x ∷ l) zero le = absurd (omega arith)
slice_get-past (x ∷ l) (suc i) le = slice_get-past l i (omega arith)

pub get_bit : (o : Octets) (n i : ℕ) → n ≤ 8 * length o → i < n → Some (is_odd (get_or o (i / 8) 0 / 2 ^ (7 - i % 8))) ≡ slice_get (take n (bits_of o)) i
get_bit o n i enough lt = sym (get_in_bits o i (omega arith)) ∙ sym (slice_get-take (bits_of o) n i lt)

-- ---- octets whose last one is cut to its first bits

pub packed_is : (o p : Octets) (n : ℕ) → AreOctets o → length o ≡ octets_for n → p ≡ with_front (n % 8) (length o - 1) o → p ≡ pack (take n (bits_of o))
packed_is o p n f e is =
    let count : length (take n (bits_of o)) ≡ n = length-front o n (omega arith) in
    is ∙ sym (packed_front o n f e) ∙ ap (λ k. pack_into k (take n (bits_of o))) (e ∙ ap octets_for (sym count))

pub front_is : (o p : Octets) (n : ℕ) → AreOctets o → length o ≡ octets_for n → p ≡ with_front (n % 8) (length o - 1) o → take n (bits_of p) ≡ take n (bits_of o)
front_is o p n f e is =
    let count : length (take n (bits_of o)) ≡ n = length-front o n (omega arith) in
    ap (λ z. take n (bits_of z)) (packed_is o p n f e is) ∙ ap (λ k. take k (bits_of (pack (take n (bits_of o))))) (sym count) ∙ bits_of-pack (take n (bits_of o))

pub packed_length : (o p : Octets) (n : ℕ) → AreOctets o → length o ≡ octets_for n → p ≡ with_front (n % 8) (length o - 1) o → n ≤ 8 * length p
packed_length o p n f e is =
    let count : length (take n (bits_of o)) ≡ n = length-front o n (omega arith) in
    let size : length p ≡ octets_for (length (take n (bits_of o))) = ap length (packed_is o p n f e is) ∙ length-pack_into (octets_for (length (take n (bits_of o)))) (take n (bits_of o)) in
    omega (arith, size, count)

pub whole_is : (o p : Octets) (r k : ℕ) → r ≡ 0 → p ≡ o → p ≡ with_front r k o
whole_is o p r k e is = is ∙ ap (λ z. with_front z k o) (sym e)

pub cut_is : (o p : Octets) (r k v : ℕ) → (r ≡ 0 → ⊥) → v ≡ octet_of (take r (bits8 (get_or o k 0))) → p ≡ set o k v → p ≡ with_front r k o
cut_is o p r k v some e is =
    let test : eqb r 0 ≡ false = ne_eqb r 0 some in
    is ∙ ap (set o k) e ∙ ap (λ b. cond b o (set o k (octet_of (take r (bits8 (get_or o k 0)))))) (sym test)

-- ---- packed bits are the same where their octets are

pub same_bits : (p q : Octets) (n : ℕ) → p ≡ pack (take n (bits_of p)) → q ≡ pack (take n (bits_of q)) → pointwise eqb p q ≡ pointwise beq (take n (bits_of p)) (take n (bits_of q))
same_bits p q n e f =
    let octets = bytes_decides p q in
    let bits = pointwise_decides booleans_Decides (take n (bits_of p)) (take n (bits_of q)) in
    let by_octets : Decides (pointwise eqb p q) (p ≡ q) = octets in
    let by_bits : Decides (pointwise beq (take n (bits_of p)) (take n (bits_of q))) (p ≡ q) = (λ h. e ∙ ap pack (bits.0 h) ∙ sym f, λ h. bits.1 (ap (λ z. take n (bits_of z)) h)) in
    same_from_decides (pointwise eqb p q) (pointwise beq (take n (bits_of p)) (take n (bits_of q))) by_octets by_bits

pub other_bits : (m n : ℕ) (a b : List Bool) → length a ≡ m → length b ≡ n → (m ≡ n → ⊥) → eqb m n ≡ pointwise beq a b
other_bits m n a b e f apart =
    let bits = pointwise_decides booleans_Decides a b in
    let never : (pointwise beq a b ≡ true → ⊥) = λ h. apart (sym e ∙ ap length (bits.0 h) ∙ f) in
    ne_eqb m n apart ∙ sym (false_from_ne_true (pointwise beq a b) never)
