-- Bits in a word, the lowest of which is the last.
use Rattle.std.proofs.Common.{◌≡◌, ◌≢◌, ℕ, zero, suc, ◌+◌, ◌-◌, ◌*◌, ◌/◌, ◌%◌, ◌^◌, ◌<◌, ◌≤◌, ◌==◌, Bool, true, false, cond, List, [], ◌∷◌, ◌++◌, ◌⊎◌, inl, inr, length, take, drop, refl, sym, ap, ap₂, ◌∙◌, subst, arith, append_assoc, append-nil, length-append}
use Rattle.std.specs.Int.{w64, to_be_bytes, bytes_high_first}
use Rattle.std.specs.Int.Bits.{shifted_half, shifted_even}
use Rattle.std.proofs.Math.Pow.{pow_mono}
use Rattle.std.proofs.Math.Nat.{mul-le-mul_right, pow-succ', mul_assoc, mul_right_comm, mul-lt-mul_of_pos_right}
use Rattle.std.proofs.lemmas.Nat.{shl_whole, pow-add, pow_pos}
use Rattle.asn1_core.proofs.Digits.{powers}
use Rattle.std.proofs.lemmas.Bool.{eq-eqb, ne_eqb, cases_eq}
use Rattle.asn1_core.specs.Numbers.{low_octets}
use Rattle.asn1_core.specs.Octets.{Octets, is_odd, bits8, bits_of, octets_for, pack, AllFalse}
use Rattle.asn1_core.proofs.Fixed.{bytes_are_low_octets, low_are_octets, low_length}
use Rattle.oer_spec.proofs.Bits.{packed}
use Rattle.oer_spec.proofs.Digits.{later_bytes}
use Rattle.oer_write.specs.Bits.{low_bits}
use Rattle.oer_write.specs.Scopes.{any_true}

pub length_low : (n w : ℕ) → length (low_bits n w) ≡ n
length_low zero w = refl
length_low (suc n) w = omega (arith, length-append (low_bits n (w / 2)) (is_odd w ∷ []), length_low n (w / 2))

pub length_all : (n w : ℕ) (more : List Bool) → length (low_bits n w ++ more) ≡ n + length more
length_all n w more = omega (arith, length-append (low_bits n w) more, length_low n w)

odd : (w : ℕ) → w % 2 ≡ 1 → is_odd w ≡ true
odd w e = eq-eqb (w % 2) 1 e

even : (w : ℕ) → w % 2 ≡ 0 → is_odd w ≡ false
even w e = ne_eqb (w % 2) 1 (λ f. omega (arith, e, f))

same_odd : (v w : ℕ) → v % 2 ≡ w % 2 → is_odd v ≡ is_odd w
same_odd v w e = ap (λ z. z == 1) e

one_more : (n w : ℕ) → low_bits (n + 1) w ≡ low_bits n (w / 2) ++ (is_odd w ∷ [])
one_more n w = let e : n + 1 ≡ suc n = omega arith in ap (λ z. low_bits z w) e

-- ---- one more bit behind
pub pushed_set : (n w : ℕ) → low_bits (n + 1) (w * 2 + 1) ≡ low_bits n w ++ (true ∷ [])
pushed_set n w = let half : (w * 2 + 1) / 2 ≡ w = omega arith in one_more n (w * 2 + 1) ∙ ap₂ (λ x y. low_bits n x ++ (y ∷ [])) half (odd (w * 2 + 1) (omega arith))

pub pushed_unset : (n w : ℕ) → low_bits (n + 1) (w * 2) ≡ low_bits n w ++ (false ∷ [])
pushed_unset n w = let half : w * 2 / 2 ≡ w = omega arith in one_more n (w * 2) ∙ ap₂ (λ x y. low_bits n x ++ (y ∷ [])) half (even (w * 2) (omega arith))

pub spelled_more : (n w : ℕ) (old mid new : List Bool) → n ≢ 0 → mid ≡ old ++ low_bits (n - 1) (w / 2) → new ≡ mid ++ (is_odd w ∷ []) → new ≡ old ++ low_bits n w
spelled_more n w old mid new h a b =
    let e : n ≡ suc (n - 1) = omega (arith, h) in
    b ∙ ap (λ z. z ++ (is_odd w ∷ [])) a ∙ append_assoc old (low_bits (n - 1) (w / 2)) (is_odd w ∷ []) ∙ ap (λ z. old ++ low_bits z w) (sym e)

-- ---- one more bit in front
first : (n w t h : ℕ) (b : Bool) → h ≡ 2 ^ n → w < h → t ≡ cond b h 0 → low_bits (suc n) (t + w) ≡ b ∷ low_bits n w
first zero w t h true e l f = let o : is_odd (t + w) ≡ true = odd (t + w) (omega (arith, e, l, f)) in ap (λ z. z ∷ []) o
first zero w t h false e l f = let o : is_odd (t + w) ≡ false = even (t + w) (omega (arith, e, l, f)) in ap (λ z. z ∷ []) o
first (suc n) w t h true e l f =
    let d : h ≡ 2 * 2 ^ n = e ∙ pow-succ' 2 n in
    let half : (t + w) / 2 ≡ 2 ^ n + w / 2 = omega (arith, d, f) in
    let low : is_odd (t + w) ≡ is_odd w = same_odd (t + w) w (omega (arith, d, f)) in
    ap₂ (λ x y. low_bits (suc n) x ++ (y ∷ [])) half low ∙ ap (λ z. z ++ (is_odd w ∷ [])) (first n (w / 2) (2 ^ n) (2 ^ n) true refl (omega (arith, d, l)) refl)
first (suc n) w t h false e l f =
    let d : h ≡ 2 * 2 ^ n = e ∙ pow-succ' 2 n in
    let half : (t + w) / 2 ≡ 0 + w / 2 = omega (arith, f) in
    let low : is_odd (t + w) ≡ is_odd w = same_odd (t + w) w (omega (arith, f)) in
    ap₂ (λ x y. low_bits (suc n) x ++ (y ∷ [])) half low ∙ ap (λ z. z ++ (is_odd w ∷ [])) (first n (w / 2) 0 (2 ^ n) false refl (omega (arith, d, l)) refl)

pub first_set : (n w t : ℕ) → w < 2 ^ n → t ≡ 2 ^ n → low_bits (n + 1) (w + t) ≡ true ∷ low_bits n w
first_set n w t l e =
    let s : n + 1 ≡ suc n = omega arith in
    let c : w + t ≡ 2 ^ n + w = omega (arith, e) in
    ap₂ (λ x y. low_bits x y) s c ∙ first n w (2 ^ n) (2 ^ n) true refl l refl

pub first_unset : (n w : ℕ) → w < 2 ^ n → low_bits (n + 1) w ≡ false ∷ low_bits n w
first_unset n w l =
    let s : n + 1 ≡ suc n = omega arith in
    let c : w ≡ 0 + w = omega arith in
    ap₂ (λ x y. low_bits x y) s c ∙ first n w 0 (2 ^ n) false refl l refl

-- ---- whether some bit is set
none_before : (n : ℕ) (bs : List Bool) → any_true (low_bits n 0 ++ bs) ≡ any_true bs
none_before zero bs = refl
none_before (suc n) bs = ap any_true (append_assoc (low_bits n 0) (false ∷ []) bs) ∙ none_before n (false ∷ bs)

pub any_none : (n w : ℕ) (bs : List Bool) → w ≡ 0 → any_true (low_bits n w ++ bs) ≡ any_true bs
any_none n w bs e = ap (λ z. any_true (low_bits n z ++ bs)) e ∙ none_before n bs

pub any_some : (n w : ℕ) (bs : List Bool) → w < 2 ^ n → w ≢ 0 → any_true (low_bits n w ++ bs) ≡ true
any_some zero w bs l some = absurd (omega (arith, l, some))
any_some (suc n) w bs l some =
    ap any_true (append_assoc (low_bits n (w / 2)) (is_odd w ∷ []) bs) ∙ go (cases_eq (w / 2) 0) (λ e. any_some n (w / 2) (is_odd w ∷ bs) (omega (arith, l, pow-succ' 2 n)) e)
  where
    go : (w / 2 ≡ 0) ⊎ (w / 2 ≡ 0 → ⊥) → (w / 2 ≢ 0 → any_true (low_bits n (w / 2) ++ (is_odd w ∷ bs)) ≡ true) → any_true (low_bits n (w / 2) ++ (is_odd w ∷ bs)) ≡ true
    go (inl e) f = any_none n (w / 2) (is_odd w ∷ bs) e ∙ ap (λ z. any_true (z ∷ bs)) (odd w (omega (arith, e, some)))
    go (inr e) f = f e

-- ---- in whole octets
bits_of_append : (o p : Octets) → bits_of (o ++ p) ≡ bits_of o ++ bits_of p
bits_of_append [] p = refl
bits_of_append (x ∷ o) p = ap (λ z. bits8 x ++ z) (bits_of_append o p) ∙ sym (append_assoc (bits8 x) (bits_of o) (bits_of p))

one_by_one : (l : List Bool) (a b c d e f g h : Bool) → (((((((l ++ (a ∷ [])) ++ (b ∷ [])) ++ (c ∷ [])) ++ (d ∷ [])) ++ (e ∷ [])) ++ (f ∷ [])) ++ (g ∷ [])) ++ (h ∷ []) ≡ l ++ (a ∷ b ∷ c ∷ d ∷ e ∷ f ∷ g ∷ h ∷ [])
one_by_one [] a b c d e f g h = refl
one_by_one (x ∷ l) a b c d e f g h = ap (λ z. x ∷ z) (one_by_one l a b c d e f g h)

eight : (n v : ℕ) → low_bits (suc (suc (suc (suc (suc (suc (suc (suc n)))))))) v ≡ low_bits n (v / 256) ++ bits8 (v % 256)
eight n v =
    one_by_one (low_bits n (v / 2 / 2 / 2 / 2 / 2 / 2 / 2 / 2)) (is_odd (v / 2 / 2 / 2 / 2 / 2 / 2 / 2)) (is_odd (v / 2 / 2 / 2 / 2 / 2 / 2)) (is_odd (v / 2 / 2 / 2 / 2 / 2)) (is_odd (v / 2 / 2 / 2 / 2)) (is_odd (v / 2 / 2 / 2)) (is_odd (v / 2 / 2)) (is_odd (v / 2)) (is_odd v)
    ∙ ap₂ (λ x y. low_bits n x ++ y) whole (bits v)
  where
    whole : v / 2 / 2 / 2 / 2 / 2 / 2 / 2 / 2 ≡ v / 256
    whole = omega arith

    bits : (v : ℕ) → is_odd (v / 2 / 2 / 2 / 2 / 2 / 2 / 2) ∷ is_odd (v / 2 / 2 / 2 / 2 / 2 / 2) ∷ is_odd (v / 2 / 2 / 2 / 2 / 2) ∷ is_odd (v / 2 / 2 / 2 / 2) ∷ is_odd (v / 2 / 2 / 2) ∷ is_odd (v / 2 / 2) ∷ is_odd (v / 2) ∷ is_odd v ∷ [] ≡ bits8 (v % 256)
    bits v =
        let a : is_odd (v / 2 / 2 / 2 / 2 / 2 / 2 / 2) ≡ is_odd (v % 256 / 128) = same_odd (v / 2 / 2 / 2 / 2 / 2 / 2 / 2) (v % 256 / 128) (omega arith) in
        let b : is_odd (v / 2 / 2 / 2 / 2 / 2 / 2) ≡ is_odd (v % 256 / 64) = same_odd (v / 2 / 2 / 2 / 2 / 2 / 2) (v % 256 / 64) (omega arith) in
        let c : is_odd (v / 2 / 2 / 2 / 2 / 2) ≡ is_odd (v % 256 / 32) = same_odd (v / 2 / 2 / 2 / 2 / 2) (v % 256 / 32) (omega arith) in
        let d : is_odd (v / 2 / 2 / 2 / 2) ≡ is_odd (v % 256 / 16) = same_odd (v / 2 / 2 / 2 / 2) (v % 256 / 16) (omega arith) in
        let e : is_odd (v / 2 / 2 / 2) ≡ is_odd (v % 256 / 8) = same_odd (v / 2 / 2 / 2) (v % 256 / 8) (omega arith) in
        let f : is_odd (v / 2 / 2) ≡ is_odd (v % 256 / 4) = same_odd (v / 2 / 2) (v % 256 / 4) (omega arith) in
        let g : is_odd (v / 2) ≡ is_odd (v % 256 / 2) = same_odd (v / 2) (v % 256 / 2) (omega arith) in
        let h : is_odd v ≡ is_odd (v % 256) = same_odd v (v % 256) (omega arith) in
        λ z. a z ∷ b z ∷ c z ∷ d z ∷ e z ∷ f z ∷ g z ∷ h z ∷ []

bits_of_low : (k v : ℕ) → bits_of (low_octets k v) ≡ low_bits (8 * k) v
bits_of_low zero v = refl
bits_of_low (suc k) v =
    let e : suc (suc (suc (suc (suc (suc (suc (suc (8 * k)))))))) ≡ 8 * suc k = omega arith in
    bits_of_append (low_octets k (v / 256)) (v % 256 ∷ []) ∙ ap₂ (λ x y. x ++ y) (bits_of_low k (v / 256)) (append-nil (bits8 (v % 256)))
    ∙ sym (eight (8 * k) v) ∙ ap (λ z. low_bits z v) e

-- ---- zero bits behind
all_false_push : (u : List Bool) → AllFalse u → AllFalse (u ++ (false ∷ []))
all_false_push [] f = (refl, tt)
all_false_push (x ∷ u) (f, fs) = (f, all_false_push u fs)

record IsPadded (p n w : ℕ) : Type 0 where
  pub rest : List Bool
  pub zeros : AllFalse rest
  pub count : length rest ≡ p
  pub bits : low_bits (p + n) (w * 2 ^ p) ≡ low_bits n w ++ rest

padded : (p n w : ℕ) → IsPadded p n w
padded zero n w =
    let s : 0 + n ≡ n = omega arith in
    let t : w * 2 ^ 0 ≡ w = omega arith in
    record { rest = []; zeros = tt; count = refl; bits = ap₂ (λ x y. low_bits x y) s t ∙ sym (append-nil (low_bits n w)) }
padded (suc p) n w =
    let r = padded p n w in
    let s : suc p + n ≡ suc (p + n) = omega arith in
    record {
      rest = r.rest ++ (false ∷ []);
      zeros = all_false_push r.rest r.zeros;
      count = omega (arith, length-append r.rest (false ∷ []), r.count);
      bits = ap (λ z. low_bits z (w * 2 ^ suc p)) s ∙ ap₂ (λ x y. low_bits (p + n) x ++ (y ∷ [])) (shifted_half w p) (even (w * 2 ^ suc p) (shifted_even w p))
          ∙ ap (λ z. z ++ (false ∷ [])) r.bits ∙ append_assoc (low_bits n w) r.rest (false ∷ []);
    }

pub aligned_is : (n w k x : ℕ) → w < 2 ^ n → k ≡ octets_for n → n ≤ 64 → x ≡ w * 2 ^ (k * 8 - n) % 2 ^ 64 → low_octets k x ≡ pack (low_bits n w)
aligned_is n w k x l e h f =
    let p : ℕ = k * 8 - n in
    let r = padded p n w in
    let whole : 8 * k ≡ p + n = omega (arith, e) in
    let few : p < 8 = omega (arith, e) in
    let exact : x ≡ w * 2 ^ p = f ∙ shl_whole w n p 64 l (omega (arith, e, h)) in
    packed (low_octets k x) (low_bits n w) r.rest (low_are_octets k x) r.zeros (subst (λ z. z < 8) (sym r.count) few)
    (bits_of_low k x ∙ ap₂ (λ y z. low_bits y z) whole exact ∙ r.bits)

pub lowest_is : (k x : ℕ) (all lowest : Octets) → k ≤ 8 → all ≡ to_be_bytes w64 x → lowest ≡ drop (8 - k) all → lowest ≡ low_octets k x
lowest_is k x all lowest h a l =
    let e : 8 ≡ 8 - k + k = omega arith in
    l ∙ ap (drop (8 - k)) a ∙ ap (λ z. drop (8 - k) (bytes_high_first z x)) e ∙ later_bytes (8 - k) k x ∙ bytes_are_low_octets k x

-- the lowest octets over others
pub put_rest : (start k x : ℕ) (old new all lowest : Octets) → k ≤ 8 → all ≡ to_be_bytes w64 x → lowest ≡ drop (8 - k) all
    → new ≡ take start old ++ (lowest ++ drop (start + length lowest) old) → new ≡ take start old ++ (low_octets k x ++ drop (start + k) old)
put_rest start k x old new all lowest h a l e =
    let same : lowest ≡ low_octets k x = lowest_is k x all lowest h a l in
    let count : length lowest ≡ k = ap length same ∙ low_length k x in
    e ∙ ap₂ (λ o n. take start old ++ (o ++ drop (start + n) old)) same count

-- ---- octets in front of those of a number

whole_octets : (k : ℕ) → 2 ^ (k * 8) ≡ 256 ^ k
whole_octets zero = refl
whole_octets (suc k) =
    let e : suc k * 8 ≡ k * 8 + 8 = omega arith in
    let f : 2 ^ (k * 8 + 8) ≡ 2 ^ (k * 8) * 256 = pow-add 2 (k * 8) 8 in
    ap (λ n. 2 ^ n) e ∙ f ∙ omega (arith, whole_octets k, powers k)

pub aligned_small : (n w k x : ℕ) → w < 2 ^ n → k ≡ octets_for n → n ≤ 64 → x ≡ w * 2 ^ (k * 8 - n) % 2 ^ 64 → x < 256 ^ k
aligned_small n w k x l e h f =
    let p : ℕ = k * 8 - n in
    let exact : x ≡ w * 2 ^ p = f ∙ shl_whole w n p 64 l (omega (arith, e, h)) in
    let whole : n + p ≡ k * 8 = omega (arith, e) in
    let below : w * 2 ^ p < 2 ^ n * 2 ^ p = mul-lt-mul_of_pos_right l (pow_pos p) in
    let joined : 2 ^ n * 2 ^ p ≡ 256 ^ k = sym (pow-add 2 n p) ∙ ap (λ z. 2 ^ z) whole ∙ whole_octets k in
    omega (arith, exact, below, joined)

low_joined : (a k f x : ℕ) → x < 256 ^ k → low_octets (k + a) (f * 256 ^ k + x) ≡ low_octets a f ++ low_octets k x
low_joined a zero f x h =
    let e : f * 256 ^ 0 + x ≡ f = omega (arith, h) in
    let z : 0 + a ≡ a = omega arith in
    ap₂ (λ m n. low_octets m n) z e ∙ sym (append-nil (low_octets a f))
low_joined a (suc k) f x h =
    let s : suc k + a ≡ suc (k + a) = omega arith in
    let p : 256 * 256 ^ k ≡ 256 ^ suc k = powers k in
    let m : f * 256 ^ suc k ≡ f * 256 ^ k * 256 = ap (λ z. f * z) (sym p) ∙ sym (mul_assoc f 256 (256 ^ k)) ∙ mul_right_comm f 256 (256 ^ k) in
    let half : (f * 256 ^ suc k + x) / 256 ≡ f * 256 ^ k + x / 256 = omega (arith, m) in
    let low : (f * 256 ^ suc k + x) % 256 ≡ x % 256 = omega (arith, m) in
    let small : x / 256 < 256 ^ k = omega (arith, h, p) in
    ap (λ n. low_octets n (f * 256 ^ suc k + x)) s ∙ ap₂ (λ y z. low_octets (k + a) y ++ (z ∷ [])) half low
    ∙ ap (λ o. o ++ (x % 256 ∷ [])) (low_joined a k f (x / 256) small) ∙ append_assoc (low_octets a f) (low_octets k (x / 256)) (x % 256 ∷ [])

-- a front of n bits and so many octets in one word
pub fronted : (n a k f x s : ℕ) → f < 2 ^ n → n + k * 8 ≤ 64 → x < 256 ^ k → s ≡ f * 2 ^ (k * 8) % 2 ^ 64 → (s + x < 2 ^ 64) × (low_octets (k + a) (s + x) ≡ low_octets a f ++ low_octets k x)
fronted n a k f x s l h b e =
    let exact : s ≡ f * 2 ^ (k * 8) = e ∙ shl_whole f n (k * 8) 64 l h in
    let w : 2 ^ (k * 8) ≡ 256 ^ k = whole_octets k in
    let m : f * 2 ^ (k * 8) ≡ f * 256 ^ k = ap (λ z. f * z) w in
    let room : (f + 1) * 2 ^ (k * 8) ≤ 2 ^ n * 2 ^ (k * 8) = mul-le-mul_right (2 ^ (k * 8)) (omega (arith, l)) in
    let split : (f + 1) * 2 ^ (k * 8) ≡ f * 2 ^ (k * 8) + 2 ^ (k * 8) = omega arith in
    let joined : 2 ^ n * 2 ^ (k * 8) ≡ 2 ^ (n + k * 8) = sym (pow-add 2 n (k * 8)) in
    let top : 2 ^ (n + k * 8) ≤ 2 ^ 64 = pow_mono h in
    (omega (arith, exact, b, w, room, split, joined, top), ap (λ z. low_octets (k + a) (z + x)) (exact ∙ m) ∙ low_joined a k f x b)
