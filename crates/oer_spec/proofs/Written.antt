-- What is written is a canonical encoding: numbers, lengths, tags and bits.
use Rattle.asn1_core.specs.Tags.{class_number}
use Rattle.std.proofs.Common.{◌≡◌, ◌≢◌, ℕ, zero, suc, ◌+◌, ◌-◌, ◌*◌, ◌/◌, ◌%◌, ◌^◌, ◌<◌, ◌≤◌, Bool, true, false, cond, ◌==◌, nat_lt, List, [], ◌∷◌, ◌++◌, map, length, drop, get_or, ◌⊎◌, inl, inr, refl, sym, ap, ap₂, ◌∙◌, subst, arith, append-nil, length-append}
use Rattle.std.specs.List.{AllByRecursion}
use Rattle.std.specs.Int.Digits.{number_from_digits, digits_of}
use Rattle.std.proofs.lemmas.Int.Digits.{number_digits_of, first_digits_of, all_below_base_digits_of, length-digits_of-le, length-digits_of_step}
use Rattle.std.proofs.lemmas.Bool.{eq-eqb, ne_eqb, lt-ltb, le-ltb, cases_lt, cases_eq, cond-true, cond-false}
use Rattle.std.proofs.lemmas.List.{length-drop}
use Rattle.asn1_core.proofs.Digits.{append_octets, digits_octets}
use Rattle.asn1_core.specs.Numbers.{number_octets}
use Rattle.asn1_core.specs.Octets.{Octets, AreOctets, unsigned, usize_max, is_odd, bits8, bits_of, bit_at, octet_of, pack_into, octets_for, pack, AllFalse}
use Rattle.asn1_core.specs.declared.tag.Class.{Class}
use Rattle.asn1_core.specs.declared.tag.Class.TheVariants.{Universal, Application, Context, Private}
use Rattle.asn1_core.specs.declared.tag.Tag.{Tag}
use Rattle.oer_spec.specs.Lengths.{IsLength, IsBehindLength, AreGroups, IsTag, IsOpenType, AreCountedBits, IsQuantity, NoLeadingZero, length_octets, behind_length, quantity_octets, with_top_bits, tag_octets, counted_bits}
use Rattle.oer_spec.specs.Mode.{OwnSized}
use Rattle.oer_spec.proofs.Unique.{length-bits_of}
use Rattle.asn1_strings.proofs.ZeroBits.{drop_nil}
use Rattle.oer_spec.proofs.Bits.{groups_is}

-- ---- digits
first_digit : (n : ℕ) → 0 < n → get_or (digits_of 256 n) 0 0 ≢ 0
first_digit n p e = let h : 0 < get_or (digits_of 256 n) 0 0 = first_digits_of 256 n (omega arith) p in omega (arith, h, e)

small_power : (n : ℕ) → n ≤ usize_max → n < 256 ^ 8
small_power n h = omega arith

pub few_digits : (n : ℕ) → n ≤ usize_max → length (digits_of 256 n) ≤ 8
few_digits n h = length-digits_of-le 256 8 n (omega arith) (small_power n h)

some_digits : (n : ℕ) → 0 < n → 0 < length (digits_of 256 n)
some_digits n p = omega (arith, length-digits_of_step 256 n (omega arith) p)

pub length_form : (n : ℕ) → n ≤ usize_max → IsLength OwnSized (length_octets n) n
length_form n h = go (cases_lt n 128)
  where
    go : (n < 128) ⊎ (128 ≤ n) → IsLength OwnSized (length_octets n) n
    go (inl l) = subst (λ z. IsLength OwnSized z n) (sym (cond-true (nat_lt n 128) (n ∷ []) ((128 + length (digits_of 256 n)) ∷ digits_of 256 n) (lt-ltb n 128 l))) (inl (l, refl, refl))
    go (inr l) =
        let few : length (digits_of 256 n) ≤ 8 = few_digits n h in
        let some : 0 < length (digits_of 256 n) = some_digits n (omega arith) in
        subst (λ z. IsLength OwnSized z n) (sym (cond-false (nat_lt n 128) (n ∷ []) ((128 + length (digits_of 256 n)) ∷ digits_of 256 n) (le-ltb n 128 l)))
        (inr (omega arith, omega arith, omega arith, digits_octets n, sym (number_digits_of 256 n (omega arith)), h, (l, first_digit n (omega arith))))

pub length_are_octets : (n : ℕ) → n ≤ usize_max → AreOctets (length_octets n)
length_are_octets n h = go (cases_lt n 128)
  where
    go : (n < 128) ⊎ (128 ≤ n) → AreOctets (length_octets n)
    go (inl l) = subst AreOctets (sym (cond-true (nat_lt n 128) (n ∷ []) ((128 + length (digits_of 256 n)) ∷ digits_of 256 n) (lt-ltb n 128 l))) (omega arith, tt)
    go (inr l) =
        let few : length (digits_of 256 n) ≤ 8 = few_digits n h in
        subst AreOctets (sym (cond-false (nat_lt n 128) (n ∷ []) ((128 + length (digits_of 256 n)) ∷ digits_of 256 n) (le-ltb n 128 l))) (omega arith, digits_octets n)

pub behind_form : (c : Octets) → AreOctets c → length c ≤ usize_max → IsBehindLength OwnSized (behind_length c) c
behind_form c f h = (length_octets (length c), refl, length_form (length c) h, f)

pub behind_are_octets : (c : Octets) → AreOctets c → length c ≤ usize_max → AreOctets (behind_length c)
behind_are_octets c f h = append_octets (length_octets (length c)) c (length_are_octets (length c) h) f

pub open_form : (f : Octets) → AreOctets f → length f ≤ usize_max → IsOpenType OwnSized (behind_length f) f
open_form f a h = (f, [], behind_form f a h, sym (append-nil f), refl)

-- ---- numbers behind_length a length
plain_digits : (n : ℕ) → 0 < n → NoLeadingZero (digits_of 256 n)
plain_digits n p = go (digits_of 256 n) (some_digits n p) (first_digit n p)
  where
    go : (ds : Octets) → 0 < length ds → get_or ds 0 0 ≢ 0 → NoLeadingZero ds
    go [] l f = absurd (omega arith)
    go (x ∷ []) l f = tt
    go (x ∷ y ∷ ys) l f = f

pub record IsNumber (n : ℕ) (c : Octets) : Type 0 where
  pub octets : AreOctets c
  pub some : 1 ≤ length c
  pub value : n ≡ unsigned c
  pub plain : NoLeadingZero c

pub number_is : (n : ℕ) → IsNumber n (number_octets n)
number_is n = go (cases_eq n 0)
  where
    go : (n ≡ 0) ⊎ (n ≡ 0 → ⊥) → IsNumber n (number_octets n)
    go (inl e) = subst (λ z. IsNumber z (number_octets z)) (sym e) (record { octets = (omega arith, tt); some = omega arith; value = refl; plain = tt })
    go (inr e) =
        let p : 0 < n = omega (arith, e) in
        subst (IsNumber n) (sym (cond-false (n == 0) (0 ∷ []) (digits_of 256 n) (ne_eqb n 0 e)))
        (record { octets = digits_octets n; some = some_digits n p; value = sym (number_digits_of 256 n (omega arith)); plain = plain_digits n p })

few_octets : (n : ℕ) → n ≤ usize_max → length (number_octets n) ≤ 8
few_octets n h = go (cases_eq n 0)
  where
    go : (n ≡ 0) ⊎ (n ≡ 0 → ⊥) → length (number_octets n) ≤ 8
    go (inl e) = subst (λ z. length (number_octets z) ≤ 8) (sym e) (omega arith)
    go (inr e) = subst (λ z. length z ≤ 8) (sym (cond-false (n == 0) (0 ∷ []) (digits_of 256 n) (ne_eqb n 0 e))) (few_digits n h)

pub quantity_form : (n : ℕ) → n ≤ usize_max → IsQuantity OwnSized (quantity_octets n) n
quantity_form n h =
    let r = number_is n in
    let few : length (number_octets n) ≤ 8 = few_octets n h in
    (number_octets n, behind_form (number_octets n) r.octets (omega (arith, few)), r.some, r.value, h, r.plain)

pub quantity_are_octets : (n : ℕ) → n ≤ usize_max → AreOctets (quantity_octets n)
quantity_are_octets n h =
    let few : length (number_octets n) ≤ 8 = few_octets n h in
    behind_are_octets (number_octets n) (number_is n).octets (omega (arith, few))

-- ---- tags
low_of_top : (ds : Octets) → AllByRecursion (λ d. d < 128) ds → map (λ x. x % 128) (with_top_bits ds) ≡ ds
low_of_top [] f = refl
low_of_top (x ∷ []) (f, _) = let e : x % 128 ≡ x = omega arith in ap (λ z. z ∷ []) e
low_of_top (x ∷ y ∷ ys) (f, fs) = let e : (x + 128) % 128 ≡ x = omega arith in ap₂ ◌∷◌ e (low_of_top (y ∷ ys) fs)

groups_of_top : (ds : Octets) → AllByRecursion (λ d. d < 128) ds → 0 < length ds → AreGroups (with_top_bits ds)
groups_of_top [] f l = absurd (omega arith)
groups_of_top (x ∷ []) (f, _) l = f
groups_of_top (x ∷ y ∷ []) (f, (g, _)) l = (omega arith, omega arith, g)
groups_of_top (x ∷ y ∷ z ∷ zs) (f, fs) l = (omega arith, omega arith, groups_of_top (y ∷ z ∷ zs) fs (omega arith))

first_of_top : (ds : Octets) → AllByRecursion (λ d. d < 128) ds → get_or ds 0 0 ≢ 0 → get_or (with_top_bits ds) 0 0 % 128 ≢ 0
first_of_top [] f p = absurd (p refl)
first_of_top (x ∷ []) (f, _) p = λ e. p (back x f e)
  where
    back : (x : ℕ) → x < 128 → x % 128 ≡ 0 → x ≡ 0
    back x f e = omega arith
first_of_top (x ∷ y ∷ ys) (f, _) p = λ e. p (back x f e)
  where
    back : (x : ℕ) → x < 128 → (x + 128) % 128 ≡ 0 → x ≡ 0
    back x f e = omega arith

top_octets : (ds : Octets) → AllByRecursion (λ d. d < 128) ds → AreOctets (with_top_bits ds)
top_octets [] f = tt
top_octets (x ∷ []) (f, _) = (omega arith, tt)
top_octets (x ∷ y ∷ ys) (f, fs) = (omega arith, top_octets (y ∷ ys) fs)

digits_below : (n : ℕ) → AllByRecursion (λ d. d < 128) (digits_of 128 n)
digits_below n = all_below_base_digits_of 128 n (omega arith)

pub tag_form : (t : Tag) → IsTag OwnSized (tag_octets t) t
tag_form t = go (cases_lt t.value 63)
  where
    ds : Octets
    ds = digits_of 128 t.value

    go : (t.value < 63) ⊎ (63 ≤ t.value) → IsTag OwnSized (tag_octets t) t
    go (inl l) = subst (λ z. IsTag OwnSized z t) (sym (cond-true (nat_lt t.value 63) ((class_number t.class * 64 + t.value) ∷ []) ((class_number t.class * 64 + 63) ∷ with_top_bits ds) (lt-ltb t.value 63 l))) (inl (l, refl, refl))
    go (inr l) =
        let p : 0 < t.value = omega arith in
        let some : 0 < length ds = omega (arith, length-digits_of_step 128 t.value (omega arith) p) in
        let first : 0 < get_or ds 0 0 = first_digits_of 128 t.value (omega arith) p in
        subst (λ z. IsTag OwnSized z t) (sym (cond-false (nat_lt t.value 63) ((class_number t.class * 64 + t.value) ∷ []) ((class_number t.class * 64 + 63) ∷ with_top_bits ds) (le-ltb t.value 63 l)))
        (inr (
          refl,
          groups_of_top ds (digits_below t.value) some,
          first_of_top ds (digits_below t.value) (λ e. absurd (omega (arith, first, e))),
          sym (groups_is 0 (with_top_bits ds) ∙ ap (number_from_digits 128) (low_of_top ds (digits_below t.value)) ∙ number_digits_of 128 t.value (omega arith)),
          l,
        ))

pub class_below : (c : Class) → class_number c < 4
class_below Universal = omega arith
class_below Application = omega arith
class_below Context = omega arith
class_below Private = omega arith

pub tag_are_octets : (t : Tag) → AreOctets (tag_octets t)
tag_are_octets t = let c = class_below t.class in go c (cases_lt t.value 63)
  where
    ds : Octets
    ds = digits_of 128 t.value

    go : class_number t.class < 4 → (t.value < 63) ⊎ (63 ≤ t.value) → AreOctets (tag_octets t)
    go c (inl l) = subst AreOctets (sym (cond-true (nat_lt t.value 63) ((class_number t.class * 64 + t.value) ∷ []) ((class_number t.class * 64 + 63) ∷ with_top_bits ds) (lt-ltb t.value 63 l))) (omega arith, tt)
    go c (inr l) = subst AreOctets (sym (cond-false (nat_lt t.value 63) ((class_number t.class * 64 + t.value) ∷ []) ((class_number t.class * 64 + 63) ∷ with_top_bits ds) (le-ltb t.value 63 l))) (omega arith, top_octets ds (digits_below t.value))

-- ---- bits
one_below : (b : Bool) → cond b 1 0 ≤ 1
one_below true = omega arith
one_below false = omega arith

odd_from : (n : ℕ) (b : Bool) → n % 2 ≡ cond b 1 0 → is_odd n ≡ b
odd_from n true e = eq-eqb (n % 2) 1 e
odd_from n false e = ne_eqb (n % 2) 1 (λ h. absurd (omega (arith, e, h)))

abbrev padded : ℕ → ℕ → List Bool → List Bool
padded zero i b = []
padded (suc n) i b = get_or b i false ∷ padded n (suc i) b

eight : (a b c d e f g h : ℕ) → a ≤ 1 → b ≤ 1 → c ≤ 1 → d ≤ 1 → e ≤ 1 → f ≤ 1 → g ≤ 1 → h ≤ 1 → (n : ℕ) → n ≡ a * 128 + b * 64 + c * 32 + d * 16 + e * 8 + f * 4 + g * 2 + h
    → (n / 128 % 2 ≡ a) × (n / 64 % 2 ≡ b) × (n / 32 % 2 ≡ c) × (n / 16 % 2 ≡ d) × (n / 8 % 2 ≡ e) × (n / 4 % 2 ≡ f) × (n / 2 % 2 ≡ g) × (n % 2 ≡ h)
eight a b c d e f g h la lb lc ld le lf lg lh n q = omega arith

eight_bits : (b : List Bool) → bits8 (octet_of b) ≡ padded 8 0 b
eight_bits b =
    let (q0, q1, q2, q3, q4, q5, q6, q7) = eight (bit_at b 0) (bit_at b 1) (bit_at b 2) (bit_at b 3) (bit_at b 4) (bit_at b 5) (bit_at b 6) (bit_at b 7)
    (one_below (get_or b 0 false)) (one_below (get_or b 1 false)) (one_below (get_or b 2 false)) (one_below (get_or b 3 false)) (one_below (get_or b 4 false)) (one_below (get_or b 5 false)) (one_below (get_or b 6 false)) (one_below (get_or b 7 false))
    (octet_of b) refl in
    λ i. odd_from (octet_of b / 128) (get_or b 0 false) q0 i ∷ odd_from (octet_of b / 64) (get_or b 1 false) q1 i ∷ odd_from (octet_of b / 32) (get_or b 2 false) q2 i ∷ odd_from (octet_of b / 16) (get_or b 3 false) q3 i
    ∷ odd_from (octet_of b / 8) (get_or b 4 false) q4 i ∷ odd_from (octet_of b / 4) (get_or b 5 false) q5 i ∷ odd_from (octet_of b / 2) (get_or b 6 false) q6 i ∷ odd_from (octet_of b) (get_or b 7 false) q7 i ∷ []

octet_small : (b : List Bool) → octet_of b < 256
octet_small b = omega (arith, one_below (get_or b 0 false), one_below (get_or b 1 false), one_below (get_or b 2 false), one_below (get_or b 3 false), one_below (get_or b 4 false), one_below (get_or b 5 false), one_below (get_or b 6 false), one_below (get_or b 7 false))

-- the first n bits, zero bits past the end, and the others
padded_rest : (n i : ℕ) (b u : List Bool) → AllFalse u → (v : List Bool) × AllFalse v × (padded n i b ++ (drop (n + i) b ++ u) ≡ drop i b ++ v)
padded_rest zero i b u f = let e : 0 + i ≡ i = omega arith in (u, f, ap (λ z. drop z b ++ u) e)
padded_rest (suc n) i b u f =
    let (v, g, e) = padded_rest n (suc i) b u f in
    let c : suc n + i ≡ n + suc i = omega arith in
    let (w, h, k) = one i b v g in
    (w, h, ap (λ z. get_or b i false ∷ (padded n (suc i) b ++ (drop z b ++ u))) c ∙ ap (λ z. get_or b i false ∷ z) e ∙ k)
  where
    one : (i : ℕ) (b v : List Bool) → AllFalse v → (w : List Bool) × AllFalse w × (get_or b i false ∷ (drop (suc i) b ++ v) ≡ drop i b ++ w)
    one i [] v g = (false ∷ v, (refl, g), ap (λ z. false ∷ (z ++ v)) (drop_nil (suc i)) ∙ ap (λ z. z ++ false ∷ v) (sym (drop_nil i)))
    one zero (x ∷ b) v g = (v, g, refl)
    one (suc i) (x ∷ b) v g = one i b v g

pub bits_of_pack_into : (k : ℕ) (b : List Bool) → length b ≤ 8 * k → (u : List Bool) × AllFalse u × (bits_of (pack_into k b) ≡ b ++ u)
bits_of_pack_into zero [] l = ([], tt, refl)
bits_of_pack_into zero (x ∷ b) l = absurd (omega arith)
bits_of_pack_into (suc k) b l =
    let (u, f, e) = bits_of_pack_into k (drop 8 b) (less b k l) in
    let (v, g, h) = padded_rest 8 0 b u f in
    (v, g, ap₂ ◌++◌ (eight_bits b) e ∙ h)
  where
    less : (b : List Bool) (k : ℕ) → length b ≤ 8 * suc k → length (drop 8 b) ≤ 8 * k
    less b k l = omega (arith, length-drop 8 b)

pub pack_octets : (k : ℕ) (b : List Bool) → AreOctets (pack_into k b)
pack_octets zero b = tt
pack_octets (suc k) b = (octet_small b, pack_octets k (drop 8 b))

pack_length : (k : ℕ) (b : List Bool) → length (pack_into k b) ≡ k
pack_length zero b = refl
pack_length (suc k) b = ap suc (pack_length k (drop 8 b))

-- a list of bits in octets, with its unused ones
pub record IsPacked (b : List Bool) (o : Octets) : Type 0 where
  pub unused : List Bool
  pub octets : AreOctets o
  pub bits : bits_of o ≡ b ++ unused
  pub few : length unused < 8
  pub zeros : AllFalse unused
  pub count : length o ≡ octets_for (length b)
  pub count_unused : 8 * octets_for (length b) - length b ≡ length unused

pub packed_is : (b : List Bool) → IsPacked b (pack b)
packed_is b =
    let k : ℕ = octets_for (length b) in
    let (u, f, e) = bits_of_pack_into k b (room (length b)) in
    let n : 8 * k ≡ length b + length u = ap (λ z. 8 * z) (sym (pack_length k b)) ∙ sym (length-bits_of (pack b)) ∙ ap length e ∙ length-append b u in
    record { unused = u; octets = pack_octets k b; bits = e; few = left (length b) (length u) n; zeros = f; count = pack_length k b; count_unused = rest (8 * k) (length b) (length u) n }
  where
    room : (n : ℕ) → n ≤ 8 * octets_for n
    room n = omega arith

    left : (n u : ℕ) → 8 * octets_for n ≡ n + u → u < 8
    left n u e = omega arith

    rest : (k n u : ℕ) → k ≡ n + u → k - n ≡ u
    rest k n u e = omega arith

pub counted_bits_form : (b : List Bool) → 1 + octets_for (length b) ≤ usize_max → (u : List Bool) × AreCountedBits OwnSized (counted_bits b) b u × AllFalse u
counted_bits_form b h =
    let r = packed_is b in
    let n : 8 * octets_for (length b) - length b ≡ length r.unused = r.count_unused in (
      r.unused,
      (pack b, subst (λ z. IsBehindLength OwnSized (behind_length (z ∷ pack b)) (length r.unused ∷ pack b)) (sym n) (behind_form (length r.unused ∷ pack b) (omega (arith, r.few), r.octets) (omega (arith, r.count, h))), r.few, r.bits),
      r.zeros,
    )

pub counted_bits_are_octets : (b : List Bool) → 1 + octets_for (length b) ≤ usize_max → AreOctets (counted_bits b)
counted_bits_are_octets b h =
    let r = packed_is b in
    behind_are_octets ((8 * octets_for (length b) - length b) ∷ pack b) (omega (arith, r.few, r.count_unused), r.octets) (omega (arith, r.count, h))
