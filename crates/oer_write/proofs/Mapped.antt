-- Bitmaps behind their length and the count of unused bits, in one number.
use Rattle.std.proofs.Common.{◌≡◌, ℕ, ◌+◌, ◌-◌, ◌*◌, ◌<◌, ◌≤◌, Bool, List, [], ◌∷◌, ◌++◌, length, refl, sym, ap, ap₂, ◌∙◌, arith, append-nil, length-append}
use Rattle.std.specs.Prelude.{nat_lt, ◌/◌, ◌%◌, ◌^◌}
use Rattle.std.specs.Int.Digits.{digits_of}
use Rattle.std.proofs.lemmas.Int.Digits.{length-digits_of_step, number_digits_of}
use Rattle.std.proofs.lemmas.Bool.{cond-false, le-ltb}
use Rattle.asn1_core.specs.Octets.{unsigned}
use Rattle.asn1_core.proofs.Digits.{digits_octets, unsigned_below}
use Rattle.asn1_core.proofs.Fixed.{low_octets_unsigned}
use Rattle.oer_write.proofs.Words.{fronted}
use Rattle.std.proofs.Common.{inl, inr}
use Rattle.std.proofs.lemmas.Bool.{cases_Bool, cond-true, lt-ltb}
use Rattle.asn1_core.specs.Numbers.{low_octets}
use Rattle.asn1_core.specs.Octets.{Octets, octets_for, pack}
use Rattle.oer_spec.specs.Lengths.{counted_bits, length_octets}
use Rattle.oer_leaf_write.proofs.Packing.{counted_parts, length_pack}
use Rattle.oer_write.specs.Bits.{low_bits}
use Rattle.oer_write.proofs.Words.{length_low}

pub mapped_is : (n w k x : ℕ) (more b : List Bool) → b ≡ low_bits n w ++ more → more ≡ [] → n ≤ 48 → k ≡ octets_for n → low_octets k x ≡ pack (low_bits n w) → (k + 1) ∷ (8 * octets_for n - n) ∷ low_octets k x ≡ counted_bits b
mapped_is n w k x more b e none h f g =
    let same : b ≡ low_bits n w = e ∙ ap (λ z. low_bits n w ++ z) none ∙ append-nil (low_bits n w) in
    let count : length b ≡ n = ap length same ∙ length_low n w in
    let few : k + 1 < 128 = omega (arith, h, f) in
    let one : length_octets (k + 1) ≡ (k + 1) ∷ [] = cond-true _ _ _ (lt-ltb (k + 1) 128 few) in
    let parts : counted_bits b ≡ (length_octets (k + 1) ++ (8 * octets_for n - n) ∷ []) ++ pack b = counted_parts b k (8 * octets_for n - n) (f ∙ ap octets_for (sym count)) (ap (λ z. 8 * octets_for z - z) (sym count)) in
    ap (λ o. (k + 1) ∷ (8 * octets_for n - n) ∷ o) (g ∙ ap pack (sym same)) ∙ ap (λ o. (o ++ (8 * octets_for n - n) ∷ []) ++ pack b) (sym one) ∙ sym parts

length_some : (n : ℕ) → 0 < length (length_octets n)
length_some n = elim (cases_Bool (nat_lt n 128)) [
  | inl e ↦ rw e (omega arith)
  | inr e ↦ rw e (omega arith)
]

-- more bits than have room in a number's octets
pub many_octets : (b : List Bool) (o : Octets) → 64 < length b → o ≡ pack b → 8 < length o
many_octets b o h e = omega (arith, length_pack b o e, h)

pub many_counted : (b : List Bool) (o : Octets) → 48 < length b → o ≡ counted_bits b → 8 < length o
many_counted b o h e =
    let n : ℕ = octets_for (length b) in
    let parts : counted_bits b ≡ (length_octets (n + 1) ++ (8 * n - length b) ∷ []) ++ pack b = counted_parts b n (8 * n - length b) refl refl in
    let l = length-append (length_octets (n + 1) ++ (8 * n - length b) ∷ []) (pack b) in
    let m = length-append (length_octets (n + 1)) ((8 * n - length b) ∷ []) in
    let some : 0 < length (length_octets (n + 1)) = length_some (n + 1) in
    let p = length_pack b (pack b) refl in
    omega (arith, ap length e, ap length parts, l, m, some, p, h)

-- ---- lengths

pub one_digit : (n : ℕ) → 0 < n → n < 256 → 1 ≡ length (digits_of 256 n)
one_digit n h k =
    let e : n / 256 ≡ 0 = omega arith in
    let s : length (digits_of 256 n) ≡ length (digits_of 256 (n / 256)) + 1 = length-digits_of_step 256 n (omega arith) h in
    let z : length (digits_of 256 (n / 256)) ≡ 0 = ap (λ m. length (digits_of 256 m)) e in
    omega (arith, s, z)

pub more_digits : (n m : ℕ) → 256 ≤ n → m ≡ length (digits_of 256 (n / 256)) → m + 1 ≡ length (digits_of 256 n)
more_digits n m h e =
    let s : length (digits_of 256 n) ≡ length (digits_of 256 (n / 256)) + 1 = length-digits_of_step 256 n (omega arith) (omega arith) in
    omega (arith, s, e)

digits_below : (x : ℕ) → x < 256 ^ length (digits_of 256 x)
digits_below x =
    let b : unsigned (digits_of 256 x) < 256 ^ length (digits_of 256 x) = unsigned_below (digits_of 256 x) (digits_octets x) in
    let v : unsigned (digits_of 256 x) ≡ x = number_digits_of 256 x (omega arith) in
    omega (arith, b, v)

low_digits : (x : ℕ) → low_octets (length (digits_of 256 x)) x ≡ digits_of 256 x
low_digits x =
    let v : unsigned (digits_of 256 x) ≡ x = number_digits_of 256 x (omega arith) in
    ap (λ n. low_octets (length (digits_of 256 x)) n) (sym v) ∙ low_octets_unsigned (digits_of 256 x) (digits_octets x)

pub length_is : (k x s : ℕ) → 128 ≤ x → k ≡ length (digits_of 256 x) → k ≤ 7 → s ≡ (128 + k) * 2 ^ (k * 8) % 2 ^ 64 → (s + x < 2 ^ 64) × (low_octets (k + 1) (s + x) ≡ length_octets x)
length_is k x s h e few w =
    let below : x < 256 ^ k = rw e (digits_below x) in
    let t = fronted 8 1 k (128 + k) x s (omega (arith, few)) (omega (arith, few)) below w in
    let first : (128 + k) % 256 ≡ 128 + length (digits_of 256 x) = omega (arith, few, e) in
    let rest : low_octets k x ≡ digits_of 256 x = ap (λ n. low_octets n x) e ∙ low_digits x in
    (t.0, t.1 ∙ ap₂ (λ a o. a ∷ o) first rest ∙ sym (cond-false (nat_lt x 128) _ _ (le-ltb x 128 h)))
