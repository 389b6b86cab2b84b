-- What is written of a number is no longer than what was read of it, so nothing fails there by a length.
use Rattle.std.proofs.Common.{◌≡◌, ℕ, suc, ◌+◌, ◌-◌, ◌*◌, ◌^◌, ◌<◌, ◌≤◌, Bool, true, false, ◌==◌, nat_lt, [], ◌∷◌, length, get_or, ◌⊎◌, inl, inr, sym, subst, arith, ℤ}
use Rattle.std.specs.Int.Digits.{digits_of}
use Rattle.std.proofs.lemmas.Int.Digits.{number_lt, length-digits_of-le, number_digits_of}
use Rattle.std.proofs.lemmas.Bool.{cases_lt, cases_eq, cond-true, cond-false, ne_eqb, lt-ltb, le-ltb}
use native.Mathlib.Nat.{mul-le-mul_right}
use Rattle.asn1_core.specs.Numbers.{number_octets, complement, with_sign, signed_octets}
use Rattle.asn1_core.specs.Octets.{Octets, AreOctets, unsigned, signed, usize_max}
use Rattle.oer_spec.specs.Leaves.{counted_octets, value_of}
use Rattle.oer_spec.specs.Lengths.{IsLength, IsBehindLength}
use Rattle.oer_spec.specs.Mode.{Mode}
use Rattle.asn1_core.proofs.Complement.{complement_octets, length-complement, signed_low, signed_complement}
use Rattle.asn1_core.proofs.Digits.{unsigned_cons}
use Rattle.oer_spec.proofs.WrittenLeaves.{first_low, length-with_sign, low_sized}

number_short : (c : Octets) → AreOctets c → 1 ≤ length c → length (number_octets (unsigned c)) ≤ length c
number_short c f l = go (cases_eq (unsigned c) 0)
  where
    n : ℕ
    n = unsigned c

    go : (n ≡ 0) ⊎ (n ≡ 0 → ⊥) → length (number_octets n) ≤ length c
    go (inl e) = subst (λ z. length (number_octets z) ≤ length c) (sym e) l
    go (inr e) = subst (λ z. length z ≤ length c) (sym (cond-false (n == 0) (0 ∷ []) (digits_of 256 n) (ne_eqb n 0 e))) (length-digits_of-le 256 (length c) n (omega arith) (number_lt 256 c f))

-- the digits of a number below half of the range leave room for the sign
sign_fits : (j n : ℕ) → n < 128 * 256 ^ j → length (with_sign (digits_of 256 n)) ≤ suc j
sign_fits j n h = go (digits_of 256 n) (number_digits_of 256 n (omega arith)) (length-digits_of-le 256 (suc j) n (omega arith) (low_sized j n h)) (cases_lt (length (digits_of 256 n)) (suc j))
  where
    go : (ds : Octets) → unsigned ds ≡ n → length ds ≤ suc j → (length ds < suc j) ⊎ (suc j ≤ length ds) → length (with_sign ds) ≤ suc j
    go ds e l (inl k) = omega (arith, length-with_sign ds, k)
    go ds e l (inr k) =
        let full : length ds ≡ suc j = omega (arith, l, k) in
        let low : get_or ds 0 255 < 128 = first_low ds j full (subst (λ z. z < 128 * 256 ^ j) (sym e) h) in
        subst (λ z. length z ≤ suc j) (sym (cond-true (nat_lt (get_or ds 0 255) 128) ds (0 ∷ ds) (lt-ltb (get_or ds 0 255) 128 low))) l

half : (x p u v : ℕ) → v ≡ x * p + u → u < p → x < 128 → v < 128 * p
half x p u v e f h = let k : (x + 1) * p ≤ 128 * p = mul-le-mul_right p (le x h) in omega (arith, e, f, k)
  where
    le : (x : ℕ) → x < 128 → x + 1 ≤ 128
    le x h = omega arith

low_half : (x : ℕ) (xs : Octets) → AreOctets xs → x < 128 → unsigned (x ∷ xs) < 128 * 256 ^ length xs
low_half x xs f h = half x (256 ^ length xs) (unsigned xs) (unsigned (x ∷ xs)) (unsigned_cons x xs) (number_lt 256 xs f) h

signed_short : (c : Octets) → AreOctets c → 1 ≤ length c → length (signed_octets (signed c)) ≤ length c
signed_short [] f l = absurd (omega arith)
signed_short (x ∷ xs) (f, fs) l = go (cases_lt x 128)
  where
    go : (x < 128) ⊎ (128 ≤ x) → length (signed_octets (signed (x ∷ xs))) ≤ suc (length xs)
    go (inl h) = subst (λ z. length (signed_octets z) ≤ suc (length xs)) (sym (signed_low x xs h)) (sign_fits (length xs) (unsigned (x ∷ xs)) (low_half x xs fs h))
    go (inr h) =
        subst (λ z. length (signed_octets z) ≤ suc (length xs)) (sym (signed_complement x xs (f, fs) h))
        (let k : unsigned (complement (x ∷ xs)) < 128 * 256 ^ length xs =
        subst (λ z. unsigned (complement (x ∷ xs)) < 128 * 256 ^ z) (length-complement xs) (low_half (255 - x) (complement xs) (complement_octets xs) (omega arith)) in
        let d : Octets = with_sign (digits_of 256 (unsigned (complement (x ∷ xs)))) in
        omega (arith, length-complement d, sign_fits (length xs) (unsigned (complement (x ∷ xs))) k))

counted_short : (sign : Bool) (c : Octets) → AreOctets c → 1 ≤ length c → length (counted_octets sign (value_of sign c)) ≤ length c
counted_short true c f l = signed_short c f l
counted_short false c f l = number_short c f l

length_small : (m : Mode) (l : Octets) (n : ℕ) → IsLength m l n → n ≤ usize_max
length_small m [] n f = absurd f
length_small m (x ∷ xs) n (inl (a, _, b)) = omega (arith, a, b)
length_small m (x ∷ xs) n (inr (_, _, _, _, _, b, _)) = b

-- an integer that was read behind_length a length isn't too long to write
pub not_too_long : (m : Mode) (o c : Octets) (sign : Bool) (n : ℤ) → IsBehindLength m o c → 1 ≤ length c → n ≡ value_of sign c → nat_lt usize_max (length (counted_octets sign n)) ≡ false
not_too_long m o c sign n (k, _, g, f) l e =
    subst (λ z. nat_lt usize_max (length (counted_octets sign z)) ≡ false) (sym e)
    (le-ltb usize_max (length (counted_octets sign (value_of sign c))) (omega (arith, counted_short sign c f l, length_small m k (length c) g)))
