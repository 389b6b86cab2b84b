-- The octets of numbers in two's complement, and what is written of them behind a count.
use Rattle.std.proofs.Common.{◌≡◌, ℕ, suc, ◌+◌, ◌-◌, ◌*◌, ◌/◌, ◌%◌, ◌^◌, ◌<◌, ◌≤◌, true, false, [], ◌∷◌, ◌++◌, length, get_or, ◌⊎◌, inl, inr, sym, ap, ap₂, ◌∙◌, subst, arith, append_assoc, ℤ, pos, negsuc, int_le, int_lt}
use Rattle.std.specs.Prelude.{FitsSigned}
use Rattle.std.specs.Int.{w16, w32, w64, byte_at, bytes_high_first, to_be_bytes, cast_unsigned}
use Rattle.std.proofs.lemmas.Bool.{cond-true, lt-ltb, cases_lt}
use Rattle.std.proofs.lemmas.Int.{ints}
use native.Mathlib.Nat.{mul-le-mul_right}
use Rattle.asn1_core.specs.Numbers.{number_octets, signed_octets}
use Rattle.asn1_core.specs.Octets.{Octets, AreOctets, unsigned, signed}
use Rattle.asn1_core.proofs.Complement.{signed_low, signed_high}
use Rattle.asn1_core.proofs.Digits.{powers, unsigned_cons, unsigned_below, number_octets_one}
use Rattle.asn1_core.proofs.Fixed.{low_length, low_are_octets, bytes_are_low_octets, bytes_value}
use Rattle.asn1_core.proofs.Shortest.{IsTight, signed_octets_signed, signed_of_low}
use Rattle.oer_spec.specs.Lengths.{behind_length, quantity_octets}
use Rattle.oer_spec.proofs.WrittenLeaves.{magnitude, first_low, low_sized, signed_few}

-- ---- the number of as many octets as hold it

bytes_length : (k n : ℕ) → length (bytes_high_first k n) ≡ k
bytes_length k n = ap length (bytes_are_low_octets k n) ∙ low_length k n

-- the first bit of octets is set where their number is at least half of what they hold
first_high : (x : ℕ) (xs : Octets) (k : ℕ) → AreOctets xs → length xs ≡ k → 128 * 256 ^ k ≤ unsigned (x ∷ xs) → 128 ≤ x
first_high x xs k f l h =
    above x (256 ^ k) (unsigned xs) (unsigned (x ∷ xs)) (unsigned_cons x xs ∙ ap (λ z. x * 256 ^ z + unsigned xs) l) (subst (λ z. unsigned xs < 256 ^ z) l (unsigned_below xs f)) h (cases_lt x 128)
  where
    above : (x p r u : ℕ) → u ≡ x * p + r → r < p → 128 * p ≤ u → (x < 128) ⊎ (128 ≤ x) → 128 ≤ x
    above x p r u e s h (inr k) = k
    above x p r u e s h (inl k) = let few : x ≤ 127 = omega arith in absurd (omega (arith, e, s, h, mul-le-mul_right p few))

signed_bytes_high : (k m : ℕ) → m < 128 * 256 ^ k → signed (bytes_high_first (suc k) (256 ^ suc k - suc m)) ≡ negsuc m
signed_bytes_high k m h =
    let u : ℕ = 256 ^ suc k - suc m in
    let x : ℕ = byte_at k u in
    let xs : Octets = bytes_high_first k u in
    let value : unsigned (x ∷ xs) ≡ u = bytes_value (suc k) u (below (256 ^ k) (256 ^ suc k) m (powers k) h) in
    let octets : AreOctets xs = subst AreOctets (sym (bytes_are_low_octets k u)) (low_are_octets k u) in
    let first : 128 ≤ x = first_high x xs k octets (bytes_length k u) (subst (λ z. 128 * 256 ^ k ≤ z) (sym value) (half (256 ^ k) (256 ^ suc k) m (powers k) h)) in
    signed_high x xs first ∙ ap negsuc (ap₂ (λ a b. 256 ^ a - 1 - b) (bytes_length (suc k) u) value ∙ taken (256 ^ k) (256 ^ suc k) m (powers k) h)
  where
    below : (p q m : ℕ) → 256 * p ≡ q → m < 128 * p → q - suc m < q
    below p q m e l = omega arith

    half : (p q m : ℕ) → 256 * p ≡ q → m < 128 * p → 128 * p ≤ q - suc m
    half p q m e l = omega arith

    taken : (p q m : ℕ) → 256 * p ≡ q → m < 128 * p → q - 1 - (q - suc m) ≡ m
    taken p q m e l = omega arith

signed_bytes_low : (k m : ℕ) → m < 128 * 256 ^ k → signed (bytes_high_first (suc k) m) ≡ pos m
signed_bytes_low k m h =
    let c : Octets = bytes_high_first (suc k) m in
    let value : unsigned c ≡ m = bytes_value (suc k) m (low_sized k m h) in
    signed_of_low c (first_low c k (bytes_length (suc k) m) (subst (λ z. z < 128 * 256 ^ k) (sym value) h)) ∙ ap pos value

pub signed_of_i16 : (n : ℤ) → FitsSigned w16 n → signed (to_be_bytes w16 (cast_unsigned w16 n)) ≡ n
signed_of_i16 (pos m) fits = signed_bytes_low 1 m fits.sfits
signed_of_i16 (negsuc m) fits = signed_bytes_high 1 m fits.sfits

pub signed_of_i32 : (n : ℤ) → FitsSigned w32 n → signed (to_be_bytes w32 (cast_unsigned w32 n)) ≡ n
signed_of_i32 (pos m) fits = signed_bytes_low 3 m fits.sfits
signed_of_i32 (negsuc m) fits = signed_bytes_high 3 m fits.sfits

pub signed_of_i64 : (n : ℤ) → FitsSigned w64 n → signed (to_be_bytes w64 (cast_unsigned w64 n)) ≡ n
signed_of_i64 (pos m) fits = signed_bytes_low 7 m fits.sfits
signed_of_i64 (negsuc m) fits = signed_bytes_high 7 m fits.sfits

fits_i64 : (n : ℤ) → FitsSigned w64 n → magnitude n < 2 ^ 63
fits_i64 (pos m) fits = fits.sfits
fits_i64 (negsuc m) fits = fits.sfits

pub fits_i32 : (n : ℤ) → int_le (negsuc (2 ^ 31 - 1)) n ≡ true → int_lt n (pos (2 ^ 31)) ≡ true → FitsSigned w32 n
fits_i32 (pos m) low high = let few : m < 2 ^ 31 = grind (arith, ints) in record { sfits = few }
fits_i32 (negsuc m) low high = let few : m < 2 ^ 31 = grind (arith, ints) in record { sfits = few }

-- the shortest octets of a number, from octets that hold it
pub shortest_of : (n : ℤ) (all octets : Octets) → octets ≡ signed_octets (signed all) → signed all ≡ n → octets ≡ signed_octets n
shortest_of n all octets o e = o ∙ ap signed_octets e

pub shortest_below : (n : ℤ) (octets : Octets) → FitsSigned w64 n → octets ≡ signed_octets n → length octets < 128
shortest_below n octets fits e = omega (arith, ap length e, signed_few n (fits_i64 n fits))

-- ---- behind their count

-- octets below 128 behind their count
pub counted : (octets : Octets) → length octets < 128 → length octets ∷ octets ≡ behind_length octets
counted octets few = ap (λ o. o ++ octets) (sym (cond-true _ (length octets ∷ []) _ (lt-ltb (length octets) 128 few)))

pub counted_appended : (octets front old new : Octets) → length octets < 128 → front ≡ old ++ (length octets ∷ []) → new ≡ front ++ octets → new ≡ old ++ behind_length octets
counted_appended octets front old new few pushed extended =
    extended ∙ ap (λ o. o ++ octets) pushed ∙ append_assoc old (length octets ∷ []) octets ∙ ap (λ o. old ++ o) (counted octets few)

-- a quantity of one octet
pub short_quantity : (n : ℕ) → n < 256 → 1 ∷ n ∷ [] ≡ quantity_octets n
short_quantity n few =
    let value : unsigned (n ∷ []) ≡ n = omega arith in
    counted (n ∷ []) (omega arith) ∙ ap behind_length (sym (number_octets_one n few) ∙ ap number_octets value)

-- ---- one octet or two

counted_tight : (n : ℤ) (o : Octets) → AreOctets o → IsTight o → length o < 128 → signed o ≡ n → length o ∷ o ≡ behind_length (signed_octets n)
counted_tight n o f t few e = counted o few ∙ ap behind_length (sym (signed_octets_signed o f t) ∙ ap signed_octets e)

-- the low octet of a number of i16 that is one of i8
low_of_i16 : (n : ℤ) → FitsSigned w16 n → int_le (negsuc 127) n ≡ true → int_lt n (pos 128) ≡ true → signed (cast_unsigned w16 n % 256 ∷ []) ≡ n
low_of_i16 (pos m) fits low high =
    let few : m < 128 = grind (arith, ints) in
    let e : m % 256 ≡ m = omega arith in
    signed_low (m % 256) [] (omega (arith, few, e)) ∙ ap pos (omega (arith, e))
low_of_i16 (negsuc m) fits low high =
    let few : m < 128 = grind (arith, ints) in
    let e : (2 ^ 16 - suc m) % 256 ≡ 255 - m = omega arith in
    signed_high ((2 ^ 16 - suc m) % 256) [] (omega (arith, few, e)) ∙ ap negsuc (omega (arith, few, e))

pub short_one : (n : ℤ) (both : Octets) → FitsSigned w16 n → both ≡ to_be_bytes w16 (cast_unsigned w16 n) → int_le (negsuc 127) n ≡ true → int_lt n (pos 128) ≡ true → 1 ∷ get_or both 1 0 ∷ [] ≡ behind_length (signed_octets n)
short_one n both fits b low high =
    let u : ℕ = cast_unsigned w16 n in
    ap (λ o. 1 ∷ get_or o 1 0 ∷ []) b ∙ counted_tight n (u % 256 ∷ []) (omega arith, tt) tt (omega arith) (low_of_i16 n fits low high)

-- the number isn't one of i8
pub data IsWide (n : ℤ) : Type 0 where
  above : int_lt n (pos 128) ≡ false → IsWide n
  below : int_le (negsuc 127) n ≡ false → IsWide n

tight_two : (n : ℤ) (x y : ℕ) → x < 256 → y < 256 → signed (x ∷ y ∷ []) ≡ n → IsWide n → IsTight (x ∷ y ∷ [])
tight_two n x y f g e wide = (λ z. zero z (cases_lt y 128), λ z. top z (cases_lt y 128))
  where
    inside : (m : ℤ) → m ≡ n → int_le (negsuc 127) m ≡ true → int_lt m (pos 128) ≡ true → IsWide n → ⊥
    inside m e low high (above h) = let h' = subst (λ z. int_lt z (pos 128) ≡ false) (sym e) h in absurd cc
    inside m e low high (below h) = let h' = subst (λ z. int_le (negsuc 127) z ≡ false) (sym e) h in absurd cc

    zero : x ≡ 0 → (y < 128) ⊎ (128 ≤ y) → 128 ≤ y
    zero z (inr k) = k
    zero z (inl k) =
        let value : signed (x ∷ y ∷ []) ≡ pos y = signed_low x (y ∷ []) (omega arith) ∙ ap pos (omega arith) in
        absurd (inside (pos y) (sym value ∙ e) (grind (arith, ints)) (grind (arith, ints)) wide)

    top : x ≡ 255 → (y < 128) ⊎ (128 ≤ y) → y < 128
    top z (inl k) = k
    top z (inr k) =
        let value : signed (x ∷ y ∷ []) ≡ negsuc (255 - y) = signed_high x (y ∷ []) (omega arith) ∙ ap negsuc (omega arith) in
        absurd (inside (negsuc (255 - y)) (sym value ∙ e) (grind (arith, ints)) (grind (arith, ints)) wide)

pub short_two : (n : ℤ) (both : Octets) → FitsSigned w16 n → both ≡ to_be_bytes w16 (cast_unsigned w16 n) → IsWide n → 2 ∷ get_or both 0 0 ∷ get_or both 1 0 ∷ [] ≡ behind_length (signed_octets n)
short_two n both fits b wide =
    let u : ℕ = cast_unsigned w16 n in
    let x : ℕ = u / 256 % 256 in
    let y : ℕ = u % 256 in
    ap (λ o. 2 ∷ get_or o 0 0 ∷ get_or o 1 0 ∷ []) b
    ∙ counted_tight n (x ∷ y ∷ []) (omega arith, (omega arith, tt)) (tight_two n x y (omega arith) (omega arith) (signed_of_i16 n fits) wide) (omega arith) (signed_of_i16 n fits)
