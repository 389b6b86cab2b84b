-- A fixed count of octets, and the octets that `to_be_bytes` gives.
use Rattle.std.proofs.Common.{◌≡◌, ℕ, zero, suc, ◌+◌, ◌-◌, ◌*◌, ◌/◌, ◌%◌, ◌^◌, ◌<◌, ◌≤◌, [], ◌∷◌, ◌++◌, length, get_or, refl, sym, ap, ap₂, ◌∙◌, arith, length-append, append-nil, append_assoc, ℤ, pos, negsuc}
use Rattle.std.specs.Prelude.{FitsSigned}
use Rattle.std.specs.Int.{byte_at, bytes_high_first, w128, to_be_bytes, cast_unsigned}
use Rattle.std.specs.Int.Digits.{number_from_digits_after}
use Rattle.std.proofs.lemmas.Int.Digits.{number_push}
use Rattle.std.proofs.lemmas.Nat.{div_below, div-add-mod', div-mul-add, mod-mul-add}
use native.Mathlib.Nat.{add-zero, div-div-eq-div-mul}
use Rattle.asn1_core.specs.Octets.{Octets, AreOctets, unsigned, signed}
use Rattle.asn1_core.specs.Numbers.{low_octets}
use Rattle.asn1_core.proofs.Digits.{powers, append_octets}
use Rattle.asn1_core.proofs.Complement.{signed_low, signed_high}

pub low_length : (k n : ℕ) → length (low_octets k n) ≡ k
low_length zero n = refl
low_length (suc k) n = let e : length (low_octets k (n / 256)) ≡ k = low_length k (n / 256) in omega (arith, length-append (low_octets k (n / 256)) (n % 256 ∷ []), e)

pub low_are_octets : (k n : ℕ) → AreOctets (low_octets k n)
low_are_octets zero n = tt
low_are_octets (suc k) n = append_octets (low_octets k (n / 256)) (n % 256 ∷ []) (low_are_octets k (n / 256)) (omega arith, tt)

pub low_value : (k n : ℕ) → n < 256 ^ k → unsigned (low_octets k n) ≡ n
low_value zero n h = zero_only n h
  where
    zero_only : (n : ℕ) → n < 1 → 0 ≡ n
    zero_only n h = omega arith
low_value (suc k) n h =
    number_push 256 (low_octets k (n / 256)) (n % 256) ∙ ap (λ z. z * 256 + n % 256) (low_value k (n / 256) (div_below n 256 (256 ^ k) (omega arith) (room n (256 ^ k) (256 ^ suc k) (powers k) h))) ∙ div-add-mod' n 256
  where
    room : (n p q : ℕ) → 256 * p ≡ q → n < q → n < p * 256
    room n p q e l = omega arith

low_octets_after : (j n : ℕ) (ds : Octets) → AreOctets ds → low_octets (length ds + j) (number_from_digits_after 256 n ds) ≡ low_octets j n ++ ds
low_octets_after j n [] f = let e : 0 + j ≡ j = omega arith in ap (λ z. low_octets z n) e ∙ sym (append-nil (low_octets j n))
low_octets_after j n (d ∷ ds) (f, fs) =
    let e : suc (length ds) + j ≡ length ds + suc j = omega arith in
    ap (λ z. low_octets z (number_from_digits_after 256 (n * 256 + d) ds)) e
    ∙ low_octets_after (suc j) (n * 256 + d) ds fs
    ∙ ap (λ z. z ++ ds) (ap₂ (λ a b. low_octets j a ++ b ∷ []) (div-mul-add n 256 d f) (mod-mul-add n 256 d f))
    ∙ append_assoc (low_octets j n) (d ∷ []) ds

-- octets are as many low octets of their number
pub low_octets_unsigned : (o : Octets) → AreOctets o → low_octets (length o) (unsigned o) ≡ o
low_octets_unsigned o f = ap (λ z. low_octets z (unsigned o)) (sym (add-zero (length o))) ∙ low_octets_after 0 0 o f

-- ---- `to_be_bytes`

byte_further : (k n : ℕ) → byte_at (suc k) n ≡ byte_at k (n / 256)
byte_further zero n = omega arith
byte_further (suc k) n = ap (λ p. n / p % 256) (sym (powers (suc k))) ∙ ap (λ q. q % 256) (sym (div-div-eq-div-mul n 256 (256 ^ suc k)))

bytes_pushed : (k n : ℕ) → bytes_high_first (suc k) n ≡ bytes_high_first k (n / 256) ++ (n % 256 ∷ [])
bytes_pushed zero n = refl
bytes_pushed (suc k) n = ap₂ ◌∷◌ (byte_further k n) (bytes_pushed k n)

pub bytes_are_low_octets : (k n : ℕ) → bytes_high_first k n ≡ low_octets k n
bytes_are_low_octets zero n = refl
bytes_are_low_octets (suc k) n = bytes_pushed k n ∙ ap (λ z. z ++ (n % 256 ∷ [])) (bytes_are_low_octets k (n / 256))

-- the octets of a number that isn't negative
pub bytes_value : (k n : ℕ) → n < 256 ^ k → unsigned (bytes_high_first k n) ≡ n
bytes_value k n h = ap unsigned (bytes_are_low_octets k n) ∙ low_value k n h

first_of : (v : ℕ) → v < 256 ^ 16 → get_or (bytes_high_first 16 v) 0 0 ≡ v / 256 ^ 15
first_of v h = omega (arith, h)

-- the octets of an i128
pub signed_of_i128 : (n : ℤ) → FitsSigned w128 n → signed (to_be_bytes w128 (cast_unsigned w128 n)) ≡ n
signed_of_i128 (pos m) fits =
    let small : m < 2 ^ 127 = fits.sfits in
    let first : get_or (bytes_high_first 16 m) 0 0 < 128 = omega (arith, small, first_of m (omega (arith, small))) in
    signed_low (byte_at 15 m) (bytes_high_first 15 m) first ∙ ap pos (bytes_value 16 m (omega (arith, small)))
signed_of_i128 (negsuc m) fits =
    let small : m < 2 ^ 127 = fits.sfits in
    let first : 128 ≤ get_or (bytes_high_first 16 (2 ^ 128 - suc m)) 0 0 = omega (arith, small, first_of (2 ^ 128 - suc m) (omega (arith, small))) in
    signed_high (byte_at 15 (2 ^ 128 - suc m)) (bytes_high_first 15 (2 ^ 128 - suc m)) first ∙ ap (λ u. negsuc (256 ^ 16 - 1 - u)) (bytes_value 16 (2 ^ 128 - suc m) (omega (arith, small))) ∙ ap negsuc (omega (arith, small))
