-- The number of octets, one octet at a time.
use Rattle.std.proofs.Common.{◌≡◌, ◌≢◌, ℕ, zero, suc, ◌+◌, ◌*◌, ◌/◌, ◌%◌, ◌^◌, ◌<◌, ◌≤◌, [], ◌∷◌, ◌++◌, length, get_or, take, drop, refl, sym, ap, ap₂, ◌∙◌, arith, nat_lt, append_assoc}
use Rattle.std.specs.Int.Digits.{number_from_digits_after}
use Rattle.std.proofs.lemmas.Int.Digits.{number_more, number_after_append, number_after_ge}
use Rattle.std.proofs.lemmas.List.{take-append-drop}
use Rattle.std.proofs.lemmas.Bool.{le-ltb, cond-false}
use Rattle.std.specs.Int.{bytes_high_first, to_be_bytes, cast_unsigned, w128}
use Rattle.std.specs.Prelude.{◌-◌, ℤ, pos, negsuc, FitsSigned}
use Rattle.asn1_core.proofs.Fixed.{bytes_are_low_octets}
use Rattle.asn1_core.specs.Numbers.{complement, low_octets}
use Rattle.oer_spec.specs.Leaves.{fixed_octets}
use Rattle.std.specs.Int.Digits.{digits_of}
use Rattle.asn1_core.specs.Octets.{Octets, AreOctets, unsigned}
use Rattle.oer_spec.specs.Lengths.{length_octets}
use Rattle.asn1_core.proofs.Digits.{digits_unsigned, powers, unsigned_cons}

pub unsigned_none : unsigned [] ≡ 0
unsigned_none = refl

pub unsigned_more : (o : Octets) (i : ℕ) → i < length o → unsigned (take (i + 1) o) ≡ unsigned (take i o) * 256 + get_or o i 0
unsigned_more o i h = number_more 256 o i h

pub unsigned_grows : (o : Octets) (i : ℕ) → unsigned (take i o) ≤ unsigned o
unsigned_grows o i =
    let whole : unsigned o ≡ number_from_digits_after 256 (unsigned (take i o)) (drop i o) = ap unsigned (sym (take-append-drop i o)) ∙ number_after_append 256 0 (take i o) (drop i o) in
    let grows : unsigned (take i o) ≤ number_from_digits_after 256 (unsigned (take i o)) (drop i o) = number_after_ge 256 (unsigned (take i o)) (drop i o) (omega arith) in
    omega (arith, whole, grows)

-- with one octet more the number is too large
pub unsigned_too_large : (o : Octets) (i : ℕ) → i < length o → 2 ^ 56 ≤ unsigned (take i o) → 2 ^ 64 ≤ unsigned o
unsigned_too_large o i h large = omega (arith, unsigned_more o i h, unsigned_grows o (i + 1))

-- ---- the octets that are written

-- a leading 0 is worth nothing
pub unsigned_zero : (o : Octets) → get_or o 0 0 ≡ 0 → unsigned (drop 1 o) ≡ unsigned o
unsigned_zero [] h = refl
unsigned_zero (x ∷ o) h = sym (ap (λ z. unsigned (z ∷ o)) h ∙ unsigned_cons 0 o ∙ omega arith)

pub digits_no_zero : (o : Octets) → AreOctets o → get_or o 0 0 ≢ 0 → o ≡ digits_of 256 (unsigned o)
digits_no_zero [] f h = absurd (h refl)
digits_no_zero (x ∷ o) f h = sym (digits_unsigned x o f h)

pub tail_octets : (o : Octets) → AreOctets o → AreOctets (drop 1 o)
tail_octets [] f = tt
tail_octets (x ∷ o) (f, fs) = fs

pub long_length : (n : ℕ) (octets front old new : Octets) → 128 ≤ n → octets ≡ digits_of 256 n → front ≡ old ++ (128 + length octets) ∷ [] → new ≡ front ++ octets → new ≡ old ++ length_octets n
long_length n octets front old new large same pushed extended =
    extended ∙ ap (λ o. o ++ octets) pushed ∙ append_assoc old ((128 + length octets) ∷ []) octets ∙ ap (λ o. old ++ ((128 + length o) ∷ o)) same
    ∙ ap (λ o. old ++ o) (sym (cond-false (nat_lt n 128) (n ∷ []) ((128 + length (digits_of 256 n)) ∷ digits_of 256 n) (le-ltb n 128 large)))

-- ---- the lowest octets of an i128

-- the octets from a later one on
pub later_bytes : (j k n : ℕ) → drop j (bytes_high_first (j + k) n) ≡ bytes_high_first k n
later_bytes zero k n = let e : 0 + k ≡ k = omega arith in ap (λ z. bytes_high_first z n) e
later_bytes (suc j) k n = let e : suc j + k ≡ suc (j + k) = omega arith in ap (λ z. drop (suc j) (bytes_high_first z n)) e ∙ later_bytes j k n

complement-append : (o p : Octets) → complement (o ++ p) ≡ complement o ++ complement p
complement-append [] p = refl
complement-append (x ∷ o) p = ap (λ z. (255 - x) ∷ z) (complement-append o p)

-- in two's complement a negative number has the complement's octets
low_complement : (k j m : ℕ) → k ≤ j → m < 256 ^ j → low_octets k (256 ^ j - suc m) ≡ complement (low_octets k m)
low_complement zero j m h l = refl
low_complement (suc k) zero m h l = absurd (omega arith)
low_complement (suc k) (suc j) m h l =
    let p : 256 * 256 ^ j ≡ 256 ^ suc j = powers j in
    let q : (256 ^ suc j - suc m) / 256 ≡ 256 ^ j - suc (m / 256) = high (256 ^ j) (256 ^ suc j) m p l in
    let r : (256 ^ suc j - suc m) % 256 ≡ 255 - m % 256 = low (256 ^ j) (256 ^ suc j) m p l in
    ap₂ (λ a b. low_octets k a ++ (b ∷ [])) q r
    ∙ ap (λ z. z ++ ((255 - m % 256) ∷ [])) (low_complement k j (m / 256) (omega arith) (room (256 ^ j) (256 ^ suc j) m p l))
    ∙ sym (complement-append (low_octets k (m / 256)) (m % 256 ∷ []))
  where
    high : (p q m : ℕ) → 256 * p ≡ q → m < q → (q - suc m) / 256 ≡ p - suc (m / 256)
    high p q m e l = omega arith

    low : (p q m : ℕ) → 256 * p ≡ q → m < q → (q - suc m) % 256 ≡ 255 - m % 256
    low p q m e l = omega arith

    room : (p q m : ℕ) → 256 * p ≡ q → m < q → m / 256 < p
    room p q m e l = omega arith

pub fixed_bytes : (k : ℕ) (n : ℤ) → FitsSigned w128 n → k ≤ 16 → drop (16 - k) (to_be_bytes w128 (cast_unsigned w128 n)) ≡ fixed_octets k n
fixed_bytes k n fits h =
    let e : 16 - k + k ≡ 16 = omega arith in
    ap (λ z. drop (16 - k) (bytes_high_first z (cast_unsigned w128 n))) (sym e) ∙ later_bytes (16 - k) k (cast_unsigned w128 n) ∙ bytes_are_low_octets k (cast_unsigned w128 n) ∙ at n fits
  where
    at : (n : ℤ) → FitsSigned w128 n → low_octets k (cast_unsigned w128 n) ≡ fixed_octets k n
    at (pos m) fits = refl
    at (negsuc m) fits = let small : m < 2 ^ 127 = fits.sfits in low_complement k 16 m h (omega arith)

pub fixed_written : (k : ℕ) (n : ℤ) (all lowest old new : Octets) → FitsSigned w128 n → k ≤ 16 → all ≡ to_be_bytes w128 (cast_unsigned w128 n) → lowest ≡ drop (16 - k) all → new ≡ old ++ lowest → new ≡ old ++ fixed_octets k n
fixed_written k n all lowest old new fits h a l e = e ∙ ap (λ z. old ++ z) (l ∙ ap (drop (16 - k)) a ∙ fixed_bytes k n fits h)
