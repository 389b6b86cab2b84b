-- Numbers and their octets, by the definitions of this crate.
use Rattle.std.proofs.Common.{◌≡◌, ℕ, ◌<◌, ◌≤◌, true, false, [], ◌∷◌, length, ◌⊎◌, inl, inr, sym, ap, ◌∙◌, arith, pos}
use Rattle.std.proofs.lemmas.Bool.{cases_lt, cases_Bool}
use Rattle.asn1_core.specs.Numbers.{number_octets, low_octets, complement, has_superfluous_sign}
use Rattle.asn1_core.specs.Octets.{Octets, AreOctets, unsigned, signed}
use Rattle.asn1_core.proofs.Digits.{number_octets_one, number_octets_after}
use Rattle.asn1_core.proofs.Complement.{length-complement, complement_octets, complement_twice, signed_low, signed_complement}
use Rattle.asn1_core.proofs.Fixed.{low_octets_unsigned}
use Rattle.asn1_core.proofs.Shortest.{IsTight, tight_from_test}
use Rattle.asn1_core.proofs.Superfluous.{sign_left_out}
use Rattle.oer_spec.specs.Leaves.{fixed_octets, IsShort}
use Rattle.oer_spec.specs.Lengths.{NoLeadingZero}

-- octets without a leading 0 are the shortest of their number
pub number_octets_unsigned : (c : Octets) → AreOctets c → NoLeadingZero c → number_octets (unsigned c) ≡ c
number_octets_unsigned [] f p = absurd p
number_octets_unsigned (x ∷ []) f p = number_octets_one x f.0
number_octets_unsigned (x ∷ y ∷ ys) f p = number_octets_after x (y ∷ ys) f p

-- where the octets behind the first have another value, the first nine bits aren't all alike
pub tight_from_short : (x y : ℕ) (ys : Octets) → AreOctets (x ∷ y ∷ ys) → IsShort true (x ∷ y ∷ ys) → IsTight (x ∷ y ∷ ys)
tight_from_short x y ys f s = go (cases_Bool (has_superfluous_sign (x ∷ y ∷ ys)))
  where
    go : (has_superfluous_sign (x ∷ y ∷ ys) ≡ true) ⊎ (has_superfluous_sign (x ∷ y ∷ ys) ≡ false) → IsTight (x ∷ y ∷ ys)
    go (inl e) = absurd (s (sign_left_out x y ys e))
    go (inr e) = tight_from_test (x ∷ y ∷ ys) (omega arith) e

-- ---- a fixed count of octets
pub fixed_octets_unsigned : (k : ℕ) (o : Octets) → AreOctets o → length o ≡ k → fixed_octets k (pos (unsigned o)) ≡ o
fixed_octets_unsigned k o f e = ap (λ z. low_octets z (unsigned o)) (sym e) ∙ low_octets_unsigned o f

pub fixed_octets_signed : (k : ℕ) (o : Octets) → AreOctets o → length o ≡ k → fixed_octets k (signed o) ≡ o
fixed_octets_signed k [] f e = ap (λ z. fixed_octets z (pos 0)) (sym e)
fixed_octets_signed k (x ∷ xs) f e = go (cases_lt x 128)
  where
    go : (x < 128) ⊎ (128 ≤ x) → fixed_octets k (signed (x ∷ xs)) ≡ x ∷ xs
    go (inl h) = ap (fixed_octets k) (signed_low x xs h) ∙ fixed_octets_unsigned k (x ∷ xs) f e
    go (inr h) =
        ap (fixed_octets k) (signed_complement x xs f h)
        ∙ ap (λ z. complement (low_octets z (unsigned (complement (x ∷ xs))))) (sym e ∙ sym (length-complement (x ∷ xs)))
        ∙ ap complement (low_octets_unsigned (complement (x ∷ xs)) (complement_octets (x ∷ xs)))
        ∙ complement_twice (x ∷ xs) f
