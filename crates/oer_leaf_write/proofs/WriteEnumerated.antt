-- What is written of an enumerated value.
use Rattle.std.proofs.Common.{◌≡◌, ◌+◌, ◌-◌, ◌^◌, ◌≤◌, true, [], ◌∷◌, ◌++◌, length, sym, ap, ◌∙◌, subst, append_assoc, ℤ}
use Rattle.std.specs.Prelude.{FitsSigned}
use Rattle.std.specs.Int.{w128, to_be_bytes, cast_unsigned}
use Rattle.asn1_core.proofs.Fixed.{signed_of_i128}
use Rattle.asn1_core.specs.Numbers.{in_isize, signed_octets}
use Rattle.asn1_core.specs.Octets.{Octets, signed}
use Rattle.oer_spec.proofs.WrittenLeaves.{small_magnitude, signed_few}

-- the shortest octets of a number of isize
pub shortest_is : (n : ℤ) (all octets : Octets) → FitsSigned w128 n → octets ≡ signed_octets (signed all) → all ≡ to_be_bytes w128 (cast_unsigned w128 n) → octets ≡ signed_octets n
shortest_is n all octets f o a = o ∙ ap (λ z. signed_octets (signed z)) a ∙ ap signed_octets (signed_of_i128 n f)

pub shortest_few : (n : ℤ) (octets : Octets) → in_isize n ≡ true → octets ≡ signed_octets n → length octets ≤ 9
shortest_few n octets f e = subst (λ z. length z ≤ 9) (sym e) (signed_few n (small_magnitude (2 ^ 63 - 1) n f))

pub long_octets : (n : ℤ) (octets front old new : Octets) → octets ≡ signed_octets n → front ≡ old ++ ((128 + length octets) ∷ []) → new ≡ front ++ octets → new ≡ old ++ ((128 + length (signed_octets n)) ∷ signed_octets n)
long_octets n octets front old new same pushed extended =
    extended ∙ ap (λ o. o ++ octets) pushed ∙ append_assoc old ((128 + length octets) ∷ []) octets ∙ ap (λ o. old ++ ((128 + length o) ∷ o)) same
