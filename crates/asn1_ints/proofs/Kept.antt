-- Octets as they are kept.
use Rattle.std.proofs.Common.{◌≡◌, ◌==◌, [], ◌++◌, false, cond, length, sym, ap, ◌∙◌, ℤ}
use Rattle.std.specs.Prelude.{Some, None}
use Rattle.asn1_core.specs.Octets.{Octets, signed}
use Rattle.asn1_core.specs.Numbers.{in_i128, signed_octets}
use Rattle.asn1_core.proofs.Shortest.{signed_octets_value}
use Rattle.asn1_ints.specs.Numbers.{AreLarge, if_in_i128}
use Rattle.asn1_ints.proofs.Limits.{outside_is}

pub kept_value : (o : Octets) (n : ℤ) → o ≡ signed_octets n → signed o ≡ n
kept_value o n e = ap signed e ∙ signed_octets_value n

pub are_large : (o : Octets) (n : ℤ) → o ≡ signed_octets n → None ≡ if_in_i128 n → AreLarge o
are_large o n e none =
    let value = kept_value o n e in
    record { shortest = ap signed_octets value ∙ sym e; outside = ap in_i128 value ∙ outside_is n none }

pub some_value : (o read : Octets) (n : ℤ) → o ≡ signed_octets n → (length read == 0) ≡ false → Some (signed o) ≡ cond (length read == 0) None (Some n)
some_value o read n e some = rw some (ap Some (kept_value o n e))

-- what was appended to nothing
pub alone : (new old o : Octets) → old ≡ [] → new ≡ old ++ o → new ≡ o
alone new old o none e = e ∙ ap (λ z. z ++ o) none
