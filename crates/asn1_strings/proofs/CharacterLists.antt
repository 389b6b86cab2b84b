-- Units as octets.
use Rattle.std.proofs.Common.{◌≡◌, ℕ, zero, suc, ◌+◌, ◌*◌, List, [], ◌∷◌, length, ap, ap₂, sym, ◌∙◌, length-append, refl}
use Rattle.std.proofs.Math.Nat.{mul-zero, mul-suc, add_comm}
use Rattle.std.specs.Int.{Width, to_be_bytes, byte_len, bytes_high_first}
use Rattle.asn1_strings.specs.Characters.{units_octets}

octets_of_a_unit : (n unit : ℕ) → length (bytes_high_first n unit) ≡ n
octets_of_a_unit zero unit = refl
octets_of_a_unit (suc n) unit = ap suc (octets_of_a_unit n unit)

pub octets_a_unit : (width : Width) (units : List ℕ) → length (units_octets width units) ≡ byte_len width * length units
octets_a_unit width [] = sym (mul-zero (byte_len width))
octets_a_unit width (u ∷ us) =
    let n = byte_len width in
    length-append (to_be_bytes width u) (units_octets width us) ∙ ap₂ ◌+◌ (octets_of_a_unit n u) (octets_a_unit width us) ∙ add_comm n (n * length us) ∙ sym (mul-suc n (length us))
