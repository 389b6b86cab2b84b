-- The numbers of octets, as they are read and written.
use Rattle.std.specs.Prelude.{◌≡◌, ℕ, ℤ, pos, ◌-ℤ◌, ◌^◌, ◌<◌, Bool, true, false, cond, nat_lt, length, Option, Some, None}
use Rattle.asn1_core.specs.Octets.{Octets, AreOctets, unsigned, signed}
pub use Rattle.asn1_core.specs.Octets.{Appends}

-- the number of octets that stand behind a first bit which is set, or not
abbrev pub in_complement : Bool → Octets → ℤ
in_complement false o = pos (unsigned o)
in_complement true o = pos (unsigned o) -ℤ pos (256 ^ length o)

-- the number, where it is one of u128
abbrev pub if_in_u128 : ℕ → Option ℕ
if_in_u128 n = cond (nat_lt n (2 ^ 128)) (Some n) None

-- octets of the same number, some of the first left out
pub record KeepsUnsigned (octets rest : Octets) : Type 0 where
  pub some : 0 < length rest
  pub octets_are : AreOctets rest
  pub value : unsigned rest ≡ unsigned octets

pub record KeepsSigned (octets rest : Octets) : Type 0 where
  pub some : 0 < length rest
  pub octets_are : AreOctets rest
  pub value : signed rest ≡ signed octets
