-- Bits kept in octets.
use Rattle.std.specs.Prelude.{◌≡◌, ◌*◌, ◌≤◌, length, take}
use Rattle.asn1_core.specs.Octets.{bits_of, pack}
use Rattle.asn1_strings.specs.declared.bits.BitString.TheInside.{Inside}

-- the octets are the bits in whole octets, filled up with zero bits
pub record AreBits (s : Inside) : Type 0 where
  pub enough : s.bits ≤ 8 * length s.octets.items
  pub packed : s.octets.items ≡ pack (take s.bits (bits_of s.octets.items))
