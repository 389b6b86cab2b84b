-- What the borrowed values of the readers mean.
use Rattle.std.specs.Prelude.{List, Bool, take, drop}
use Rattle.asn1_core.specs.Octets.{bits_of}
use Rattle.oer_spec.specs.Bits.{front_bits}
use Rattle.oer_leaf_read.specs.declared.bit_slice.BitSlice.{BitSlice}
use Rattle.oer_leaf_read.specs.declared.bit_strings.BitStr.{BitStr}

-- the bits that are left
unfoldable pub bits_left : BitSlice → List Bool
bits_left b = drop b.place (front_bits b.unused b.octets.now)

-- the bits of a string
abbrev pub bits_in : BitStr → List Bool
bits_in b = take b.bits (bits_of b.octets.now)
