use Rattle.std.proofs.Common.{◌≡◌, take}
use Rattle.std.specs.List.{flat_map}
use Rattle.oergen_layouts.specs.Bits.{digit_bits}
use Rattle.oergen_layouts.proofs.bits.bits_of_digits.Given as goal

abbrev pub invariant-loop-digit : goal.invariant-loop-digit
invariant-loop-digit l = l.bits.items ≡ flat_map (digit_bits l.fn.is_hex) (take l.digit-index l.fn.digits)
