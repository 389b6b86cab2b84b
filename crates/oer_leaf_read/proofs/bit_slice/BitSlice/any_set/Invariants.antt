use Rattle.std.proofs.Common.{◌≡◌, length}
use Rattle.oer_spec.specs.Bits.{any_set}
use Rattle.oer_leaf_read.specs.Views.{bits_left}
use Rattle.oer_leaf_read.proofs.bit_slice.BitSlice.any_set.Given as goal

abbrev pub invariant-loop-bit : goal.invariant-loop-bit
invariant-loop-bit l = any_set (bits_left l.bits) ≡ any_set (bits_left l.initial.bits)

abbrev pub decreases-loop-bit : goal.decreases-loop-bit
decreases-loop-bit l = length (bits_left l.bits)
