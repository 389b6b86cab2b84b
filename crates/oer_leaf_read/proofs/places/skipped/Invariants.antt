use Rattle.std.proofs.Common.{◌≡◌, length}
use Rattle.oer_spec.specs.ReadingBits.{skipped_at}
use Rattle.oer_leaf_read.specs.Views.{bits_left}
use Rattle.oer_leaf_read.proofs.places.skipped.Given as goal

abbrev pub invariant-loop-bit : goal.invariant-loop-bit
invariant-loop-bit l = skipped_at l.codec (bits_left l.bits) l.rest ≡ skipped_at l.codec (bits_left l.initial.bits) l.initial.rest

abbrev pub decreases-loop-bit : goal.decreases-loop-bit
decreases-loop-bit l = length (bits_left l.bits)
