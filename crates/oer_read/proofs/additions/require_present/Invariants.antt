use Rattle.std.proofs.Common.{◌≡◌, map, length}
use Rattle.asn1_core.specs.Rows.{row}
use Rattle.oer_leaf_read.specs.Views.{bits_left}
use Rattle.oer_read.specs.Additions.{all_present}
use Rattle.oer_read.specs.State.{places_of}
use Rattle.oer_read.proofs.additions.require_present.Given as goal

abbrev pub invariant-loop-left : goal.invariant-loop-left
invariant-loop-left l = all_present (places_of (map row l.fn.rows)) (bits_left l.fn.bits) ≡ all_present (places_of (map row l.left)) (bits_left l.bits)

abbrev pub decreases-loop-left : goal.decreases-loop-left
decreases-loop-left l = length l.left
