use Rattle.std.proofs.Common.{◌≡◌, List, Bool, map, length}
use Rattle.asn1_core.specs.Rows.{row}
use Rattle.oer_read.specs.State.{asks_of}
use Rattle.oer_read.proofs.scopes.next_marked.Given as goal

abbrev pub invariant-loop-left : goal.invariant-loop-left
invariant-loop-left l = (b : List Bool) → asks_of (map row l.fn.rows) b ≡ asks_of (map row l.left) b

abbrev pub decreases-loop-left : goal.decreases-loop-left
decreases-loop-left l = length l.left
