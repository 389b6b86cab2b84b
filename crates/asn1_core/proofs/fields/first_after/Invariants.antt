use Rattle.std.proofs.Common.{◌≡◌, ◌+◌, length, None}
use Rattle.asn1_core.specs.NextRow.{first_after}
use Rattle.asn1_core.proofs.fields.first_after.Given as goal

abbrev pub invariant-loop-left : goal.invariant-loop-left
invariant-loop-left l =
    (first_after l.last l.place l.left l.found ≡ first_after l.last 0 l.rows None) × (l.place + length l.left ≡ length l.rows)

abbrev pub decreases-loop-left : goal.decreases-loop-left
decreases-loop-left l = length l.left
