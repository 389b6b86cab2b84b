use Rattle.std.proofs.Common.{take, length, map, ℕ}
use Rattle.oer_write.specs.Inserted.{Passed, piece}
use Rattle.oer_write.specs.Layout.{Ascends}
use Rattle.oer_write.proofs.passes.spread_out.Given as goal

abbrev pub invariant-loop-left : goal.invariant-loop-left
invariant-loop-left l = (start : ℕ) → Ascends start (map (piece l.long) l.insertions) l.written → Passed start (take l.written l.initial.output) l.output (map (piece l.long) l.insertions) l.more l.left l.read l.write (length l.initial.output)

abbrev pub decreases-loop-left : goal.decreases-loop-left
decreases-loop-left l = l.left
