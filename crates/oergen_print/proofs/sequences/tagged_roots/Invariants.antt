use Rattle.std.proofs.Common.{◌≡◌, drop, ◌++◌}
use Rattle.oergen_print.specs.SetOrder.{roots_from}
use Rattle.oergen_print.proofs.sequences.tagged_roots.Given as goal

abbrev pub invariant-loop-at : goal.invariant-loop-at
invariant-loop-at l = l.roots.items ++ roots_from l.at (drop l.at l.parts) ≡ roots_from 0 l.parts
