use Rattle.std.proofs.Common.{◌≡◌, drop}
use Rattle.oer_spec.specs.Reading.{more_groups_at}
use Rattle.oer_leaf_read.proofs.tags.read_more_groups.Given as goal

abbrev pub invariant-loop-i : goal.invariant-loop-i
invariant-loop-i l = more_groups_at l.number (drop l.i l.input) ≡ more_groups_at 0 l.input
