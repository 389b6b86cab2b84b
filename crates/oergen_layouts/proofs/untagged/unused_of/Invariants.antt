use Rattle.std.proofs.Common.{◌≡◌, drop}
use Rattle.oergen_layouts.specs.Untagged.{all_taken_up, marked}
use Rattle.oergen_layouts.proofs.untagged.unused_of.Given as goal

abbrev pub invariant-loop-at : goal.invariant-loop-at
invariant-loop-at l = marked (all_taken_up (drop l.at l.all) (drop l.at l.found)) l.unused.items ≡ marked (all_taken_up l.all l.found) l.initial.unused.items
