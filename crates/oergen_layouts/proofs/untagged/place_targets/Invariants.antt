use Rattle.std.proofs.Common.{◌≡◌, ◌++◌, drop, map, take}
use Rattle.oergen_layouts.specs.Untagged.{at_place}
use Rattle.oergen_layouts.proofs.untagged.place_targets.Given as goal

abbrev pub invariant-loop-part : goal.invariant-loop-part
invariant-loop-part l = l.part-items ≡ map (at_place l.places) (take l.part-index l.initial.part-items) ++ drop l.part-index l.initial.part-items
