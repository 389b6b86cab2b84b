use Rattle.std.proofs.Common.{◌≡◌, drop}
use Rattle.std.specs.List.{filter_map}
use Rattle.oergen_layouts.specs.Untagged.{marked, taken_up}
use Rattle.oergen_layouts.proofs.untagged.put_unused.Given as goal

abbrev pub invariant-loop-part : goal.invariant-loop-part
invariant-loop-part l = marked (filter_map taken_up (drop l.part-index l.part-items)) l.unused.items ≡ marked (filter_map taken_up l.part-items) l.initial.unused.items
