use Rattle.std.proofs.Common.{◌≡◌, map, take}
use Rattle.std.specs.List.{All, AllZip, flat_map}
use Rattle.oergen_layouts.specs.Untagged.{CanBeInSet, HaveOwnPartTags, IsInSet, root_place, unnamed}
use Rattle.oergen_layouts.proofs.untagged.flat_set.Given as goal

abbrev pub invariant-loop-part : goal.invariant-loop-part
invariant-loop-part l = record {
  each : AllZip (IsInSet l.all) (take l.part-index l.part-items) l.parts.items;
  are_places : map unnamed l.taken.parts.items ≡ flat_map (root_place l.all) (take l.part-index l.part-items);
  are_own : HaveOwnPartTags l.taken.parts.items;
  countable : All (CanBeInSet l.all) (take l.part-index l.part-items);
}
