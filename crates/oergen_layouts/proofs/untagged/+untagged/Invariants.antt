use Rattle.std.proofs.Common.{◌≡◌, ◌+◌, ◌*◌, ◌||◌, Some, ◌++◌, map, take}
use Rattle.std.specs.List.{All, list_any}
use Rattle.oergen_layouts.specs.Preambles.{has_mark}
use Rattle.oergen_layouts.specs.Untagged.{HaveOwnPartTags, alternatives, unnamed}
use Rattle.oergen_layouts.proofs.Placeable.{IsPlaceableIn, extends_in}
use Rattle.oergen_layouts.proofs.untagged.+untagged.Given as goal

abbrev pub decreases-push_part : goal.decreases-push_part
decreases-push_part l = 2 * l.levels + 1

abbrev pub decreases-flat_choice : goal.decreases-flat_choice
decreases-flat_choice l = 2 * l.levels

abbrev pub invariant-flat_choice-loop-part : goal.invariant-flat_choice-loop-part
invariant-flat_choice-loop-part l = record {
  in_place : map unnamed l.flat.parts.items ≡ alternatives l.fn.levels l.all (take l.part-index l.part-items);
  tags : HaveOwnPartTags l.flat.parts.items;
  extends : l.flat.is_extensible ≡ (has_mark l.fn.choice.of.now.body || list_any (extends_in l.levels l.all) (take l.part-index l.part-items));
  placeable : All (IsPlaceableIn l.levels l.all) (take l.part-index l.part-items);
}

abbrev pub invariant-push_part-loop-one : goal.invariant-push_part-loop-one
invariant-push_part-loop-one l = record {
  in_place : map unnamed l.flat.parts.items ≡ map unnamed l.initial.flat.parts.items ++ map unnamed (take l.one-index l.one-items);
  tags : l.part.row ≡ Some l.row → HaveOwnPartTags l.initial.flat.parts.items → HaveOwnPartTags l.flat.parts.items;
  extends : l.flat.is_extensible ≡ l.initial.flat.is_extensible;
}
