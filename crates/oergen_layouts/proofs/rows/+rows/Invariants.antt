use Rattle.std.proofs.Common.{◌≡◌, ◌+◌, ◌*◌, ◌≤◌, true, false, List, map, drop, ◌++◌}
use Rattle.std.specs.List.{All}
use Rattle.std.specs.Option.{option_map}
use Rattle.oergen_layouts.specs.Rows.{Placed, components_behind, components_of, is_own, placed}
use Rattle.oergen_layouts.proofs.rows.+rows.Given as goal

abbrev pub decreases-written_rows : goal.decreases-written_rows
decreases-written_rows l = 2 * l.levels + 1

abbrev pub decreases-taken_rows : goal.decreases-taken_rows
decreases-taken_rows l = 2 * l.levels

abbrev pub invariant-written_rows-loop-member : goal.invariant-written_rows-loop-member
invariant-written_rows-loop-member l = record {
  few : l.walk.groups ≤ l.member-index;
  none : l.member-index ≡ 0 → l.walk.in_group ≡ false;
  rows : All (λ one. is_own one ≡ true) l.members → components_of l.members ≡ option_map (λ (rest : List Placed). map placed l.rows.items ++ rest) (components_behind l.walk (drop l.member-index l.members));
}
