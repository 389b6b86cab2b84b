use Rattle.std.proofs.Common.{◌≡◌, ◌+◌, ◌≤◌, ◌<◌, ◌^◌, length, map, take, drop, ◌++◌, count_by}
use Rattle.oergen_layouts.specs.Rows.{placed}
use Rattle.oergen_layouts.specs.Tags.{automatic_tags, is_root, tags_from}
use Rattle.oergen_layouts.proofs.rows.numbered_rows.Given as goal

abbrev pub invariant-loop-row : goal.invariant-loop-row
invariant-loop-row l = (map placed l.all.items ≡ map placed (take l.row-index l.rows)) × (length l.rows < 2 ^ 31 → (l.all.items ++ tags_from l.root l.addition (drop l.row-index l.rows) ≡ automatic_tags l.rows) × (l.root ≤ l.row-index) × (l.addition ≤ count_by is_root l.rows + l.row-index))
