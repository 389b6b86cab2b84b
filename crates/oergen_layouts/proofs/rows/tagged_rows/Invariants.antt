use Rattle.std.proofs.Common.{◌≡◌, map, take}
use Rattle.oergen_layouts.specs.Rows.{placed}
use Rattle.oergen_layouts.proofs.rows.tagged_rows.Given as goal

abbrev pub invariant-loop-row : goal.invariant-loop-row
invariant-loop-row l = map placed l.all.items ≡ map placed (take l.row-index l.rows)
