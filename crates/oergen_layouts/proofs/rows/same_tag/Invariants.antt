use Rattle.std.proofs.Common.{◌≢◌, take}
use Rattle.std.specs.List.{All}
use Rattle.oergen_layouts.proofs.rows.same_tag.Given as goal

abbrev pub invariant-loop-row : goal.invariant-loop-row
invariant-loop-row l = All (λ row. row.tag ≢ l.tag) (take l.row-index l.rows)
