use Rattle.std.proofs.Common.{take}
use Rattle.oergen_layouts.specs.Rows.{HaveOwnTags}
use Rattle.oergen_layouts.proofs.rows.require_tags.Given as goal

abbrev pub invariant-loop-at : goal.invariant-loop-at
invariant-loop-at l = HaveOwnTags (take l.at l.rows)
