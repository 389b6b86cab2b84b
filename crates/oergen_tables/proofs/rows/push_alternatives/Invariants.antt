use Rattle.std.proofs.Common.{◌≡◌, drop, ◌++◌}
use Rattle.oergen_tables.specs.Forms.{alternatives}
use Rattle.oergen_tables.proofs.rows.push_alternatives.Given as goal

abbrev pub invariant-loop-field : goal.invariant-loop-field
invariant-loop-field l = l.words.items ++ alternatives l.is_root (drop l.field-index l.fields) ≡ l.initial.words.items ++ alternatives l.is_root l.fields
