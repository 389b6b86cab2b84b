use Rattle.std.proofs.Common.{◌≡◌, drop, ◌++◌, map, string_bytes}
use Rattle.std.specs.List.{flat_map}
use Rattle.oergen_tables.specs.Forms.{component_words, defaults_from, sequence_words}
use Rattle.oergen_tables.proofs.rows.sequence_form.Given as goal

abbrev pub invariant-loop-component : goal.invariant-loop-component
invariant-loop-component l = record {
  words : l.form.words.items ++ flat_map component_words (drop l.component l.fields) ≡ sequence_words l.is_extensible l.roots l.fields;
  defaults : map (λ one. (one.component, string_bytes one.value)) l.form.defaults.items ++ defaults_from l.component (drop l.component l.fields) ≡ defaults_from 0 l.fields;
}
