use Rattle.oer_spec.proofs.ExampleRows.{plain_rows, string_rows, struct_rows, list_and_choice_rows}
use Rattle.oer_spec.proofs.examples.worked_rows.Goals as goal

pub returns-clause-plain : goal.returns-clause-plain
returns-clause-plain c = plain_rows

pub returns-clause-strings : goal.returns-clause-strings
returns-clause-strings c = string_rows

pub returns-clause-structs : goal.returns-clause-structs
returns-clause-structs c = struct_rows

pub returns-clause-lists_and_choices : goal.returns-clause-lists_and_choices
returns-clause-lists_and_choices c = list_and_choice_rows
