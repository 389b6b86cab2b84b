use Rattle.oer_spec.proofs.ExampleLeaves.{plain_misses, string_misses}
use Rattle.oer_spec.proofs.ExampleLists.{list_and_choice_misses}
use Rattle.oer_spec.proofs.ExampleStructs.{struct_misses}
use Rattle.oer_spec.proofs.examples.near_misses.Goals as goal

pub returns-clause-plain : goal.returns-clause-plain
returns-clause-plain c = plain_misses

pub returns-clause-strings : goal.returns-clause-strings
returns-clause-strings c = string_misses

pub returns-clause-structs : goal.returns-clause-structs
returns-clause-structs c = struct_misses

pub returns-clause-lists_and_choices : goal.returns-clause-lists_and_choices
returns-clause-lists_and_choices c = list_and_choice_misses
