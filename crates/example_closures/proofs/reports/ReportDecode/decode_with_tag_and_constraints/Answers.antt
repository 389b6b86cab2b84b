use Rattle.std.proofs.Common.{refl, [], false}
use Rattle.oer_spec.specs.Spelled.{IsAny}
use Rattle.oer_rows.specs.Integers.{none_of}
use Rattle.example_closures.specs.Reports.{report_parts, report_rows, report_tree, report_made, report_table}
use Rattle.oer_read.proofs.Promises.{promise_of}
use Rattle.oer_read.proofs.SequenceLaw.{sequence_law}
use Rattle.oer_read.specs.Parts.{NoParts, ReadsParts}
use Rattle.example_closures.proofs.reports.ReportDecode.decode_with_tag_and_constraints.Goals as goal

pub decode_sequence-requires-clause-keeps : goal.decode_sequence-requires-clause-keeps
decode_sequence-requires-clause-keeps c lent after v opened k =
    (promise_of _ _ (λ s r t. ReadsParts report_parts NoParts report_rows none_of s r t) (λ p q r k. k) _ _ _ k).read.rear

pub returns-clause-law : goal.returns-clause-law
unfolding Rattle.example_closures.specs.Reports.report_tree
returns-clause-law c =
    sequence_law report_parts NoParts report_rows none_of false report_table [] (refl, refl, (refl, refl, tt)) tt (λ e. refl) report_tree IsAny (λ v. refl) (λ v a b. tt) report_made _ (promise_of _ _ _ (λ p q r k. k)) _ _ _ c.decode_sequence.ensures.read c.decode_sequence.ensures.refused c.decode_sequence.ensures.unchanged
