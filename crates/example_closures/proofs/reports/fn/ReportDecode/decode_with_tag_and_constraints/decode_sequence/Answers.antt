use Rattle.oer_read.proofs.Reading.{reading}
use Rattle.example_closures.specs.Reports.{default_is_known}
use Rattle.example_closures.proofs.reports.fn.ReportDecode.decode_with_tag_and_constraints.decode_sequence.Goals as goal

pub returns-in_err-urgent : goal.returns-in_err-urgent
returns-in_err-urgent c = search (reading, default_is_known)

pub returns-in_err-number : goal.returns-in_err-number
returns-in_err-number c = search (reading, default_is_known)

pub returns : goal.returns
returns c = search (reading, default_is_known)
