use Rattle.std.proofs.Common.{arith}
use Rattle.example_closures.proofs.StatusLaw.{ready_holds, code_holds}
use Rattle.oer_read.proofs.Alternatives.{alternative_read, alternative_stops}
use Rattle.example_closures.proofs.statuses.fn.StatusDecode.decode_with_tag_and_constraints.decode_set+arg3.Goals as goal

pub returns-in_err-decode_with_tag-in-0 : goal.returns-in_err-decode_with_tag-in-0
returns-in_err-decode_with_tag-in-0 c = alternative_stops _ _ _ _ _ (ready_holds c.args.index (omega arith)) _ _ _ _ _ c.in_err-decode_with_tag-in-0.ensures.law c.from_residual.ensures.1 (λ y k. k)

pub returns-in_ok-decode_with_tag-in-0 : goal.returns-in_ok-decode_with_tag-in-0
returns-in_ok-decode_with_tag-in-0 c = alternative_read _ _ _ _ _ (ready_holds c.args.index (omega arith)) _ _ _ c.in_ok-decode_with_tag-in-0.ensures.law

pub returns-in_err-decode_with_tag-in_default : goal.returns-in_err-decode_with_tag-in_default
returns-in_err-decode_with_tag-in_default c = alternative_stops _ _ _ _ _ (code_holds c.args.index (omega arith)) _ _ _ _ _ c.in_err-decode_with_tag-in_default.ensures.law c.from_residual-in_err-decode_with_tag-in_default.ensures.1 (λ y k. k)

pub returns-in_ok-decode_with_tag-in_default : goal.returns-in_ok-decode_with_tag-in_default
returns-in_ok-decode_with_tag-in_default c = alternative_read _ _ _ _ _ (code_holds c.args.index (omega arith)) _ _ _ c.in_ok-decode_with_tag-in_default.ensures.law
