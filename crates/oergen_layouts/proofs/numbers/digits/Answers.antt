use Rattle.std.proofs.Common.{sym, ◌∙◌}
use Rattle.oergen_layouts.proofs.Digits.{none_read}
use Rattle.oergen_layouts.proofs.numbers.digits.Goals as goal

pub returns-in_err-number : goal.returns-in_err-number
returns-in_err-number c = rw c.from_residual.ensures (λ are. none_read c.args.is_negative c.args.text.now c.parse.result c.parse.ensures.value.0 (sym c.ok.ensures.value ∙ c.in_err-number.was) are)
