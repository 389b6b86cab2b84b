use Rattle.std.proofs.Common.{ℕ, ap, arith}
use Rattle.oer_read.specs.State.{apart}
use Rattle.oer_knots.proofs.own_lists.find_innermost.Goals as goal

pub returns-in_default-clause-within : goal.returns-in_default-clause-within
returns-in_default-clause-within c = ap (λ (n : ℕ). apart c.args.codec n c.args.input.now) (omega arith)
