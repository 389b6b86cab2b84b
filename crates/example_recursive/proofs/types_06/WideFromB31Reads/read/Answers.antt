use Rattle.example_recursive.proofs.types_06.WideFromB31Reads.read.Goals as goal
use Rattle.std.proofs.Common.{ap}
use Rattle.std.proofs.lemmas.Result.{on_ok_weaker}

pub returns-clause-read : goal.returns-clause-read
returns-clause-read c = on_ok_weaker c.read.result (λ x. (record { 0 = x.0 }, ap (λ z. record { 0 = z }) x.1, x.2, x.3, x.4)) c.read.ensures.read
