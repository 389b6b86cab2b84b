use Rattle.oer_read.proofs.AskedAlso.{asks_also}
use Rattle.oer_read.proofs.Promises.{promise_of}
use Rattle.oer_knots.proofs.reading.read_optional.Goals as goal

pub returns : goal.returns
returns g c = asks_also _ _ _ _ (promise_of _ _ _ (λ p q r k. k.1)) _ _ _ _ c.decode_optional_with.ensures
