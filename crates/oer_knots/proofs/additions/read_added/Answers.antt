use Rattle.oer_read.proofs.AddedAlso.{adds_also}
use Rattle.oer_read.proofs.Promises.{promise_of}
use Rattle.oer_knots.proofs.additions.read_added.Goals as goal

pub returns : goal.returns
returns g c = adds_also _ _ _ _ (promise_of _ _ _ (λ p q r k. k.1)) _ _ _ _ c.decode_extension_addition_with.ensures
