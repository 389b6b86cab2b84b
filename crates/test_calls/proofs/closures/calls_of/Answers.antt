use Rattle.std.specs.Result.{OnOk}
use Rattle.oer_read.proofs.SetPromises.{promise_of_field}
use Rattle.oer_read.specs.Law.{IsRear}
use Rattle.test_calls.proofs.closures.calls_of.Goals as goal

pub decode_set-requires-clause-keeps : goal.decode_set-requires-clause-keeps
decode_set-requires-clause-keeps c call s after v lends k =
    promise_of_field _ _ (λ call s r t. OnOk r (IsRear s.input t.input)) (λ p q n tag r k. k.1) call s _ after k
