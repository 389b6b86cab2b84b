use Rattle.std.specs.Result.{OnOk}
use Rattle.oer_read.proofs.Promises.{promise_of}
use Rattle.oer_read.specs.Law.{IsRear}
use Rattle.test_memory.proofs.one_row.read_addition.Goals as goal

pub decode_sequence-requires-clause-keeps : goal.decode_sequence-requires-clause-keeps
decode_sequence-requires-clause-keeps c lent after v opened k =
    promise_of _ _ (λ s r t. OnOk r (IsRear s.input t.input)) (λ p q r k. k) _ _ _ k
