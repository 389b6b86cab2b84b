use Rattle.std.proofs.lemmas.Result.{on_ok_weaker, IfErr-weaker}
use Rattle.oer_write.proofs.SequenceRows.{sequence_done, sequence_refused}
use Rattle.oer_write.proofs.encoder.Encoder.encode_sequence.Goals as goal

pub sequence-requires-clause-orderly : goal.sequence-requires-clause-orderly
sequence-requires-clause-orderly g c = rw c.IS_EXTENSIBLE.ensures c.requires.orderly

pub returns-clause-tree : goal.returns-clause-tree
returns-clause-tree g c = rw (← c.IS_EXTENSIBLE.ensures) (λ roots additions known. on_ok_weaker _ (sequence_done roots additions known) c.sequence.ensures.done)

pub returns-clause-tree_refused : goal.returns-clause-tree_refused
returns-clause-tree_refused g c = rw (← c.IS_EXTENSIBLE.ensures) (λ roots additions known. IfErr-weaker _ _ _ (λ x h. sequence_refused roots additions known x h) c.sequence.ensures.refused)
