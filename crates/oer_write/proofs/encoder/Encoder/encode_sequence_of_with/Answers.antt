use Rattle.std.proofs.lemmas.Result.{on_ok_weaker, IfErr-weaker}
use Rattle.oer_write.proofs.Elements.{list_done, list_refused, first_refused}
use Rattle.oer_write.proofs.encoder.Encoder.encode_sequence_of_with.Goals as goal

pub returns-clause-tree : goal.returns-clause-tree
returns-clause-tree g c = λ tree known. on_ok_weaker _ (list_done _ tree _ _ _ known) c.list.ensures.done

pub returns-clause-tree_refused : goal.returns-clause-tree_refused
returns-clause-tree_refused g c = λ tree known. IfErr-weaker _ _ _ (λ x h. list_refused _ tree _ _ _ x known h) c.list.ensures.refused

pub returns-clause-tree_first : goal.returns-clause-tree_first
returns-clause-tree_first g c = λ tree known. IfErr-weaker _ _ _ (λ x h. first_refused _ tree _ x known h.reason) c.list.ensures.refused
