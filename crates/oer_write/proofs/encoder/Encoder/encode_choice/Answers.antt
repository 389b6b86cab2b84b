use Rattle.std.proofs.lemmas.Result.{on_ok_weaker, IfErr-weaker}
use Rattle.oer_write.proofs.Chosen.{choice_done, choice_refused}
use Rattle.oer_write.proofs.encoder.Encoder.encode_choice.Goals as goal

pub returns-clause-tree : goal.returns-clause-tree
returns-clause-tree g c = λ t known. on_ok_weaker _ (choice_done _ g.E.Choice.root_tags g.E.Choice.addition_tags c.args.tag t _ _ known) (rw (← c.root_tags.ensures, ← c.is_among.ensures) c.choice.ensures.done)

pub returns-clause-tree_refused : goal.returns-clause-tree_refused
returns-clause-tree_refused g c = λ t known. IfErr-weaker _ _ _ (λ x h. choice_refused _ g.E.Choice.root_tags g.E.Choice.addition_tags c.args.tag t _ _ x known h) c.choice.ensures.refused
