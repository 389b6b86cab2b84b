use Rattle.std.proofs.lemmas.Result.{err_from_is_err_and}
use Rattle.oer_read.proofs.ListLaw.{list_law}
use Rattle.oer_read.proofs.ListSteps.{list_answers}
use Rattle.oer_read.proofs.Promises.{promise_of_fn, decodes_rear}
use Rattle.oer_read.specs.Law.{Decodes}
use Rattle.oer_knots.proofs.lists.ListOfDecodeInside.decode_inside.Goals as goal

pub decode_sequence_of_with-requires-clause-keeps : goal.decode_sequence_of_with-requires-clause-keeps
decode_sequence_of_with-requires-clause-keeps g c rest v after lends k =
    decodes_rear (g.B.Spelled.tree g.B.AsnType.CONSTRAINTS) g.B.Spelled.IsValue _ v after (promise_of_fn _ _ (λ s r t. Decodes (g.B.Spelled.tree g.B.AsnType.CONSTRAINTS) g.B.Spelled.IsValue s r t) (λ p q r k. k.law) _ _ _ k)

pub returns-clause-law : goal.returns-clause-law
returns-clause-law g c =
    list_law (g.B.Spelled.tree g.B.AsnType.CONSTRAINTS) g.B.Spelled.IsValue _ (promise_of_fn _ _ _ (λ p q r k. k.law)) (g.B.Spelled.is_tree g.B.AsnType.CONSTRAINTS g.B.AsnType.consistent) (λ vs. vs) _ _ _ c.in_ok-items.ensures.read c.in_ok-items.ensures.refused c.in_ok-items.ensures.unchanged

pub returns-clause-answered : goal.returns-clause-answered
returns-clause-answered g c =
    list_answers _ _ (promise_of_fn _ _ _ (λ p q r k. k)) _ (λ vs. vs) _ _ c.in_ok-items.ensures.read c.in_ok-items.ensures.refused

pub returns-in_err-items-clause-law : goal.returns-in_err-items-clause-law
returns-in_err-items-clause-law g c =
    let p = err_from_is_err_and c.from_residual.result c.from_residual.ensures.1 in
    rw (p.1, p.2) (list_law (g.B.Spelled.tree g.B.AsnType.CONSTRAINTS) g.B.Spelled.IsValue _ (promise_of_fn _ _ _ (λ p q r k. k.law)) (g.B.Spelled.is_tree g.B.AsnType.CONSTRAINTS g.B.AsnType.consistent) (λ vs. vs) _ _ _ c.in_err-items.ensures.read c.in_err-items.ensures.refused c.in_err-items.ensures.unchanged)

pub returns-in_err-items-clause-answered : goal.returns-in_err-items-clause-answered
returns-in_err-items-clause-answered g c =
    let p = err_from_is_err_and c.from_residual.result c.from_residual.ensures.1 in
    rw (p.1, p.2) (list_answers _ _ (promise_of_fn _ _ _ (λ p q r k. k)) _ (λ vs. vs) _ _ c.in_err-items.ensures.read c.in_err-items.ensures.refused)
