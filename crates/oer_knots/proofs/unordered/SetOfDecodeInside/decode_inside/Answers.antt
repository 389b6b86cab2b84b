use Rattle.oer_read.proofs.Promises.{promise_of_fn, decodes_rear}
use Rattle.oer_read.proofs.UnorderedLaw.{unordered_law}
use Rattle.oer_read.proofs.UnorderedSteps.{unordered_answers}
use Rattle.oer_read.specs.Law.{Decodes}
use Rattle.oer_knots.proofs.unordered.SetOfDecodeInside.decode_inside.Goals as goal

pub decode_set_of_with-requires-clause-keeps : goal.decode_set_of_with-requires-clause-keeps
decode_set_of_with-requires-clause-keeps g c rest v after lends k =
    decodes_rear (g.B.Spelled.tree g.B.AsnType.CONSTRAINTS) g.B.Spelled.IsValue _ v after (promise_of_fn _ _ (λ s r t. Decodes (g.B.Spelled.tree g.B.AsnType.CONSTRAINTS) g.B.Spelled.IsValue s r t) (λ p q r k. k.law) _ _ _ k)

pub returns-clause-law : goal.returns-clause-law
returns-clause-law g c =
    unordered_law (g.B.Spelled.tree g.B.AsnType.CONSTRAINTS) g.B.Spelled.IsValue _ (promise_of_fn _ _ _ (λ p q r k. k.law)) (g.B.Spelled.is_tree g.B.AsnType.CONSTRAINTS g.B.AsnType.consistent) _ _ _ c.decode_set_of_with.ensures.read c.decode_set_of_with.ensures.refused c.decode_set_of_with.ensures.unchanged

pub returns-clause-answered : goal.returns-clause-answered
returns-clause-answered g c =
    unordered_answers _ _ (promise_of_fn _ _ _ (λ p q r k. k)) _ _ _ c.decode_set_of_with.ensures.read c.decode_set_of_with.ensures.refused
