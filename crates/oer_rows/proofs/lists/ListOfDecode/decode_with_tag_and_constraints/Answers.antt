use Rattle.oer_read.specs.Law.{Promised}
use Rattle.oer_read.proofs.ListLaw.{list_law}
use Rattle.oer_rows.proofs.lists.ListOfDecode.decode_with_tag_and_constraints.Goals as goal

pub returns-in-Ok-clause-law : goal.returns-in-Ok-clause-law
returns-in-Ok-clause-law g c =
    list_law (g.T.Spelled.tree g.T.AsnType.CONSTRAINTS) g.T.Spelled.IsValue (Promised (g.T.Spelled.tree g.T.AsnType.CONSTRAINTS) g.T.Spelled.IsValue (g.T.Decode.Answered g.T.AsnType.CONSTRAINTS)) (λ s r t k. k.law) (g.T.Spelled.is_tree g.T.AsnType.CONSTRAINTS g.T.AsnType.consistent) (λ vs. vs) _ _ _ c.in-Ok.ensures.answered.read tt tt

pub returns-in-Err-clause-law : goal.returns-in-Err-clause-law
returns-in-Err-clause-law g c =
    list_law (g.T.Spelled.tree g.T.AsnType.CONSTRAINTS) g.T.Spelled.IsValue (Promised (g.T.Spelled.tree g.T.AsnType.CONSTRAINTS) g.T.Spelled.IsValue (g.T.Decode.Answered g.T.AsnType.CONSTRAINTS)) (λ s r t k. k.law) (g.T.Spelled.is_tree g.T.AsnType.CONSTRAINTS g.T.AsnType.consistent) (λ vs. vs) _ _ _ tt c.in-Err.ensures.answered.refused c.in-Err.ensures.law.refused.same
