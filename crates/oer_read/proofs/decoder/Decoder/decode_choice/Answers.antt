use Rattle.std.proofs.Common.{◌≡◌}
use Rattle.oer_read.proofs.Alternatives.{alternative_law}
use Rattle.oer_read.proofs.ChoiceLaw.{choice_law, choice_answers, promise_with}
use Rattle.oer_read.proofs.Promises.{decodes_rear}
use Rattle.oer_read.specs.Law.{Decodes}
use Rattle.oer_read.proofs.decoder.Decoder.decode_choice.Goals as goal

pub decode_choice_with-requires-clause-keeps : goal.decode_choice_with-requires-clause-keeps
decode_choice_with-requires-clause-keeps g c chosen after v opened k =
    decodes_rear g.D.DecodeChoice.child (λ v. g.D.Spelled.IsValue v × (g.D.DecodeChoice.tag_of v ≡ chosen.tag)) _ v after (promise_with _ _ (λ a s r t. Decodes g.D.DecodeChoice.child (λ v. g.D.Spelled.IsValue v × (g.D.DecodeChoice.tag_of v ≡ a)) s r t) (λ p q a r k. k.1.law) _ _ _ _ k)

pub returns-clause-law : goal.returns-clause-law
returns-clause-law g c =
    choice_law (g.D.Spelled.tree c.args.constraints) g.D.Spelled.IsValue g.D.Choice.root_tags g.D.Choice.addition_tags g.D.Choice.is_extensible g.D.DecodeChoice.tag_of g.D.DecodeChoice.child
    (record { is = g.met.D.DecodeChoice.is_choice c.args.constraints; small = g.met.D.DecodeChoice.small; is_tree = g.D.Spelled.is_tree c.args.constraints c.requires })
    _ (promise_with _ _ _ (λ p q a r k. alternative_law _ _ _ _ _ _ _ k.1.law)) _ _ _ c.decode_choice_with.ensures.read c.decode_choice_with.ensures.refused c.decode_choice_with.ensures.unchanged

pub returns-clause-answered : goal.returns-clause-answered
returns-clause-answered g c =
    choice_answers _ _ (promise_with _ _ _ (λ p q a r k. k.1)) _ _ _ _ _ _ c.decode_choice_with.ensures.read c.decode_choice_with.ensures.refused
