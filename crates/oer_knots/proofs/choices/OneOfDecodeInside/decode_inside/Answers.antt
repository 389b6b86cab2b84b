use Rattle.std.proofs.Common.{◌≡◌, ◌<◌, refl}
use Rattle.oer_choices.specs.Choosing.{IsOneOf, tree_of, choices_small, choices_is}
use Rattle.oer_read.proofs.Alternatives.{alternative_law}
use Rattle.oer_read.proofs.ChoiceLaw.{choice_law, choice_answers, promise_with}
use Rattle.oer_read.proofs.Levels.{chosen_levels}
use Rattle.oer_read.proofs.Promises.{decodes_rear}
use Rattle.oer_read.specs.Law.{Decodes}
use Rattle.oer_knots.specs.Reading.{inside_reads}
use Rattle.oer_knots.proofs.choices.OneOfDecodeInside.decode_inside.Goals as goal

pub decode_choice_with-requires-clause-callable : goal.decode_choice_with-requires-clause-callable
decode_choice_with-requires-clause-callable g c tag lent behind o p e =
    let h : p.now.levels < c.args.decoder.now.levels = rw e (chosen_levels _ _ _ _ _ o) in
    inside_reads g.F.Fn _ _ _ _ _ h c.requires

pub decode_choice_with-requires-clause-keeps : goal.decode_choice_with-requires-clause-keeps
decode_choice_with-requires-clause-keeps g c chosen after v opened k =
    decodes_rear (λ v. g.T.Alternating.row_choices.child (g.T.Alternating.alternative v.0)) (λ v. IsOneOf g.T.Alternating.row_choices (g.T.Alternating.alternative v.0) × (g.T.Alternating.row_choices.tag_of (g.T.Alternating.alternative v.0) ≡ chosen.tag)) _ v after
    (promise_with _ _ (λ a s r t. Decodes (λ v. g.T.Alternating.row_choices.child (g.T.Alternating.alternative v.0)) (λ v. IsOneOf g.T.Alternating.row_choices (g.T.Alternating.alternative v.0) × (g.T.Alternating.row_choices.tag_of (g.T.Alternating.alternative v.0) ≡ a)) s r t) (λ p q a r k. k.1.law) _ _ _ _ k)

pub returns-clause-law : goal.returns-clause-law
returns-clause-law g c =
    choice_law (λ v. tree_of g.T.Alternating.row_choices (g.T.Alternating.alternative v.0)) (λ v. IsOneOf g.T.Alternating.row_choices (g.T.Alternating.alternative v.0)) g.T.Alternating.row_choices.roots g.T.Alternating.row_choices.additions g.T.Alternating.row_choices.is_extensible
    (λ v. g.T.Alternating.row_choices.tag_of (g.T.Alternating.alternative v.0)) (λ v. g.T.Alternating.row_choices.child (g.T.Alternating.alternative v.0))
    (record { is = λ v. refl; small = λ v i. choices_small g.T.Alternating.row_choices g.T.Alternating.row_are_choices (g.T.Alternating.alternative v.0) i; is_tree = λ v i. choices_is g.T.Alternating.row_choices g.T.Alternating.row_are_choices (g.T.Alternating.alternative v.0) i })
    _ (promise_with _ _ _ (λ p q a r k. alternative_law _ _ _ _ _ _ _ k.1.law)) _ _ _ c.decode_choice_with.ensures.read c.decode_choice_with.ensures.refused c.decode_choice_with.ensures.unchanged

pub returns-clause-answered : goal.returns-clause-answered
returns-clause-answered g c =
    choice_answers _ _ (promise_with _ _ _ (λ p q a r k. k.1)) _ _ _ _ _ _ c.decode_choice_with.ensures.read c.decode_choice_with.ensures.refused
