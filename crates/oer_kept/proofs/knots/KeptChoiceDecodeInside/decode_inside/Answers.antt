use Rattle.oer_choices.specs.Choosing.{through, through_is}
use Rattle.oer_read.specs.Lists.{FnReturnsAtMut}
use Rattle.oer_kept.proofs.KeptAnswers.{kept_choice_law}
use Rattle.oer_kept.proofs.knots.KeptChoiceDecodeInside.decode_inside.Goals as goal

pub returns-clause-law : goal.returns-clause-law
returns-clause-law g c =
    let type = through g.T.Alternating.alternative g.T.Alternating.row_choices in
    let are = through_is g.T.Alternating.alternative g.T.Alternating.row_choices g.T.Alternating.row_are_choices in
    kept_choice_law type are (λ h s e. (g.T.TakesKnotAlternative.refusing h).Refuses (FnReturnsAtMut g.F.Fn c.args.knot.now) s e) c.args.decoder.now c.read_kept_knots.result c.read_kept_knots.new.decoder c.read_kept_knots.ensures.answers c.read_kept_knots.ensures.unchanged
