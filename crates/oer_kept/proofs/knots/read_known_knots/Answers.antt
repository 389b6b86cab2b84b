use Rattle.oer_choices.specs.Choosing.{through, through_is}
use Rattle.oer_read.specs.Lists.{FnReturnsAtMut}
use Rattle.oer_kept.proofs.KeptAnswers.{own_answered, own_refused}
use Rattle.oer_kept.proofs.knots.read_known_knots.Goals as goal

pub returns-in-Ok-clause-answers : goal.returns-in-Ok-clause-answers
returns-in-Ok-clause-answers g c =
    let type = through g.T.Alternating.alternative g.T.Alternating.row_choices in
    let are = through_is g.T.Alternating.alternative g.T.Alternating.row_choices g.T.Alternating.row_are_choices in
    own_answered type are (λ h s e. (g.T.TakesKnotAlternative.refusing h).Refuses (FnReturnsAtMut g.F.Fn c.args.knot.now) s e) c.args.decoder.now c.requires.none c.decode_inside.new.decoder c.in-Ok.choice c.in-Ok.ensures.answered

pub returns-in-Err-clause-answers : goal.returns-in-Err-clause-answers
returns-in-Err-clause-answers g c =
    let type = through g.T.Alternating.alternative g.T.Alternating.row_choices in
    let are = through_is g.T.Alternating.alternative g.T.Alternating.row_choices g.T.Alternating.row_are_choices in
    own_refused type are (λ h s e. (g.T.TakesKnotAlternative.refusing h).Refuses (FnReturnsAtMut g.F.Fn c.args.knot.now) s e) c.args.decoder.now c.requires.none c.decode_inside.new.decoder c.in-Err.e c.in-Err.ensures.answered

pub returns-in-Err-clause-unchanged : goal.returns-in-Err-clause-unchanged
returns-in-Err-clause-unchanged g c = c.in-Err.ensures.law.refused.same
