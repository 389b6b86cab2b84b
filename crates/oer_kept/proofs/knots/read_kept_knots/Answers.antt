use Rattle.oer_choices.specs.Choosing.{through}
use Rattle.oer_read.specs.Lists.{FnReturnsAtMut}
use Rattle.oer_kept.proofs.KeptAnswers.{whatever_refused}
use Rattle.oer_kept.proofs.knots.read_kept_knots.Goals as goal

pub returns-in-Some-clause-answers : goal.returns-in-Some-clause-answers
returns-in-Some-clause-answers g c = whatever_refused (through g.T.Alternating.alternative g.T.Alternating.row_choices) (λ h s e. (g.T.TakesKnotAlternative.refusing h).Refuses (FnReturnsAtMut g.F.Fn c.args.knot.now) s e) _ _ _ c.read_other.ensures.answers
