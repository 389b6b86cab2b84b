use Rattle.oer_choices.specs.Choosing.{through}
use Rattle.oer_kept.proofs.KeptAnswers.{whatever_refused}
use Rattle.oer_kept.proofs.choices.read_kept.Goals as goal

pub returns-in-Some-clause-answers : goal.returns-in-Some-clause-answers
returns-in-Some-clause-answers g c = whatever_refused (through g.T.Alternating.alternative g.T.Alternating.row_choices) g.T.TakesAlternative.Refuses _ _ _ c.read_other.ensures.answers
