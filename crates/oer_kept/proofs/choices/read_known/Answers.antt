use Rattle.oer_choices.specs.Choosing.{through, through_is}
use Rattle.oer_kept.proofs.KeptAnswers.{own_answered, own_refused}
use Rattle.oer_kept.proofs.choices.read_known.Goals as goal

pub returns-in-Ok-clause-answers : goal.returns-in-Ok-clause-answers
returns-in-Ok-clause-answers g c =
    let type = through g.T.Alternating.alternative g.T.Alternating.row_choices in
    let are = through_is g.T.Alternating.alternative g.T.Alternating.row_choices g.T.Alternating.row_are_choices in
    own_answered type are g.T.TakesAlternative.Refuses c.args.decoder.now c.requires c.decode_choice.new.self c.in-Ok.choice c.in-Ok.ensures.answered

pub returns-in-Err-clause-answers : goal.returns-in-Err-clause-answers
returns-in-Err-clause-answers g c =
    let type = through g.T.Alternating.alternative g.T.Alternating.row_choices in
    let are = through_is g.T.Alternating.alternative g.T.Alternating.row_choices g.T.Alternating.row_are_choices in
    own_refused type are g.T.TakesAlternative.Refuses c.args.decoder.now c.requires c.decode_choice.new.self c.in-Err.e c.in-Err.ensures.answered
