use Rattle.oer_choices.specs.Choosing.{through, through_is}
use Rattle.oer_kept.proofs.KeptAnswers.{kept_choice_law}
use Rattle.oer_kept.proofs.choices.KeptChoiceDecode.decode_with_tag_and_constraints.Goals as goal

pub returns-clause-law : goal.returns-clause-law
returns-clause-law g c =
    let type = through g.T.Alternating.alternative g.T.Alternating.row_choices in
    let are = through_is g.T.Alternating.alternative g.T.Alternating.row_choices g.T.Alternating.row_are_choices in
    kept_choice_law type are g.T.TakesAlternative.Refuses c.args.decoder.now c.read_kept.result c.read_kept.new.decoder c.read_kept.ensures.answers c.read_kept.ensures.unchanged
