use Rattle.oer_choices.proofs.Reading.{row_read, row_stops}
use Rattle.oer_choices.proofs.parts.read_part.Goals as goal

pub returns-in-Ok-clause-law : goal.returns-in-Ok-clause-law
returns-in-Ok-clause-law g c = row_read g.R.Alternatives.choices g.P.ChoicePart.alternative c.args.tag (λ v i. i) (λ v i. i) _ _ _ _ c.from_alternative.ensures c.in-Ok.ensures.law

pub returns-in-Err-clause-law : goal.returns-in-Err-clause-law
returns-in-Err-clause-law g c = row_stops g.R.Alternatives.choices g.P.ChoicePart.alternative c.args.tag (λ v i. i) _ _ _ c.in-Err.ensures.law
