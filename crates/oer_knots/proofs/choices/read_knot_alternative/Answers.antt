use Rattle.oer_choices.specs.Choosing.{distinct_tags}
use Rattle.oer_choices.proofs.Reading.{row_read, row_stops}
use Rattle.oer_knots.proofs.choices.read_knot_alternative.Goals as goal

pub read_knots-requires-clause-distinct : goal.read_knots-requires-clause-distinct
read_knots-requires-clause-distinct g c = distinct_tags _ c.requires.apart

pub returns-in-Ok-clause-law : goal.returns-in-Ok-clause-law
returns-in-Ok-clause-law g c = row_read g.R.Alternatives.choices g.T.Alternating.alternative c.args.tag (λ v i. (i.0.1, i.1)) (λ v i. ((c.requires.apart, i.0), i.1)) _ _ _ _ c.from_alternative.ensures c.in-Ok.ensures.law

pub returns-in-Err-clause-law : goal.returns-in-Err-clause-law
returns-in-Err-clause-law g c = row_stops g.R.Alternatives.choices g.T.Alternating.alternative c.args.tag (λ v i. (i.0.1, i.1)) _ _ _ c.in-Err.ensures.law
