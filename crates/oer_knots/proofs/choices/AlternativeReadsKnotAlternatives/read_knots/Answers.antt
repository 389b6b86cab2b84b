use Rattle.std.proofs.Common.{sym, ◌∙◌}
use Rattle.oer_choices.specs.Refusals.{First, Other}
use Rattle.oer_choices.proofs.Reading.{held_read, held_stops, first_holds, rest_holds}
use Rattle.oer_knots.proofs.choices.AlternativeReadsKnotAlternatives.read_knots.Goals as goal

pub returns-in-Ok-clause-law : goal.returns-in-Ok-clause-law
returns-in-Ok-clause-law g c = held_read (first_holds _ _ _ _ g.R.Alternatives.are_choices c.requires.distinct (sym c.tag.ensures ∙ c.is_same.ensures.same c.if-is_same.true)) _ _ _ c.in-Ok.ensures.law

pub returns-in-Err-clause-law : goal.returns-in-Err-clause-law
returns-in-Err-clause-law g c = held_stops (first_holds _ _ _ _ g.R.Alternatives.are_choices c.requires.distinct (sym c.tag.ensures ∙ c.is_same.ensures.same c.if-is_same.true)) _ _ _ c.in-Err.ensures.law

pub returns-in-Ok-read_knots-clause-law : goal.returns-in-Ok-read_knots-clause-law
returns-in-Ok-read_knots-clause-law g c = held_read (rest_holds g.G.Place.tag _ g.R.Alternatives.choices c.args.tag (λ e. c.is_same.ensures.other c.if-is_same.false (c.tag.ensures ∙ e))) _ _ _ c.in-Ok-read_knots.ensures.law

pub returns-in-Err-read_knots-clause-law : goal.returns-in-Err-read_knots-clause-law
returns-in-Err-read_knots-clause-law g c = held_stops (rest_holds g.G.Place.tag _ g.R.Alternatives.choices c.args.tag (λ e. c.is_same.ensures.other c.if-is_same.false (c.tag.ensures ∙ e))) _ _ _ c.in-Err-read_knots.ensures.law

pub returns-in-Err-clause-refused : goal.returns-in-Err-clause-refused
returns-in-Err-clause-refused g c = First (sym c.tag.ensures ∙ c.is_same.ensures.same c.if-is_same.true) _ c.in-Err.ensures.answered

pub returns-in-Err-read_knots-clause-refused : goal.returns-in-Err-read_knots-clause-refused
returns-in-Err-read_knots-clause-refused g c = Other (λ e. c.is_same.ensures.other c.if-is_same.false (c.tag.ensures ∙ e)) c.in-Err-read_knots.ensures.refused
