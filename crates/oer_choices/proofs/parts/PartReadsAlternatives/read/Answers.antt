use Rattle.std.proofs.Common.{sym, ◌∙◌}
use Rattle.oer_choices.specs.Choosing.{through, through_is}
use Rattle.oer_choices.specs.Both.{left_distinct, right_distinct}
use Rattle.oer_choices.proofs.Both.{part_holds, others_hold}
use Rattle.oer_choices.proofs.Reading.{held_read, held_stops}
use Rattle.oer_choices.proofs.parts.PartReadsAlternatives.read.Goals as goal

pub take-requires : goal.take-requires
take-requires g c = record { distinct = left_distinct g.P.ChoicePart.row_choices.roots g.R.Alternatives.choices.roots g.P.ChoicePart.row_choices.additions g.R.Alternatives.choices.additions c.requires.distinct }

pub read-requires : goal.read-requires
read-requires g c = record { distinct = right_distinct g.P.ChoicePart.row_choices.roots g.R.Alternatives.choices.roots g.P.ChoicePart.row_choices.additions g.R.Alternatives.choices.additions c.requires.distinct }

pub returns-in-Ok-clause-law : goal.returns-in-Ok-clause-law
returns-in-Ok-clause-law g c = held_read (part_holds (through g.P.ChoicePart.alternative g.P.ChoicePart.row_choices) g.R.Alternatives.choices (through_is g.P.ChoicePart.alternative g.P.ChoicePart.row_choices g.P.ChoicePart.row_are_choices) g.R.Alternatives.are_choices c.args.tag c.requires.distinct (sym c.has.ensures ∙ c.if-has.true)) _ _ _ c.in-Ok.ensures.law

pub returns-in-Err-clause-law : goal.returns-in-Err-clause-law
returns-in-Err-clause-law g c = held_stops (part_holds (through g.P.ChoicePart.alternative g.P.ChoicePart.row_choices) g.R.Alternatives.choices (through_is g.P.ChoicePart.alternative g.P.ChoicePart.row_choices g.P.ChoicePart.row_are_choices) g.R.Alternatives.are_choices c.args.tag c.requires.distinct (sym c.has.ensures ∙ c.if-has.true)) _ _ _ c.in-Err.ensures.law

pub returns-in-Ok-read-clause-law : goal.returns-in-Ok-read-clause-law
returns-in-Ok-read-clause-law g c = held_read (others_hold (through g.P.ChoicePart.alternative g.P.ChoicePart.row_choices) g.R.Alternatives.choices (through_is g.P.ChoicePart.alternative g.P.ChoicePart.row_choices g.P.ChoicePart.row_are_choices) g.R.Alternatives.are_choices c.args.tag (sym c.has.ensures ∙ c.if-has.false)) _ _ _ c.in-Ok-read.ensures.law

pub returns-in-Err-read-clause-law : goal.returns-in-Err-read-clause-law
returns-in-Err-read-clause-law g c = held_stops (others_hold (through g.P.ChoicePart.alternative g.P.ChoicePart.row_choices) g.R.Alternatives.choices (through_is g.P.ChoicePart.alternative g.P.ChoicePart.row_choices g.P.ChoicePart.row_are_choices) g.R.Alternatives.are_choices c.args.tag (sym c.has.ensures ∙ c.if-has.false)) _ _ _ c.in-Err-read.ensures.law
