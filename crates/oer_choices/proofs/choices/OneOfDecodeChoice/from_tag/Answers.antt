use Rattle.std.proofs.Common.{◌≡◌, refl}
use Rattle.oer_choices.specs.Choosing.{IsOneOf}
use Rattle.oer_choices.proofs.Reading.{held_read, held_stops, made_holds}
use Rattle.oer_choices.proofs.choices.OneOfDecodeChoice.from_tag.Goals as goal

pub returns-in-Ok-clause-law : goal.returns-in-Ok-clause-law
returns-in-Ok-clause-law g c =
    held_read (made_holds (λ v. g.T.Alternating.row_choices.child (g.T.Alternating.alternative v)) (λ v. IsOneOf g.T.Alternating.row_choices (g.T.Alternating.alternative v) × (g.T.Alternating.row_choices.tag_of (g.T.Alternating.alternative v) ≡ c.args.tag)) (λ v. v.0) (λ w. record { 0 = w }) (λ w. refl)) _ _ _ c.in-Ok.ensures.law

pub returns-in-Err-clause-law : goal.returns-in-Err-clause-law
returns-in-Err-clause-law g c =
    held_stops (made_holds (λ v. g.T.Alternating.row_choices.child (g.T.Alternating.alternative v)) (λ v. IsOneOf g.T.Alternating.row_choices (g.T.Alternating.alternative v) × (g.T.Alternating.row_choices.tag_of (g.T.Alternating.alternative v) ≡ c.args.tag)) (λ v. v.0) (λ w. record { 0 = w }) (λ w. refl)) _ _ _ c.in-Err.ensures.law
