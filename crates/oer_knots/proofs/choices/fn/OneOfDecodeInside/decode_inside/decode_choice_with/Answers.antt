use Rattle.std.proofs.Common.{◌≡◌, refl}
use Rattle.oer_choices.specs.Choosing.{IsOneOf}
use Rattle.oer_choices.proofs.Reading.{held_read, held_stops, made_holds}
use Rattle.oer_knots.proofs.choices.fn.OneOfDecodeInside.decode_inside.decode_choice_with.Goals as goal

pub returns-in-Ok : goal.returns-in-Ok
returns-in-Ok g c = record {
  law = held_read (made_holds (λ v. g.T.Alternating.row_choices.child (g.T.Alternating.alternative v)) (λ v. IsOneOf g.T.Alternating.row_choices (g.T.Alternating.alternative v) × (g.T.Alternating.row_choices.tag_of (g.T.Alternating.alternative v) ≡ c.args.tag)) (λ v. v.0) (λ w. record { 0 = w }) (λ w. refl)) _ _ _ c.in-Ok.ensures.law;
  answered = tt;
}

pub returns-in-Err : goal.returns-in-Err
returns-in-Err g c = record {
  law = held_stops (made_holds (λ v. g.T.Alternating.row_choices.child (g.T.Alternating.alternative v)) (λ v. IsOneOf g.T.Alternating.row_choices (g.T.Alternating.alternative v) × (g.T.Alternating.row_choices.tag_of (g.T.Alternating.alternative v) ≡ c.args.tag)) (λ v. v.0) (λ w. record { 0 = w }) (λ w. refl)) _ _ _ c.in-Err.ensures.law;
  answered = c.in-Err.ensures.refused;
}
