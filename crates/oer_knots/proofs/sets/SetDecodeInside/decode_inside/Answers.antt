use Rattle.std.proofs.Common.{refl}
use Rattle.oer_rows.proofs.TagOrder.{set_read, set_refused}
use Rattle.oer_knots.proofs.sets.SetDecodeInside.decode_inside.Goals as goal

pub returns-in-Ok-clause-law : goal.returns-in-Ok-clause-law
returns-in-Ok-clause-law g c =
    set_read g.T.TextOrder.places g.T.Rowed.row_schema g.T.Rowed.EXTENSIBLE g.T.Rowed.row_is_schema (λ v. g.T.Rowed.components v.0) (λ w. record { 0 = w.0 }) _ _ _ _ g.met.T.InTagOrder.in_order refl c.in-Ok.ensures.law

pub returns-in-Err-clause-law : goal.returns-in-Err-clause-law
returns-in-Err-clause-law g c =
    set_refused g.T.TextOrder.places g.T.Rowed.row_schema g.T.Rowed.EXTENSIBLE g.T.Rowed.row_is_schema (λ v. g.T.Rowed.components v.0) (λ w. record { 0 = w.0 }) _ _ _ c.in-Err.ensures.law
