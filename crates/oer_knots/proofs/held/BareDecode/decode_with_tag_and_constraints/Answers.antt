use Rattle.std.proofs.Common.{refl}
use Rattle.oer_read.proofs.Wrapped.{wrapped_read, wrapped_refused}
use Rattle.oer_knots.specs.declared.held.Bare.{Bare}
use Rattle.oer_knots.proofs.held.BareDecode.decode_with_tag_and_constraints.Goals as goal

pub returns-in-Ok-clause-law : goal.returns-in-Ok-clause-law
returns-in-Ok-clause-law g c = wrapped_read (λ (v : Bare g.row.K.Denot). v.0) (g.K.Spelled.tree c.args.constraints) g.K.Spelled.IsValue _ _ _ _ refl c.in-Ok.ensures.law

pub returns-in-Err-clause-law : goal.returns-in-Err-clause-law
returns-in-Err-clause-law g c = wrapped_refused (λ (v : Bare g.row.K.Denot). v.0) (g.K.Spelled.tree c.args.constraints) g.K.Spelled.IsValue _ _ _ c.in-Err.ensures.law
