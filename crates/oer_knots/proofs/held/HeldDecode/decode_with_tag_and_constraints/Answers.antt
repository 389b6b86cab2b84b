use Rattle.std.proofs.Common.{refl}
use Rattle.oer_read.proofs.Wrapped.{wrapped_read, wrapped_refused}
use Rattle.oer_knots.specs.declared.held.Held.{Held}
use Rattle.oer_knots.proofs.held.HeldDecode.decode_with_tag_and_constraints.Goals as goal

pub returns-in-Ok-clause-law : goal.returns-in-Ok-clause-law
returns-in-Ok-clause-law g c = wrapped_read (λ (v : Held g.row.K.Denot). v.0) (λ b. g.K.Spelled.tree c.args.constraints b.value) (λ b. g.K.Spelled.IsValue b.value) _ _ _ _ refl c.in-Ok.ensures.law

pub returns-in-Err-clause-law : goal.returns-in-Err-clause-law
returns-in-Err-clause-law g c = wrapped_refused (λ (v : Held g.row.K.Denot). v.0) (λ b. g.K.Spelled.tree c.args.constraints b.value) (λ b. g.K.Spelled.IsValue b.value) _ _ _ c.in-Err.ensures.law
