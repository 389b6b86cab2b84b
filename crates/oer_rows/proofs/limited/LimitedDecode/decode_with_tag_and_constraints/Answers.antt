use Rattle.std.proofs.Common.{refl}
use Rattle.oer_read.proofs.Wrapped.{wrapped_read, wrapped_refused}
use Rattle.oer_rows.specs.declared.limited.Limited.{Limited}
use Rattle.oer_rows.proofs.limited.LimitedDecode.decode_with_tag_and_constraints.Goals as goal

pub returns-in-Ok-clause-law : goal.returns-in-Ok-clause-law
returns-in-Ok-clause-law g c =
    wrapped_read (λ (v : Limited g.row.T.Denot g.row.L.Denot). v.0) (g.T.Spelled.tree g.L.Limits.LIMITS) g.T.Spelled.IsValue _ _ _ _ refl (rw c.LIMITS.ensures at c.in-Ok.ensures.law)

pub returns-in-Err-clause-law : goal.returns-in-Err-clause-law
returns-in-Err-clause-law g c =
    wrapped_refused (λ (v : Limited g.row.T.Denot g.row.L.Denot). v.0) (g.T.Spelled.tree g.L.Limits.LIMITS) g.T.Spelled.IsValue _ _ _ (rw c.LIMITS.ensures at c.in-Err.ensures.law)
