use Rattle.std.proofs.Common.{refl}
use Rattle.std.proofs.lemmas.Result.{err_from_is_err_and}
use Rattle.oer_read.proofs.Wrapped.{wrapped_read, wrapped_refused}
use Rattle.oer_knots.specs.declared.held.Bare.{Bare}
use Rattle.oer_knots.proofs.held.BareDecodeKnot.decode_knot.Goals as goal

pub returns-clause-law : goal.returns-clause-law
returns-clause-law g c = wrapped_read (λ (v : Bare g.row.K.Denot). v.0) (g.K.Spelled.tree g.K.AsnType.CONSTRAINTS) g.K.Spelled.IsValue _ _ _ _ refl c.in_ok-content.ensures.law

pub returns-clause-answered : goal.returns-clause-answered
returns-clause-answered g c = c.in_ok-content.ensures.answered

pub returns-in_err-content-clause-law : goal.returns-in_err-content-clause-law
returns-in_err-content-clause-law g c =
    let p = err_from_is_err_and c.from_residual.result c.from_residual.ensures.1 in
    rw (p.1, p.2) (wrapped_refused (λ (v : Bare g.row.K.Denot). v.0) (g.K.Spelled.tree g.K.AsnType.CONSTRAINTS) g.K.Spelled.IsValue _ _ _ c.in_err-content.ensures.law)

pub returns-in_err-content-clause-answered : goal.returns-in_err-content-clause-answered
returns-in_err-content-clause-answered g c =
    let p = err_from_is_err_and c.from_residual.result c.from_residual.ensures.1 in
    rw (p.1, p.2) c.in_err-content.ensures.answered
