use Rattle.std.proofs.Common.{refl, inl, inr}
use Rattle.oer_read.proofs.Promises.{promise_of}
use Rattle.oer_read.proofs.Wrapped.{wrapped_read, wrapped_refused}
use Rattle.oer_read.specs.Lists.{FnReturnsAtMut}
use Rattle.oer_knots.specs.declared.held.Held.{Held}
use Rattle.oer_knots.proofs.held.HeldDecodeKnot.decode_knot.Goals as goal

pub returns-in-Ok-clause-law : goal.returns-in-Ok-clause-law
returns-in-Ok-clause-law g c = wrapped_read (λ (v : Held g.row.K.Denot). v.0) (λ b. g.K.Spelled.tree g.K.AsnType.CONSTRAINTS b.value) (λ b. g.K.Spelled.IsValue b.value) _ _ _ _ refl c.in-Ok.ensures.law

pub returns-in-Err-clause-law : goal.returns-in-Err-clause-law
returns-in-Err-clause-law g c = wrapped_refused (λ (v : Held g.row.K.Denot). v.0) (λ b. g.K.Spelled.tree g.K.AsnType.CONSTRAINTS b.value) (λ b. g.K.Spelled.IsValue b.value) _ _ _ c.in-Err.ensures.law

pub returns-in-Ok-clause-answered : goal.returns-in-Ok-clause-answered
returns-in-Ok-clause-answered g c = promise_of _ _ (FnReturnsAtMut g.F.Fn c.args.knot.now) (λ p q r k. k.1) _ _ _ c.in-Ok.ensures.answered

pub returns-in-Err-clause-answered : goal.returns-in-Err-clause-answered
returns-in-Err-clause-answered g c =
    elim c.in-Err.ensures.answered [
      | inl k ↦ inl (k.0, k.1, promise_of _ _ (FnReturnsAtMut g.F.Fn c.args.knot.now) (λ p q r m. m.1) _ _ _ k.2, k.3)
      | inr k ↦ inr (promise_of _ _ (FnReturnsAtMut g.F.Fn c.args.knot.now) (λ p q r m. m.1) _ _ _ k)
    ]
