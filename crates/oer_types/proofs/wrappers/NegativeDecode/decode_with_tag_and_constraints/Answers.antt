use Rattle.std.proofs.Common.{refl}
use Rattle.asn1_core.specs.Bounds.{narrowed}
use Rattle.oer_types.specs.Wrappers.{to_zero}
use Rattle.oer_types.specs.declared.wrappers.Negative.{Negative}
use Rattle.oer_read.proofs.Wrapped.{wrapped_read, wrapped_refused}
use Rattle.oer_types.proofs.wrappers.NegativeDecode.decode_with_tag_and_constraints.Goals as goal

pub returns-in-Ok-clause-law : goal.returns-in-Ok-clause-law
returns-in-Ok-clause-law g c =
    let of = g.T.Spelled in
    wrapped_read (λ (v : Negative _). v.0) (of.tree (narrowed to_zero c.args.constraints)) of.IsValue _ _ _ _ refl (rw (c.narrowed-narrowed.ensures, c.CONSTRAINTS.ensures) at c.in-Ok.ensures.law)

pub returns-in-Err-clause-law : goal.returns-in-Err-clause-law
returns-in-Err-clause-law g c =
    let of = g.T.Spelled in
    wrapped_refused (λ (v : Negative _). v.0) (of.tree (narrowed to_zero c.args.constraints)) of.IsValue _ _ _ (rw (c.narrowed-narrowed.ensures, c.CONSTRAINTS.ensures) at c.in-Err.ensures.law)
