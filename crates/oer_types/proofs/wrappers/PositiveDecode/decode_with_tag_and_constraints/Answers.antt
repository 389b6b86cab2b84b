use Rattle.std.proofs.Common.{◌≡◌, Bool, true, refl}
use Rattle.asn1_core.specs.Bounds.{narrowed}
use Rattle.oer_spec.specs.Spelled.{integer}
use Rattle.oer_types.specs.Wrappers.{from_zero}
use Rattle.oer_types.specs.declared.wrappers.Positive.{Positive}
use Rattle.oer_read.proofs.Wrapped.{wrapped_read, wrapped_refused}
use Rattle.oer_types.proofs.wrappers.PositiveDecode.decode_with_tag_and_constraints.Goals as goal

pub returns-in-Ok-clause-law : goal.returns-in-Ok-clause-law
returns-in-Ok-clause-law c =
    wrapped_read (λ (v : Positive). v.0) (integer (narrowed from_zero c.args.constraints)) (λ n. ◌≡◌ {A = Bool} true true) _ _ _ _ refl (rw c.narrowed-narrowed.ensures at c.in-Ok.ensures.law)

pub returns-in-Err-clause-law : goal.returns-in-Err-clause-law
returns-in-Err-clause-law c =
    wrapped_refused (λ (v : Positive). v.0) (integer (narrowed from_zero c.args.constraints)) (λ n. ◌≡◌ {A = Bool} true true) _ _ _ (rw c.narrowed-narrowed.ensures at c.in-Err.ensures.law)
