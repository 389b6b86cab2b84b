use Rattle.std.proofs.Common.{refl}
use Rattle.asn1_core.specs.Bounds.{narrowed}
use Rattle.asn1_core.specs.Texts.{AnyOctets}
use Rattle.oer_spec.specs.Spelled.{IsTextOf, text}
use Rattle.oer_types.specs.Wrappers.{of_three}
use Rattle.oer_types.specs.declared.wrappers.HashedId3.{HashedId3}
use Rattle.oer_read.proofs.Wrapped.{wrapped_read, wrapped_refused}
use Rattle.oer_types.proofs.wrappers.HashedId3Decode.decode_with_tag_and_constraints.Goals as goal

pub returns-in-Ok-clause-law : goal.returns-in-Ok-clause-law
returns-in-Ok-clause-law c =
    wrapped_read (λ (v : HashedId3). v.0) (text AnyOctets (narrowed of_three c.args.constraints)) (IsTextOf AnyOctets) _ _ _ _ refl (rw c.narrowed-narrowed.ensures at c.in-Ok.ensures.law)

pub returns-in-Err-clause-law : goal.returns-in-Err-clause-law
returns-in-Err-clause-law c =
    wrapped_refused (λ (v : HashedId3). v.0) (text AnyOctets (narrowed of_three c.args.constraints)) (IsTextOf AnyOctets) _ _ _ (rw c.narrowed-narrowed.ensures at c.in-Err.ensures.law)
