use Rattle.std.proofs.Common.{refl}
use Rattle.asn1_core.specs.Texts.{AnyOctets}
use Rattle.oer_spec.specs.Spelled.{IsTextOf, unsized_text}
use Rattle.oer_read.proofs.Wrapped.{wrapped_read, wrapped_refused}
use Rattle.oer_rows.specs.declared.held_octets.OpenOctets.{OpenOctets}
use Rattle.oer_rows.proofs.held_octets.OpenOctetsDecode.decode_with_tag_and_constraints.Goals as goal

pub returns-in-Ok-clause-law : goal.returns-in-Ok-clause-law
returns-in-Ok-clause-law c = wrapped_read (λ (v : OpenOctets). v.0) (unsized_text AnyOctets) (IsTextOf AnyOctets) _ _ _ _ refl c.in-Ok.ensures.law

pub returns-in-Err-clause-law : goal.returns-in-Err-clause-law
returns-in-Err-clause-law c = wrapped_refused (λ (v : OpenOctets). v.0) (unsized_text AnyOctets) (IsTextOf AnyOctets) _ _ _ c.in-Err.ensures.law
