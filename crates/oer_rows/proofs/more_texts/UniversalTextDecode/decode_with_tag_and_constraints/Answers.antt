use Rattle.std.proofs.Common.{refl}
use Rattle.asn1_core.specs.Texts.{Universal}
use Rattle.oer_spec.specs.Spelled.{IsTextOf, text}
use Rattle.oer_read.proofs.Wrapped.{wrapped_read, wrapped_refused}
use Rattle.oer_rows.specs.declared.more_texts.UniversalText.{UniversalText}
use Rattle.oer_rows.proofs.more_texts.UniversalTextDecode.decode_with_tag_and_constraints.Goals as goal

pub returns-in-Ok-clause-law : goal.returns-in-Ok-clause-law
returns-in-Ok-clause-law c = wrapped_read (λ (v : UniversalText). v.0) (text Universal c.args.constraints) (IsTextOf Universal) _ _ _ _ refl c.in-Ok.ensures.law

pub returns-in-Err-clause-law : goal.returns-in-Err-clause-law
returns-in-Err-clause-law c = wrapped_refused (λ (v : UniversalText). v.0) (text Universal c.args.constraints) (IsTextOf Universal) _ _ _ c.in-Err.ensures.law
