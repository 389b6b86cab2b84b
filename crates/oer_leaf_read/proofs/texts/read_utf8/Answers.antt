use Rattle.std.proofs.Common.{refl}
use Rattle.std.specs.Str.{is_utf8}
use Rattle.std.proofs.lemmas.Str.{is_utf8-from_IsUtf8, IsUtf8-from_is_utf8}
use Rattle.asn1_core.specs.Bounds.{size_bounds}
use Rattle.asn1_core.specs.Texts.{Utf8}
use Rattle.asn1_core.specs.declared.error.DecodeErrorKind.TheVariants.{StringConversionFailed}
use Rattle.oer_leaf_read.proofs.ReadTexts.{text_reads}
use Rattle.oer_spec.proofs.Steps.{front_of}
use Rattle.oer_leaf_read.proofs.texts.read_utf8.Goals as goal

pub returns-clause-relation : goal.returns-clause-relation
returns-clause-relation c =
    front_of (text_reads is_utf8 StringConversionFailed Utf8 refl (λ o. (IsUtf8-from_is_utf8 o, is_utf8-from_IsUtf8 o)) (size_bounds c.args.constraints) c.args.codec) _ c.args.input.now c.utf8_text.result c.type_inv.input c.utf8_text.ensures.function
