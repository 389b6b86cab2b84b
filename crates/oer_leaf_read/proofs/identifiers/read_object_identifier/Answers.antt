use Rattle.std.proofs.Common.{◌≡◌, true, None, refl}
use Rattle.asn1_core.specs.Texts.{Identifier}
use Rattle.asn1_core.specs.declared.error.DecodeErrorKind.TheVariants.{InvalidObjectIdentifier}
use Rattle.asn1_strings.specs.Identifiers.{is_identifier, arcs_octets}
use Rattle.oer_spec.specs.Leaves.{IsLeafEncoding}
use Rattle.oer_spec.specs.Mode.{mode_of}
use Rattle.oer_spec.specs.ReadingTexts.{are_contents}
use Rattle.oer_spec.specs.Tree.{Text, InOctets}
use Rattle.oer_leaf_read.proofs.ReadMemory.{front_or_memory}
use Rattle.oer_leaf_read.proofs.ReadTexts.{text_reads}
use Rattle.oer_leaf_read.proofs.ReadValues.{values_front, identifier_obeys}
use Rattle.oer_leaf_read.proofs.identifiers.read_object_identifier.Goals as goal

pub returns-clause-relation : goal.returns-clause-relation
returns-clause-relation c =
    let input = c.args.input.now in
    let result = c.identifier.result in
    values_front arcs_octets (λ arcs. is_identifier arcs ≡ true) (λ o t. IsLeafEncoding (mode_of c.args.codec) o (Text Identifier None (InOctets t))) (λ t. are_contents t ≡ true) identifier_obeys _ input result c.identifier.ensures.identifier
    (front_or_memory (text_reads are_contents InvalidObjectIdentifier Identifier refl (λ o. (λ h. h, λ h. h)) None c.args.codec) _ input result c.type_inv.input c.identifier.ensures.function)
