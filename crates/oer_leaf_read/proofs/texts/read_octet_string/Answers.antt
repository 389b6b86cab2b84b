use Rattle.std.proofs.Common.{refl}
use Rattle.asn1_core.specs.Bounds.{size_bounds}
use Rattle.asn1_core.specs.Texts.{AnyOctets}
use Rattle.oer_leaf_read.proofs.ReadTexts.{octet_string_reads}
use Rattle.oer_spec.proofs.Steps.{front_of}
use Rattle.oer_leaf_read.proofs.texts.read_octet_string.Goals as goal

pub returns-clause-relation : goal.returns-clause-relation
returns-clause-relation c = front_of (octet_string_reads AnyOctets refl (size_bounds c.args.constraints) c.args.codec) _ c.args.input.now c.octet_string.result c.type_inv.input c.octet_string.ensures.function
