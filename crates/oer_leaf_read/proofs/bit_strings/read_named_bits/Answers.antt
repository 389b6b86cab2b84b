use Rattle.asn1_core.specs.Bounds.{size_bounds}
use Rattle.oer_leaf_read.proofs.ReadNamed.{named_bits_reads}
use Rattle.oer_leaf_read.proofs.ReadMemory.{front_or_memory}
use Rattle.oer_leaf_read.proofs.bit_strings.read_named_bits.Goals as goal

pub returns-clause-relation : goal.returns-clause-relation
returns-clause-relation c = front_or_memory (named_bits_reads (size_bounds c.args.constraints) c.args.codec) _ c.args.input.now c.read_owned_named.result c.type_inv.input c.read_owned_named.ensures
