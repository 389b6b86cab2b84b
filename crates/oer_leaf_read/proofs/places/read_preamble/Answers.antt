use Rattle.oer_leaf_read.proofs.ReadPlaces.{preamble_reads}
use Rattle.oer_spec.proofs.Steps.{front_of}
use Rattle.oer_leaf_read.proofs.places.read_preamble.Goals as goal

pub returns-clause-relation : goal.returns-clause-relation
returns-clause-relation c = front_of (preamble_reads c.args.bits) _ c.args.input.now c.preamble.result c.type_inv.input c.preamble.ensures.function
