use Rattle.oer_leaf_read.proofs.ReadPlaces.{bitmap_reads}
use Rattle.oer_spec.proofs.Steps.{front_of}
use Rattle.oer_leaf_read.proofs.places.read_bitmap.Goals as goal

pub returns-clause-relation : goal.returns-clause-relation
returns-clause-relation c = front_of (bitmap_reads c.args.codec) _ c.args.input.now c.bitmap.result c.type_inv.input c.bitmap.ensures.function
