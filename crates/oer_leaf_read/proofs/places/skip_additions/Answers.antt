use Rattle.oer_spec.specs.ReadingBits.{skipped_at}
use Rattle.oer_leaf_read.specs.Views.{bits_left}
use Rattle.oer_leaf_read.proofs.ReadPlaces.{skipped_reads, gives_rest}
use Rattle.oer_spec.proofs.Steps.{front_of}
use Rattle.oer_leaf_read.proofs.places.skip_additions.Goals as goal

pub returns-clause-relation : goal.returns-clause-relation
returns-clause-relation c =
    let bits = bits_left c.args.bits in
    front_of (skipped_reads c.args.codec bits) _ c.args.input.now c.skipped.result c.type_inv.input
    (gives_rest (λ x. x.now) c.skipped.result (skipped_at c.args.codec bits c.args.input.now) c.skipped.ensures.function)
