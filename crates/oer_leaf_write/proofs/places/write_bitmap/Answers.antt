use Rattle.std.proofs.Common.{ap, ◌∙◌, append_assoc, ◌+◌, ◌++◌, ◌∷◌, []}
use Rattle.asn1_core.specs.Octets.{pack}
use Rattle.oer_spec.specs.Lengths.{length_octets, counted_bits}
use Rattle.oer_leaf_write.proofs.Packing.{appends_after, counted_parts}
use Rattle.oer_leaf_write.proofs.places.write_bitmap.Goals as goal

pub returns : goal.returns
returns c =
    let bits = c.args.bits.now in
    let front = length_octets (c.octets_for.result + 1) in
    let unused = c.unused_for.result ∷ [] in
    appends_after c.write_preamble.result (front ++ unused) (pack bits) (counted_bits bits) c.args.out.now.items c.push.new.self.items c.write_preamble.new.out.items
    (c.in_ok-push.ensures.items ∙ ap (λ z. z ++ unused) c.in_ok-write_length.ensures ∙ append_assoc c.args.out.now.items front unused)
    (counted_parts bits c.octets_for.result c.unused_for.result c.octets_for.ensures c.unused_for.ensures.value)
    c.write_preamble.ensures
