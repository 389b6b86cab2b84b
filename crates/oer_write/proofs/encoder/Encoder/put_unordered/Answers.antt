use Rattle.std.proofs.Common.{◌≡◌, ◌++◌, ◌^◌, ◌<◌, length, rules}
use Rattle.asn1_core.specs.Octets.{joined}
use Rattle.oer_spec.specs.Lengths.{quantity_octets}
use Rattle.oer_spec.specs.Places.{sorted}
use Rattle.oer_write.specs.Unordered.{parts}
use Rattle.oer_write.specs.Written.{append}
use Rattle.oer_write.proofs.Gathering.{unordered_done}
use Rattle.oer_write.proofs.encoder.Encoder.put_unordered.Goals as goal

pub returns-clause-done : goal.returns-clause-done
returns-clause-done g c =
    let h = c.in_ok-contents.ensures.done in
    let first : c.put_sorted.new.self ≡ append (quantity_octets (length c.args.elements.now) ++ joined (sorted (parts c.in_ok-contents.contents.sizes.items c.in_ok-contents.contents.octets.items))) c.args.self.now = search rules in
    let short : length c.args.elements.now < 2 ^ 64 = search rules in
    unordered_done (g.E.Spelled.tree g.E.AsnType.CONSTRAINTS) g.E.Spelled.IsValue c.args.elements.now (parts c.in_ok-contents.contents.sizes.items c.in_ok-contents.contents.octets.items) h.0 c.args.self.now c.put_sorted.new.self short h.1 first
