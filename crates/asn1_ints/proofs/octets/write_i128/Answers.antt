use Rattle.std.proofs.Common.{ap, ◌∙◌}
use Rattle.std.specs.Prelude.{FitsSigned}
use Rattle.std.specs.Int.{w128}
use Rattle.std.proofs.lemmas.Int.{to_z-of_z}
use Rattle.asn1_core.specs.Octets.{signed}
use Rattle.asn1_core.specs.Numbers.{signed_octets}
use Rattle.asn1_core.proofs.Fixed.{signed_of_i128}
use Rattle.asn1_ints.proofs.Appending.{appended}
use Rattle.asn1_ints.proofs.octets.write_i128.Goals as goal

pub returns : goal.returns
returns c =
    let fits : FitsSigned w128 c.args.n = c.ranges.n in
    let bytes = simp to_z-of_z at c.to_be_bytes-octets.ensures in
    let octets = c.shortest_signed.ensures ∙ ap (λ o. signed_octets (signed o)) bytes ∙ ap signed_octets (signed_of_i128 c.args.n fits) in
    appended c.extend_from_slice.result c.shortest_signed.result.now (signed_octets c.args.n) c.args.out.now.items c.extend_from_slice.new.self.items octets c.extend_from_slice.ensures.items
