use Rattle.std.proofs.Common.{ap, ◌∙◌, arith}
use Rattle.asn1_core.specs.Octets.{unsigned}
use Rattle.asn1_core.specs.Numbers.{number_octets}
use Rattle.asn1_core.proofs.Fixed.{bytes_value}
use Rattle.asn1_ints.proofs.Appending.{appended}
use Rattle.asn1_ints.proofs.octets.write_u128.Goals as goal

pub returns : goal.returns
returns c =
    let octets = c.shortest_unsigned.ensures ∙ ap (λ o. number_octets (unsigned o)) c.to_be_bytes-octets.ensures ∙ ap number_octets (bytes_value 16 c.args.n (omega arith)) in
    appended c.extend_from_slice.result c.shortest_unsigned.result.now (number_octets c.args.n) c.args.out.now.items c.extend_from_slice.new.self.items octets c.extend_from_slice.ensures.items
