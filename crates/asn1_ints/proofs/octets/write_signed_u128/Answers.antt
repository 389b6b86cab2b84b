use Rattle.std.proofs.Common.{ap, ◌∙◌, subst, arith, pos}
use Rattle.asn1_core.specs.Octets.{unsigned}
use Rattle.asn1_core.specs.Numbers.{signed_octets}
use Rattle.asn1_core.proofs.Fixed.{bytes_value}
use Rattle.asn1_ints.specs.Octets.{Appends}
use Rattle.asn1_ints.proofs.octets.write_signed_u128.Goals as goal

pub returns : goal.returns
returns c =
    let octets = ap (λ o. signed_octets (pos (unsigned o))) c.to_be_bytes-octets.ensures ∙ ap (λ n. signed_octets (pos n)) (bytes_value 16 c.args.n (omega arith)) in
    subst (λ o. Appends c.write_with_sign.result o c.args.out.now.items c.write_with_sign.new.out.items) octets c.write_with_sign.ensures
