use Rattle.std.proofs.Common.{arith}
use Rattle.asn1_strings.proofs.OctetLists.{are_octets}
use Rattle.asn1_strings.proofs.octets.each_below_256.Goals as goal

pub returns-clause-octets : goal.returns-clause-octets
returns-clause-octets c = are_octets c.args.octets.now (λ k. let fits = c.type_inv.octets k in omega arith)
