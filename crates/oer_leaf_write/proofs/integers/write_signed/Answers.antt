use Rattle.std.proofs.Common.{ap, ◌∙◌}
use Rattle.std.specs.Prelude.{FitsSigned}
use Rattle.std.specs.Int.{w32, w64}
use Rattle.std.proofs.lemmas.Int.{to_z-of_z}
use Rattle.asn1_core.specs.Octets.{signed}
use Rattle.oer_leaf_write.proofs.WriteNumbers.{signed_of_i32, signed_of_i64, fits_i32, shortest_of, shortest_below}
use Rattle.oer_leaf_write.proofs.integers.write_signed.Goals as goal

pub write_few-requires : goal.write_few-requires
write_few-requires c =
    let fits : FitsSigned w64 c.args.n = c.ranges.n in
    let low = simp to_z-of_z at c.if-n.true in
    let high = simp to_z-of_z at c.if-n-2.true in
    let within : FitsSigned w32 c.args.n = fits_i32 c.args.n low high in
    let all = simp to_z-of_z at c.to_be_bytes-octets.ensures in
    let octets = shortest_of c.args.n c.to_be_bytes-octets.result c.shortest_signed.result.now c.shortest_signed.ensures (ap signed all ∙ signed_of_i32 c.args.n within) in
    shortest_below c.args.n c.shortest_signed.result.now fits octets

pub write_few-requires-2 : goal.write_few-requires-2
write_few-requires-2 c =
    let fits : FitsSigned w64 c.args.n = c.ranges.n in
    let all = simp to_z-of_z at c.to_be_bytes-octets-2.ensures in
    let octets = shortest_of c.args.n c.to_be_bytes-octets-2.result c.shortest_signed-2.result.now c.shortest_signed-2.ensures (ap signed all ∙ signed_of_i64 c.args.n fits) in
    shortest_below c.args.n c.shortest_signed-2.result.now fits octets
