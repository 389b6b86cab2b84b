use Rattle.std.proofs.Common.{arith}
use Rattle.std.specs.Prelude.{FitsSigned}
use Rattle.std.specs.Int.{w128}
use Rattle.std.proofs.lemmas.Int.{to_z-of_z}
use Rattle.oer_leaf_write.proofs.WriteEnumerated.{shortest_is, shortest_few, long_octets}
use Rattle.oer_leaf_write.proofs.enums.write_long_enumerated.Goals as goal

pub overflow_cast-octets : goal.overflow_cast-octets
overflow_cast-octets c =
    let fits : FitsSigned w128 c.args.number = c.ranges.number in
    let bytes = simp to_z-of_z at c.to_be_bytes-all.ensures in
    let octets = shortest_is c.args.number c.to_be_bytes-all.result c.shortest_signed-octets.result.now fits c.shortest_signed-octets.ensures bytes in
    omega (arith, shortest_few c.args.number c.shortest_signed-octets.result.now c.requires octets)

pub overflow_add-octets : goal.overflow_add-octets
overflow_add-octets c =
    let fits : FitsSigned w128 c.args.number = c.ranges.number in
    let bytes = simp to_z-of_z at c.to_be_bytes-all.ensures in
    let octets = shortest_is c.args.number c.to_be_bytes-all.result c.shortest_signed-octets.result.now fits c.shortest_signed-octets.ensures bytes in
    omega (arith, shortest_few c.args.number c.shortest_signed-octets.result.now c.requires octets)

pub returns : goal.returns
returns c =
    let fits : FitsSigned w128 c.args.number = c.ranges.number in
    let bytes = simp to_z-of_z at c.to_be_bytes-all.ensures in
    let octets = shortest_is c.args.number c.to_be_bytes-all.result c.shortest_signed-octets.result.now fits c.shortest_signed-octets.ensures bytes in
    long_octets c.args.number c.shortest_signed-octets.result.now c.push.new.self.items c.args.out.now.items c.extend_from_slice.new.self.items octets c.in_ok-push.ensures.items c.in_ok-extend_from_slice.ensures.items
