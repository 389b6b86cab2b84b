use Rattle.std.proofs.Common.{to_z, of_z}
use Rattle.std.specs.Int.{w128}
use Rattle.std.proofs.lemmas.Int.{to_z-of_z}
use Rattle.asn1_core.specs.Bounds.{value_bounds}
use Rattle.oer_json.specs.Readings.{free_range}
use Rattle.oer_json.proofs.Readings.{number_put, number_refused}
use Rattle.oer_json.proofs.numbers.write_free.Goals as goal

pub returns-in-Ok : goal.returns-in-Ok
returns-in-Ok c = number_put (value_bounds c.free_constraints.result) (free_range c.args.is_signed) (to_z w128 (of_z w128 c.args.number)) c.args.number c.args.out.now.items c.write_integer.new.out.items c.free_constraints.ensures (to_z-of_z w128 c.args.number c.ranges.number) c.in-Ok.ensures.0 c.in-Ok.ensures.1

pub returns-in-Err : goal.returns-in-Err
returns-in-Err c = number_refused (value_bounds c.free_constraints.result) (free_range c.args.is_signed) (to_z w128 (of_z w128 c.args.number)) c.args.number c.in-Err.kind c.from.result c.args.out.now.items c.write_integer.new.out.items c.free_constraints.ensures (to_z-of_z w128 c.args.number c.ranges.number) c.from.ensures c.in-Err.ensures.0
