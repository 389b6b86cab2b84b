use Rattle.std.proofs.Common.{rules}
use Rattle.asn1_core.specs.Bounds.{value_bounds}
use Rattle.oer_spec.specs.ReadingIntegers.{integer_at}
use Rattle.oer_leaf_read.proofs.ReadIntegers.{front_or_memory, integer_reads}
use Rattle.oer_spec.proofs.Steps.{front_ok}
use Rattle.oer_leaf_read.proofs.integers.read_integer.Goals as goal

pub returns-in_err-octets-clause-relation : goal.returns-in_err-octets-clause-relation
unfolding integer_at
returns-in_err-octets-clause-relation g c =
    front_or_memory (integer_reads g.I.IntegerType.admits (value_bounds c.args.constraints) c.args.codec) g.I.IntegerType.TAKES_MEMORY _ c.args.input.now c.from_residual.result c.type_inv.input (search rules)

pub returns-in_err-value-clause-relation : goal.returns-in_err-value-clause-relation
unfolding integer_at
returns-in_err-value-clause-relation g c =
    front_or_memory (integer_reads g.I.IntegerType.admits (value_bounds c.args.constraints) c.args.codec) g.I.IntegerType.TAKES_MEMORY _ c.args.input.now c.from_residual-in_err-value.result c.type_inv.input (search rules)

pub returns-in_err-require_in_range-clause-relation : goal.returns-in_err-require_in_range-clause-relation
unfolding integer_at
returns-in_err-require_in_range-clause-relation g c =
    front_or_memory (integer_reads g.I.IntegerType.admits (value_bounds c.args.constraints) c.args.codec) g.I.IntegerType.TAKES_MEMORY _ c.args.input.now c.from_residual-in_err-require_in_range.result c.type_inv.input (search rules)

pub returns-clause-relation : goal.returns-clause-relation
unfolding integer_at
returns-clause-relation g c =
    front_ok (integer_reads g.I.IntegerType.admits (value_bounds c.args.constraints) c.args.codec) c.args.input.now c.in_ok-octets.rest.now (g.I.IntegerType.number c.in_ok-value.value) c.type_inv.input (search rules)
