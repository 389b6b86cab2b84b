use Rattle.std.proofs.Common.{rules}
use Rattle.oer_spec.specs.Reading.{quantity_at}
use Rattle.oer_leaf_read.proofs.ReadQuantities.{quantity_reads}
use Rattle.oer_spec.proofs.Steps.{front_of, front_ok}
use Rattle.oer_leaf_read.proofs.quantities.read_quantity.Goals as goal

pub returns-in_err-content-clause-relation : goal.returns-in_err-content-clause-relation
unfolding quantity_at
returns-in_err-content-clause-relation c = front_of (quantity_reads c.args.codec) _ c.args.input.now c.from_residual.result c.type_inv.input (search rules)

pub returns-in_err-quantity-clause-relation : goal.returns-in_err-quantity-clause-relation
unfolding quantity_at
returns-in_err-quantity-clause-relation c = front_of (quantity_reads c.args.codec) _ c.args.input.now c.from_residual-in_err-quantity.result c.type_inv.input (search rules)

pub returns-clause-relation : goal.returns-clause-relation
unfolding quantity_at
returns-clause-relation c = front_ok (quantity_reads c.args.codec) c.args.input.now c.in_ok-content.rest.now c.in_ok-quantity.quantity c.type_inv.input (search rules)
