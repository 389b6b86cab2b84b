use Rattle.std.proofs.Common.{rules}
use Rattle.oer_spec.specs.ReadingIntegers.{number_content_at}
use Rattle.oer_leaf_read.proofs.ReadIntegers.{number_content_reads}
use Rattle.oer_spec.proofs.Steps.{front_of, front_ok}
use Rattle.oer_leaf_read.proofs.integers.read_number_content.Goals as goal

pub returns-in_err-content-clause-relation : goal.returns-in_err-content-clause-relation
unfolding number_content_at
returns-in_err-content-clause-relation c = front_of (number_content_reads c.args.signed c.args.codec) _ c.args.input.now c.from_residual.result c.type_inv.input (search rules)

pub returns-in_err-octets-clause-relation : goal.returns-in_err-octets-clause-relation
unfolding number_content_at
returns-in_err-octets-clause-relation c = front_of (number_content_reads c.args.signed c.args.codec) _ c.args.input.now c.from_residual-in_err-octets.result c.type_inv.input (search rules)

pub returns-clause-relation : goal.returns-clause-relation
unfolding number_content_at
returns-clause-relation c = front_ok (number_content_reads c.args.signed c.args.codec) c.args.input.now c.in_ok-content.rest.now c.in_ok-octets.octets.now c.type_inv.input (search rules)
