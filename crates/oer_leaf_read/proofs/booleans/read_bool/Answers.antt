use Rattle.std.proofs.Common.{rules, false, true}
use Rattle.oer_spec.specs.Reading.{bool_at}
use Rattle.oer_leaf_read.proofs.ReadBooleans.{bool_reads}
use Rattle.oer_spec.proofs.Steps.{front_ok}
use Rattle.oer_leaf_read.proofs.booleans.read_bool.Goals as goal

pub returns-then-value-eq0-clause-relation : goal.returns-then-value-eq0-clause-relation
unfolding bool_at
returns-then-value-eq0-clause-relation c = front_ok (bool_reads c.args.codec) c.args.input.now c.in_ok-value.rest.now false c.type_inv.input (search rules)

pub returns-clause-relation : goal.returns-clause-relation
unfolding bool_at
returns-clause-relation c = front_ok (bool_reads c.args.codec) c.args.input.now c.in_ok-value.rest.now true c.type_inv.input (search rules)
