use Rattle.std.proofs.Common.{rules}
use Rattle.oer_leaf_read.specs.ReadingEnumerated.{enumerated_at}
use Rattle.oer_leaf_read.proofs.ReadEnumerated.{enumerated_reads}
use Rattle.oer_spec.proofs.Steps.{front_of, front_ok}
use Rattle.oer_leaf_read.proofs.enums.read_enumerated.Goals as goal

pub returns-then-first-lt128-clause-relation : goal.returns-then-first-lt128-clause-relation
unfolding enumerated_at
returns-then-first-lt128-clause-relation c = front_ok (enumerated_reads c.args.codec) c.args.input.now c.in_ok-first.rest.now _ c.type_inv.input (search rules)

pub returns-clause-relation : goal.returns-clause-relation
unfolding enumerated_at
returns-clause-relation c = front_of (enumerated_reads c.args.codec) _ c.args.input.now c.read_long_enumerated.result c.type_inv.input (search rules)
