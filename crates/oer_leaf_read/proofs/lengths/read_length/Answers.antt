use Rattle.std.proofs.Common.{rules}
use Rattle.oer_spec.specs.Reading.{length_at}
use Rattle.oer_leaf_read.proofs.ReadLengths.{length_reads}
use Rattle.oer_spec.proofs.Steps.{front_of, front_ok}
use Rattle.oer_leaf_read.proofs.lengths.read_length.Goals as goal

pub returns-then-first-lt128-clause-relation : goal.returns-then-first-lt128-clause-relation
unfolding length_at
returns-then-first-lt128-clause-relation c = front_ok (length_reads c.args.codec) c.args.input.now c.in_ok-first.rest.now c.in_ok-first.first c.type_inv.input (search rules)

pub returns-clause-relation : goal.returns-clause-relation
unfolding length_at
returns-clause-relation c = front_of (length_reads c.args.codec) _ c.args.input.now c.behind_long_length.result c.type_inv.input (search rules)
