use Rattle.std.proofs.Common.{rules}
use Rattle.oer_spec.specs.Reading.{tag_at}
use Rattle.oer_leaf_read.proofs.ReadTags.{tag_reads}
use Rattle.oer_spec.proofs.Steps.{front_of, front_ok}
use Rattle.oer_leaf_read.proofs.tags.read_tag.Goals as goal

pub returns-then-first-lt63-clause-relation : goal.returns-then-first-lt63-clause-relation
unfolding tag_at
returns-then-first-lt63-clause-relation c = front_ok (tag_reads c.args.codec) c.args.input.now c.in_ok-first.rest.now _ c.type_inv.input (search rules)

pub returns-clause-relation : goal.returns-clause-relation
unfolding tag_at
returns-clause-relation c = front_of (tag_reads c.args.codec) _ c.args.input.now c.read_long_tag.result c.type_inv.input (search rules)
