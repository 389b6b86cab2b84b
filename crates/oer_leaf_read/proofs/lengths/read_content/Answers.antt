use Rattle.std.proofs.Common.{rules}
use Rattle.oer_spec.specs.Reading.{content_at}
use Rattle.oer_leaf_read.proofs.ReadLengths.{content_reads}
use Rattle.oer_spec.proofs.Steps.{front_of}
use Rattle.oer_leaf_read.proofs.lengths.read_content.Goals as goal

pub returns-clause-relation : goal.returns-clause-relation
unfolding content_at
returns-clause-relation c = front_of (content_reads c.args.codec) _ c.args.input.now c.read_octets.result c.type_inv.input (search rules)
