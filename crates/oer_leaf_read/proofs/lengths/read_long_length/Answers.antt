use Rattle.oer_spec.proofs.Steps.{are_octets}
use Rattle.oer_leaf_read.proofs.ReadLengths.{long_from_two}
use Rattle.oer_leaf_read.proofs.lengths.read_long_length.Goals as goal

pub returns-in-len2-up-clause-function : goal.returns-in-len2-up-clause-function
returns-in-len2-up-clause-function c = long_from_two c.args.codec c.args.count c.args.input.now c.if-count-eq2.true c.in-len2-up.len_at_least (are_octets c.args.input.now c.type_inv.input) c.if-high-ne0.true
