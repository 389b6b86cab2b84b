use Rattle.oer_read.proofs.LeafLaws.{boolean_law}
use Rattle.oer_read.proofs.decoder.Decoder.decode_bool.Goals as goal

pub returns-clause-law : goal.returns-clause-law
returns-clause-law c = boolean_law c.args.self.now _ _ _ (rw (c.codec.ensures, c.remaining.ensures) at c.read_bool-answer.ensures.relation) c.take.ensures
