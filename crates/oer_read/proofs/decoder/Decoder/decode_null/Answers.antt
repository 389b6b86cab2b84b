use Rattle.oer_read.proofs.LeafLaws.{null_law}
use Rattle.oer_read.proofs.decoder.Decoder.decode_null.Goals as goal

pub returns-clause-law : goal.returns-clause-law
returns-clause-law c = null_law c.args.self.now
