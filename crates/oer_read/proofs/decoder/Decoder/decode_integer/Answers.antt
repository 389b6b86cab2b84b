use Rattle.oer_read.proofs.IntegerLaw.{integer_law}
use Rattle.oer_read.proofs.decoder.Decoder.decode_integer.Goals as goal

pub returns-clause-law : goal.returns-clause-law
returns-clause-law g c = integer_law g.I.IntegerType.number g.I.IntegerType.admits c.args.constraints c.args.self.now _ _ _ (rw (c.codec.ensures, c.remaining.ensures) at c.read_integer-answer.ensures.relation) c.take.ensures
