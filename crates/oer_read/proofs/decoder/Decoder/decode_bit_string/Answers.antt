use Rattle.oer_read.proofs.TextLaws.{bits_law}
use Rattle.oer_read.proofs.decoder.Decoder.decode_bit_string.Goals as goal

pub returns-clause-law : goal.returns-clause-law
returns-clause-law c = bits_law c.args.constraints c.args.self.now _ _ _ (rw (c.codec.ensures, c.remaining.ensures) at c.read_bit_string-answer.ensures.relation) c.take.ensures
