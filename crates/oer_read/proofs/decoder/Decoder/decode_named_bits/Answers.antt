use Rattle.oer_read.proofs.TextLaws.{named_bits_law}
use Rattle.oer_read.proofs.decoder.Decoder.decode_named_bits.Goals as goal

pub returns-clause-law : goal.returns-clause-law
returns-clause-law c = named_bits_law c.args.constraints c.args.self.now _ _ _ (rw (c.codec.ensures, c.remaining.ensures) at c.read_named_bits-answer.ensures.relation) c.take.ensures
