use Rattle.oer_read.proofs.ValueLaws.{identifier_law}
use Rattle.oer_read.proofs.decoder.Decoder.decode_object_identifier.Goals as goal

pub returns-clause-law : goal.returns-clause-law
returns-clause-law c = identifier_law c.args.self.now _ _ _ (rw (c.codec.ensures, c.remaining.ensures) at c.read_object_identifier-answer.ensures.relation) c.take.ensures
