use Rattle.oer_write.proofs.Refusals.{named_bits_by_law}
use Rattle.oer_write.proofs.encoder.Encoder.encode_named_bits.Goals as goal

pub returns-clause-law : goal.returns-clause-law
returns-clause-law c = named_bits_by_law c.put_named_bits.result c.args.constraints c.args.value.now c.args.self.now c.put_named_bits.new.self c.put_named_bits.ensures.refused
