use Rattle.oer_write.proofs.Refusals.{bit_string_by_law}
use Rattle.oer_write.proofs.encoder.Encoder.encode_bit_string.Goals as goal

pub returns-clause-law : goal.returns-clause-law
returns-clause-law c = bit_string_by_law c.put_bits.result c.args.constraints c.args.value.now c.args.self.now c.put_bits.new.self c.put_bits.ensures.refused
