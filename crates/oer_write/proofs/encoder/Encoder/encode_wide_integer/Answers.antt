use Rattle.oer_write.proofs.Refusals.{integer_by_law}
use Rattle.oer_write.proofs.encoder.Encoder.encode_wide_integer.Goals as goal

pub returns-clause-law : goal.returns-clause-law
returns-clause-law g c = integer_by_law c.put_wide_integer.result c.args.constraints (g.I.IntegerType.number c.args.value.now) c.args.self.now c.put_wide_integer.new.self c.put_wide_integer.ensures.refused
