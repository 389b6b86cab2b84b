use Rattle.oer_write.proofs.Refusals.{identifier_by_law}
use Rattle.oer_write.proofs.encoder.Encoder.encode_object_identifier.Goals as goal

pub returns-clause-law : goal.returns-clause-law
returns-clause-law c = identifier_by_law c.put_arcs.result c.args.value.now c.args.self.now c.put_arcs.new.self c.put_arcs.ensures.refused
