use Rattle.asn1_core.specs.Texts.{AnyOctets}
use Rattle.oer_write.proofs.Refusals.{unsized_by_law}
use Rattle.oer_write.proofs.encoder.Encoder.encode_any.Goals as goal

pub returns-clause-law : goal.returns-clause-law
returns-clause-law c = unsized_by_law c.put_any.result AnyOctets c.args.value.now c.args.self.now c.put_any.new.self c.put_any.ensures.refused
