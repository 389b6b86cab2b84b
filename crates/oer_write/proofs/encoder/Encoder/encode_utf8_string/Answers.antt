use Rattle.asn1_core.specs.Texts.{Utf8}
use Rattle.oer_write.proofs.Refusals.{text_by_law}
use Rattle.oer_write.proofs.encoder.Encoder.encode_utf8_string.Goals as goal

pub returns-clause-law : goal.returns-clause-law
returns-clause-law c = text_by_law c.put_utf8.result Utf8 c.args.constraints c.args.value.now c.args.self.now c.put_utf8.new.self c.put_utf8.ensures.refused
