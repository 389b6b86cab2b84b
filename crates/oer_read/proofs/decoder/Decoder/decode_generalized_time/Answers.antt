use Rattle.asn1_core.specs.Texts as texts
use Rattle.asn1_times.specs.Times.{generalized_text}
use Rattle.oer_spec.specs.Spelled.{moment_fields, generalized_time_is}
use Rattle.oer_read.proofs.ValueLaws.{time_law}
use Rattle.oer_read.proofs.decoder.Decoder.decode_generalized_time.Goals as goal

pub returns-clause-law : goal.returns-clause-law
returns-clause-law c =
    let relation = c.read_time-generalized_time.ensures.relation moment_fields in
    time_law texts.Generalized generalized_text moment_fields generalized_time_is c.args.self.now _ _ _ (rw (c.codec.ensures, c.remaining.ensures) at relation) c.take.ensures
