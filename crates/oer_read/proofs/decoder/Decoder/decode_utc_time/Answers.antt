use Rattle.asn1_core.specs.Texts as texts
use Rattle.asn1_times.specs.Times.{utc_text}
use Rattle.oer_spec.specs.Spelled.{moment_fields, utc_time_is}
use Rattle.oer_read.proofs.ValueLaws.{time_law}
use Rattle.oer_read.proofs.decoder.Decoder.decode_utc_time.Goals as goal

pub returns-clause-law : goal.returns-clause-law
returns-clause-law c =
    let relation = c.read_time-utc_time.ensures.relation moment_fields in
    time_law texts.Utc utc_text moment_fields utc_time_is c.args.self.now _ _ _ (rw (c.codec.ensures, c.remaining.ensures) at relation) c.take.ensures
