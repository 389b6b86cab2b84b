use Rattle.asn1_core.specs.Texts as texts
use Rattle.asn1_times.specs.Times.{date_text}
use Rattle.oer_spec.specs.Spelled.{day_fields, date_is}
use Rattle.oer_read.proofs.ValueLaws.{time_law}
use Rattle.oer_read.proofs.decoder.Decoder.decode_date.Goals as goal

pub returns-clause-law : goal.returns-clause-law
returns-clause-law c =
    let relation = c.read_time-date.ensures.relation day_fields in
    time_law texts.Date date_text day_fields date_is c.args.self.now _ _ _ (rw (c.codec.ensures, c.remaining.ensures) at relation) c.take.ensures
