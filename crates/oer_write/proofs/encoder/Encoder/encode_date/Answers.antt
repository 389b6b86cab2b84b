use Rattle.asn1_core.specs.Texts.{Date}
use Rattle.asn1_times.specs.Times.{date_text}
use Rattle.oer_spec.specs.Spelled.{day_fields}
use Rattle.oer_write.proofs.Refusals.{time_by_law}
use Rattle.oer_write.proofs.encoder.Encoder.encode_date.Goals as goal

pub returns-clause-done : goal.returns-clause-done
returns-clause-done c = c.put_time.ensures.done (day_fields c.args.value.now)

pub returns-clause-refused : goal.returns-clause-refused
returns-clause-refused c = c.put_time.ensures.refused (day_fields c.args.value.now)

pub returns-clause-law : goal.returns-clause-law
returns-clause-law c =
    time_by_law c.put_time.result Date (date_text c.args.value.now) (day_fields c.args.value.now) c.args.self.now c.put_time.new.self (c.put_time.ensures.refused (day_fields c.args.value.now))
