use Rattle.asn1_core.specs.Texts.{Generalized}
use Rattle.asn1_times.specs.Times.{generalized_text}
use Rattle.oer_spec.specs.Spelled.{moment_fields}
use Rattle.oer_write.proofs.Refusals.{time_by_law}
use Rattle.oer_write.proofs.encoder.Encoder.encode_generalized_time.Goals as goal

pub returns-clause-done : goal.returns-clause-done
returns-clause-done c = c.put_time.ensures.done (moment_fields c.args.value.now)

pub returns-clause-refused : goal.returns-clause-refused
returns-clause-refused c = c.put_time.ensures.refused (moment_fields c.args.value.now)

pub returns-clause-law : goal.returns-clause-law
returns-clause-law c =
    time_by_law c.put_time.result Generalized (generalized_text c.args.value.now) (moment_fields c.args.value.now) c.args.self.now c.put_time.new.self (c.put_time.ensures.refused (moment_fields c.args.value.now))
