use Rattle.asn1_core.proofs.SortedByTag.{map-optional_fields}
use Rattle.asn1_core.proofs.fields.Fields.optional_and_default_fields.Goals as goal

pub returns-clause-rows : goal.returns-clause-rows
returns-clause-rows g c = map-optional_fields c.args.self.now.fields.now
