use Rattle.asn1_strings.proofs.IdentifierSpelling.{identifiers_obey, spells_one}
use Rattle.asn1_strings.proofs.laws.identifiers.Goals as goal

pub returns-clause-obey : goal.returns-clause-obey
returns-clause-obey c = identifiers_obey

pub returns-clause-one : goal.returns-clause-one
returns-clause-one c = spells_one
