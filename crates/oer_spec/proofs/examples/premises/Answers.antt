use Rattle.oer_spec.proofs.ExampleElements.{element_premises}
use Rattle.oer_spec.proofs.ExamplePremises.{unambiguous_premises, within_premises, canonical_premises, skips_premises, lifts_premises}
use Rattle.oer_spec.proofs.examples.premises.Goals as goal

pub returns-clause-unambiguous : goal.returns-clause-unambiguous
returns-clause-unambiguous c = unambiguous_premises

pub returns-clause-within : goal.returns-clause-within
returns-clause-within c = within_premises

pub returns-clause-canonical : goal.returns-clause-canonical
returns-clause-canonical c = canonical_premises

pub returns-clause-skips : goal.returns-clause-skips
returns-clause-skips c = skips_premises

pub returns-clause-lifts : goal.returns-clause-lifts
returns-clause-lifts c = lifts_premises

pub returns-clause-elements : goal.returns-clause-elements
returns-clause-elements c = element_premises
