use Rattle.oer_leaf_read.proofs.ReadValues.{identifier_ok, identifier_err}
use Rattle.oer_spec.proofs.Steps.{are_octets}
use Rattle.oer_leaf_read.proofs.identifiers.identifier_of.Goals as goal

pub returns-in-Ok-clause-function : goal.returns-in-Ok-clause-function
returns-in-Ok-clause-function c = identifier_ok c.args.octets.now c.in-Ok.value c.in-Ok.ensures.ok

pub returns-in-Err-clause-function : goal.returns-in-Err-clause-function
returns-in-Err-clause-function c = identifier_err c.args.octets.now c.in-Err.field-0.kind (are_octets c.args.octets.now c.type_inv.octets) c.in-Err.ensures.err
