use Rattle.std.proofs.Common.{◌≡◌, length}
use Rattle.asn1_core.specs.Tables.{optional_fields}
use Rattle.asn1_core.proofs.fields.OptionalAndDefaultFieldsIterator.next.Given as goal

abbrev pub invariant-loop-rows : goal.invariant-loop-rows
invariant-loop-rows l = optional_fields l.rows ≡ optional_fields l.initial.rows

abbrev pub decreases-loop-rows : goal.decreases-loop-rows
decreases-loop-rows l = length l.rows
