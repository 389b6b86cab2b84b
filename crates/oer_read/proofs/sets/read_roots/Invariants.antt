use Rattle.std.proofs.Common.{length, map}
use Rattle.asn1_core.specs.Rows.{row}
use Rattle.asn1_core.specs.Tables.{canonised_rest}
use Rattle.oer_leaf_read.specs.Views.{bits_left}
use Rattle.oer_read.specs.Sets.{root_calls, FieldReturns}
use Rattle.oer_read.proofs.SetSteps.{SoFar}
use Rattle.oer_read.proofs.sets.read_roots.Given as goal

abbrev pub invariant-loop-field : goal.invariant-loop-field
invariant-loop-field g l =
    SoFar (FieldReturns g.D.Fn l.fn.decode_fn) l.fn.inner (root_calls (map row (canonised_rest l.fn.rows)) (bits_left l.fn.presence)) l.fn.fields.items l.inner (root_calls (map row (canonised_rest l.rows)) (bits_left l.bits)) l.fields.items

abbrev pub decreases-loop-field : goal.decreases-loop-field
decreases-loop-field g l = length (canonised_rest l.rows)
