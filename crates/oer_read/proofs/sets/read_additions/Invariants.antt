use Rattle.std.proofs.Common.{◌≡◌, ◌+◌, map, drop}
use Rattle.asn1_core.specs.Rows.{row}
use Rattle.oer_read.specs.Sets.{addition_calls, FieldReturns}
use Rattle.oer_read.proofs.SetSteps.{SoFar}
use Rattle.oer_read.proofs.sets.read_additions.Given as goal

abbrev pub invariant-loop-field : goal.invariant-loop-field
invariant-loop-field g l = record {
  so_far : SoFar (FieldReturns g.D.Fn l.fn.decode_fn) l.fn.inner (addition_calls l.fn.first (map row l.additions)) l.fn.fields.items l.inner (addition_calls l.index (map row (drop l.field-index l.additions))) l.fields.items;
  counted : l.index ≡ l.fn.first + l.field-index;
}
