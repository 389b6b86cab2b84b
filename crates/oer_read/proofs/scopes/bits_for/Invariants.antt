use Rattle.std.proofs.Common.{◌≡◌, ◌+◌, ◌≤◌, map, drop}
use Rattle.asn1_core.specs.Rows.{row}
use Rattle.oer_read.specs.State.{marked_count}
use Rattle.oer_read.proofs.scopes.bits_for.Given as goal

abbrev pub invariant-loop-row : goal.invariant-loop-row
invariant-loop-row l = record {
  few : l.count ≤ l.row-index;
  counted : l.count + marked_count (map row (drop l.row-index l.roots)) ≡ marked_count (map row l.roots);
}
