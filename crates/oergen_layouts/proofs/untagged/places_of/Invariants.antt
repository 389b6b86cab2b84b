use Rattle.std.proofs.Common.{◌≡◌, ◌≤◌, ◌++◌, drop}
use Rattle.oergen_layouts.specs.Untagged.{places_from}
use Rattle.oergen_layouts.proofs.untagged.places_of.Given as goal

abbrev pub invariant-loop-is_unused : goal.invariant-loop-is_unused
invariant-loop-is_unused l = record {
  few : l.count ≤ l.is_unused-index;
  places : l.places.items ++ places_from l.count (drop l.is_unused-index l.unused) ≡ places_from 0 l.unused;
}
