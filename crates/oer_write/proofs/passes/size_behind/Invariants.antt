use Rattle.std.proofs.Common.{◌≡◌, ◌≤◌, ◌⊎◌, length, drop}
use Rattle.oer_write.specs.Inserted.{counts}
use Rattle.oer_write.proofs.passes.size_behind.Given as goal

abbrev pub invariant-loop-left : goal.invariant-loop-left
invariant-loop-left l = record {
  least : (l.count ≤ l.left) ⊎ (l.left ≡ length l.insertions);
  within : l.left ≤ length l.insertions;
  size : l.size ≡ counts (drop l.left l.insertions);
}

abbrev pub decreases-loop-left : goal.decreases-loop-left
decreases-loop-left l = l.left
