use Rattle.std.proofs.Common.{◌≡◌, ◌+◌, ◌-◌, ◌≤◌, ◌++◌, take, drop, length}
use Rattle.oer_write.proofs.passes.move_few.Given as goal

abbrev pub invariant-loop-from : goal.invariant-loop-from
invariant-loop-from l = record {
  least : l.place ≤ l.from;
  order : l.from ≤ l.to;
  within : l.to ≤ l.write;
  len : length l.output ≡ length l.initial.output;
  gap : l.to + (l.read - l.from) ≡ l.write;
  most : l.from ≤ l.read;
  front : take l.to l.output ≡ take l.to l.initial.output;
  rear : take (l.from - l.place) (drop l.place l.initial.output) ++ drop l.to l.output ≡ take (l.read - l.place) (drop l.place l.initial.output) ++ drop l.write l.initial.output;
}

abbrev pub decreases-loop-from : goal.decreases-loop-from
decreases-loop-from l = l.from
