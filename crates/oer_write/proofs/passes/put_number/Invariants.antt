use Rattle.std.proofs.Common.{◌≡◌, ◌+◌, ◌-◌, ◌≤◌, ◌++◌, take, drop, length}
use Rattle.asn1_core.specs.Numbers.{low_octets}
use Rattle.oer_write.proofs.passes.put_number.Given as goal

abbrev pub invariant-loop-left : goal.invariant-loop-left
invariant-loop-left l = record {
  within : l.to ≤ l.write;
  len : length l.output ≡ length l.initial.output;
  gap : l.to + (l.count - l.left) ≡ l.write;
  most : l.left ≤ l.count;
  room : l.left ≤ l.to;
  front : take l.to l.output ≡ take l.to l.initial.output;
  rear : low_octets l.left l.rest ++ drop l.to l.output ≡ low_octets l.count l.number ++ drop l.write l.initial.output;
}

abbrev pub decreases-loop-left : goal.decreases-loop-left
decreases-loop-left l = l.left
