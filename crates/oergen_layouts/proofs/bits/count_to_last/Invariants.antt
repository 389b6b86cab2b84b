use Rattle.std.proofs.Common.{◌≡◌, ◌-◌, ◌<◌, ◌≤◌, false, true}
use Rattle.std.specs.List.{AllWithin, HoldsAt}
use Rattle.oergen_layouts.proofs.bits.count_to_last.Given as goal

abbrev pub invariant-loop-at : goal.invariant-loop-at
invariant-loop-at l = record {
  few : l.count ≤ l.at;
  behind : AllWithin (λ bit. bit ≡ false) l.bits l.count l.at;
  last : 0 < l.count → HoldsAt (λ bit. bit ≡ true) l.bits (l.count - 1);
}
