use Rattle.std.proofs.Common.{◌^◌, ℤ, pos, ◌-ℤ◌, ◌≤ℤ◌, ◌<ℤ◌, nat_abs, int_cmp, IsTrue}
use Rattle.std.specs.BTreeSet.{contains}
use Rattle.oergen_layouts.proofs.numbers.free_number.Given as goal

abbrev pub invariant-loop-number : goal.invariant-loop-number
invariant-loop-number l = (l.next ≤ℤ l.number-counter) × ((n : ℤ) → l.next ≤ℤ n → n <ℤ l.number-counter → IsTrue (contains int_cmp l.taken n))

abbrev pub decreases-loop-number : goal.decreases-loop-number
decreases-loop-number l = nat_abs (pos (2 ^ 127) -ℤ l.number-counter)
