use Rattle.std.proofs.Common.{◌≡◌, false}
use Rattle.oergen_layouts.specs.Numbers.{is_name}
use Rattle.oergen_layouts.proofs.numbers.settled.Given as goal

abbrev pub invariant-loop : goal.invariant-loop
invariant-loop l = is_name l.start.value.now ≡ false → (l.spot ≡ l.start) × (l.counter ≡ 0)
