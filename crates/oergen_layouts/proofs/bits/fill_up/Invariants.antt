use Rattle.std.proofs.Common.{◌≡◌, ◌++◌, false, replicate}
use Rattle.oergen_layouts.proofs.bits.fill_up.Given as goal

abbrev pub invariant-loop : goal.invariant-loop
invariant-loop l = l.bits.items ≡ l.initial.bits.items ++ replicate l.counter false
