use Rattle.std.proofs.Common.{◌≡◌, ◌+◌, [], false, length}
use Rattle.oergen_print.proofs.printer.print_types.Given as goal

abbrev pub invariant-loop-turn : goal.invariant-loop-turn
invariant-loop-turn l = record {
  unasked : l.leaves_out ≡ false → l.left_out.items ≡ [];
  each : length l.printed.items + length l.left_out.items ≡ l.turn;
}
