use Rattle.std.proofs.Common.{◌≡◌, drop, ◌++◌}
use Rattle.oergen_print.specs.SetOrder.{places_from}
use Rattle.oergen_print.proofs.sequences.in_text_order.Given as goal

abbrev pub invariant-loop-at : goal.invariant-loop-at
invariant-loop-at l = l.places.items ++ places_from l.at l.position (drop l.at l.parts) ≡ places_from 0 l.position l.parts
