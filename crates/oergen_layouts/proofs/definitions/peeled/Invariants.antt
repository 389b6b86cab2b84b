use Rattle.std.proofs.Common.{◌≡◌, ◌≤◌}
use Rattle.oergen_layouts.proofs.Defining.{PeeledSoFar}
use Rattle.oergen_layouts.proofs.definitions.peeled.Given as goal

abbrev pub invariant-loop : goal.invariant-loop
invariant-loop l = (l.lists ≡ l.counter) × (l.counter ≤ 64) × PeeledSoFar l.start l.counter l.of
