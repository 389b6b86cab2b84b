use Rattle.std.proofs.Common.{◌≡◌, map, take}
use Rattle.oergen_layouts.specs.Definitions.{assigned, waits}
use Rattle.oergen_layouts.proofs.definitions.assignments.Given as goal

abbrev pub invariant-loop-module : goal.invariant-loop-module
invariant-loop-module l = map waits l.all.items ≡ assigned (take l.module l.one-items)
