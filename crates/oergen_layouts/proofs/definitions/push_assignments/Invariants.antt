use Rattle.std.proofs.Common.{◌≡◌, ◌++◌, map, take}
use Rattle.oergen_layouts.specs.Definitions.{assigned_by, waits}
use Rattle.oergen_layouts.proofs.definitions.push_assignments.Given as goal

abbrev pub invariant-loop-one : goal.invariant-loop-one
invariant-loop-one l = map waits l.all.items ≡ map waits l.initial.all.items ++ assigned_by l.module (take l.one-index l.types)
