use Rattle.std.proofs.Common.{◌≡◌, map}
use Rattle.oergen_layouts.specs.Definitions.{waits}
use Rattle.oergen_layouts.proofs.definitions.part_names.Given as goal

abbrev pub invariant-loop-one : goal.invariant-loop-one
invariant-loop-one l = map waits l.one-items ≡ map waits l.initial.one-items
