use Rattle.std.proofs.Common.{◌≡◌, ◌<◌, ◌^◌, length, take}
use Rattle.oergen_layouts.specs.Definitions.{assigned}
use Rattle.oergen_layouts.proofs.scope.Scope.types_before.Given as goal

abbrev pub invariant-loop-one : goal.invariant-loop-one
invariant-loop-one l = length (assigned l.self.modules.now) < 2 ^ 64 → l.count ≡ length (assigned (take l.one-index l.one-items))
