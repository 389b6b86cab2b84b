use Rattle.std.proofs.Common.{◌≡◌, ◌+◌, ◌<◌, ◌^◌, length, take}
use Rattle.oergen_layouts.specs.Definitions.{assigned}
use Rattle.oergen_layouts.proofs.scope.Scope.find_type.Given as goal

abbrev pub invariant-loop-one : goal.invariant-loop-one
invariant-loop-one l = length (assigned l.self.modules.now) < 2 ^ 64 → l.index ≡ length (assigned (take l.home l.self.modules.now)) + l.one-index
