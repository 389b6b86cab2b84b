use Rattle.std.proofs.Common.{◌<◌, length}
use Rattle.oergen_layouts.proofs.scope.Scope.module_at.Given as goal

abbrev pub invariant-loop-at : goal.invariant-loop-at
invariant-loop-at l = 0 < length l.self.modules.now → l.home < length l.self.modules.now
