use Rattle.std.proofs.Common.{◌≡◌}
use Rattle.oer_types.specs.DeepDefaults.{deep_nest}
use Rattle.oer_types.proofs.components.DeepDefault.default_n.Given as goal

abbrev pub invariant-loop : goal.invariant-loop
invariant-loop l = l.nest ≡ deep_nest l.counter
