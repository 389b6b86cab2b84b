use Rattle.std.proofs.Common.{◌≡◌, ◌-◌}
use Rattle.oer_types.specs.DeepDefaults.{deep_nest}
use Rattle.oer_types.specs.SameNests.{nest_eq}
use Rattle.oer_types.proofs.deep_defaults.IsDeepDefaultValueNest.is_value.Given as goal

abbrev pub invariant-loop : goal.invariant-loop
invariant-loop l = nest_eq l.fn.other (deep_nest 127) ≡ nest_eq l.nest (deep_nest (127 - l.counter))
