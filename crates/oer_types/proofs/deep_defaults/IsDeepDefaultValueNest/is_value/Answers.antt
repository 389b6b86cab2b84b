use Rattle.std.proofs.Common.{◌≡◌, ℕ, zero, ◌-◌, ap, sym, ◌∙◌, arith}
use Rattle.oer_types.specs.DeepDefaults.{deep_nest}
use Rattle.oer_types.specs.SameNests.{nest_eq}
use Rattle.oer_types.proofs.DeepNests.{ends}
use Rattle.oer_types.proofs.deep_defaults.IsDeepDefaultValueNest.is_value.Goals as goal

pub returns : goal.returns
returns c =
    let done : 127 - c.loop.counter ≡ zero = omega (arith, c.loop.auto.counter-end) in
    c.is_empty.ensures ∙ sym (c.loop.invariant ∙ ap (λ (n : ℕ). nest_eq c.loop.nest.now (deep_nest n)) done ∙ ends c.loop.nest.now)
