use Rattle.std.proofs.Common.{◌≡◌, ◌∙◌, List, length, take, take_all, refl, ap, arith}
use Rattle.std.proofs.lemmas.Grind.{common_steps}
use Rattle.oergen_parse.specs.declared.ast.Module.{Module}
use Rattle.oergen_layouts.specs.Definitions.{assigned}
use Rattle.oergen_layouts.proofs.Defining.{count_more}
use Rattle.oergen_layouts.proofs.scope.Scope.types_before.Goals as goal

pub loop-one-init : goal.loop-one-init
loop-one-init c = λ few. refl

pub loop-one-preserved : goal.loop-one-preserved
loop-one-preserved c = λ few.
    let items : c.unwrap_or-one-items.result.now ≡ take c.args.module c.args.self.now.modules.now = grind (arith, common_steps, c.unwrap_or-one-items.ensures, c.get.ensures.lookup) in
    c.saturating_add-count.ensures ∙ count_more c.unwrap_or-one-items.result.now c.args.self.now.modules.now c.loop-one.one-index c.args.module c.loop-one.count c.len.result c.one-item.result items c.loop-one-test.true c.one-item.is few (c.loop-one.invariant few) (c.len.ensures ∙ c.one-item.result.types.ok.0)

pub returns : goal.returns
returns c = λ few.
    let items : c.unwrap_or-one-items.result.now ≡ take c.args.module c.args.self.now.modules.now = grind (arith, common_steps, c.unwrap_or-one-items.ensures, c.get.ensures.lookup) in
    let all : take c.loop-one.one-index c.unwrap_or-one-items.result.now ≡ c.unwrap_or-one-items.result.now = take_all _ _ (omega (arith, c.loop-one-test.false)) in
    c.loop-one.invariant few ∙ ap (λ (it : List Module). length (assigned it)) (all ∙ items)
