use Rattle.std.proofs.Common.{◌∙◌, ◌++◌, List, take, take_all, sym, ap}
use Rattle.oergen_layouts.specs.Definitions.{Written, assigned, assigned_by}
use Rattle.oergen_layouts.proofs.Defining.{assigned_next}
use Rattle.oergen_layouts.proofs.definitions.assignments.Goals as goal

pub loop-module-preserved : goal.loop-module-preserved
loop-module-preserved c =
    let modules = c.args.scope.modules.now in
    let at = c.loop-module.module in
    let own = ap (assigned_by at) c.as_slice.ensures.value in
    c.in_ok-push_assignments.ensures ∙ ap (λ (it : List Written). it ++ assigned_by at c.as_slice.result.now) c.loop-module.invariant ∙ ap (λ (it : List Written). assigned (take at modules) ++ it) own ∙ sym (assigned_next at modules c.one-item.result c.loop-module-test.true c.one-item.is)

pub returns : goal.returns
returns c = c.loop-module.invariant ∙ ap assigned (take_all _ _ c.loop-module-test.false)
