use Rattle.std.proofs.Common.{◌≡◌, ◌<◌, Some, List, length, get_or, subst, arith}
use Rattle.std.proofs.lemmas.Grind.{common_steps}
use Rattle.std.proofs.lemmas.Option.{gets}
use Rattle.std.specs.List.{slice_get}
use Rattle.oergen_parse.specs.declared.ast.TypeAssignment.{TypeAssignment}
use Rattle.oergen_layouts.specs.Definitions.{assigned}
use Rattle.oergen_layouts.proofs.Defining.{found_at, found_below, leads}
use Rattle.oergen_layouts.proofs.scope.Scope.find_type.Goals as goal

pub returns-then-eq : goal.returns-then-eq
returns-then-eq c = λ few.
    let modules = c.args.self.now.modules.now in
    let home = c.in-Some.module.now in
    let types = c.deref-one-items.ensures.value in
    let is : slice_get modules c.in_ok-home.home ≡ Some home = grind (arith, common_steps, gets, c.in-Some.ensures.lookup) in
    let below : c.loop-one.one-index < length home.types.items = subst (λ (it : List TypeAssignment). c.loop-one.one-index < length it) types c.loop-one-test.true in
    let own : c.one-item.result ≡ get_or home.types.items c.loop-one.one-index c.one-item.result = subst (λ (it : List TypeAssignment). c.one-item.result ≡ get_or it c.loop-one.one-index c.one-item.result) types c.one-item.is in
    leads (assigned modules) c.loop-one.index c.in_ok-home.home c.one-item.result.of (found_at c.in_ok-home.home c.loop-one.one-index c.loop-one.index modules home c.one-item.result is below own (c.loop-one.invariant few))

pub loop-one-preserved : goal.loop-one-preserved
loop-one-preserved c = λ few.
    let modules = c.args.self.now.modules.now in
    let home = c.in-Some.module.now in
    let types = c.deref-one-items.ensures.value in
    let is : slice_get modules c.in_ok-home.home ≡ Some home = grind (arith, common_steps, gets, c.in-Some.ensures.lookup) in
    let below : c.loop-one.one-index < length home.types.items = subst (λ (it : List TypeAssignment). c.loop-one.one-index < length it) types c.loop-one-test.true in
    let own : c.one-item.result ≡ get_or home.types.items c.loop-one.one-index c.one-item.result = subst (λ (it : List TypeAssignment). c.one-item.result ≡ get_or it c.loop-one.one-index c.one-item.result) types c.one-item.is in
    let found = found_at c.in_ok-home.home c.loop-one.one-index c.loop-one.index modules home c.one-item.result is below own (c.loop-one.invariant few) in
    let within = found_below (assigned modules) c.loop-one.index (c.in_ok-home.home, c.one-item.result.of) found in
    let so_far = c.loop-one.invariant few in
    omega (arith, c.saturating_add-index.ensures, few, within, so_far)
