use Rattle.std.proofs.Common.{◌≡◌, ◌∙◌, ◌++◌, ◌+◌, ◌<◌, ◌^◌, None, List, length, get_or, map, sym, ap, subst, arith}
use Rattle.std.proofs.lemmas.List.{flat_map_more, length-append, length-map, length_push}
use Rattle.std.proofs.lemmas.List.Elements.{All-push}
use Rattle.std.specs.List.{All, flat_map}
use Rattle.oergen_layouts.specs.Definitions.{Written, assigned, defined, inside, waits}
use Rattle.oergen_layouts.specs.declared.definitions.Definition.{Definition}
use Rattle.oergen_layouts.specs.declared.definitions.Pending.{Pending}
use Rattle.oergen_layouts.proofs.Defining.{all_defined_next, defined_next, waits_at}
use Rattle.oergen_layouts.proofs.definitions.definitions.Goals as goal

pub loop-at-preserved : goal.loop-at-preserved
loop-at-preserved c =
    let modules = c.args.scope.modules.now in
    let before = c.loop-at.invariant in
    let all = c.loop-at.all.items in
    let waiting = map waits c.loop-at.pending.items in
    let one = c.in_ok-define.field-0 in
    let made = c.in_ok-define.ensures in
    let pushed = c.in_ok-push.ensures.items in
    let items = c.loop-at.pending.items in
    let at = c.loop-at.at in
    let next = c.in-Some.next.now in
    let read = c.deref.ensures.value in
    let lookup = c.in-Some.ensures.lookup in
    let there : at < length items = subst (λ (it : List Pending). at < length it) read lookup.3.0 in
    let is : next ≡ get_or items at next = subst (λ (it : List Pending). next ≡ get_or it at next) read lookup.1 in
    let size = length-map items waits in
    let whole = ap length before.are_waiting ∙ length-append (assigned modules) (flat_map inside all) in
    let most : length items < 2 ^ 64 = subst (λ (it : List Pending). length it < 2 ^ 64) read c.deref.type_inv.0 in
    let few : length (assigned modules) < 2 ^ 64 = omega (arith, size, whole, most) in
    let below : at < length waiting = omega (arith, size, there) in
    let own : defined one ≡ get_or waiting at (defined one) = waits_at items at next (defined one) there is (made.same ∙ c.in_ok-next.ensures) in
    record {
      count = ap length pushed ∙ length_push all one ∙ ap (λ k. k + 1) before.count;
      are_defined = defined_next waiting _ (inside one) all _ one at before.count below own made.waits pushed before.are_defined;
      are_waiting = made.waits ∙ ap (λ (it : List Written). it ++ inside one) before.are_waiting ∙ flat_map_more inside (assigned modules) all one ∙ ap (λ (it : List Definition). assigned modules ++ flat_map inside it) (sym pushed);
      have_parts = all_defined_next _ waiting _ (inside one) all _ one made.waits pushed before.have_parts (made.parts few);
      have_none = λ none. subst (All (λ (it : Definition). it.fault ≡ None)) (sym pushed) (All-push (λ (it : Definition). it.fault ≡ None) all one (before.have_none none) (made.none none));
    }
