use Rattle.std.proofs.Common.{ℕ, ◌+◌, ◌-◌, List, Ok, Err, false, refl, sym, ap, subst, ◌∙◌, arith}
use Rattle.std.specs.Borrow.{Bor}
use Rattle.oer_leaf_read.specs.Views.{bits_left}
use Rattle.oer_walk.specs.Tables.{nothing}
use Rattle.oer_walk.specs.Walks.{IsWalk, inside, node_of, is_leaf, leaf_at, scope_by, part_at}
use Rattle.oer_walk.specs.declared.table.Form.{Form}
use Rattle.oer_walk.proofs.Loops.{at_end, residual, bits_are, bits_gone, element_step, element_full, element_cut, elements_end, component_step, component_cut, components_end, addition_step, addition_cut, additions_last, unknown_step, unknown_cut, unknown_end, body_extended}
use Rattle.oer_walk.proofs.Steps.{leaf_walked, leaf_refused, too_deep, scope_walked, part_walked, part_cut}
use Rattle.oer_walk.proofs.walks.+walks.Goals as goal

pub walk_body-returns-then-is_extended : goal.walk_body-returns-then-is_extended
walk_body-returns-then-is_extended t c =
    body_extended (part_at c.args.table.words.now c.args.levels) c.args.table.words.now c.args.parts c.args.scope c.walk_components.result c.walk_additions.result c.in_ok-rest.rest (bits_left c.args.bits) (bits_left c.split_extension-is_extended.result.1) _ _ _ _ _ _ c.args.rest.now
    c.split_extension-is_extended.ensures.rest (sym c.split_extension-is_extended.ensures.first ∙ c.if-is_extended.true) c.in_ok-rest.was c.walk_components.ensures c.walk_additions.ensures

pub walk_components-returns-in_err-rest : goal.walk_components-returns-in_err-rest
walk_components-returns-in_err-rest t c =
    component_cut (part_at c.args.table.words.now c.args.levels) c.args.table.words.now c.args.parts c.args.scope c.walk_if.result c.from_residual.result c.in_err-rest.field-0.0 c.inside-place.result c.presence-is_there.result.0 c.component-component.result _ c.args.parts.roots c.loop-index.index _ _ (bits_left c.loop-index.bits) c.loop-index.rest.now _ _ _ _
    c.loop-index.invariant (omega arith) c.component-component.ensures c.presence-is_there.ensures.first c.inside-place.ensures c.in_err-rest.was (residual c.from_residual.result c.in_err-rest.field-0.0 c.from_residual.ensures.1) c.walk_if.ensures

pub walk_components-loop-index-preserved : goal.walk_components-loop-index-preserved
walk_components-loop-index-preserved t c =
    component_step (part_at c.args.table.words.now c.args.levels) c.args.table.words.now c.args.parts c.args.scope c.walk_if.result c.in_ok-rest.rest c.inside-place.result c.presence-is_there.result.0 (bits_left c.presence-is_there.result.1) c.component-component.result _ c.args.parts.roots c.loop-index.index _ _ (bits_left c.loop-index.bits) c.loop-index.rest.now _ _ _ _
    c.loop-index.invariant (omega arith) c.component-component.ensures c.presence-is_there.ensures.first c.presence-is_there.ensures.rest c.inside-place.ensures c.in_ok-rest.was c.walk_if.ensures

pub walk_components-returns : goal.walk_components-returns
walk_components-returns t c = at_end c.loop-index.rest _ _ _ _ _ _ c.loop-index.invariant (components_end (part_at c.args.table.words.now c.args.levels) c.args.table.words.now c.args.parts c.args.scope c.args.parts.roots c.loop-index.index (bits_left c.loop-index.bits) c.loop-index.count c.loop-index.rest.now (omega arith))

pub walk_elements-returns-in_err-after : goal.walk_elements-returns-in_err-after
walk_elements-returns-in_err-after t c =
    element_cut (part_at c.args.table.words.now c.args.levels) c.args.scope (inside c.args.scope c.args.element nothing false) c.walk_part.result c.from_residual.result c.in_err-after.field-0.0 c.inside-place.result _ c.args.quantity c.loop-index._index c.loop-index.empty _ _ c.loop-index.rest.now _ _ _ _
    c.loop-index.invariant (omega arith) c.inside-place.ensures c.in_err-after.was (residual c.from_residual.result c.in_err-after.field-0.0 c.from_residual.ensures.1) c.walk_part.ensures

pub walk_elements-returns-in-None : goal.walk_elements-returns-in-None
walk_elements-returns-in-None t c =
    element_full (part_at c.args.table.words.now c.args.levels) c.args.scope (inside c.args.scope c.args.element nothing false) c.walk_part.result c.in_ok-after.after c.inside-place.result c.stop.result _ c.args.quantity c.loop-index._index c.loop-index.empty _ _ c.loop-index.rest.now _ _ _ _
    c.loop-index.invariant (omega arith) c.inside-place.ensures (sym c.with_empty.ensures ∙ c.in-None.is) c.stop.ensures c.in_ok-after.was c.walk_part.ensures

pub walk_elements-loop-index-preserved : goal.walk_elements-loop-index-preserved
walk_elements-loop-index-preserved t c =
    element_step (part_at c.args.table.words.now c.args.levels) c.args.scope (inside c.args.scope c.args.element nothing false) c.walk_part.result c.in_ok-after.after c.inside-place.result _ c.args.quantity c.loop-index._index c.loop-index.empty c.in-Some.more _ _ c.loop-index.rest.now _ _ _ _
    c.loop-index.invariant (omega arith) c.inside-place.ensures (sym c.with_empty.ensures ∙ c.in-Some.is) c.in_ok-after.was c.walk_part.ensures

pub walk_elements-returns : goal.walk_elements-returns
walk_elements-returns t c = at_end c.loop-index.rest _ _ _ _ _ _ c.loop-index.invariant (elements_end (part_at c.args.table.words.now c.args.levels) c.args.scope (inside c.args.scope c.args.element nothing false) c.args.quantity c.loop-index._index c.loop-index.empty c.loop-index.count c.loop-index.rest.now (omega arith))

pub walk_known-returns-in_err-rest : goal.walk_known-returns-in_err-rest
walk_known-returns-in_err-rest t c =
    addition_cut (part_at c.args.table.words.now c.args.levels) c.args.table.words.now c.args.parts c.args.scope c.walk_if.result c.from_residual.result c.in_err-rest.field-0.0 c.inside-place.result c.next_bit-bit.result.0 c.component-component.result _ c.args.parts.additions c.loop-index.index _ _ (bits_left c.loop-index.bits) c.loop-index.rest.now _ _ _ _
    c.loop-index.invariant (omega arith) c.component-component.ensures c.next_bit-bit.ensures.first c.inside-place.ensures c.in_err-rest.was (residual c.from_residual.result c.in_err-rest.field-0.0 c.from_residual.ensures.1) c.walk_if.ensures

pub walk_known-loop-index-preserved : goal.walk_known-loop-index-preserved
walk_known-loop-index-preserved t c =
    addition_step (part_at c.args.table.words.now c.args.levels) c.args.table.words.now c.args.parts c.args.scope c.walk_if.result c.in_ok-rest.rest c.inside-place.result c.next_bit-bit.result.0 (bits_left c.next_bit-bit.result.1) c.component-component.result _ c.args.parts.additions c.loop-index.index _ _ (bits_left c.loop-index.bits) c.loop-index.rest.now _ _ _ _
    c.loop-index.invariant (omega arith) c.component-component.ensures c.next_bit-bit.ensures.first c.next_bit-bit.ensures.rest c.inside-place.ensures c.in_ok-rest.was c.walk_if.ensures

pub walk_known-returns : goal.walk_known-returns
walk_known-returns t c =
    additions_last (part_at c.args.table.words.now c.args.levels) c.args.table.words.now c.args.parts c.args.scope c.walk_unknown.result _ c.args.parts.additions c.loop-index.index _ _ (bits_left c.loop-index.bits) c.loop-index.rest.now _ _ _ _
    c.loop-index.invariant (omega arith) c.walk_unknown.ensures

pub walk_part-returns-in-Ok : goal.walk_part-returns-in-Ok
walk_part-returns-in-Ok t c =
    part_walked c.args.table.words.now c.args.levels (λ x. (x.content, x.end, x.after.now)) (λ (x : Bor (List ℕ)). x.now) c.walk_within.result c.in-Ok.extent c.in-Ok.extent.after c.args.place c.args.count.now _ (c.args.count.now + 1 - 1) _ _ _ c.args.rest.now c.whole_node.result
    (omega arith) (omega arith) c.in-Ok.is refl (c.whole_node.ensures c.in-Ok.extent.after.now ∙ ap (λ (z : ℕ). node_of c.args.table.words.now c.args.place z (Ok (c.in-Ok.extent.content, c.in-Ok.extent.end, c.in-Ok.extent.after.now))) c.saturating_sub-start.ensures) c.put.ensures c.walk_within.ensures

pub walk_part-returns-in-Err : goal.walk_part-returns-in-Err
walk_part-returns-in-Err t c =
    part_cut c.args.table.words.now c.args.levels (λ x. (x.content, x.end, x.after.now)) (λ (x : Bor (List ℕ)). x.now) c.walk_within.result c.in-Err.stop c.args.place c.args.count.now _ (c.args.count.now + 1 - 1) _ _ _ c.args.rest.now c.cut_node.result
    (omega arith) (omega arith) c.in-Err.is (c.cut_node.ensures c.in-Err.stop ∙ ap (λ (z : ℕ). node_of c.args.table.words.now c.args.place z (Err c.in-Err.stop)) c.saturating_sub-start.ensures) c.put-in-Err.ensures c.walk_within.ensures

pub walk_unknown-returns-in_err-rest : goal.walk_unknown-returns-in_err-rest
walk_unknown-returns-in_err-rest t c =
    unknown_cut (part_at c.args.table.words.now c.args.levels) c.args.scope c.walk_if.result c.from_residual.result c.in_err-rest.field-0.0 c.inside-place.result c.in-Some.bit (bits_left c.in-Some.later) (bits_left c.loop-bit.bits) _ _ _ c.loop-bit.rest.now _ _ _ _
    c.loop-bit.invariant (bits_are (bits_left c.loop-bit.bits) (bits_left c.in-Some.later) c.in-Some.bit c.in-Some.ensures) c.inside-place.ensures c.in_err-rest.was (residual c.from_residual.result c.in_err-rest.field-0.0 c.from_residual.ensures.1) c.walk_if.ensures

pub walk_unknown-loop-bit-preserved : goal.walk_unknown-loop-bit-preserved
walk_unknown-loop-bit-preserved t c =
    unknown_step (part_at c.args.table.words.now c.args.levels) c.args.scope c.walk_if.result c.in_ok-rest.rest c.inside-place.result c.in-Some.bit (bits_left c.in-Some.later) (bits_left c.loop-bit.bits) _ _ _ c.loop-bit.rest.now _ _ _ _
    c.loop-bit.invariant (bits_are (bits_left c.loop-bit.bits) (bits_left c.in-Some.later) c.in-Some.bit c.in-Some.ensures) c.inside-place.ensures c.in_ok-rest.was c.walk_if.ensures

pub walk_unknown-returns : goal.walk_unknown-returns
walk_unknown-returns t c = at_end c.loop-bit.rest _ _ _ _ _ _ c.loop-bit.invariant (unknown_end (part_at c.args.table.words.now c.args.levels) c.args.scope (bits_left c.loop-bit.bits) c.loop-bit.count c.loop-bit.rest.now (bits_gone (bits_left c.loop-bit.bits) c.in_default.ensures))

pub walk_value-returns-in-Ok : goal.walk_value-returns-in-Ok
walk_value-returns-in-Ok t c =
    leaf_walked c.args.table.words.now c.args.levels (λ (x : ℕ × Bor (List ℕ)). (x.0, x.1.now)) (c.saturating_sub.result, c.in-Ok.after) c.args.scope c.args.count.now c.args.room.now c.args.rest.now (c.in-Ok.behind.now, c.in-Ok.after.now)
    (ap is_leaf (sym c.form_of-form.ensures) ∙ sym c.is_leaf.ensures ∙ c.if-is_leaf.true) (ap (λ (z : Form). leaf_at z c.args.rest.now) (sym c.form_of-form.ensures) ∙ c.in-Ok.ensures) (ap (λ (z : ℕ). (z, c.in-Ok.after.now)) c.saturating_sub.ensures)

pub walk_value-returns-in-Err : goal.walk_value-returns-in-Err
walk_value-returns-in-Err t c =
    leaf_refused c.args.table.words.now c.args.levels (λ (x : ℕ × Bor (List ℕ)). (x.0, x.1.now)) c.stop.result c.args.scope c.args.count.now c.args.room.now c.args.rest.now c.in-Err.kind
    (ap is_leaf (sym c.form_of-form.ensures) ∙ sym c.is_leaf.ensures ∙ c.if-is_leaf.true) (ap (λ (z : Form). leaf_at z c.args.rest.now) (sym c.form_of-form.ensures) ∙ c.in-Err.ensures) c.stop.ensures

pub walk_value-returns-then-levels-eq0 : goal.walk_value-returns-then-levels-eq0
walk_value-returns-then-levels-eq0 t c =
    too_deep c.args.table.words.now c.args.levels (λ (x : ℕ × Bor (List ℕ)). (x.0, x.1.now)) c.stop-then-levels-eq0.result c.args.scope c.args.count.now c.args.room.now c.args.rest.now
    (ap is_leaf (sym c.form_of-form.ensures) ∙ sym c.is_leaf.ensures ∙ c.if-is_leaf.false) c.if-levels-eq0.true c.stop-then-levels-eq0.ensures

pub walk_value-returns : goal.walk_value-returns
walk_value-returns t c =
    scope_walked c.args.table.words.now c.args.levels (λ (x : ℕ × Bor (List ℕ)). (x.0, x.1.now)) c.walk_scope.result (c.args.levels - 1) c.args.scope c.args.count.now _ c.args.room.now _ c.args.rest.now
    (ap is_leaf (sym c.form_of-form.ensures) ∙ sym c.is_leaf.ensures ∙ c.if-is_leaf.false) (omega arith)
    (subst (λ (z : Form). IsWalk (λ (x : ℕ × Bor (List ℕ)). (x.0, x.1.now)) c.walk_scope.result c.args.count.now c.walk_scope.new.count c.args.room.now c.walk_scope.new.room (scope_by (part_at c.args.table.words.now (c.args.levels - 1)) c.args.table.words.now z c.args.scope c.args.count.now c.args.rest.now)) c.form_of-form.ensures c.walk_scope.ensures)
