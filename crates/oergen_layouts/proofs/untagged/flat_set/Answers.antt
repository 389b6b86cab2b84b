use Rattle.std.proofs.Common.{◌≡◌, ◌∙◌, ◌++◌, List, ap, rules, sym, subst}
use Rattle.std.proofs.lemmas.List.Elements.{All-more}
use Rattle.std.specs.List.{All, flat_map}
use Rattle.oergen_parse.specs.declared.refusal.Refusal.TheVariants.{OutOfMemory}
use Rattle.oergen_layouts.specs.Untagged.{CanBeInSet, HaveApartTags, IsInSet, Unnamed, root_place}
use Rattle.oergen_layouts.specs.declared.definitions.Part.{Part}
use Rattle.oergen_layouts.proofs.Alternatives.{parts_more}
use Rattle.oergen_layouts.proofs.Placeable.{apart_next}
use Rattle.oergen_layouts.proofs.Placing.{zip_step}
use Rattle.oergen_layouts.proofs.untagged.flat_set.Goals as goal

pub loop-part-preserved : goal.loop-part-preserved
loop-part-preserved c =
    let all = c.args.all.now in
    let items = c.deref-part-items.result.now in
    let at = c.loop-part.part-index in
    let part = c.part-item.result in
    let more = parts_more (root_place all) items at part c.loop-part-test.true c.part-item.is in
    record {
      each = zip_step (IsInSet all) items c.loop-part.parts.items c.push.new.self.items at part c.in_ok-in_set.field-0 c.loop-part-test.true c.part-item.is c.loop-part.invariant.each c.in_ok-in_set.ensures.made c.in_ok-push.ensures.items;
      are_places = c.in_ok-in_set.ensures.place ∙ (ap (λ (it : List Unnamed). it ++ root_place all part) c.loop-part.invariant.are_places ∙ sym more);
      are_own = c.in_ok-in_set.ensures.tags c.loop-part.invariant.are_own;
      countable = All-more (CanBeInSet all) items at part c.loop-part-test.true c.loop-part.invariant.countable (subst (CanBeInSet all) c.part-item.is c.in_ok-in_set.ensures.countable);
    }

pub returns-in_err-in_set-clause-refused : goal.returns-in_err-in_set-clause-refused
returns-in_err-in_set-clause-refused c = λ each apart.
    let all = c.args.all.now in
    let items = c.deref-part-items.result.now in
    let at = c.loop-part.part-index in
    let part = c.part-item.result in
    let whole : items ≡ c.args.set.now.parts.items = c.deref-part-items.ensures.value in
    let can = subst (CanBeInSet all) (sym c.part-item.is) (subst (All (CanBeInSet all)) (sym whole) each at part c.loop-part-test.true) in
    let tags = apart_next (root_place all) items at part c.loop-part-test.true c.part-item.is (subst (λ (it : List Part). HaveApartTags (flat_map (root_place all) it)) (sym whole) apart) in
    let memory : c.in_err-in_set.field-0.0 ≡ OutOfMemory = c.in_err-in_set.ensures.refused can (subst (λ (it : List Unnamed). HaveApartTags (it ++ root_place all part)) (sym c.loop-part.invariant.are_places) tags) in
    search rules
