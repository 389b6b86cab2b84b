use Rattle.std.proofs.Common.{◌≡◌, ◌≢◌, ◌∙◌, ℕ, ◌-◌, ◌≤◌, true, false, is_some, List, [], ◌∷◌, ◌++◌, length, map, take, take_all, rules, ap, sym, subst, arith}
use Rattle.std.proofs.lemmas.Grind.{common_steps}
use Rattle.std.proofs.lemmas.List.{length-map, nil_from_length}
use Rattle.std.proofs.lemmas.List.Elements.{All-more}
use Rattle.std.specs.List.{All}
use Rattle.oergen_layouts.specs.Preambles.{has_mark}
use Rattle.oergen_parse.specs.declared.refusal.Refusal.TheVariants.{OutOfMemory}
use Rattle.oergen_layouts.specs.Untagged.{ArePlaceable, HaveApartTags, HaveOwnPartTags, Unnamed, alternatives, in_place, part_tag, unnamed, unnamed_with}
use Rattle.oergen_layouts.specs.declared.definitions.Part.{Part}
use Rattle.oergen_layouts.proofs.Alternatives.{alternatives_more, alternatives_same, both_ok, has_tag, in_place_behind, own_more, tag_there, unnamed_more, unnamed_own}
use Rattle.oergen_layouts.proofs.Placeable.{IsPlaceableIn, alternatives_apart, apart_at, apart_back, extends_more, extends_same, last_apart, none_deep, own_apart, placeable_behind, placeable_each, placeable_made, placeable_none, placeable_of, placeable_row, placeable_some}
use Rattle.oergen_layouts.proofs.untagged.+untagged.Goals as goal
use Rattle.oergen_layouts.proofs.untagged.+untagged.Goals.{flat_choice-in-Some-row+in_ok-push_part, flat_choice-in_default-row}

pub flat_choice-loop-part-preserved : goal.flat_choice-loop-part-preserved
flat_choice-loop-part-preserved t c =
    let items = c.deref-part-items.result.now in
    let at = c.loop-part.part-index in
    let part = c.part-item.result in
    let all = c.args.all.now in
    let next = c.in-Some.levels in
    let mark = has_mark c.args.choice.now.of.now.body in
    let some : 1 ≤ c.args.levels = grind (arith, c.in-Some.ensures) in
    let less : c.in-Some.levels ≡ c.args.levels - 1 = grind (arith, c.in-Some.ensures) in
    elim c.match-part.branch [
      | flat_choice-in-Some-row+in_ok-push_part w ↦
          let row = w.in-Some-row.row in
          let more = alternatives_more c.args.levels c.in-Some.levels c.args.all.now items at part row some less c.loop-part-test.true c.part-item.is w.in-Some-row.is in
          let pushed = w.in_ok-push_part.ensures.in_place w.in-Some-row.is in
          rw w.flat-is (record {
            in_place = pushed ∙ (ap (λ (it : List Unnamed). it ++ in_place c.in-Some.levels c.args.all.now part row) c.loop-part.invariant.in_place ∙ sym more);
            tags = w.in_ok-push_part.ensures.tags w.in-Some-row.is c.loop-part.invariant.tags;
            extends = extends_more next all mark items at part row c.loop-part.flat.is_extensible w.push_part.new.flat.is_extensible c.loop-part-test.true c.part-item.is w.in-Some-row.is c.loop-part.invariant.extends (w.in_ok-push_part.ensures.extends w.in-Some-row.is);
            placeable = All-more (IsPlaceableIn next all) items at part c.loop-part-test.true c.loop-part.invariant.placeable (subst (IsPlaceableIn next all) c.part-item.is (placeable_of next all part row w.in-Some-row.is w.in_ok-push_part.ensures.placeable));
          })
      | flat_choice-in_default-row w ↦
          let same = alternatives_same c.args.levels c.in-Some.levels c.args.all.now items at part some less c.loop-part-test.true c.part-item.is w.in_default-row.is in
          rw w.flat-is (record {
            in_place = c.loop-part.invariant.in_place ∙ sym same;
            tags = c.loop-part.invariant.tags;
            extends = extends_same next all mark items at part c.loop-part.flat.is_extensible c.loop-part-test.true c.part-item.is w.in_default-row.is c.loop-part.invariant.extends;
            placeable = All-more (IsPlaceableIn next all) items at part c.loop-part-test.true c.loop-part.invariant.placeable (subst (IsPlaceableIn next all) c.part-item.is (placeable_none next all part w.in_default-row.is));
          })
    ]

pub push_part-returns-then-is_some-clause-tags : goal.push_part-returns-then-is_some-clause-tags
push_part-returns-then-is_some-clause-tags t c = λ has own.
    let part = c.in_ok-part.part in
    let old = c.args.flat.now.parts.items in
    let new = c.push_own.new.parts.items in
    let some : is_some c.args.row.tag ≡ true = search (rules, c.if-is_some.ensures) in
    let tagged : is_some (part_tag part) ≡ true = ap is_some (has_tag part c.args.part.now c.args.row c.args.row.tag c.in_ok-part.ensures has) ∙ some in
    both_ok c.push_own.result (new ≡ old ++ part ∷ []) (All (λ (it : Part). part_tag it ≢ part_tag part) old) (HaveOwnPartTags new) c.push_own.ensures.pushed c.push_own.ensures.own
    (λ pushed differ. subst HaveOwnPartTags (sym pushed) (own_more old part own tagged differ))

pub push_part-loop-one-preserved : goal.push_part-loop-one-preserved
push_part-loop-one-preserved t c =
    let items = c.deref-one-items.result.now in
    let at = c.loop-one.one-index in
    let one = c.one-item.result in
    let made = c.in_ok-one.one in
    let old = c.loop-one.flat.parts.items in
    let new = c.push_own-in-loop-one.new.parts.items in
    let same : unnamed made ≡ unnamed one = c.in_ok-one.ensures ∙ (ap (unnamed_with one) c.tag_of.ensures ∙ unnamed_own one) in
    let tagged = tag_there items c.in_ok-inner.inner.parts.items at one made c.deref-one-items.ensures.value c.in_ok-inner.ensures.tags c.loop-one-test.true c.one-item.is same in
    let pushed = c.in_ok-push_own.ensures.pushed in
    record {
      in_place = unnamed_more old new items (map unnamed c.args.flat.now.parts.items) at one made c.loop-one-test.true c.one-item.is pushed same c.loop-one.invariant.in_place;
      tags = λ has own. subst HaveOwnPartTags (sym pushed) (own_more old made (c.loop-one.invariant.tags has own) tagged c.in_ok-push_own.ensures.own);
      extends = c.loop-one.invariant.extends;
    }

pub push_part-returns-then-is_some-clause-refused : goal.push_part-returns-then-is_some-clause-refused
push_part-returns-then-is_some-clause-refused t c = λ has placeable apart.
    let some : is_some c.args.row.tag ≡ true = search (rules, c.if-is_some.ensures) in
    c.push_own.ensures.refused (own_apart c.args.levels c.args.all.now c.args.flat.now.parts.items c.args.part.now c.in_ok-part.part c.args.row has some c.in_ok-part.ensures apart)

pub push_part-returns-in_err-inner-clause-refused : goal.push_part-returns-in_err-inner-clause-refused
push_part-returns-in_err-inner-clause-refused t c = λ has placeable apart.
    let all = c.args.all.now in
    let part = c.args.part.now in
    let row = c.args.row in
    let choice = c.in_ok-choice.choice.now in
    let none : is_some row.tag ≡ false = search (rules, c.if-is_some.ensures) in
    let place = in_place_behind c.args.levels all part row choice none c.in_ok-choice.ensures.found in
    let inner = subst HaveApartTags place (apart_back (map unnamed c.args.flat.now.parts.items) (in_place c.args.levels all part row) apart) in
    let memory : c.in_err-inner.field-0.0 ≡ OutOfMemory = c.in_err-inner.ensures.refused (placeable_behind c.args.levels all part row choice none c.in_ok-choice.ensures.found placeable) inner in
    search rules

pub push_part-returns-in_err-push_own-clause-refused : goal.push_part-returns-in_err-push_own-clause-refused
push_part-returns-in_err-push_own-clause-refused t c = λ has placeable apart.
    let all = c.args.all.now in
    let part = c.args.part.now in
    let row = c.args.row in
    let choice = c.in_ok-choice.choice.now in
    let front = map unnamed c.args.flat.now.parts.items in
    let items = c.deref-one-items.result.now in
    let at = c.loop-one.one-index in
    let one = c.one-item.result in
    let made = c.in_ok-one.one in
    let none : is_some row.tag ≡ false = search (rules, c.if-is_some.ensures) in
    let place = in_place_behind c.args.levels all part row choice none c.in_ok-choice.ensures.found ∙ (sym c.in_ok-inner.ensures.alternatives ∙ ap (λ (it : List Part). map unnamed it) (sym c.deref-one-items.ensures.value)) in
    let same : unnamed one ≡ unnamed made = sym (c.in_ok-one.ensures ∙ (ap (unnamed_with one) c.tag_of.ensures ∙ unnamed_own one)) in
    let so_far = apart_at front items at one c.loop-one-test.true c.one-item.is (subst (λ (it : List Unnamed). HaveApartTags (front ++ it)) place apart) in
    let with_made = subst (λ (it : Unnamed). HaveApartTags ((front ++ map unnamed (take at items)) ++ it ∷ [])) same so_far in
    let differ = last_apart c.loop-one.flat.parts.items made (subst (λ (it : List Unnamed). HaveApartTags (it ++ unnamed made ∷ [])) (sym c.loop-one.invariant.in_place) with_made) in
    let memory : c.in_err-push_own.field-0.0 ≡ OutOfMemory = c.in_err-push_own.ensures.refused differ in
    search rules

pub flat_choice-returns-in_err-push_part-clause-refused : goal.flat_choice-returns-in_err-push_part-clause-refused
flat_choice-returns-in_err-push_part-clause-refused t c = λ are apart.
    let all = c.args.all.now in
    let next = c.in-Some.levels in
    let items = c.deref-part-items.result.now in
    let at = c.loop-part.part-index in
    let part = c.part-item.result in
    let row = c.in-Some-row.row in
    let some : 1 ≤ c.args.levels = grind (arith, c.in-Some.ensures) in
    let less : next ≡ c.args.levels - 1 = grind (arith, c.in-Some.ensures) in
    let whole = c.deref-part-items.ensures.value in
    let each = placeable_each c.args.levels next all items some less (subst (ArePlaceable c.args.levels all) (sym whole) are) in
    let placeable = placeable_row next all part row c.in-Some-row.is (subst (IsPlaceableIn next all) (sym c.part-item.is) (each at part c.loop-part-test.true)) in
    let so_far = alternatives_apart c.args.levels next all items at part row some less c.loop-part-test.true c.part-item.is c.in-Some-row.is (subst (λ (it : List Part). HaveApartTags (alternatives c.args.levels all it)) (sym whole) apart) in
    let memory : c.in_err-push_part.field-0.0 ≡ OutOfMemory = c.in_err-push_part.ensures.refused c.in-Some-row.is placeable (subst (λ (it : List Unnamed). HaveApartTags (it ++ in_place next all part row)) (sym c.loop-part.invariant.in_place) so_far) in
    search rules

pub flat_choice-returns-in_default-clause-refused : goal.flat_choice-returns-in_default-clause-refused
flat_choice-returns-in_default-clause-refused t c = λ are apart.
    let none : c.args.levels ≡ 0 = grind (arith, c.in_default.ensures) in
    let all = c.args.all.now in
    let parts = c.args.choice.now.parts.items in
    absurd (none_deep all parts (subst (λ (it : ℕ). ArePlaceable it all parts) none are))

pub flat_choice-returns-then-is_empty-clause-refused : goal.flat_choice-returns-then-is_empty-clause-refused
flat_choice-returns-then-is_empty-clause-refused t c = λ are apart.
    let all = c.args.all.now in
    let parts = c.args.choice.now.parts.items in
    let items = c.deref-part-items.result.now in
    let empty : c.loop-part.flat.parts.items ≡ [] = nil_from_length c.loop-part.flat.parts.items (grind (arith, common_steps, c.is_empty.ensures)) in
    let whole : take c.loop-part.part-index items ≡ parts = take_all c.loop-part.part-index items c.loop-part-test.false ∙ c.deref-part-items.ensures.value in
    let none : alternatives c.args.levels all parts ≡ [] = sym (c.loop-part.invariant.in_place ∙ ap (alternatives c.args.levels all) whole) ∙ ap (map unnamed) empty in
    absurd (placeable_some c.args.levels all parts are none)

pub flat_choice-returns-clause-placeable : goal.flat_choice-returns-clause-placeable
flat_choice-returns-clause-placeable t c =
    let all = c.args.all.now in
    let next = c.in-Some.levels in
    let parts = c.args.choice.now.parts.items in
    let items = c.deref-part-items.result.now in
    let some : 1 ≤ c.args.levels = grind (arith, c.in-Some.ensures) in
    let less : next ≡ c.args.levels - 1 = grind (arith, c.in-Some.ensures) in
    let whole : take c.loop-part.part-index items ≡ parts = take_all c.loop-part.part-index items c.loop-part-test.false ∙ c.deref-part-items.ensures.value in
    let made : map unnamed c.loop-part.flat.parts.items ≡ alternatives c.args.levels all parts = c.loop-part.invariant.in_place ∙ ap (alternatives c.args.levels all) whole in
    placeable_made c.args.levels next all parts some less
    (λ none. let empty = ap length (made ∙ none) in grind (arith, common_steps, length-map, c.is_empty.ensures))
    (subst (All (IsPlaceableIn next all)) whole c.loop-part.invariant.placeable)
