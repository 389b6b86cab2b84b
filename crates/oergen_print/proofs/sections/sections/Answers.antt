use Rattle.std.proofs.Common.{◌≡◌, ◌<◌, ◌∙◌, ◌++◌, List, [], ◌∷◌, length, get_or, map, sym, ap, subst}
use Rattle.std.proofs.lemmas.List.{map_push, take_all, take_more}
use Rattle.std.proofs.lemmas.List.Elements.{All-get_or, All-push}
use Rattle.std.proofs.lemmas.List.Folds.{flat_map-map}
use Rattle.std.specs.List.{All, flat_map}
use Rattle.oergen_print.specs.Sections.{AreNumbered, IsCutOf, IsNamed, IsSectionOf, crate_count, cuts_of, numbers, of_cut}
use Rattle.oergen_print.specs.declared.sections.Cut.{Cut}
use Rattle.oergen_print.specs.declared.sections.Section.{Section}
use Rattle.oergen_print.proofs.sections.sections.Goals as goal

pub loop-cut-preserved : goal.loop-cut-preserved
loop-cut-preserved c =
    let types = c.args.types.now in
    let cuts = c.deref-cut-items.result.now in
    let at = c.loop-cut.cut-index in
    let all = c.loop-cut.all.items in
    let before = c.loop-cut.invariant in
    let none : Cut = record { library = 0; «module» = 0; from = 0; to = 0 } in
    let one = c.in_ok-section_of.field-0 in
    let own : one.cut ≡ get_or cuts at none = c.in_ok-section_of.ensures.cut in
    let items = c.in_ok-push.ensures.items in
    let below : at < length cuts = c.loop-cut-test.true in
    let are : All (IsCutOf types) cuts = subst (All (IsCutOf types)) (sym c.deref-cut-items.ensures.value) c.in_ok-cuts.ensures.within in
    let is : IsSectionOf types one = subst (IsCutOf types) (sym own) (All-get_or (IsCutOf types) cuts at none below are) in
    let named = IsNamed c.args.name.now c.count_of-count.result in
    record {
      cuts = ap cuts_of items ∙ map_push (λ section. section.cut) all one ∙ (λ i. before.cuts i ++ own i ∷ []) ∙ sym (take_more cuts at none below);
      within = subst (All (IsSectionOf types)) (sym {A = List Section} items) (All-push (IsSectionOf types) all one before.within is);
      named = subst (All named) (sym {A = List Section} items) (All-push named all one before.named c.in_ok-section_of.ensures.named);
    }

-- the places of the sections are the cuts
whole : (c : goal.After-drop-cuts-2) → cuts_of c.loop-cut.all.items ≡ c.in_ok-cuts.cuts.items
whole c = c.loop-cut.invariant.cuts ∙ take_all c.loop-cut.cut-index c.deref-cut-items.result.now c.loop-cut-test.false ∙ c.deref-cut-items.ensures.value

pub returns-clause-each : goal.returns-clause-each
returns-clause-each c =
    let of = of_cut c.args.types.now in
    sym (flat_map-map of (λ section. section.cut) c.loop-cut.all.items) ∙ ap (flat_map of) (whole c) ∙ c.in_ok-cuts.ensures.each

pub returns-clause-numbered : goal.returns-clause-numbered
returns-clause-numbered c = subst (λ cuts. AreNumbered (map numbers cuts)) (sym (whole c)) c.in_ok-cuts.ensures.numbered

pub returns-clause-named : goal.returns-clause-named
returns-clause-named c =
    let count = c.count_of-count.ensures ∙ ap crate_count (c.as_slice.ensures.value ∙ sym (whole c)) in
    subst (λ count. All (IsNamed c.args.name.now count) c.loop-cut.all.items) count c.loop-cut.invariant.named
