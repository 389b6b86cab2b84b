use Rattle.std.proofs.Common.{rules, arith, ◌≡◌, ◌≤◌, ◌<◌, ◌∙◌, ◌++◌, ◌+◌, ◌^◌, [], ◌∷◌, length, map, take, refl, sym, ap, subst}
use Rattle.std.proofs.lemmas.List.{map_push}
use Rattle.std.proofs.lemmas.List.Elements.{All-push}
use Rattle.std.specs.List.{All, flat_map}
use Rattle.oergen_print.proofs.Following.{few_more, follows_by, numbered_less, numbered_more, one_more}
use Rattle.oergen_print.specs.Sections.{AreBehind, AreNumbered, HasNext, IsCutOf, numbers, of_cut}
use Rattle.oergen_print.specs.declared.sections.Cut.{Cut}
use Rattle.oergen_print.proofs.sections.cuts.Goals as goal

pub loop-at-init : goal.loop-at-init
unfolding AreNumbered AreBehind
loop-at-init c =
    let none = c.new-all.ensures.items in
    record {
      each = ap (flat_map (of_cut c.args.types.now)) none;
      within = subst (All (IsCutOf c.args.types.now)) (sym none) (search rules);
      numbered = subst (λ all. AreNumbered (map numbers all ++ (1, 1) ∷ [])) (sym none) (refl, tt);
      few = (search rules, search rules);
      behind = search rules;
      whole = search rules;
    }

pub loop-at-preserved : goal.loop-at-preserved
loop-at-preserved c =
    let types = c.args.types.now in
    let all = c.loop-at.all.items in
    let before = c.loop-at.invariant in
    let test : c.loop-at.at < length types = c.loop-at-test.true in
    let few : length types < 2 ^ 63 = search rules in
    let next : c.saturating_add.result ≡ c.loop-at.at + 1 = omega (arith, few, test, c.saturating_add.ensures) in
    let from : c.next-cut.result.from ≡ c.saturating_add.result = c.next-cut.ensures.from in
    let one : Cut = record { library = c.loop-at.cut.library; «module» = c.loop-at.cut.«module»; from = c.loop-at.cut.from; to = c.saturating_add.result } in
    let items : c.push.new.self.items ≡ all ++ one ∷ [] = c.in_ok-push.ensures.items in
    let ordered : c.loop-at.cut.from ≤ c.saturating_add.result = omega (arith, before.behind, next) in
    let is : IsCutOf types one = record { some = omega (arith, before.behind, next); within = omega (arith, test, next); whole = sym c.is_joined.ensures ∙ c.if-is_joined.false } in
    let has : HasNext one = (omega (arith, before.few.0, test, few), omega (arith, before.few.1, test, few)) in
    let own : map numbers c.push.new.self.items ≡ map numbers all ++ numbers one ∷ [] = ap (map numbers) items ∙ map_push numbers all one in
    let follows = follows_by c.if-is_full.ends_crate (numbers one) (numbers c.next-cut.result) (c.next-cut.ensures.numbers has) in
    let few_next = few_more (numbers one) (numbers c.next-cut.result) c.loop-at.at before.few.0 before.few.1 follows in
    record {
      each = ap (flat_map (of_cut types)) items ∙ one_more types all one ordered before.each ∙ ap (λ n. take n types) (sym from);
      within = subst (All (IsCutOf types)) (sym items) (All-push (IsCutOf types) all one before.within is);
      numbered = subst (λ all. AreNumbered (all ++ numbers c.next-cut.result ∷ [])) (sym own) (numbered_more (map numbers all) (numbers one) (numbers c.next-cut.result) before.numbered follows);
      few = (omega (arith, few_next.0, next), omega (arith, few_next.1, next));
      behind = omega (arith, from, next);
      whole = λ end. from ∙ next ∙ end;
    }

pub returns-clause-numbered : goal.returns-clause-numbered
returns-clause-numbered c = numbered_less (map numbers c.loop-at.all.items) (numbers c.loop-at.cut) c.loop-at.invariant.numbered
