use Rattle.std.proofs.Common.{◌≡◌, rules, arith, ap, sym, subst, ◌∙◌, map, Bool, true, false, Some, List, Result, Ok}
use Rattle.std.specs.List.{All}
use Rattle.oergen_parse.specs.declared.refusal.Refusal.TheVariants.{OutOfMemory}
use Rattle.oergen_layouts.specs.Rows.{Placed, components_of, is_own, placed}
use Rattle.oergen_layouts.specs.declared.rows.Row.{Row}
use Rattle.oergen_layouts.proofs.Allowed.{automatic_rows}
use Rattle.oergen_layouts.proofs.Members.{same_members}
use Rattle.oergen_layouts.proofs.rows.untagged_rows.Goals as goal

found_none : {E : Type 0} (found : Bool) → ◌≡◌ {A = Result Bool E} (Ok found) (Ok false) → found ≡ true → ⊥
found_none true none some = absurd cc
found_none false none some = absurd cc

pub returns-in_err-found-clause-automatic : goal.returns-in_err-found-clause-automatic
returns-in_err-found-clause-automatic c = λ automatic untagged have.
    let e = same_members c.args.of.now.body have.members c.in-Some.members.now have.are_members c.in-Some.ensures.members in
    let refused = c.in_err-found.ensures.refused (subst (All (λ one. is_own one ≡ true)) e have.are_own) in
    let some = sym (ap components_of e) ∙ have.are_components in
    let memory : c.in_err-found.field-0.0 ≡ OutOfMemory = grind (arith, refused, some) in
    search rules

pub returns-in_err-have_untagged_choice-clause-automatic : goal.returns-in_err-have_untagged_choice-clause-automatic
returns-in_err-have_untagged_choice-clause-automatic c = λ automatic untagged have.
    let members = c.in-Some.members.now in
    let automatic_tags = c.in_ok-rows.ensures.tags automatic (untagged.are_untagged members c.in-Some.ensures.members) in
    let tagged = automatic_rows c.args.of.now.body have members c.in_ok-found.found.items c.as_slice.result.now c.in_ok-rows.rows.items c.as_slice-2.result.now c.in-Some.ensures.members c.as_slice.ensures.value c.as_slice-2.ensures.value c.in_ok-found.ensures.rows c.in_ok-rows.ensures.each automatic_tags in
    let none = c.in_err-have_untagged_choice.ensures tagged in
    absurd cc

pub returns-in_err-require_alternatives-clause-automatic : goal.returns-in_err-require_alternatives-clause-automatic
returns-in_err-require_alternatives-clause-automatic c = λ automatic untagged have.
    let members = c.in-Some.members.now in
    let automatic_tags = c.in_ok-rows.ensures.tags automatic (untagged.are_untagged members c.in-Some.ensures.members) in
    let tagged = automatic_rows c.args.of.now.body have members c.in_ok-found.found.items c.as_slice.result.now c.in_ok-rows.rows.items c.as_slice-2.result.now c.in-Some.ensures.members c.as_slice.ensures.value c.as_slice-2.ensures.value c.in_ok-found.ensures.rows c.in_ok-rows.ensures.each automatic_tags in
    absurd (found_none c.in_ok-have_untagged_choice.field-0 (c.in_ok-have_untagged_choice.ensures tagged) c.if-not-branch.false)

pub returns-clause-rows : goal.returns-clause-rows
returns-clause-rows c = λ members are own.
    let e = same_members c.args.of.now.body members c.in-Some.members.now are c.in-Some.ensures.members in
    let of = c.in_ok-found.ensures.rows (subst (All (λ one. is_own one ≡ true)) e own) in
    let same = c.in_ok-rows.ensures.each ∙ ap (λ (it : List Row). map placed it) c.as_slice.ensures.value in
    ap components_of e ∙ (of ∙ ap (λ (it : List Placed). Some it) (sym same))

pub returns-clause-automatic : goal.returns-clause-automatic
returns-clause-automatic c = λ automatic untagged have.
    let members = c.in-Some.members.now in
    let automatic_tags = c.in_ok-rows.ensures.tags automatic (untagged.are_untagged members c.in-Some.ensures.members) in
    let tagged = automatic_rows c.args.of.now.body have members c.in_ok-found.found.items c.as_slice.result.now c.in_ok-rows.rows.items c.as_slice-2.result.now c.in-Some.ensures.members c.as_slice.ensures.value c.as_slice-2.ensures.value c.in_ok-found.ensures.rows c.in_ok-rows.ensures.each automatic_tags in
    absurd (found_none c.in_ok-have_untagged_choice.field-0 (c.in_ok-have_untagged_choice.ensures tagged) c.if-not-branch.false)
