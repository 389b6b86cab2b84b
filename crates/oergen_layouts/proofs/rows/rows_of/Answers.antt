use Rattle.std.proofs.Common.{◌≡◌, rules, arith, ap, sym, subst, ◌∙◌, map, true, Some, List}
use Rattle.std.specs.List.{All}
use Rattle.oergen_parse.specs.declared.refusal.Refusal.TheVariants.{OutOfMemory}
use Rattle.oergen_layouts.specs.Rows.{Placed, components_of, is_own, placed}
use Rattle.oergen_layouts.specs.declared.rows.Row.{Row}
use Rattle.oergen_layouts.proofs.Allowed.{are_required, are_tagged}
use Rattle.oergen_layouts.proofs.Members.{have_members, same_members}
use Rattle.oergen_layouts.proofs.rows.rows_of.Goals as goal

pub returns-in_default-clause-rows : goal.returns-in_default-clause-rows
returns-in_default-clause-rows c = λ members are. absurd (c.in_default.ensures.are members are)

pub returns-in_err-written-clause-refused : goal.returns-in_err-written-clause-refused
returns-in_err-written-clause-refused c = λ automatic untagged have.
    let e = same_members c.args.of.now.body have.members c.in-Some.members.now have.are_members c.in-Some.ensures.are in
    let refused = c.in_err-written.ensures.refused (subst (All (λ one. is_own one ≡ true)) e have.are_own) in
    let some = sym (ap components_of e) ∙ have.are_components in
    let memory : c.in_err-written.field-0.0 ≡ OutOfMemory = grind (arith, refused, some) in
    search rules

pub returns-in_err-require_rows-clause-refused : goal.returns-in_err-require_rows-clause-refused
returns-in_err-require_rows-clause-refused c = λ automatic untagged have.
    let body = c.args.of.now.body in
    let members = c.in-Some.members.now in
    let rows = c.as_slice-2.result.now in
    let e = same_members body have.members members have.are_members c.in-Some.ensures.are in
    let own = subst (All (λ one. is_own one ≡ true)) e have.are_own in
    let same : map placed c.in_ok-written.written.items ≡ map placed rows = sym (c.in_ok-rows.ensures.each ∙ ap (λ (it : List Row). map placed it) c.as_slice.ensures.value) ∙ ap (λ (it : List Row). map placed it) (sym c.as_slice-2.ensures.value) in
    let of = c.in_ok-written.ensures.rows own ∙ ap (λ (it : List Placed). Some it) same in
    let are = rw (sym c.as_slice-2.ensures.value) at (c.in_ok-rows.ensures.tags automatic (untagged.are_untagged members c.in-Some.ensures.are)) in
    let memory : c.in_err-require_rows.field-0.0 ≡ OutOfMemory = c.in_err-require_rows.ensures.refused (are_tagged body have members rows e of are) own (are_required body have members rows e of) in
    search rules

pub returns-clause-rows : goal.returns-clause-rows
returns-clause-rows c = λ members are own.
    let e = same_members c.args.of.now.body members c.in-Some.members.now are c.in-Some.ensures.are in
    let of = c.in_ok-written.ensures.rows (subst (All (λ one. is_own one ≡ true)) e own) in
    let same = c.in_ok-rows.ensures.each ∙ ap (λ (it : List Row). map placed it) c.as_slice.ensures.value in
    ap components_of e ∙ (of ∙ ap (λ (it : List Placed). Some it) (sym same))

pub returns-in_err-written-clause-others : goal.returns-in_err-written-clause-others
returns-in_err-written-clause-others c = λ others. let some = have_members c.args.of.now.body c.in-Some.members.now c.in-Some.ensures.are in absurd cc

pub returns-in_err-rows-clause-others : goal.returns-in_err-rows-clause-others
returns-in_err-rows-clause-others c = λ others. let some = have_members c.args.of.now.body c.in-Some.members.now c.in-Some.ensures.are in absurd cc

pub returns-in_err-require_rows-clause-others : goal.returns-in_err-require_rows-clause-others
returns-in_err-require_rows-clause-others c = λ others. let some = have_members c.args.of.now.body c.in-Some.members.now c.in-Some.ensures.are in absurd cc

pub returns-clause-others : goal.returns-clause-others
returns-clause-others c = λ others. let some = have_members c.args.of.now.body c.in-Some.members.now c.in-Some.ensures.are in absurd cc
