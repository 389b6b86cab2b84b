-- What AUTOMATIC TAGS can be given has tags that differ.
use Rattle.std.proofs.Common.{◌≡◌, ◌∙◌, true, Some, is_some, List, ap, sym, subst, length, map, arith}
use Rattle.std.proofs.lemmas.List.{get_or-map, length-map}
use Rattle.std.specs.List.{All}
use Rattle.oergen_parse.specs.declared.ast.Body.{Body}
use Rattle.oergen_parse.specs.declared.ast.Member.{Member}
use Rattle.oergen_layouts.specs.Rows.{HaveComponents, HaveTagsFor, Placed, components_of, is_choice, is_own, is_required, placed}
use Rattle.oergen_layouts.specs.Tags.{AreMembers, IsAutomatic}
use Rattle.oergen_layouts.specs.declared.rows.Row.{Row}
use Rattle.oergen_layouts.proofs.Members.{same_members}
use Rattle.oergen_layouts.proofs.OwnTags.{automatic_for, automatic_tagged}

same_components : (body : Body) (have : HaveComponents body) (members : List Member) (rows : List Row) → have.members ≡ members → components_of members ≡ Some (map placed rows) → have.components ≡ map placed rows
same_components body have members rows e of = let one = have.are_components in let other = ap components_of e ∙ of in cc

pub are_tagged : (body : Body) (have : HaveComponents body) (members : List Member) (rows : List Row) → have.members ≡ members → components_of members ≡ Some (map placed rows) → IsAutomatic rows → HaveTagsFor body rows
are_tagged body have members rows e of automatic =
    let same = same_components body have members rows e of in
    automatic_for body rows (automatic.are_automatic (omega (arith, have.are_few, length-map rows placed, ap length same)))

pub are_required : (body : Body) (have : HaveComponents body) (members : List Member) (rows : List Row) → have.members ≡ members → components_of members ≡ Some (map placed rows)
    → is_choice body ≡ true → All (λ row. is_required row.need.now ≡ true) rows
are_required body have members rows e of choice = λ k d within.
    let same = same_components body have members rows e of in
    let all = subst (All (λ (one : Placed). is_required one.0.need ≡ true)) same (have.are_required choice) in
    let one = all k (placed d) (omega (arith, length-map rows placed, within)) in
    subst (λ (it : Placed). is_required it.0.need ≡ true) (get_or-map placed rows k d (placed d) within) one

all_tagged : (body : Body) (have : HaveComponents body) (members : List Member) (rows : List Row) → have.members ≡ members → components_of members ≡ Some (map placed rows) → IsAutomatic rows → All (λ row. is_some row.tag ≡ true) rows
all_tagged body have members rows e of automatic =
    let same = same_components body have members rows e of in
    automatic_tagged rows (automatic.are_automatic (omega (arith, have.are_few, length-map rows placed, ap length same)))

-- rows that AUTOMATIC TAGS tagged all have a tag: as `written`, with tags, and as they are handed on
pub automatic_rows : (body : Body) (have : HaveComponents body) (members : List Member) (written given rows shown : List Row) → AreMembers body members → given ≡ written → shown ≡ rows
    → (All (λ one. is_own one ≡ true) members → components_of members ≡ Some (map placed written)) → map placed rows ≡ map placed given → IsAutomatic rows → All (λ row. is_some row.tag ≡ true) shown
automatic_rows body have members written given rows shown are at_given at_shown found each automatic =
    let e = same_members body have.members members have.are_members are in
    let own = subst (All (λ one. is_own one ≡ true)) e have.are_own in
    let same : map placed written ≡ map placed rows = ap (map placed) (sym at_given) ∙ sym each in
    let of = found own ∙ ap (λ (it : List Placed). Some it) same in
    subst (All (λ row. is_some row.tag ≡ true)) (sym at_shown) (all_tagged body have members rows e of automatic)
