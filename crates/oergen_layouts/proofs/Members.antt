-- A type has the members of one list alone.
use Rattle.std.proofs.Common.{◌≡◌, true, Option, Some, None, List, sym, ap, ◌∙◌, inl, inr}
use Rattle.oergen_parse.specs.declared.ast.Body.{Body, Body-F}
use Rattle.oergen_parse.specs.declared.ast.Body.TheOpen.{Choice, Sequence, Set}
use Rattle.oergen_parse.specs.declared.ast.Body.TheVariants.{outs-Choice, outs-Sequence, outs-Set}
use Rattle.oergen_parse.specs.declared.ast.Component.{Component}
use Rattle.oergen_parse.specs.declared.ast.Member.{Member}
use Rattle.oergen_parse.specs.declared.ast.Type.{«Type»}
use Rattle.oergen_layouts.specs.Tags.{AreMembers, has_members, members_in}

abbrev listed : Body-F Body Member Component «Type» → Option (List Member)
listed (Choice all) = Some all.items
listed (Sequence all) = Some all.items
listed (Set all) = Some all.items
listed _ = None

pub has_members_in : (body : Body) (members : List Member) → AreMembers body members → members_in body ≡ Some members
has_members_in body members are = elim are.stand_in [
  | inl e ↦ ap members_in e ∙ (ap listed (outs-Choice are.all) ∙ ap (λ (it : List Member). Some it) (sym are.are_all))
  | inr rest ↦ elim rest [
    | inl e ↦ ap members_in e ∙ (ap listed (outs-Sequence are.all) ∙ ap (λ (it : List Member). Some it) (sym are.are_all))
    | inr e ↦ ap members_in e ∙ (ap listed (outs-Set are.all) ∙ ap (λ (it : List Member). Some it) (sym are.are_all))
  ]
]

pub same_members : (body : Body) (members others : List Member) → AreMembers body members → AreMembers body others → members ≡ others
same_members body members others are those = let one = has_members_in body members are in let other = has_members_in body others those in cc

pub have_members : (body : Body) (members : List Member) → AreMembers body members → has_members body ≡ true
have_members body members are = elim are.stand_in [
  | inl e ↦ ap has_members e
  | inr rest ↦ elim rest [
    | inl e ↦ ap has_members e
    | inr e ↦ ap has_members e
  ]
]
