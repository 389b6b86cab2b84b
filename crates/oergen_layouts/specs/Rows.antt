-- The components among the members of a SEQUENCE, a SET or a CHOICE, and where each stands (X.680, 25.1 and 29.1): of the root, behind a
-- mark of the additions, in brackets of an addition group. Behind a second mark they are of the root again.
use Rattle.std.specs.Prelude.{◌≡◌, ◌≢◌, ◌+◌, ◌<◌, ◌^◌, ◌==◌, nat_lt, ⊤, Bool, true, false, cond, not, ◌&&◌, Option, Some, None, is_some, List, [], ◌∷◌, length, map}
use Rattle.std.specs.List.{All, AllPairs, filter}
use Rattle.std.specs.Option.{option_map}
use Rattle.oergen_parse.specs.declared.ast.Body.{Body}
use Rattle.oergen_parse.specs.declared.ast.Body.TheVariants.{Choice', Set'}
use Rattle.oergen_parse.specs.declared.ast.Component.{Component}
use Rattle.oergen_parse.specs.declared.ast.Member.{Member}
use Rattle.oergen_parse.specs.declared.ast.Member.TheVariants.{Mark, Opens, Closes, ComponentsOf', Component'}
use Rattle.oergen_parse.specs.declared.ast.Need.{Need}
use Rattle.oergen_parse.specs.declared.ast.Need.TheVariants.{Required, Optional, Default}
use Rattle.oergen_layouts.specs.Tags.{AreMembers, is_root}
use Rattle.oergen_layouts.specs.declared.rows.Position.{Position}
use Rattle.oergen_layouts.specs.declared.rows.Position.TheVariants.{Root, Addition, Group}
use Rattle.oergen_layouts.specs.declared.rows.Row.{Row}
use Rattle.oergen_layouts.specs.declared.rows.Walk.{Walk}

-- a component and where it stands
abbrev pub Placed : Type 0
Placed = Component × Position

-- what a row says of its component, but for the tag
abbrev pub placed : Row → Placed
placed row = (record { name = row.name; of = row.of.now; need = row.need.now }, row.position)

-- where a component stands behind so many marks and groups
abbrev pub position_in : Walk → Position
position_in walk = cond walk.in_group (Group walk.groups) (cond (walk.marks == 1) Addition Root)

-- What is passed behind a mark or a bracket; none where it may not stand: a third mark, a mark in a group, a group in front of the
-- first mark, behind the second, or in another, an end of none.
abbrev pub passed : Walk → Member → Option Walk
passed walk (Mark _) = cond (nat_lt walk.marks 2 && not walk.in_group) (Some (record walk { marks = walk.marks + 1 })) None
passed walk (Opens _) = cond ((walk.marks == 1) && not walk.in_group) (Some (record walk { groups = walk.groups + 1; in_group = true })) None
passed walk (Closes _) = cond walk.in_group (Some (record walk { in_group = false })) None
passed walk _ = None

-- The components among members, behind so many marks and groups. None where a mark or a bracket may not stand, or lacks; nor where
-- there is COMPONENTS OF.
abbrev pub components_behind : Walk → List Member → Option (List Placed)
components_behind walk [] = cond walk.in_group None (Some [])
components_behind walk (Component' name first tags body constraints need ∷ members) =
    let one : Component = record { name = name; of = record { first = first; tags = tags; body = body; constraints = constraints }; need = need } in
    option_map (λ (rows : List Placed). (one, position_in walk) ∷ rows) (components_behind walk members)
components_behind walk (member ∷ members) = elim (passed walk member) [ None ↦ None | Some next ↦ components_behind next members ]

abbrev pub components_of : List Member → Option (List Placed)
components_of members = components_behind (record { marks = 0; groups = 0; in_group = false }) members

-- a member that is written in its type, and not in another by COMPONENTS OF
abbrev pub is_own : Member → Bool
is_own (ComponentsOf' _ _ _ _) = false
is_own _ = true

-- rows are the components among members
abbrev pub AreRowsOf : List Member → List Row → Type 0
AreRowsOf members rows = All (λ one. is_own one ≡ true) members → components_of members ≡ Some (map placed rows)

abbrev pub is_required : Need → Bool
is_required Required = true
is_required Optional = false
is_required (Default _) = false

-- each has a tag that no other has
pub record HaveOwnTags (rows : List Row) : Type 0 where
  pub each_has : All (λ row. is_some row.tag ≡ true) rows
  pub are_own : AllPairs (λ a b. a.tag ≢ b.tag) rows

abbrev pub is_choice : Body → Bool
is_choice (Choice' _ _) = true
is_choice _ = false

abbrev pub is_set : Body → Bool
is_set (Set' _ _) = true
is_set _ = false

-- the alternatives of a CHOICE, and the root components of a SET, have tags of their own
abbrev pub HaveTagsFor : Body → List Row → Type 0
HaveTagsFor (Choice' _ _) rows = HaveOwnTags rows
HaveTagsFor (Set' _ _) rows = HaveOwnTags (filter is_root rows)
HaveTagsFor _ rows = ⊤

-- Members that are written in their type, with marks and brackets where these may stand; of a CHOICE none OPTIONAL or with a default.
pub record HaveComponents (body : Body) : Type 0 where
  pub members : List Member
  pub are_members : AreMembers body members
  pub are_own : All (λ one. is_own one ≡ true) members
  pub components : List Placed
  pub are_components : components_of members ≡ Some components
  pub are_few : length components < 2 ^ 31
  pub are_required : is_choice body ≡ true → All (λ one. is_required one.0.need ≡ true) components
