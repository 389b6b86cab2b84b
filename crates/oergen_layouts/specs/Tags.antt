-- Tags under AUTOMATIC TAGS (X.680, 25.7 to 25.9 and 29.5): those of the root's components are [0], [1] and so on, as they are written,
-- and those of the additions go on behind them.
use Rattle.std.specs.Prelude.{◌≡◌, ℕ, ◌+◌, ◌<◌, ◌^◌, ◌⊎◌, Bool, true, false, cond, List, [], ◌∷◌, length, count_by, Option, Some, None, Vec}
use Rattle.std.specs.List.{All}
use Rattle.std.specs.Global.{Global}
use Rattle.oergen_parse.specs.declared.ast.Body.{Body, out-Body}
use Rattle.oergen_parse.specs.declared.ast.Body.TheOpen.{Sequence as open_sequence, Set as open_set, Choice as open_choice}
use Rattle.oergen_parse.specs.declared.ast.Body.TheVariants.{Sequence, Set, Choice, Sequence', Set', Choice'}
use Rattle.oergen_parse.specs.declared.ast.Component.{Component}
use Rattle.oergen_parse.specs.declared.ast.Member.{Member}
use Rattle.oergen_parse.specs.declared.ast.Member.TheVariants.{Component as in_member}
use Rattle.oergen_parse.specs.declared.ast.Module.{Module}
use Rattle.oergen_parse.specs.declared.ast.Tagging.TheVariants.{Automatic}
use Rattle.asn1_core.specs.declared.tag.Class.TheVariants.{Context}
use Rattle.oergen_layouts.specs.declared.rows.Row.{Row}
use Rattle.oergen_layouts.specs.declared.rows.Position.TheVariants.{Root, Addition, Group}

abbrev pub is_root : Row → Bool
is_root row = elim row.position [ Root ↦ true | Addition ↦ false | Group _ ↦ false ]

-- a component with a context-specific tag
abbrev pub with_tag : Row → ℕ → Row
with_tag row number = record row { tag = Some (record { class = Context; value = number }) }

-- components with tags, of which the next one of the root and the next addition have these numbers
abbrev pub tags_from : ℕ → ℕ → List Row → List Row
tags_from root addition [] = []
tags_from root addition (row ∷ rows) =
    cond (is_root row)
    (with_tag row root ∷ tags_from (root + 1) addition rows)
    (with_tag row addition ∷ tags_from root (addition + 1) rows)

abbrev pub automatic_tags : List Row → List Row
automatic_tags rows = tags_from 0 (count_by is_root rows) rows

-- what AUTOMATIC TAGS give is what they give again
pub record IsAutomatic (rows : List Row) : Type 0 where
  pub are_automatic : length rows < 2 ^ 31 → rows ≡ automatic_tags rows

-- modules, each of which has AUTOMATIC TAGS
pub record AreAutomatic (modules : List Module) : Type 0 where
  pub is_any : 0 < length modules
  pub each_is : All (λ one. one.tagging ≡ Automatic) modules

-- the members of a SEQUENCE, a SET or a CHOICE; none of another
abbrev pub members_in : Body → Option (List Member)
members_in body = elim (out-Body body) [ open_choice all ↦ Some all.items | open_sequence all ↦ Some all.items | open_set all ↦ Some all.items | _ ↦ None ]

-- the members of a SEQUENCE, a SET or a CHOICE
pub record AreMembers (body : Body) (members : List Member) : Type 0 where
  pub all : Vec Member Global
  pub are_all : members ≡ all.items
  pub stand_in : (body ≡ Choice all) ⊎ (body ≡ Sequence all) ⊎ (body ≡ Set all)

-- a SEQUENCE, a SET or a CHOICE
abbrev pub has_members : Body → Bool
has_members (Choice' _ _) = true
has_members (Sequence' _ _) = true
has_members (Set' _ _) = true
has_members _ = false

-- no tag stands in front of a component's type
pub record IsUntagged (member : Member) : Type 0 where
  pub is_untagged : (one : Component) → member ≡ in_member one → one.of.tags.items ≡ []

-- a SEQUENCE, a SET or a CHOICE, of which no member is written with a tag
pub record HasUntagged (body : Body) : Type 0 where
  pub are_untagged : (members : List Member) → AreMembers body members → All IsUntagged members
