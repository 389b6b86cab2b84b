-- The preamble of a SEQUENCE or a SET (X.696, 16.2): a bit for the extension mark, where there is one, and one for each component of the
-- root that is OPTIONAL or has a default, filled up to whole octets.
use Rattle.std.specs.Prelude.{ℕ, ◌+◌, ◌/◌, Bool, true, false, cond, List, count_by, Some, None}
use Rattle.std.specs.List.{list_any}
use Rattle.oergen_parse.specs.declared.ast.Body.{Body}
use Rattle.oergen_parse.specs.declared.ast.Member.{Member}
use Rattle.oergen_parse.specs.declared.ast.Member.TheVariants.{Mark}
use Rattle.oergen_parse.specs.declared.ast.Need.{Need}
use Rattle.oergen_parse.specs.declared.ast.Need.TheVariants.{Required, Optional, Default}
use Rattle.oergen_layouts.specs.Tags.{members_in}
use Rattle.oergen_layouts.specs.declared.definitions.Part.{Part}
use Rattle.oergen_layouts.specs.declared.rows.Position.{Position}
use Rattle.oergen_layouts.specs.declared.rows.Position.TheVariants.{Root, Addition, Group}

abbrev pub is_mark : Member → Bool
is_mark (Mark _) = true
is_mark _ = false

-- whether a type has an extension mark: a SEQUENCE, a SET or a CHOICE may have one
abbrev pub has_mark : Body → Bool
has_mark body = elim (members_in body) [ None ↦ false | Some members ↦ list_any is_mark members ]

-- whether a component has one, by where it stands and by its need
abbrev pub needs_bit : Position → Need → Bool
needs_bit Root Required = false
needs_bit Root Optional = true
needs_bit Root (Default _) = true
needs_bit Addition _ = false
needs_bit (Group _) _ = false

abbrev pub has_bit : Part → Bool
has_bit part = elim part.row [ None ↦ false | Some row ↦ needs_bit row.position row.need.now ]

abbrev pub octets_of_preamble : Bool → List Part → ℕ
octets_of_preamble is_extensible parts = (cond is_extensible 1 0 + count_by has_bit parts + 7) / 8
