-- The root components of a SET in the order of their tags (X.696, 18; X.680, 8.6): those of a class before those of the next, and of one
-- class by their numbers.
use Rattle.std.specs.Prelude.{◌≡◌, ℕ, ◌+◌, ◌==◌, Bool, true, false, cond, Option, Some, None, List, [], ◌∷◌, map}
use Rattle.std.specs.List.Sorted.{IsPermutation, IsSorted}
use Rattle.std.specs.Ordering.{nat_cmp, ordering_then}
use Rattle.std.specs.declared.cmp.Ordering.{Ordering}
use Rattle.asn1_core.specs.Tags.{class_number}
use Rattle.asn1_core.specs.declared.tag.Tag.{Tag}
use Rattle.oergen_layouts.specs.declared.definitions.Part.{Part}
use Rattle.oergen_layouts.specs.declared.rows.Position.{Position}
use Rattle.oergen_layouts.specs.declared.rows.Position.TheVariants.{Root, Addition, Group}

-- the tag of a component of the root
abbrev pub root_tag : Part → Option Tag
root_tag part = elim part.row [ None ↦ None | Some row ↦ elim row.position [ Root ↦ row.tag | Addition ↦ None | Group _ ↦ None ] ]

-- a tag's class and number, and the component's place among all
abbrev pub Key : Type 0
Key = ℕ × ℕ × ℕ

-- those that have a tag, as they are written, of which the next component has this place
abbrev pub roots_from : ℕ → List Part → List Key
roots_from at [] = []
roots_from at (part ∷ parts) = elim (root_tag part) [ None ↦ roots_from (at + 1) parts | Some tag ↦ (class_number tag.class, tag.value, at) ∷ roots_from (at + 1) parts ]

abbrev pub by_tag : Key → Key → Ordering
by_tag a b = ordering_then (ordering_then (nat_cmp a.0 b.0) (nat_cmp a.1 b.1)) (nat_cmp a.2 b.2)

-- the places of all of them, sorted
pub record AreInTagOrder (parts : List Part) (places : List ℕ) : Type 0 where
  pub roots : List Key
  pub are_all : IsPermutation (roots_from 0 parts) roots
  pub are_sorted : IsSorted by_tag roots
  pub are_places : places ≡ map (λ root. root.2) roots

abbrev pub same_position : Position → Position → Bool
same_position Root Root = true
same_position Addition Addition = true
same_position (Group a) (Group b) = a == b
same_position _ _ = false

-- whether a component stands there
abbrev pub stands_at : Position → Part → Bool
stands_at position part = elim part.row [ None ↦ false | Some row ↦ same_position row.position position ]

-- the places of the components that stand there, as they are written, of which the next one has this place
abbrev pub places_from : ℕ → Position → List Part → List ℕ
places_from at position [] = []
places_from at position (part ∷ parts) = cond (stands_at position part) (at ∷ places_from (at + 1) position parts) (places_from (at + 1) position parts)
