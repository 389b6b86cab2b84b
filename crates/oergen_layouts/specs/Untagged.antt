-- CHOICEs without a tag. In a CHOICE (X.680, 31, and X.696, 20) no octet of them is written but those of the alternative, so their
-- alternatives stand in their place. In a SET (X.696, 18) they count by the least tag of their root alternatives.
use Rattle.std.specs.Prelude.{◌≡◌, ◌≢◌, ⊤, ℕ, zero, suc, ◌+◌, ◌++◌, Bool, true, false, cond, not, ◌&&◌, ◌||◌, Option, Some, None, is_some, MatchOption, MatchResult, Result, Ok, Err, IfOk, IfSome, List, [], ◌∷◌, length, map, replicate, set, slice_get}
use Rattle.std.specs.List.{All, AllPairs, AllZip, Contains, filter_map, flat_map, list_any, zip}
use Rattle.std.specs.Option.{option_map, option_or, unwrap_or}
use Rattle.asn1_core.specs.Tags.{tag_le}
use Rattle.asn1_core.specs.declared.tag.Tag.{Tag}
use Rattle.oergen_parse.specs.declared.ast.Body.{Body}
use Rattle.oergen_parse.specs.declared.ast.Body.TheVariants.{Reference}
use Rattle.oergen_parse.specs.declared.ast.Type.{«Type»}
use Rattle.oergen_parse.specs.declared.refusal.Refusal.{Refusal}
use Rattle.oergen_parse.specs.declared.refusal.Refusal.TheVariants.{OutOfMemory}
use Rattle.oergen_layouts.specs.Preambles.{has_mark}
use Rattle.oergen_layouts.specs.Rows.{is_choice, is_set}
use Rattle.oergen_layouts.specs.Tags.{is_root}
use Rattle.oergen_layouts.specs.declared.definitions.Definition.{Definition}
use Rattle.oergen_layouts.specs.declared.definitions.Part.{Part}
use Rattle.oergen_layouts.specs.declared.definitions.Tie.{Tie}
use Rattle.oergen_layouts.specs.declared.rows.Row.{Row}
use Rattle.oergen_layouts.specs.declared.untagged.Flat.{Flat}

-- the one with a tag, where there is one
abbrev pub FindsTag : {X : Type 0} → (X → Option Tag) → List X → Option Tag → Option X → Type 0
FindsTag tag_in all tag found = MatchOption found (All (λ one. tag_in one ≢ tag) all) (λ one. Contains all one × (tag_in one ≡ tag))

-- the tag of a component or an alternative
abbrev pub row_tag : Option Row → Option Tag
row_tag row = elim row [ None ↦ None | Some row ↦ row.tag ]

abbrev pub part_tag : Part → Option Tag
part_tag part = row_tag part.row

-- a component or an alternative that has none
abbrev pub lacks_tag : Part → Bool
lacks_tag part = elim part.row [ None ↦ false | Some row ↦ not (is_some row.tag) ]

-- a part but for its names
abbrev pub Unnamed : Type 0
Unnamed = Option Row × ℕ × «Type» × Option ℕ × Tie × Bool

abbrev pub unnamed : Part → Unnamed
unnamed part = (part.row, part.lists, part.inner.now, part.target, part.tie, part.is_held)

abbrev pub unnamed_with : Part → Option Tag → Unnamed
unnamed_with part tag = (option_map (λ (row : Row). record row { tag = tag }) part.row, part.lists, part.inner.now, part.target, part.tie, part.is_held)

-- what the first part of a definition leads to
abbrev pub first_target : Definition → Option ℕ
first_target one = elim one.parts.items [ [] ↦ None | part ∷ _ ↦ part.target ]

abbrev pub is_name_of : Body → Bool
is_name_of (Reference _) = true
is_name_of _ = false

-- from the place of a definition past names of types, at most so many, to that of the type that is named
abbrev pub past_names : ℕ → List Definition → ℕ → ℕ
past_names zero all at = at
past_names (suc left) all at = elim (slice_get all at) [
  | None ↦ at
  | Some one ↦ cond (is_name_of one.of.now.body) (past_names left all (unwrap_or (first_target one) at)) at
]

-- the type that a part is of, past names
abbrev pub type_behind : List Definition → Part → Option Definition
type_behind all part = elim part.target [ None ↦ None | Some target ↦ slice_get all (past_names 64 all target) ]

abbrev pub parts_behind : List Definition → Part → List Part
parts_behind all part = elim (type_behind all part) [ None ↦ [] | Some one ↦ one.parts.items ]

-- alternatives, with those of a CHOICE without a tag in its place, where so many levels of these are read
abbrev pub alternatives : ℕ → List Definition → List Part → List Unnamed
alternatives zero all parts = []
alternatives (suc levels) all parts = flat_map (λ part. elim part.row [
  | None ↦ []
  | Some row ↦ elim row.tag [ Some _ ↦ unnamed part ∷ [] | None ↦ alternatives levels all (parts_behind all part) ]
]) parts

-- what stands in the place of one component or alternative
abbrev pub in_place : ℕ → List Definition → Part → Row → List Unnamed
in_place levels all part row = elim row.tag [ Some _ ↦ unnamed part ∷ [] | None ↦ alternatives levels all (parts_behind all part) ]

-- whether a CHOICE is extensible, by a mark of its own or of a choice in the place of an alternative, where so many levels of these are read
abbrev pub extends : ℕ → List Definition → Definition → Bool
extends zero all choice = false
extends (suc levels) all choice = has_mark choice.of.now.body || list_any (λ part. elim part.row [
  | None ↦ false
  | Some row ↦ elim row.tag [ Some _ ↦ false | None ↦ elim (type_behind all part) [ None ↦ false | Some one ↦ extends levels all one ] ]
]) choice.parts.items

-- whether what stands in the place of one alternative makes its CHOICE extensible
abbrev pub extends_by : ℕ → List Definition → Part → Row → Bool
extends_by levels all part row = elim row.tag [ Some _ ↦ false | None ↦ elim (type_behind all part) [ None ↦ false | Some one ↦ extends levels all one ] ]

-- A type without a tag that others can be put in the place of: it stands in the root, and is a CHOICE that can be resolved itself. An open
-- type isn't, nor is a choice behind an extension mark.
pub record IsUntaggedChoice (all : List Definition) (part : Part) (row : Row) : Type 0 where
  pub in_root : is_root row ≡ true
  pub of_choice : MatchOption (type_behind all part) ⊥ (λ one. (is_choice one.of.now.body ≡ true) × (one.fault ≡ None))

-- Alternatives that can be put in the place of choices without a tag, where so many levels of these are read: there are some, and each has a
-- tag, or is such a choice, whose alternatives can be put in its place.
unfoldable pub ArePlaceable : ℕ → List Definition → List Part → Type 0
ArePlaceable zero all parts = ⊥
ArePlaceable (suc levels) all parts = (alternatives (suc levels) all parts ≢ []) × All (λ part. MatchOption part.row ⊤ (λ row. MatchOption row.tag (IsUntaggedChoice all part row × ArePlaceable levels all (parts_behind all part)) (λ _. ⊤))) parts

-- one that can: it has a tag, or is such a choice
abbrev pub IsPlaceable : ℕ → List Definition → Part → Row → Type 0
IsPlaceable levels all part row = MatchOption row.tag (IsUntaggedChoice all part row × ArePlaceable levels all (parts_behind all part)) (λ _. ⊤)

abbrev pub tag_in : Unnamed → Option Tag
tag_in part = row_tag part.0

-- no two of them have one tag (X.680, 27.3 and 29.3)
abbrev pub HaveApartTags : List Unnamed → Type 0
HaveApartTags parts = AllPairs (λ a b. tag_in a ≢ tag_in b) parts

-- each has a tag that no other has
pub record HaveOwnPartTags (parts : List Part) : Type 0 where
  pub each_has : All (λ part. is_some (part_tag part) ≡ true) parts
  pub are_own : AllPairs (λ a b. part_tag a ≢ part_tag b) parts

-- the tag of a component or an alternative of the root
abbrev pub root_tag : Option Row → Option Tag
root_tag None = None
root_tag (Some row) = cond (is_root row) row.tag None

abbrev pub root_tags : List Part → List Tag
root_tags parts = filter_map (λ part. root_tag part.row) parts

-- the least one of tags; none where there is none
abbrev pub IsLeastOf : List Tag → Option Tag → Type 0
IsLeastOf tags least = MatchOption least (tags ≡ []) (λ tag. Contains tags tag × All (λ other. tag_le tag other ≡ true) tags)

-- the tags of root alternatives among what stands in the place of a choice
abbrev pub tags_in_root : List Unnamed → List Tag
tags_in_root parts = filter_map (λ (part : Unnamed). root_tag part.0) parts

-- A root component of a SET, with the tag that it counts by: its own, or of a choice without one the least of its root alternatives.
pub record IsRootInSet (all : List Definition) (part : Part) (row : Row) (made : Part) : Type 0 where
  pub is_same : unnamed made ≡ unnamed_with part (part_tag made)
  pub has_tag : is_some (part_tag made) ≡ true
  pub counts : MatchOption row.tag (IsLeastOf (tags_in_root (in_place 64 all part row)) (part_tag made)) (λ own. part_tag made ≡ Some own)

-- a component of the root
abbrev pub root_row : Option Row → Option Row
root_row None = None
root_row (Some row) = cond (is_root row) (Some row) None

-- what a SET has for a component: of its root that one with its tag, else itself
abbrev pub IsInSet : List Definition → Part → Part → Type 0
IsInSet all part made = MatchOption (root_row part.row) (unnamed made ≡ unnamed part) (λ row. IsRootInSet all part row made)

-- what stands in the place of a root component; nothing in that of an addition
abbrev pub root_place : List Definition → Part → List Unnamed
root_place all part = elim (root_row part.row) [ None ↦ [] | Some row ↦ in_place 64 all part row ]

-- a root component that a SET can count by a tag (X.696, 18): its own, or that of a root alternative in its place
pub record IsCountable (all : List Definition) (part : Part) (row : Row) : Type 0 where
  pub is_placeable : IsPlaceable 64 all part row
  pub has_root : row.tag ≡ None → tags_in_root (in_place 64 all part row) ≢ []

-- a component that a SET can have: of the root such a one
abbrev pub CanBeInSet : List Definition → Part → Type 0
CanBeInSet all part = MatchOption (root_row part.row) ⊤ (IsCountable all part)

-- What a SET has for each component, in their order. Those of its root, and the alternatives of choices in their place, differ in their tags.
pub record AreInSet (all : List Definition) (parts made : List Part) : Type 0 where
  pub each : AllZip (IsInSet all) parts made
  pub places : List Part
  pub are_places : map unnamed places ≡ flat_map (root_place all) parts
  pub are_own : HaveOwnPartTags places

-- What a definition has in the end for its parts: those of a CHOICE and of a SET with a part without a tag are put in its place, others
-- stay.
pub record ArePlaced (all : List Definition) (one : Definition) (made : List Part) : Type 0 where
  pub tagged : list_any lacks_tag one.parts.items ≡ false → made ≡ one.parts.items
  pub choice : is_choice one.of.now.body ≡ true → list_any lacks_tag one.parts.items ≡ true → (map unnamed made ≡ alternatives 64 all one.parts.items) × HaveOwnPartTags made
  pub in_set : is_set one.of.now.body ≡ true → list_any lacks_tag one.parts.items ≡ true → AreInSet all one.parts.items made
  pub others : is_choice one.of.now.body ≡ false → is_set one.of.now.body ≡ false → made ≡ one.parts.items

-- What a CHOICE and a SET with a part without a tag need to be resolved.
pub record IsResolvable (all : List Definition) (one : Definition) : Type 0 where
  pub choice : is_choice one.of.now.body ≡ true → list_any lacks_tag one.parts.items ≡ true → ArePlaceable 64 all one.parts.items × HaveApartTags (alternatives 64 all one.parts.items)
  pub in_set : is_set one.of.now.body ≡ true → list_any lacks_tag one.parts.items ≡ true → All (CanBeInSet all) one.parts.items × HaveApartTags (flat_map (root_place all) one.parts.items)

-- what is found for a definition: nothing where its parts stay
abbrev pub Found : Type 0
Found = Result (Option Flat) Refusal

abbrev pub parts_with : Definition → Option Flat → List Part
parts_with one None = one.parts.items
parts_with one (Some flat) = flat.parts.items

-- whether a definition is extensible in whose place something is put: a CHOICE by those in it too
abbrev pub extends_with : List Definition → Definition → Bool
extends_with all one = cond (is_choice one.of.now.body) (extends 64 all one) (has_mark one.of.now.body)

-- what is found, and what is refused: what can't be resolved; what can only for want of memory
pub record IsFound (all : List Definition) (one : Definition) (found : Found) : Type 0 where
  pub stays : list_any lacks_tag one.parts.items ≡ false → found ≡ Ok None
  pub placed : IfOk found (λ it. ArePlaced all one (parts_with one it))
  pub extends : IfOk found (λ it. IfSome it (λ flat. flat.is_extensible ≡ extends_with all one))
  pub refused : MatchResult found (λ _. IsResolvable all one) (λ why. IsResolvable all one → why ≡ OutOfMemory)

-- a definition with what is found for it: no parts, and why, where it can't be resolved
pub record IsSettled (one : Definition) (found : Found) (now : Definition) : Type 0 where
  pub is_same : (now.rust_name ≡ one.rust_name) × (now.module ≡ one.module) × (now.of ≡ one.of)
  pub has : MatchResult found (λ it. (now.parts.items ≡ parts_with one it) × (now.fault ≡ one.fault)) (λ why. (now.parts.items ≡ []) × (now.fault ≡ Some why))
  pub extends : MatchResult found (λ it. MatchOption it (now.is_extensible ≡ has_mark one.of.now.body) (λ flat. now.is_extensible ≡ flat.is_extensible)) (λ why. now.is_extensible ≡ has_mark one.of.now.body)

-- What refuses all where a definition is refused: that refusal. Where faults are kept, only want of memory.
abbrev pub refusal_in : Bool → Found → Option Refusal
refusal_in keeps_faults (Ok _) = None
refusal_in false (Err why) = Some why
refusal_in true (Err OutOfMemory) = Some OutOfMemory
refusal_in true (Err _) = None

-- the first of these
abbrev pub first_refusal : Bool → List Found → Option Refusal
first_refusal keeps_faults [] = None
first_refusal keeps_faults (it ∷ found) = option_or (refusal_in keeps_faults it) (first_refusal keeps_faults found)

-- the place of a CHOICE without a tag that is written in an alternative
abbrev pub taken_up : Part → Option ℕ
taken_up part = cond (is_choice part.inner.now.body && not (is_some (part_tag part))) part.target None

-- whether something stands in the place of a CHOICE's alternatives
abbrev pub is_put : Definition → Found → Bool
is_put one (Ok (Some flat)) = is_choice one.of.now.body
is_put one _ = false

-- the places of the definitions that stand only in that of a choice
abbrev pub all_taken_up : List Definition → List Found → List ℕ
all_taken_up [] found = []
all_taken_up (one ∷ all) [] = []
all_taken_up (one ∷ all) (it ∷ found) = cond (is_put one it) (filter_map taken_up one.parts.items) [] ++ all_taken_up all found

-- flags, of which those at these places are set
abbrev pub marked : List ℕ → List Bool → List Bool
marked [] flags = flags
marked (at ∷ places) flags = marked places (set flags at true)

-- the places of definitions without those that nothing uses, from so many on; none of these
abbrev pub places_from : ℕ → List Bool → List (Option ℕ)
places_from count [] = []
places_from count (true ∷ unused) = None ∷ places_from count unused
places_from count (false ∷ unused) = Some count ∷ places_from (count + 1) unused

-- the definitions that aren't among the unused ones
abbrev pub used_of : List (Definition × Bool) → List Definition
used_of [] = []
used_of ((one, is_unused) ∷ all) = cond is_unused (used_of all) (one ∷ used_of all)

-- a part whose target is named by its new place
abbrev pub new_place : List (Option ℕ) → Option ℕ → Option ℕ
new_place places None = None
new_place places (Some target) = unwrap_or (slice_get places target) None

abbrev pub at_place : List (Option ℕ) → Part → Part
at_place places part = record part { target = new_place places part.target }

pub record IsAtPlaces (places : List (Option ℕ)) (one now : Definition) : Type 0 where
  pub is_same : (now.rust_name ≡ one.rust_name) × (now.module ≡ one.module) × (now.of ≡ one.of) × (now.is_extensible ≡ one.is_extensible) × (now.fault ≡ one.fault)
  pub parts : now.parts.items ≡ map (at_place places) one.parts.items

-- Definitions in the end, by those that are written: what is found for each is put, and those that stand only in the place of a choice are
-- left out. None is refused, but for those whose faults are kept.
pub record AreResolved (keeps_faults : Bool) (written kept : List Definition) : Type 0 where
  pub found : List Found
  pub are_found : AllZip (IsFound written) written found
  pub none_refused : first_refusal keeps_faults found ≡ None
  pub settled : List Definition
  pub are_settled : AllZip (λ both now. IsSettled both.0 both.1 now) (zip written found) settled
  pub unused : List Bool
  pub are_unused : unused ≡ marked (all_taken_up written found) (replicate (length written) false)
  pub are_kept : AllZip (IsAtPlaces (places_from 0 unused)) (used_of (zip settled unused)) kept
