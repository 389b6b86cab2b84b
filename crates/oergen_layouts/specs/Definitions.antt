-- The types that modules give: those that they assign, as they are written, and behind these the types with parts that are written inside
-- definitions, as these stand.
use Rattle.std.specs.Prelude.{◌≡◌, ℕ, zero, suc, ◌+◌, ◌<◌, ◌++◌, ◌||◌, ◌&&◌, nat_lt, Bool, true, false, cond, Option, Some, None, is_some, MatchOption, List, [], ◌∷◌, length, map, take}
use Rattle.std.specs.List.{All, flat_map, slice_get}
use Rattle.oergen_parse.specs.Lists.{list_in}
use Rattle.oergen_parse.specs.declared.ast.Body.{Body}
use Rattle.oergen_parse.specs.declared.ast.Body.TheVariants.{Enumerated}
use Rattle.oergen_parse.specs.declared.ast.Member.{Member}
use Rattle.oergen_parse.specs.declared.ast.Module.{Module}
use Rattle.oergen_parse.specs.declared.ast.Type.{«Type»}
use Rattle.oergen_parse.specs.declared.ast.TypeAssignment.{TypeAssignment}
use Rattle.oergen_layouts.specs.Rows.{AreRowsOf}
use Rattle.oergen_layouts.specs.Tags.{AreMembers, has_members}
use Rattle.oergen_layouts.specs.Untagged.{AreResolved, is_name_of}
use Rattle.oergen_layouts.specs.declared.definitions.Definition.{Definition}
use Rattle.oergen_layouts.specs.declared.definitions.Part.{Part}
use Rattle.oergen_layouts.specs.declared.definitions.Pending.{Pending}
use Rattle.oergen_layouts.specs.declared.rows.Row.{Row}

-- a type, and the number of the module that it stands in
abbrev pub Written : Type 0
Written = ℕ × «Type»

-- the types that a module assigns
abbrev pub assigned_by : ℕ → List TypeAssignment → List Written
assigned_by home types = map (λ (it : TypeAssignment). (home, it.of)) types

-- those of modules, from one on
abbrev pub assigned_from : ℕ → List Module → List Written
assigned_from at [] = []
assigned_from at (one ∷ modules) = assigned_by at one.types.items ++ assigned_from (at + 1) modules

abbrev pub assigned : List Module → List Written
assigned modules = assigned_from 0 modules

abbrev pub defined : Definition → Written
defined one = (one.module, one.of.now)

abbrev pub waits : Pending → Written
waits one = (one.module, one.of.now)

-- a type without the lists around it, of which at most so many are taken away, and how many these are
unfoldable pub peeled : ℕ → «Type» → ℕ × «Type»
peeled zero of = (0, of)
peeled (suc left) of = elim (list_in of.body) [ None ↦ (0, of) | Some (inner, _) ↦ (suc (peeled left inner).0, (peeled left inner).1) ]

abbrev pub is_enumerated : Body → Bool
is_enumerated (Enumerated _ _) = true
is_enumerated _ = false

-- a type that needs a definition of its own: a SEQUENCE, a SET, a CHOICE or an ENUMERATED
abbrev pub has_parts : Body → Bool
has_parts body = has_members body || is_enumerated body

-- whether the type of a part is written inside the definition that has it
abbrev pub is_inside : Part → Bool
is_inside part = has_parts part.inner.now.body && (nat_lt 0 part.lists || is_some part.row)

-- what a part of a type in a module adds to the types that need definitions
abbrev pub inside_by : ℕ → Part → List Written
inside_by home part = cond (is_inside part) ((home, part.inner.now) ∷ []) []

abbrev pub inside : Definition → List Written
inside one = flat_map (inside_by one.module) one.parts.items

-- the type that a part of a type is of: a component's or an alternative's, or the whole
abbrev pub type_in : «Type» → Option Row → «Type»
type_in whole row = elim row [ None ↦ whole | Some row ↦ row.of.now ]

-- a part is of its type without the lists around it
abbrev pub IsPeeled : «Type» → Part → Type 0
IsPeeled whole part = peeled 64 (type_in whole part.row) ≡ (part.lists, part.inner.now)

-- Where a part of a type in a module leads to, of so many assigned types and of all: to one that is assigned, where it is a name, and to its own
-- definition, where its type is written inside.
pub record LeadsTo (count : ℕ) (all : List Written) (home : ℕ) (part : Part) : Type 0 where
  pub name : is_name_of part.inner.now.body ≡ true → MatchOption part.target ⊥ (λ at. at < count)
  pub inside : is_inside part ≡ true → MatchOption part.target ⊥ (λ at. slice_get all at ≡ Some (home, part.inner.now))
  pub others : is_name_of part.inner.now.body ≡ false → is_inside part ≡ false → part.target ≡ None

-- The parts of a type: its components or alternatives, as they are written; none of an ENUMERATED; of another type itself.
pub record HasParts (whole : «Type») (parts : List Part) : Type 0 where
  pub rows : List Row
  pub are_rows : has_members whole.body ≡ true → map (λ (part : Part). part.row) parts ≡ map Some rows
  pub are_members : (members : List Member) → AreMembers whole.body members → AreRowsOf members rows
  pub values : is_enumerated whole.body ≡ true → parts ≡ []
  pub others : has_parts whole.body ≡ false → map (λ (part : Part). part.row) parts ≡ None ∷ []

-- The parts of a type in a module, of so many assigned types and of all.
pub record AreParts (count : ℕ) (all : List Written) (home : ℕ) (whole : «Type») (parts : List Part) : Type 0 where
  pub are_all : HasParts whole parts
  pub are_peeled : All (IsPeeled whole) parts
  pub lead : All (LeadsTo count all home) parts

-- a definition with its parts; with none, where it can't be resolved
abbrev pub IsDefined : ℕ → List Written → Definition → Type 0
IsDefined count all one = MatchOption one.fault (AreParts count all one.module one.of.now one.parts.items) (λ _. one.parts.items ≡ [])

-- Definitions of all types that modules assign, and of each that is written inside one of them. None has a fault, but where faults are kept.
pub record AreDefined (keeps_faults : Bool) (modules : List Module) (all : List Definition) : Type 0 where
  pub are_all : map defined all ≡ assigned modules ++ flat_map inside all
  pub have_parts : All (IsDefined (length (assigned modules)) (map defined all)) all
  pub have_none : keeps_faults ≡ false → All (λ one. one.fault ≡ None) all

-- Modules that give more than a million types: so many have definitions, and one more waits for its own.
pub record HasMany (modules : List Module) : Type 0 where
  pub all : List Definition
  pub are_many : length all ≡ 1000000
  pub waiting : List Written
  pub are_waiting : waiting ≡ assigned modules ++ flat_map inside all
  pub are_defined : map defined all ≡ take (length all) waiting
  pub is_more : length all < length waiting

-- The definitions of modules, with what stands in the place of choices without a tag.
pub record AreDefinitionsOf (keeps_faults : Bool) (modules : List Module) (kept : List Definition) : Type 0 where
  pub written : List Definition
  pub are_defined : AreDefined keeps_faults modules written
  pub are_resolved : AreResolved keeps_faults written kept
