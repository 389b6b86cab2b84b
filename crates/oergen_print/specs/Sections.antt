-- Which types stand in which file.
use Rattle.std.specs.Prelude.{ℕ, Bool, List, Option, Some, None, eqb, [], ◌∷◌, ◌⊎◌, ◌≡◌, ◌≤◌, ◌<◌, ◌^◌, ◌+◌, ◌-◌, ◌++◌, codes, cond, false, length, map, nat_lt, string_bytes, ⊤}
use Rattle.std.specs.Fmt.{decimal}
use Rattle.std.specs.List.{slice_get, slice_range}
use Rattle.std.specs.Option.{option_map_or}
use Rattle.oergen_print.specs.declared.files.Named.{Named}
use Rattle.oergen_print.specs.declared.printer.Printed.{Printed}
use Rattle.oergen_print.specs.declared.sections.Cut.{Cut}
use Rattle.oergen_print.specs.declared.sections.Section.{Section}

-- the number of the cycle of the type at a place, if it is of one
abbrev pub cycle_at : List Printed → ℕ → Option ℕ
cycle_at types at = option_map_or (λ one. one.cycle) (slice_get types at) None

abbrev pub is_one_cycle : Option ℕ → Option ℕ → Bool
is_one_cycle (Some a) (Some b) = eqb a b
is_one_cycle _ _ = false

-- whether a type is of the cycle of the one before
abbrev pub is_joined : List Printed → ℕ → Bool
is_joined types at = is_one_cycle (cycle_at types (at - 1)) (cycle_at types at)

-- the types of a file, of all
abbrev pub of_cut : List Printed → Cut → List Printed
of_cut types cut = slice_range types cut.from cut.to

-- a file has at least one type, no more than there are, and the whole of a cycle
pub record IsCutOf (types : List Printed) (cut : Cut) : Type 0 where
  pub some : cut.from + 1 ≤ cut.to
  pub within : cut.to ≤ length types
  pub whole : is_joined types cut.to ≡ false

abbrev pub of_section : List Printed → Section → List Printed
of_section types section = of_cut types section.cut

abbrev pub IsSectionOf : List Printed → Section → Type 0
IsSectionOf types section = IsCutOf types section.cut

-- the numbers of a file: its crate's, and its own in the crate
abbrev pub numbers : Cut → ℕ × ℕ
numbers cut = (cut.library, cut.«module»)

-- there are numbers above a file's
abbrev pub HasNext : Cut → Type 0
HasNext cut = (cut.library + 1 < 2 ^ 64) × (cut.«module» + 1 < 2 ^ 64)

-- a file is the next of the same crate, or the first of the next
abbrev pub Follows : ℕ × ℕ → ℕ × ℕ → Type 0
Follows before after =
    ((after.0 ≡ before.0) × (after.1 ≡ before.1 + 1)) ⊎ ((after.0 ≡ before.0 + 1) × (after.1 ≡ 1))

-- each file follows the one before
unfoldable pub AreBehind : ℕ × ℕ → List (ℕ × ℕ) → Type 0
AreBehind _ [] = ⊤
AreBehind before (one ∷ more) = Follows before one × AreBehind one more

-- numbers begin at 1, and each file follows the one before: so none has the numbers of another
unfoldable pub AreNumbered : List (ℕ × ℕ) → Type 0
AreNumbered [] = ⊤
AreNumbered (first ∷ more) = (first ≡ (1, 1)) × AreBehind first more

-- what the numbers stand for: a crate has one only where there are more
abbrev pub crate_name : List ℕ → ℕ → ℕ → List ℕ
crate_name name count number = cond (nat_lt 1 count) (name ++ codes "_" ++ decimal number) name

abbrev pub module_name : ℕ → List ℕ
module_name number = codes "types_" ++ cond (nat_lt number 10) (codes "0") [] ++ decimal number

-- how many crates there are
abbrev pub crate_count : List Cut → ℕ
crate_count cuts = option_map_or (λ last. last.library) (slice_get cuts (length cuts - 1)) 0

abbrev pub cuts_of : List Section → List Cut
cuts_of = map (λ section. section.cut)

pub record IsNamed (name : List ℕ) (count : ℕ) (section : Section) : Type 0 where
  pub library : string_bytes section.library ≡ crate_name name count section.cut.library
  pub «module» : string_bytes section.«module» ≡ module_name section.cut.«module»

-- the name of a type: as it is printed, and as it is listed
abbrev pub type_name : Printed → List ℕ
type_name one = string_bytes one.name

abbrev pub listed_name : Named → List ℕ
listed_name one = string_bytes one.name
