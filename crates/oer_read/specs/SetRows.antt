-- The rows of a set by its table: what each of its components reads.
use Rattle.std.specs.Prelude.{◌≡◌, ◌==◌, ℕ, Bool, true, false, Option, Some, None, List, [], ◌∷◌, ◌⊎◌, Result, IfOk, IfErr}
use Rattle.asn1_core.specs.Rows.{Row}
use Rattle.asn1_core.specs.declared.codec.Codec.TheVariants.{Coer}
use Rattle.asn1_core.specs.declared.error.DecodeError.{DecodeError}
use Rattle.asn1_core.specs.declared.fields.FieldPresence.{FieldPresence}
use Rattle.asn1_core.specs.declared.fields.FieldPresence.TheVariants as presence
use Rattle.asn1_core.specs.declared.tag.Tag.{Tag}
use Rattle.oer_spec.specs.Same.{SameSlot}
use Rattle.oer_spec.specs.Tree.{Tree, Primitive, Null, Rows, NoRows, Required, Optional, Default, Slot, Absent, Present}
use Rattle.oer_read.specs.Defaults.{only_lenient}
use Rattle.oer_read.specs.Law.{Reads, NoEncoding, IsForMemory}
use Rattle.oer_read.specs.Parts.{Parts, NoParts, RequiredPart, OptionalPart, DefaultPart, Admits, OnPresent}
use Rattle.oer_read.specs.State.{State}

-- ---- rows by a table, the tree of each default, and each component's slot

abbrev pub tree_in : Slot → Tree
tree_in Absent = Primitive Null
tree_in (Present t) = t

abbrev pub row_at : FieldPresence → Tag → Tree → Slot → Rows → Rows
row_at presence.Required g u s r = Required g (tree_in s) r
row_at presence.Optional g u s r = Optional g s r
row_at presence.Default g u s r = Default g u s r

abbrev pub rows_from : (ℕ → Tree) → (ℕ → Slot) → List Row → Rows
rows_from u f [] = NoRows
rows_from u f (r ∷ rs) = row_at r.presence r.tag (u r.index) (f r.index) (rows_from u f rs)

-- ---- what reading a component promises

-- A component with a default was read, and canonically isn't equal to it; or it is refused, by its type or since it is equal.
pub record ReadsDefault {V : Type 0} (tree : V → Tree) (IsPart : V → Type 0) (eq : V → V → Bool) (default : V) (s : State) (result : Result V DecodeError) (t : State) : Type 0 where
  pub read : IfOk result (λ v. Reads tree IsPart s v t × (s.codec ≡ Coer → eq v default ≡ false))
  pub refused : IfErr result (λ e. ((e.codec ≡ s.codec) × ((IsForMemory e → ⊥) → NoEncoding tree IsPart s)) ⊎ ((v : V) × (u : State) × Reads tree IsPart s v u × (s.codec ≡ Coer) × (eq v default ≡ true) × (e ≡ only_lenient s)))

module _ {V : Type 0} (tree : V → Tree) (Is : ℕ → V → Type 0) (default : ℕ → V) where
  -- the parts of a row, and of a table's rows
  abbrev pub part_at : FieldPresence → ℕ → Tag → Parts → Parts
  part_at presence.Required n g ps = RequiredPart g (Admits tree (Is n)) ps
  part_at presence.Optional n g ps = OptionalPart g (Admits tree (Is n)) ps
  part_at presence.Default n g ps = DefaultPart g (tree (default n)) (Admits tree (Is n)) ps

  abbrev pub parts_of : List Row → Parts
  parts_of [] = NoParts
  parts_of (r ∷ rs) = part_at r.presence r.index r.tag (parts_of rs)

  -- the slot is one of such a row
  abbrev pub FitsAt : FieldPresence → ℕ → Slot → Type 0
  FitsAt presence.Required n Absent = ⊥
  FitsAt presence.Required n (Present t) = Admits tree (Is n) t
  FitsAt presence.Optional n s = OnPresent (Admits tree (Is n)) s
  FitsAt presence.Default n s = OnPresent (Admits tree (Is n)) s × (SameSlot s (Present (tree (default n))) → ⊥)

  abbrev pub Fits : (ℕ → Slot) → Row → Type 0
  Fits f r = FitsAt r.presence r.index (f r.index)

-- ---- components by their rows

abbrev pub later : {V : Type 0} → Option V → Bool → V → Option V
later (Some w) b v = Some w
later None true v = Some v
later None false v = None

abbrev pub slot_of_found : {V : Type 0} → (V → Slot) → Option V → Slot
slot_of_found slot None = Absent
slot_of_found slot (Some v) = slot v

-- the last of these components that is the row's, by the index of each
abbrev pub found : {V : Type 0} → (V → ℕ) → ℕ → List V → Option V
found index n [] = None
found index n (v ∷ vs) = later (found index n vs) (index v == n) v
