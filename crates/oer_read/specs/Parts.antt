-- What a scope's closure owes: the components of a value, read in the order of the tables.
use Rattle.std.specs.Prelude.{◌≡◌, ◌++◌, Bool, true, false, not, cond, List, [], ◌∷◌, map, Option, Some, None, Result, IfOk, IfErr, ⊤}
use Rattle.asn1_core.specs.Octets.{Octets}
use Rattle.asn1_core.specs.Rows.{Row}
use Rattle.asn1_core.specs.declared.error.DecodeError.{DecodeError}
use Rattle.asn1_core.specs.declared.fields.FieldPresence.TheVariants as presence
use Rattle.asn1_core.specs.declared.tag.Tag.{Tag}
use Rattle.oer_spec.specs.Encoding.{AreItems}
use Rattle.oer_spec.specs.Mode.{Mode, mode_of}
use Rattle.oer_spec.specs.Places.{Item, bodies, IsExtension, AreAdditions}
use Rattle.oer_spec.specs.Same.{SameSlot}
use Rattle.oer_spec.specs.Tree.{Tree, Rows, NoRows, Required, Optional, Default, Slot, Absent, Present}
use Rattle.oer_read.specs.Law.{IsForMemory, IsRear}
use Rattle.oer_read.specs.State.{Ask, Place, State}

-- ---- what is left to read in a scope

-- the marked items of root rows, as they are asked
abbrev pub asks_in : List Item → List Ask
asks_in [] = []
asks_in (i ∷ is) = cond i.marked (record { tag = i.tag; bit = i.bit } ∷ asks_in is) (asks_in is)

-- the items of additions, as they are asked
abbrev pub places_in : List Item → List Place
places_in is = map (λ i. record { tag = i.tag; needed = not i.marked }) is

-- what follows the root components: the bitmap, where it was not yet read, and the additions
abbrev pub IsTail : Mode → Bool → Option (List Bool) → Octets → List Item → Type 0
IsTail m extended None o js = IsExtension m extended o js
IsTail m extended (Some b) o js = AreAdditions m b o js

-- What is left begins with root rows and additions, which are those still to be asked, and `rest` follows them.
pub record Comes (s : State) (r a : Rows) (rest : Octets) : Type 0 where
  pub roots : List Item
  pub additions : List Item
  pub extension : Octets
  pub split : s.input ≡ bodies roots ++ (extension ++ rest)
  pub are_roots : AreItems (mode_of s.codec) s.levels roots r
  pub are_additions : AreItems (mode_of s.codec) s.levels additions a
  pub asked : asks_in roots ≡ s.frame.asks
  pub placed : places_in additions ≡ s.frame.additions
  pub only : s.frame.extensible ≡ false → additions ≡ []
  pub tail : IsTail (mode_of s.codec) s.frame.extended s.frame.bitmap extension additions

-- ---- the components that a type admits

-- A type's rows, each with the trees that its component may have.
pub data Parts : Type 1 where
  NoParts : Parts
  RequiredPart : Tag → (Tree → Type 0) → Parts → Parts
  OptionalPart : Tag → (Tree → Type 0) → Parts → Parts
  DefaultPart : Tag → Tree → (Tree → Type 0) → Parts → Parts

-- the trees of a type's values
pub record Admits {A : Type 0} (tree : A → Tree) (IsValue : A → Type 0) (t : Tree) : Type 0 where
  pub value : A
  pub is_value : IsValue value
  pub is : t ≡ tree value

abbrev pub OnPresent : (Tree → Type 0) → Slot → Type 0
OnPresent P Absent = ⊤
OnPresent P (Present t) = P t

-- the rows are of these parts
abbrev pub AreOf : Parts → Rows → Type 0
AreOf NoParts NoRows = ⊤
AreOf (RequiredPart g P ps) (Required h t r) = (h ≡ g) × P t × AreOf ps r
AreOf (OptionalPart g P ps) (Optional h s r) = (h ≡ g) × OnPresent P s × AreOf ps r
AreOf (DefaultPart g u P ps) (Default h v s r) = (h ≡ g) × (v ≡ u) × OnPresent P s × (SameSlot s (Present u) → ⊥) × AreOf ps r
AreOf _ _ = ⊥

-- the table has the rows of these parts
abbrev pub IsTableOf : List Row → Parts → Type 0
IsTableOf [] NoParts = ⊤
IsTableOf (r ∷ rs) (RequiredPart g P ps) = (r.tag ≡ g) × (r.presence ≡ presence.Required) × IsTableOf rs ps
IsTableOf (r ∷ rs) (OptionalPart g P ps) = (r.tag ≡ g) × (r.presence ≡ presence.Optional) × IsTableOf rs ps
IsTableOf (r ∷ rs) (DefaultPart g u P ps) = (r.tag ≡ g) × (r.presence ≡ presence.Default) × IsTableOf rs ps
IsTableOf _ _ = ⊥

-- the addition rows of these parts, as they are asked
abbrev pub part_places : Parts → List Place
part_places NoParts = []
part_places (RequiredPart g P ps) = record { tag = g; needed = true } ∷ part_places ps
part_places (OptionalPart g P ps) = record { tag = g; needed = false } ∷ part_places ps
part_places (DefaultPart g u P ps) = record { tag = g; needed = false } ∷ part_places ps

-- From s to t the rows r and a were read, which are of these parts: where these are the additions still to be asked at s,
-- each rest that may follow t may follow them, and whatever rows of these parts come at s, nothing is left of them at t.
pub record Takes (s : State) (ps qs : Parts) (r a : Rows) (t : State) : Type 0 where
  pub fits : AreOf ps r
  pub more_fit : AreOf qs a
  pub rear : IsRear s.input t.input
  pub sound : s.frame.additions ≡ part_places qs → (rest : Octets) → Comes t NoRows NoRows rest → Comes s r a rest
  pub complete : (r' a' : Rows) (rest : Octets) → AreOf ps r' → AreOf qs a' → Comes s r' a' rest → Comes t NoRows NoRows rest

-- rows of these parts don't come at s
abbrev pub NoneCome : State → Parts → Parts → Type 0
NoneCome s ps qs = (r a : Rows) (rest : Octets) → AreOf ps r → AreOf qs a → Comes s r a rest → ⊥

-- an error names the mode read in and, unless it is for memory, says that rows of these parts don't come at s
pub record Stops {A : Type 0} (s : State) (ps qs : Parts) (result : Result A DecodeError) : Type 0 where
  pub mode : IfErr result (λ e. e.codec ≡ s.codec)
  pub none : IfErr result (λ e. (IsForMemory e → ⊥) → NoneCome s ps qs)

-- The law of a closure that reads the components of a value.
pub record ReadsParts {A : Type 0} (ps qs : Parts) (roots additions : A → Rows) (s : State) (result : Result A DecodeError) (t : State) : Type 0 where
  pub read : IfOk result (λ v. Takes s ps qs (roots v) (additions v) t)
  pub stops : Stops s ps qs result
