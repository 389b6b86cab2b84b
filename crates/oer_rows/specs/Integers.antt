-- Integers without constraints as components: required, optional, and with a default.
use Rattle.std.specs.Prelude.{◌≡◌, ℤ, Bool, true, List, [], ◌∷◌, Option, Some, None, refl}
use Rattle.std.specs.Ordering.{int_eq}
use Rattle.asn1_core.specs.Rows.{Row}
use Rattle.asn1_core.specs.declared.fields.FieldPresence.TheVariants as presence
use Rattle.asn1_core.specs.declared.constraints.TheConstants.Constraints.{NONE}
use Rattle.oer_spec.specs.Encoding.{AreSlot}
use Rattle.oer_spec.specs.Same.{AlikeSlot}
use Rattle.oer_spec.specs.Spelled.{integer, integer_is, integers_alike}
use Rattle.oer_spec.specs.Tree.{Tree, Rows, NoRows, Slot, present_unless, slot_of}
use Rattle.oer_read.specs.Parts.{Admits, OnPresent}
use Rattle.oer_rows.specs.Schema.{context}
use Rattle.oer_rows.specs.Slots.{IfThere, slot_is, slots_alike, slot_made}

-- each number is one of `Integer`
abbrev pub IsWhole : ℤ → Type 0
IsWhole n = ◌≡◌ {A = Bool} true true

-- the tree of an integer without constraint, of any number
abbrev pub plain_integer : ℤ → Tree
plain_integer n = integer NONE n

-- no additions
abbrev pub none_of : {A : Type 0} → A → Rows
none_of v = NoRows

-- ---- integers with a default

-- a number's slot: absent where it is that default
abbrev pub integer_unless : ℤ → ℤ → Slot
integer_unless d n = present_unless (int_eq n d) (plain_integer n)

abbrev pub WholePart : Tree → Type 0
WholePart = Admits plain_integer IsWhole

-- ---- optional integers

abbrev pub integer_slot : Option ℤ → Slot
integer_slot o = slot_of plain_integer o

whole_option : (o : Option ℤ) → IfThere IsWhole o
whole_option None = tt
whole_option (Some n) = refl

pub option_is : (o : Option ℤ) → AreSlot (integer_slot o)
option_is o = slot_is plain_integer IsWhole (λ v i. integer_is NONE v) o (whole_option o)

pub options_alike : (o p : Option ℤ) → AlikeSlot (integer_slot o) (integer_slot p)
options_alike o p = slots_alike plain_integer IsWhole (λ v w i j. integers_alike NONE v w) o p (whole_option o) (whole_option p)

pub option_admitted : (o : Option ℤ) → OnPresent WholePart (integer_slot o)
option_admitted o = slot_made plain_integer IsWhole o (whole_option o)

-- a table of two required components
abbrev pub two_rows : List Row
two_rows = record { index = 0; tag = context 0; presence = presence.Required } ∷ record { index = 1; tag = context 1; presence = presence.Required } ∷ []
