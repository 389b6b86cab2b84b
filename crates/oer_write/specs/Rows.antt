-- What the closure of a scope does, row by row.
use Rattle.std.specs.Prelude.{◌≡◌, ◌≤◌, Bool, true, false, List, [], ◌∷◌, ◌++◌, ◌⊎◌, ⊤, length, Result, Ok, Err}
use Rattle.asn1_core.specs.Octets.{Octets, usize_max}
use Rattle.asn1_core.specs.declared.codec.Codec.TheVariants.{Coer}
use Rattle.asn1_core.specs.declared.error.EncodeError.{EncodeError}
use Rattle.asn1_core.specs.declared.error.EncodeErrorKind.{EncodeErrorKind}
use Rattle.asn1_core.specs.declared.error.EncodeErrorKind.TheVariants.{OutOfMemory}
use Rattle.asn1_core.specs.declared.tag.Tag.{Tag}
use Rattle.oer_spec.specs.Encoding.{IsEncodable, canonical_octets}
use Rattle.oer_spec.specs.Lengths.{behind_length}
use Rattle.oer_spec.specs.Places.{Item, needed, present, absent}
use Rattle.oer_spec.specs.Tree.{Tree, Rows, NoRows, Required, Optional, Default, Slot, Absent, Present}
use Rattle.oer_spec.specs.Failures.{Fails}
use Rattle.oer_write.specs.Scopes.{Runs, IsNew}
use Rattle.oer_write.specs.Written.{Written, WriteFrame, Keeps}

-- ---- what rows give

abbrev pub is_present : Slot → Bool
is_present Absent = false
is_present (Present t) = true

abbrev pub slot_octets : Slot → Octets
slot_octets Absent = []
slot_octets (Present t) = canonical_octets t

-- the presence bits of root rows, and their octets
abbrev pub presence_of : Rows → List Bool
presence_of NoRows = []
presence_of (Required g t r) = presence_of r
presence_of (Optional g s r) = is_present s ∷ presence_of r
presence_of (Default g u s r) = is_present s ∷ presence_of r

abbrev pub octets_of : Rows → Octets
octets_of NoRows = []
octets_of (Required g t r) = canonical_octets t ++ octets_of r
octets_of (Optional g s r) = slot_octets s ++ octets_of r
octets_of (Default g u s r) = slot_octets s ++ octets_of r

abbrev pub slot_item : Tag → Slot → Item
slot_item g Absent = absent g
slot_item g (Present t) = present g (canonical_octets t)

-- the components of root rows
abbrev pub items_of : Rows → List Item
items_of NoRows = []
items_of (Required g t r) = needed g (canonical_octets t) ∷ items_of r
items_of (Optional g s r) = slot_item g s ∷ items_of r
items_of (Default g u s r) = slot_item g s ∷ items_of r

-- content behind its length
unfoldable pub open_type : Octets → Octets
open_type content = behind_length content

abbrev pub slot_open : Slot → Octets
slot_open Absent = []
slot_open (Present t) = open_type (canonical_octets t)

-- which additions are present, and the open types of those
abbrev pub bitmap_of : Rows → List Bool
bitmap_of NoRows = []
bitmap_of (Required g t r) = true ∷ bitmap_of r
bitmap_of (Optional g s r) = is_present s ∷ bitmap_of r
bitmap_of (Default g u s r) = is_present s ∷ bitmap_of r

abbrev pub opens_of : Rows → Octets
opens_of NoRows = []
opens_of (Required g t r) = open_type (canonical_octets t) ++ opens_of r
opens_of (Optional g s r) = slot_open s ++ opens_of r
opens_of (Default g u s r) = slot_open s ++ opens_of r

-- ---- whether rows can be written

abbrev pub IsSlotEncodable : Slot → Type 0
IsSlotEncodable Absent = ⊤
IsSlotEncodable (Present t) = IsEncodable t

abbrev pub AreEncodable : Rows → Type 0
AreEncodable NoRows = ⊤
AreEncodable (Required g t r) = IsEncodable t × AreEncodable r
AreEncodable (Optional g s r) = IsSlotEncodable s × AreEncodable r
AreEncodable (Default g u s r) = IsSlotEncodable s × AreEncodable r

-- and that no open type is too long
pub record IsOpenEncodable (t : Tree) : Type 0 where
  pub encodable : IsEncodable t
  pub short : length (canonical_octets t) ≤ usize_max

abbrev pub IsOpenSlot : Slot → Type 0
IsOpenSlot Absent = ⊤
IsOpenSlot (Present t) = IsOpenEncodable t

abbrev pub AreOpenEncodable : Rows → Type 0
AreOpenEncodable NoRows = ⊤
AreOpenEncodable (Required g t r) = IsOpenEncodable t × AreOpenEncodable r
AreOpenEncodable (Optional g s r) = IsOpenSlot s × AreOpenEncodable r
AreOpenEncodable (Default g u s r) = IsOpenSlot s × AreOpenEncodable r

abbrev pub SlotFails : Slot → EncodeErrorKind → Type 0
SlotFails Absent k = ⊥
SlotFails (Present t) k = Fails t k

-- the tree of some row breaks the condition that the kind names
abbrev pub SomeFails : Rows → EncodeErrorKind → Type 0
SomeFails NoRows k = ⊥
SomeFails (Required g t r) k = Fails t k ⊎ SomeFails r k
SomeFails (Optional g s r) k = SlotFails s k ⊎ SomeFails r k
SomeFails (Default g u s r) k = SlotFails s k ⊎ SomeFails r k

-- ---- what writing rows does

-- presence bits, addition bits and open types added to a scope
abbrev pub recorded : List Bool → List Bool → Octets → WriteFrame → WriteFrame
recorded presence bitmap opens f = record f { presence = f.presence ++ presence; bitmap = f.bitmap ++ bitmap; opens = f.opens ++ opens }

-- In a sequence: the root rows' octets are written, and their presence and the additions recorded.
pub record RowsDone (roots additions : Rows) (e e' : Written) : Type 0 where
  pub roots_encodable : AreEncodable roots
  pub additions_encodable : AreOpenEncodable additions
  pub octets : e'.octets ≡ e.octets ++ octets_of roots
  pub frame : e'.frame ≡ recorded (presence_of roots) (bitmap_of additions) (opens_of additions) e.frame
  pub outer : e'.outer ≡ e.outer

-- Refused for want of memory, or by a kind whose condition some row's tree breaks; it names the mode that is written in.
pub record RowsRefused (roots additions : Rows) (x : EncodeError) (e e' : Written) : Type 0 where
  pub reason : (x.kind ≡ OutOfMemory) ⊎ (SomeFails roots x.kind ⊎ SomeFails additions x.kind)
  pub mode : x.codec ≡ Coer
  pub keeps : Keeps e e'

abbrev pub WritesRows : Rows → Rows → Written → Result (Unit {0}) EncodeError → Written → Type 0
WritesRows roots additions e (Ok u) e' = RowsDone roots additions e e'
WritesRows roots additions e (Err x) e' = RowsRefused roots additions x e e'

-- The same, where the encoder that was lent is in a sequence: what a sequence's closure promises.
abbrev pub InSequence : Rows → Rows → Written → Result (Unit {0}) EncodeError → Written → Type 0
InSequence roots additions e r e' = e.frame.is_set ≡ false → WritesRows roots additions e r e'

-- whatever encoder with such a new sequence the closure is lent, it writes these rows
abbrev pub IsKnownToWrite : Bool → Runs → Rows → Rows → Type 0
IsKnownToWrite extensible runs roots additions = (e e' : Written) (r : Result (Unit {0}) EncodeError) → IsNew false extensible e → runs e r e' → InSequence roots additions e r e'

-- In a set: the root rows are kept apart, in the order handed in.
pub record SetDone (roots additions : Rows) (e e' : Written) : Type 0 where
  pub roots_encodable : AreEncodable roots
  pub additions_encodable : AreOpenEncodable additions
  pub octets : e'.octets ≡ e.octets ++ []
  pub frame : e'.frame ≡ record e.frame { components = e.frame.components ++ items_of roots; bitmap = e.frame.bitmap ++ bitmap_of additions; opens = e.frame.opens ++ opens_of additions }
  pub outer : e'.outer ≡ e.outer

abbrev pub WritesSet : Rows → Rows → Written → Result (Unit {0}) EncodeError → Written → Type 0
WritesSet roots additions e (Ok u) e' = SetDone roots additions e e'
WritesSet roots additions e (Err x) e' = RowsRefused roots additions x e e'

-- what a set's closure promises
abbrev pub InSet : Rows → Rows → Written → Result (Unit {0}) EncodeError → Written → Type 0
InSet roots additions e r e' = e.frame.is_set ≡ true → WritesSet roots additions e r e'

abbrev pub IsKnownToWriteSet : Bool → Runs → Rows → Rows → Type 0
IsKnownToWriteSet extensible runs roots additions = (e e' : Written) (r : Result (Unit {0}) EncodeError) → IsNew true extensible e → runs e r e' → InSet roots additions e r e'

-- ---- single rows

abbrev pub required : Tag → Tree → Rows
required g t = Required g t NoRows

abbrev pub optional : Tag → Slot → Rows
optional g s = Optional g s NoRows

abbrev pub defaulted : Tag → Tree → Slot → Rows
defaulted g u s = Default g u s NoRows
