-- What rows give, as the canonical items of trees have it.
use Rattle.std.proofs.Common.{◌≡◌, ℕ, ◌+◌, ◌^◌, ◌<◌, ◌≤◌, Bool, true, false, cond, ◌&&◌, ◌||◌, List, [], ◌∷◌, ◌++◌, length, refl, ap, ap₂, ◌∙◌, arith, map, inl, inr, Some}
use Rattle.std.specs.Prelude.{nat_lt}
use Rattle.asn1_core.specs.Octets.{Octets, usize_max, octets_for}
use Rattle.asn1_core.specs.declared.tag.Tag.{Tag}
use Rattle.asn1_core.specs.declared.error.EncodeErrorKind.{EncodeErrorKind}
use Rattle.asn1_core.specs.declared.error.EncodeErrorKind.TheVariants.{SizeConstraintNotSatisfied}
use Rattle.oer_spec.specs.Encoding.{fails, rows_fail, slot_fails, opens_fail, open_fails, bitmap_fails, canonical_octets, canonical_items, canonical_item}
use Rattle.oer_spec.specs.Leaves.{Failure, BadValue, BadSize, BadIdentifier, BadTime, TooManyEmpty, TooLong}
use Rattle.oer_spec.specs.Lengths.{behind_length}
use Rattle.oer_spec.specs.Places.{Item, needed, presence, bodies, any_bit, additions_octets}
use Rattle.oer_spec.specs.Tree.{Rows, NoRows, Required, Optional, Default, Slot, Absent, Present}
use Rattle.oer_spec.specs.Failures.{failure_of, SizeFails, SlotSizeFails, RowsSizeFails}
use Rattle.oer_write.specs.Rows.{presence_of, octets_of, items_of, slot_item, slot_octets, slot_open, bitmap_of, opens_of, open_type, is_present, AreEncodable, AreOpenEncodable, IsSlotEncodable, IsOpenSlot, SomeFails, SlotFails}
use Rattle.oer_write.specs.Scopes.{any_true}

item_is : (g : Tag) (s : Slot) → canonical_item g s ≡ slot_item g s
unfolding canonical_octets
item_is g Absent = refl
item_is g (Present t) = refl

pub items_are : (r : Rows) → canonical_items r ≡ items_of r
unfolding canonical_octets
items_are NoRows = refl
items_are (Required g t r) = ap (λ (is : List Item). needed g (canonical_octets t) ∷ is) (items_are r)
items_are (Optional g s r) = ap₂ (λ (i : Item) (is : List Item). i ∷ is) (item_is g s) (items_are r)
items_are (Default g u s r) = ap₂ (λ (i : Item) (is : List Item). i ∷ is) (item_is g s) (items_are r)

slot_presence : (g : Tag) (s : Slot) (is : List Item) → presence (slot_item g s ∷ is) ≡ is_present s ∷ presence is
slot_presence g Absent is = refl
slot_presence g (Present t) is = refl

pub presence_is : (r : Rows) → presence (items_of r) ≡ presence_of r
presence_is NoRows = refl
presence_is (Required g t r) = presence_is r
presence_is (Optional g s r) = slot_presence g s (items_of r) ∙ ap (λ (b : List Bool). is_present s ∷ b) (presence_is r)
presence_is (Default g u s r) = slot_presence g s (items_of r) ∙ ap (λ (b : List Bool). is_present s ∷ b) (presence_is r)

slot_body : (g : Tag) (s : Slot) → (slot_item g s).octets ≡ slot_octets s
slot_body g Absent = refl
slot_body g (Present t) = refl

pub bodies_are : (r : Rows) → bodies (items_of r) ≡ octets_of r
bodies_are NoRows = refl
bodies_are (Required g t r) = ap (λ (o : Octets). canonical_octets t ++ o) (bodies_are r)
bodies_are (Optional g s r) = ap₂ (λ (a b : Octets). a ++ b) (slot_body g s) (bodies_are r)
bodies_are (Default g u s r) = ap₂ (λ (a b : Octets). a ++ b) (slot_body g s) (bodies_are r)

slot_bit : (g : Tag) (s : Slot) → (slot_item g s).bit ≡ is_present s
slot_bit g Absent = refl
slot_bit g (Present t) = refl

pub bitmap_is : (r : Rows) → map (λ i. i.bit) (items_of r) ≡ bitmap_of r
bitmap_is NoRows = refl
bitmap_is (Required g t r) = ap (λ (b : List Bool). true ∷ b) (bitmap_is r)
bitmap_is (Optional g s r) = ap₂ (λ (x : Bool) (b : List Bool). x ∷ b) (slot_bit g s) (bitmap_is r)
bitmap_is (Default g u s r) = ap₂ (λ (x : Bool) (b : List Bool). x ∷ b) (slot_bit g s) (bitmap_is r)

pub any_is : (is : List Item) → any_true (map (λ i. i.bit) is) ≡ any_bit is
any_is [] = refl
any_is (i ∷ is) = ap (λ (b : Bool). i.bit || b) (any_is is)

slot_addition : (g : Tag) (s : Slot) → cond (slot_item g s).bit (behind_length (slot_item g s).octets) [] ≡ slot_open s
unfolding open_type
slot_addition g Absent = refl
slot_addition g (Present t) = refl

pub opens_are : (r : Rows) → additions_octets (items_of r) ≡ opens_of r
unfolding open_type
opens_are NoRows = refl
opens_are (Required g t r) = ap (λ (o : Octets). behind_length (canonical_octets t) ++ o) (opens_are r)
opens_are (Optional g s r) = ap₂ (λ (a b : Octets). a ++ b) (slot_addition g s) (opens_are r)
opens_are (Default g u s r) = ap₂ (λ (a b : Octets). a ++ b) (slot_addition g s) (opens_are r)

-- ---- what fails

slot_encodable : (s : Slot) → IsSlotEncodable s → (k : Failure) → slot_fails s k ≡ false
unfolding fails
slot_encodable Absent h k = refl
slot_encodable (Present t) h k = h k

pub or_false : (a b : Bool) → a ≡ false → b ≡ false → (a || b) ≡ false
or_false false b h i = i
or_false true b h i = h

pub none_fails : (r : Rows) → AreEncodable r → (k : Failure) → rows_fail r k ≡ false
unfolding fails
none_fails NoRows h k = refl
none_fails (Required g t r) h k = or_false _ _ (h.0 k) (none_fails r h.1 k)
none_fails (Optional g s r) h k = or_false _ _ (slot_encodable s h.0 k) (none_fails r h.1 k)
none_fails (Default g u s r) h k = or_false _ _ (slot_encodable s h.0 k) (none_fails r h.1 k)

slot_of_open : (s : Slot) → IsOpenSlot s → IsSlotEncodable s
slot_of_open Absent h = tt
slot_of_open (Present t) h = h.encodable

pub encodable_of_open : (r : Rows) → AreOpenEncodable r → AreEncodable r
encodable_of_open NoRows h = tt
encodable_of_open (Required g t r) h = (h.0.encodable, encodable_of_open r h.1)
encodable_of_open (Optional g s r) h = (slot_of_open s h.0, encodable_of_open r h.1)
encodable_of_open (Default g u s r) h = (slot_of_open s h.0, encodable_of_open r h.1)

not_above : (a b : ℕ) → a ≤ b → nat_lt b a ≡ false
not_above a b h = grind arith

short_open : (o : Octets) (k : Failure) → length o ≤ usize_max → open_fails o k ≡ false
short_open o TooLong h = not_above (length o) usize_max h
short_open o BadValue h = refl
short_open o BadSize h = refl
short_open o BadIdentifier h = refl
short_open o BadTime h = refl
short_open o TooManyEmpty h = refl

slot_short : (g : Tag) (s : Slot) (k : Failure) → IsOpenSlot s → ((slot_item g s).bit && open_fails (slot_item g s).octets k) ≡ false
slot_short g Absent k h = refl
slot_short g (Present t) k h = short_open (canonical_octets t) k h.short

pub no_open_fails : (r : Rows) (k : Failure) → AreOpenEncodable r → opens_fail (items_of r) k ≡ false
no_open_fails NoRows k h = refl
no_open_fails (Required g t r) k h = or_false _ _ (short_open (canonical_octets t) k h.0.short) (no_open_fails r k h.1)
no_open_fails (Optional g s r) k h = or_false _ _ (slot_short g s k h.0) (no_open_fails r k h.1)
no_open_fails (Default g u s r) k h = or_false _ _ (slot_short g s k h.0) (no_open_fails r k h.1)

and_false : (a b : Bool) → b ≡ false → (a && b) ≡ false
and_false true b h = h
and_false false b h = refl

pub short_bitmap : (is : List Item) (k : Failure) → length is < 2 ^ 64 → bitmap_fails is k ≡ false
short_bitmap is TooLong h = and_false (any_bit is) _ (not_above (1 + octets_for (length is)) usize_max (omega arith))
short_bitmap is BadValue h = refl
short_bitmap is BadSize h = refl
short_bitmap is BadIdentifier h = refl
short_bitmap is BadTime h = refl
short_bitmap is TooManyEmpty h = refl

pub or_left : (a b : Bool) → a ≡ true → (a || b) ≡ true
or_left true b h = refl
or_left false b h = absurd (cc)

pub or_right : (a b : Bool) → b ≡ true → (a || b) ≡ true
or_right true b h = refl
or_right false b h = h

slot_fails_by : (s : Slot) (k : EncodeErrorKind) → SlotFails s k → (f : Failure) × (failure_of k ≡ Some f) × (slot_fails s f ≡ true) × ((n : ℕ) → k ≡ SizeConstraintNotSatisfied n → SlotSizeFails s n)
unfolding fails SizeFails
slot_fails_by Absent k h = absurd h
slot_fails_by (Present t) k h = h

-- some row's tree fails: so do the rows
pub rows_fail_by : (r : Rows) (k : EncodeErrorKind) → SomeFails r k → (f : Failure) × (failure_of k ≡ Some f) × (rows_fail r f ≡ true) × ((n : ℕ) → k ≡ SizeConstraintNotSatisfied n → RowsSizeFails r n)
unfolding fails SizeFails
rows_fail_by NoRows k h = absurd h
rows_fail_by (Required g t r) k (inl h) = (h.0, h.1, or_left _ _ h.2, λ n e. inl (h.3 n e))
rows_fail_by (Required g t r) k (inr h) = let i = rows_fail_by r k h in (i.0, i.1, or_right (fails t i.0) _ i.2, λ n e. inr (i.3 n e))
rows_fail_by (Optional g s r) k (inl h) = let i = slot_fails_by s k h in (i.0, i.1, or_left _ _ i.2, λ n e. inl (i.3 n e))
rows_fail_by (Optional g s r) k (inr h) = let i = rows_fail_by r k h in (i.0, i.1, or_right (slot_fails s i.0) _ i.2, λ n e. inr (i.3 n e))
rows_fail_by (Default g u s r) k (inl h) = let i = slot_fails_by s k h in (i.0, i.1, or_left _ _ i.2, λ n e. inl (i.3 n e))
rows_fail_by (Default g u s r) k (inr h) = let i = rows_fail_by r k h in (i.0, i.1, or_right (slot_fails s i.0) _ i.2, λ n e. inr (i.3 n e))
