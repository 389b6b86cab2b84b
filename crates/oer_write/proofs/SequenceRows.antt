-- From what the closure of a sequence writes to what the sequence writes.
use Rattle.std.proofs.Common.{◌≡◌, ℕ, ◌^◌, ◌<◌, Bool, false, List, length, refl, ap, ap₂, sym, ◌∙◌, ◌⊎◌, inl, inr}
use Rattle.std.proofs.lemmas.List.{append_cancel_left, length-map}
use Rattle.asn1_core.specs.Octets.{Octets}
use Rattle.asn1_core.specs.declared.error.EncodeError.{EncodeError}
use Rattle.asn1_core.specs.declared.error.EncodeErrorKind.{EncodeErrorKind}
use Rattle.oer_spec.specs.Encoding.{fails, rows_fail, canonical_octets, IsEncodable}
use Rattle.oer_spec.specs.Places.{Item, any_bit}
use Rattle.oer_spec.specs.Tree.{Rows, Struct}
use Rattle.oer_spec.specs.Failures.{Fails, SizeFails}
use Rattle.oer_write.specs.Rows.{RowsDone, IsKnownToWrite, presence_of, octets_of, items_of, bitmap_of, opens_of, AreEncodable, AreOpenEncodable, SomeFails, recorded}
use Rattle.oer_write.specs.Scopes.{Runs, Closed, Broken, sequence_octets, any_true}
use Rattle.oer_write.specs.Written.{Written, WriteFrame, fresh, append, Encodes, Refused}
use Rattle.oer_write.proofs.Items.{items_are, presence_is, bodies_are, bitmap_is, any_is, opens_are, none_fails, encodable_of_open, no_open_fails, short_bitmap, rows_fail_by, or_false, or_left, or_right}

pub extended_is : (r : Rows) → any_bit (items_of r) ≡ any_true (bitmap_of r)
extended_is r = rw (← any_is (items_of r), bitmap_is r) refl

map_length : (r : Rows) → length (items_of r) ≡ length (bitmap_of r)
map_length r = sym (length-map (items_of r) (λ (i : Item). i.bit)) ∙ ap (λ (b : List Bool). length b) (bitmap_is r)

pub struct_encodable : (set extensible : Bool) (roots additions : Rows) → AreEncodable roots → AreOpenEncodable additions → length (bitmap_of additions) < 2 ^ 64 → IsEncodable (Struct set extensible roots additions)
unfolding fails
struct_encodable set extensible roots additions h i short k =
    let few : length (items_of additions) < 2 ^ 64 = rw (map_length additions) short in
    or_false _ _ (none_fails roots h k) (or_false _ _ (none_fails additions (encodable_of_open additions i) k) (rw (items_are additions) (or_false _ _ (no_open_fails additions k i) (short_bitmap (items_of additions) k few))))

pub struct_fails : (set extensible : Bool) (roots additions : Rows) (k : EncodeErrorKind) → SomeFails roots k ⊎ SomeFails additions k → Fails (Struct set extensible roots additions) k
unfolding fails SizeFails
struct_fails set extensible roots additions k (inl h) =
    let f = rows_fail_by roots k h in
    (f.0, f.1, or_left _ _ f.2, λ n e. inl (f.3 n e))
struct_fails set extensible roots additions k (inr h) =
    let f = rows_fail_by additions k h in
    (f.0, f.1, or_right (rows_fail roots f.0) _ (or_left _ _ f.2), λ n e. inr (f.3 n e))

sequence_octets_are : (extensible : Bool) (start : ℕ) (roots additions : Rows) → canonical_octets (Struct false extensible roots additions) ≡ sequence_octets (recorded (presence_of roots) (bitmap_of additions) (opens_of additions) (fresh false extensible start)) (octets_of roots)
unfolding canonical_octets
sequence_octets_are extensible start roots additions = rw (items_are roots, items_are additions, presence_is roots, bodies_are roots, extended_is additions, bitmap_is additions, opens_are additions) refl

-- a closure that writes the rows of a sequence: the sequence is written
pub sequence_done : {runs : Runs} {extensible : Bool} {old new : Written} (roots additions : Rows) → IsKnownToWrite extensible runs roots additions → Closed runs extensible old new → Encodes (Struct false extensible roots additions) old new
sequence_done {runs} {extensible} {old} {new} roots additions known closed =
    let h : RowsDone roots additions closed.ran.entered closed.ran.left = known _ _ _ closed.ran.opened closed.ran.ran (ap (λ (f : WriteFrame). f.is_set) closed.ran.opened) in
    let components : closed.components ≡ octets_of roots = append_cancel_left _ _ _ (sym closed.ran.wrote ∙ h.octets) in
    let frame : closed.frame ≡ recorded (presence_of roots) (bitmap_of additions) (opens_of additions) (fresh false extensible (length closed.ran.entered.octets)) = sym closed.ran.closed ∙ rw closed.ran.opened at h.frame in
    let octets : sequence_octets closed.frame closed.components ≡ canonical_octets (Struct false extensible roots additions) = ap₂ sequence_octets frame components ∙ sym (sequence_octets_are extensible (length closed.ran.entered.octets) roots additions) in
    let counted : length (bitmap_of additions) < 2 ^ 64 = rw frame at closed.ran.counted in
    record {
      encodable = struct_encodable false extensible roots additions h.roots_encodable h.additions_encodable counted;
      written = closed.appended ∙ ap (λ (o : Octets). append o old) octets;
    }

-- and where the scope refuses, the sequence does so by the law
pub sequence_refused : {runs : Runs} {extensible : Bool} {old new : Written} (roots additions : Rows) → IsKnownToWrite extensible runs roots additions → (x : EncodeError) → Broken runs false extensible x old new → Refused (Struct false extensible roots additions) x old new
sequence_refused {runs} {extensible} {old} {new} roots additions known x broken = record {
  reason = elim broken.reason [
    | inl m ↦ inl m.0
    | inr s ↦ elim (known _ _ _ s.opened s.ran (ap (λ (f : WriteFrame). f.is_set) s.opened)).reason [ inl m ↦ inl m | inr f ↦ inr (struct_fails false extensible roots additions x.kind f) ]
  ];
  mode = elim broken.reason [ inl m ↦ m.1 | inr s ↦ (known _ _ _ s.opened s.ran (ap (λ (f : WriteFrame). f.is_set) s.opened)).mode ];
  keeps = broken.keeps;
}
