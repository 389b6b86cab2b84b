-- From what the closure of a set writes to what the set writes.
use Rattle.std.proofs.Common.{◌≡◌, ℕ, ◌^◌, ◌<◌, Bool, true, length, refl, ap, sym, ◌∙◌, inl, inr}
use Rattle.asn1_core.specs.Octets.{Octets}
use Rattle.asn1_core.specs.declared.error.EncodeError.{EncodeError}
use Rattle.oer_spec.specs.Encoding.{canonical_octets}
use Rattle.oer_spec.specs.Tree.{Rows, Struct}
use Rattle.oer_write.specs.Rows.{SetDone, IsKnownToWriteSet, items_of, bitmap_of, opens_of}
use Rattle.oer_write.specs.Scopes.{Runs, SetClosed, Broken, set_octets}
use Rattle.oer_write.specs.Written.{Written, WriteFrame, fresh, append, Encodes, Refused}
use Rattle.oer_write.proofs.Items.{items_are, bitmap_is, opens_are}
use Rattle.oer_write.proofs.SequenceRows.{extended_is, struct_encodable, struct_fails}

abbrev set_frame : Bool → ℕ → Rows → Rows → WriteFrame
set_frame extensible start roots additions = record (fresh true extensible start) { components = items_of roots; bitmap = bitmap_of additions; opens = opens_of additions }

set_octets_are : (extensible : Bool) (start : ℕ) (roots additions : Rows) → canonical_octets (Struct true extensible roots additions) ≡ set_octets (set_frame extensible start roots additions)
unfolding canonical_octets
set_octets_are extensible start roots additions = rw (items_are roots, items_are additions, extended_is additions, bitmap_is additions, opens_are additions) refl

-- a closure that writes the rows of a set: the set is written
pub set_done : {runs : Runs} {extensible : Bool} {old new : Written} (roots additions : Rows) → IsKnownToWriteSet extensible runs roots additions → SetClosed runs extensible old new → Encodes (Struct true extensible roots additions) old new
set_done {runs} {extensible} {old} {new} roots additions known closed =
    let h : SetDone roots additions closed.ran.entered closed.ran.left = known _ _ _ closed.ran.opened closed.ran.ran (ap (λ (f : WriteFrame). f.is_set) closed.ran.opened) in
    let frame : closed.frame ≡ set_frame extensible (length closed.ran.entered.octets) roots additions = sym closed.ran.closed ∙ rw closed.ran.opened at h.frame in
    let counted : length (bitmap_of additions) < 2 ^ 64 = rw frame at closed.ran.counted in
    record {
      encodable = struct_encodable true extensible roots additions h.roots_encodable h.additions_encodable counted;
      written = closed.appended ∙ ap (λ (o : Octets). append o old) (ap set_octets frame ∙ sym (set_octets_are extensible (length closed.ran.entered.octets) roots additions));
    }

-- and where the scope refuses, the set does so by the law
pub set_refused : {runs : Runs} {extensible : Bool} {old new : Written} (roots additions : Rows) → IsKnownToWriteSet extensible runs roots additions → (x : EncodeError) → Broken runs true extensible x old new → Refused (Struct true extensible roots additions) x old new
set_refused {runs} {extensible} {old} {new} roots additions known x broken = record {
  reason = elim broken.reason [
    | inl m ↦ inl m.0
    | inr s ↦ elim (known _ _ _ s.opened s.ran (ap (λ (f : WriteFrame). f.is_set) s.opened)).reason [ inl m ↦ inl m | inr f ↦ inr (struct_fails true extensible roots additions x.kind f) ]
  ];
  mode = elim broken.reason [ inl m ↦ m.1 | inr s ↦ (known _ _ _ s.opened s.ran (ap (λ (f : WriteFrame). f.is_set) s.opened)).mode ];
  keeps = broken.keeps;
}
