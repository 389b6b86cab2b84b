-- From what the closure of a choice writes to what the choice writes.
use Rattle.std.proofs.Common.{◌≡◌, ℕ, suc, ◌^◌, ◌<◌, ◌≤◌, Bool, true, false, not, ◌&&◌, List, ◌++◌, length, refl, ap, sym, subst, ◌∙◌, arith, append_assoc, inl, inr}
use Rattle.std.specs.Prelude.{nat_lt, Result, Ok, Err, OnOk}
use Rattle.std.proofs.lemmas.List.{append_cancel_left}
use Rattle.asn1_core.specs.Octets.{Octets, usize_max}
use Rattle.asn1_core.specs.Tags.{holds}
use Rattle.asn1_core.specs.declared.error.EncodeError.{EncodeError}
use Rattle.asn1_core.specs.declared.error.EncodeErrorKind.{EncodeErrorKind}
use Rattle.asn1_core.specs.declared.tag.Tag.{Tag}
use Rattle.oer_spec.specs.Encoding.{fails, open_fails, canonical_octets, IsEncodable}
use Rattle.oer_spec.specs.Failures.{Fails, SizeFails}
use Rattle.oer_spec.specs.Leaves.{Failure, BadValue, BadSize, BadIdentifier, BadTime, TooManyEmpty, TooLong}
use Rattle.oer_spec.specs.Lengths.{behind_length, tag_octets}
use Rattle.oer_spec.specs.Places.{choice_octets}
use Rattle.oer_spec.specs.Tree.{Tree, Choice}
use Rattle.oer_write.specs.Choices.{Picks, ChoiceDone, ChoiceBroken, alternative_octets, IsKnownToPick}
use Rattle.oer_write.specs.Rows.{IsOpenEncodable, open_type}
use Rattle.oer_write.specs.Written.{Written, append, Encodes, Refused}
use Rattle.oer_write.proofs.Items.{or_false, or_left}
use Rattle.oer_write.proofs.Keeping.{keeps_then}
use Rattle.oer_write.proofs.Nesting.{keeps_append}

true_not_false : true ≡ false → ⊥
true_not_false h = cc

not_above : (a b : ℕ) → a < suc b → nat_lt b a ≡ false
not_above a b h = grind arith

short_open : (o : Octets) (k : Failure) → length o < 2 ^ 64 → open_fails o k ≡ false
short_open o TooLong h = not_above (length o) usize_max (omega arith)
short_open o BadValue h = refl
short_open o BadSize h = refl
short_open o BadIdentifier h = refl
short_open o BadTime h = refl
short_open o TooManyEmpty h = refl

short_addition : (is_root : Bool) (o : Octets) (k : Failure) → (is_root ≡ false → length o < 2 ^ 64) → (not is_root && open_fails o k) ≡ false
short_addition true o k h = refl
short_addition false o k h = short_open o k (h refl)

choice_encodable : (roots additions : List Tag) (tag : Tag) (t : Tree) → IsEncodable t → (holds roots tag ≡ false → length (canonical_octets t) < 2 ^ 64) → IsEncodable (Choice roots additions tag t)
unfolding fails
choice_encodable roots additions tag t h short k = or_false _ _ (h k) (short_addition (holds roots tag) (canonical_octets t) k short)

choice_octets_are : (roots additions : List Tag) (tag : Tag) (t : Tree) (content : Octets) → content ≡ canonical_octets t → tag_octets tag ++ alternative_octets (holds roots tag) content ≡ canonical_octets (Choice roots additions tag t)
unfolding canonical_octets
choice_octets_are roots additions tag t content same = ap (λ (o : Octets). choice_octets roots tag o) same

alternative_fails : (roots additions : List Tag) (tag : Tag) (t : Tree) (k : EncodeErrorKind) → Fails t k → Fails (Choice roots additions tag t) k
unfolding fails SizeFails
alternative_fails roots additions tag t k f = (f.0, f.1, or_left _ _ f.2, f.3)

-- a closure that writes the alternative's tree: the choice is written
pub choice_done : (picks : Picks) (roots additions : List Tag) (tag : Tag) (t : Tree) (old new : Written) → IsKnownToPick picks tag t → ChoiceDone picks (holds roots tag) tag old new → Encodes (Choice roots additions tag t) old new
choice_done picks roots additions tag t old new known h =
    let w : Encodes t h.done.entered h.done.left = (known _ _ _ h.done.opened h.done.ran).1 in
    let same : h.content ≡ canonical_octets t = append_cancel_left h.done.entered.octets _ _ (sym h.done.wrote ∙ ap (λ (e : Written). e.octets) w.written) in
    record {
      encodable = choice_encodable roots additions tag t w.encodable (rw same at h.short);
      written = h.appended ∙ ap (λ (o : Octets). append o old) (choice_octets_are roots additions tag t h.content same);
    }

-- and where the choice refuses, it does so by the law
pub choice_refused : (picks : Picks) (roots additions : List Tag) (tag : Tag) (t : Tree) (old new : Written) (x : EncodeError) → IsKnownToPick picks tag t → ChoiceBroken picks x old new → Refused (Choice roots additions tag t) x old new
choice_refused picks roots additions tag t old new x known h = record {
  reason = elim h.reason [
    | inl m ↦ inl m.0
    | inr c ↦ elim (known _ _ _ c.opened c.ran).reason [ inl m ↦ inl m | inr f ↦ inr (alternative_fails roots additions tag t x.kind f) ]
  ];
  mode = elim h.reason [ inl m ↦ m.1 | inr c ↦ (known _ _ _ c.opened c.ran).mode ];
  keeps = h.keeps;
}

-- a root alternative that stands straight behind its tag
pub root_done : (roots additions : List Tag) (tag : Tag) (t : Tree) (old middle new : Written) → holds roots tag ≡ true → middle ≡ append (tag_octets tag) old → Encodes t middle new → Encodes (Choice roots additions tag t) old new
root_done roots additions tag t old middle new root put w = record {
  encodable = choice_encodable roots additions tag t w.encodable (λ no. absurd (true_not_false (sym root ∙ no)));
  written =
      w.written ∙ ap (λ (e : Written). append (canonical_octets t) e) put
      ∙ ap (λ (o : Octets). record old { octets = o }) (append_assoc old.octets (tag_octets tag) (canonical_octets t))
      ∙ ap (λ (o : Octets). append o old) (subst (λ (b : Bool). tag_octets tag ++ alternative_octets b (canonical_octets t) ≡ canonical_octets (Choice roots additions tag t)) root (choice_octets_are roots additions tag t (canonical_octets t) refl));
}

pub root_refused : (roots additions : List Tag) (tag : Tag) (t : Tree) (old middle new : Written) (x : EncodeError) → middle ≡ append (tag_octets tag) old → Refused t x middle new → Refused (Choice roots additions tag t) x old new
root_refused roots additions tag t old middle new x put h = record {
  reason = elim h.reason [ inl m ↦ inl m | inr f ↦ inr (alternative_fails roots additions tag t x.kind f) ];
  mode = h.mode;
  keeps = keeps_then old middle new (keeps_append (tag_octets tag) old middle put) h.keeps;
}

within_size : (n : ℕ) → n ≤ usize_max → n < 2 ^ 64
within_size n h = omega arith

open_short : (t : Tree) → IsOpenEncodable t → length (canonical_octets t) < 2 ^ 64
open_short t h = within_size (length (canonical_octets t)) h.short

-- another that stands behind its tag as an open type
pub open_done : (roots additions : List Tag) (tag : Tag) (t : Tree) (old middle new : Written) → holds roots tag ≡ false → middle ≡ append (tag_octets tag) old → IsOpenEncodable t → new ≡ append (open_type (canonical_octets t)) middle → Encodes (Choice roots additions tag t) old new
unfolding open_type
open_done roots additions tag t old middle new other put short wrote = record {
  encodable = choice_encodable roots additions tag t short.encodable (λ no. open_short t short);
  written =
      wrote ∙ ap (λ (e : Written). append (behind_length (canonical_octets t)) e) put
      ∙ ap (λ (o : Octets). record old { octets = o }) (append_assoc old.octets (tag_octets tag) (behind_length (canonical_octets t)))
      ∙ ap (λ (o : Octets). append o old) (subst (λ (b : Bool). tag_octets tag ++ alternative_octets b (canonical_octets t) ≡ canonical_octets (Choice roots additions tag t)) other (choice_octets_are roots additions tag t (canonical_octets t) refl));
}

pub open_written : (answer : Result Unit EncodeError) (roots additions : List Tag) (tag : Tag) (t : Tree) (old middle new : Written) → holds roots tag ≡ false → middle ≡ append (tag_octets tag) old → OnOk answer (IsOpenEncodable t) → OnOk answer (new ≡ append (open_type (canonical_octets t)) middle) → OnOk answer (Encodes (Choice roots additions tag t) old new)
open_written (Ok u) roots additions tag t old middle new other put short wrote = open_done roots additions tag t old middle new other put short wrote
open_written (Err x) roots additions tag t old middle new other put short wrote = tt
