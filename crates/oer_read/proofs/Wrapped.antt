-- A value that is read by its content.
use Rattle.std.proofs.Common.{◌≡◌, Result, Ok, Err, subst}
use Rattle.asn1_core.specs.declared.error.DecodeError.{DecodeError}
use Rattle.oer_spec.specs.Tree.{Tree}
use Rattle.oer_read.specs.Law.{Reads, Decodes}
use Rattle.oer_read.specs.State.{State}

module _ {A B : Type 0} (content : B → A) (tree : A → Tree) (IsValue : A → Type 0) where
  abbrev Wrapped : State → Result B DecodeError → State → Type 0
  Wrapped s result t = Decodes (λ w. tree (content w)) (λ w. IsValue (content w)) s result t

  reads_wrapped : (s t : State) (w : B) → Reads tree IsValue s (content w) t → Wrapped s (Ok w) t
  reads_wrapped s t w d = record {
    read = record { taken = d.taken; split = d.split; encoding = d.encoding; value = d.value; only = λ u o i f. d.only (content u) o i f; rest = d.rest };
    refused = tt;
  }

  -- the content was read
  pub wrapped_read : (s t : State) (v : A) (w : B) → v ≡ content w → Decodes tree IsValue s (Ok v) t → Wrapped s (Ok w) t
  wrapped_read s t v w e d = reads_wrapped s t w (subst (λ (u : A). Reads tree IsValue s u t) e d.read)

  -- the content was refused
  pub wrapped_refused : (s t : State) (e : DecodeError) → Decodes tree IsValue s (Err e) t → Wrapped s (Err e) t
  wrapped_refused s t e d =
      let nothing = d.refused.none in
      record { read = tt; refused = record { same = d.refused.same; mode = d.refused.mode; none = λ m w o i f. nothing m (content w) o i f } }
