-- A value that was read of octets by values alone was read of a decoder that has them.
use Rattle.std.proofs.Common.{◌≡◌, ℕ, Bool, List, Result, Ok, Err, refl, sym, subst, ◌∙◌}
use Rattle.asn1_core.specs.Octets.{Octets}
use Rattle.asn1_core.specs.Rows.{Row}
use Rattle.asn1_core.specs.declared.codec.Codec.{Codec}
use Rattle.asn1_core.specs.declared.error.DecodeError.{DecodeError}
use Rattle.oer_spec.specs.Tree.{Tree}
use Rattle.oer_read.specs.Law.{Decodes, Fronts, Reads, RefusedBy}
use Rattle.oer_read.specs.Scopes.{SequenceRefused, NotOpened, Stopped, NotClosed, opened_at}
use Rattle.oer_read.specs.State.{State, apart}

-- what begins what a decoder has begins the same octets apart
fronts_apart : (s : State) (o : Octets) (t : Tree) → Fronts s o t → Fronts (apart s.codec s.levels s.input) o t
fronts_apart s o t f = record { rest = f.rest; split = f.split; encoding = f.encoding }

module _ {A : Type 0} (tree : A → Tree) (IsValue : A → Type 0) where
  -- what is left says what the decoder is
  pub reads_left : (s t : State) (v : A) → Reads tree IsValue s v t → Reads tree IsValue s v (record s { input = t.input })
  reads_left s t v r = record { taken = r.taken; split = r.split; encoding = r.encoding; value = r.value; only = r.only; rest = refl }

  pub reads_within : (s : State) (v : A) (rest : Octets) → Reads tree IsValue (apart s.codec s.levels s.input) v (apart s.codec s.levels rest) → Reads tree IsValue s v (record s { input = rest })
  reads_within s v rest r = record { taken = r.taken; split = r.split; encoding = r.encoding; value = r.value; only = λ w o i f. r.only w o i (fronts_apart s o (tree w) f); rest = refl }

  pub refused_within : (s : State) (e : DecodeError) → RefusedBy tree IsValue e (apart s.codec s.levels s.input) (apart s.codec s.levels s.input) → RefusedBy tree IsValue e s s
  refused_within s e r = record { same = refl; mode = r.mode; none = λ m w o i f. r.none m w o i (fronts_apart s o (tree w) f) }

  -- the law, of a decoder that goes on behind what was read apart
  pub law_read : (s : State) (codec : Codec) (levels : ℕ) (input rest : Octets) (v : A) (t : State)
      → codec ≡ s.codec → levels ≡ s.levels → input ≡ s.input → t ≡ record s { input = rest }
      → Reads tree IsValue (apart codec levels input) v (apart codec levels rest) → Decodes tree IsValue s (Ok v) t
  law_read s codec levels input rest v t ec el ei et r =
      subst (λ (z : State). Decodes tree IsValue s (Ok v) z) (sym et)
      (record {
        read = reads_within s v rest
            (subst (λ (c : Codec). Reads tree IsValue (apart c s.levels s.input) v (apart c s.levels rest)) ec
            (subst (λ (n : ℕ). Reads tree IsValue (apart codec n s.input) v (apart codec n rest)) el
            (subst (λ (o : Octets). Reads tree IsValue (apart codec levels o) v (apart codec levels rest)) ei r)));
        refused = tt;
      })

  pub law_refused : (s : State) (codec : Codec) (levels : ℕ) (input : Octets) (e : DecodeError)
      → codec ≡ s.codec → levels ≡ s.levels → input ≡ s.input
      → RefusedBy tree IsValue e (apart codec levels input) (apart codec levels input) → Decodes tree IsValue s (Err e) s
  law_refused s codec levels input e ec el ei r =
      record {
        read = tt;
        refused = refused_within s e
            (subst (λ (c : Codec). RefusedBy tree IsValue e (apart c s.levels s.input) (apart c s.levels s.input)) ec
            (subst (λ (n : ℕ). RefusedBy tree IsValue e (apart codec n s.input) (apart codec n s.input)) el
            (subst (λ (o : Octets). RefusedBy tree IsValue e (apart codec levels o) (apart codec levels o)) ei r)));
      }

module _ {A : Type 0} (Ran : State → Result A DecodeError → State → Type 0) (extensible : Bool) (roots additions : List Row) where
  -- a scope is opened by the input, the rules and the levels alone
  opened_apart : (s : State) → opened_at s extensible roots additions ≡ opened_at (apart s.codec s.levels s.input) extensible roots additions
  unfolding opened_at
  opened_apart s = refl

  refused_from : (s : State) (e : DecodeError) → SequenceRefused Ran extensible roots additions (apart s.codec s.levels s.input) e → SequenceRefused Ran extensible roots additions s e
  refused_from s e (NotOpened p c) = NotOpened (opened_apart s ∙ p) c
  refused_from s e (Stopped lent after p ran) = Stopped lent after (opened_apart s ∙ p) ran
  refused_from s e (NotClosed lent after v p ran q c) = NotClosed lent after v (opened_apart s ∙ p) ran q c

  -- so is why it was refused
  pub row_refused_apart : (s : State) (codec : Codec) (levels : ℕ) (input : Octets) (e : DecodeError)
      → codec ≡ s.codec → levels ≡ s.levels → input ≡ s.input
      → SequenceRefused Ran extensible roots additions (apart codec levels input) e → SequenceRefused Ran extensible roots additions s e
  row_refused_apart s codec levels input e ec el ei r = refused_from s e
      (subst (λ (c : Codec). SequenceRefused Ran extensible roots additions (apart c s.levels s.input) e) ec
      (subst (λ (n : ℕ). SequenceRefused Ran extensible roots additions (apart codec n s.input) e) el
      (subst (λ (o : Octets). SequenceRefused Ran extensible roots additions (apart codec levels o) e) ei r)))
