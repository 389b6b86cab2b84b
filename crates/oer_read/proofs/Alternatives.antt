-- A choice's alternative is read as what it holds.
use Rattle.std.proofs.Common.{◌≡◌, Result, Ok, Err, sym, ap, ◌∙◌, subst}
use Rattle.std.specs.Result.{IsErrAnd}
use Rattle.asn1_core.specs.Octets.{Octets}
use Rattle.asn1_core.specs.declared.error.DecodeError.{DecodeError}
use Rattle.asn1_core.specs.declared.tag.Tag.{Tag}
use Rattle.oer_spec.specs.Encoding.{IsEncoding}
use Rattle.oer_spec.specs.Mode.{mode_of}
use Rattle.oer_spec.specs.Tree.{Tree}
use Rattle.oer_read.specs.Choices.{ReadsAlternative}
use Rattle.oer_read.specs.Law.{Decodes, Fronts}
use Rattle.oer_read.specs.State.{State}

-- ---- where each value with some tag holds a value of the part

module _ {A B : Type 0} (child : A → Tree) (IsHere : A → Type 0) (tree : B → Tree) (IsPart : B → Type 0) (only : (v : A) → IsHere v → (b : B) × (child v ≡ tree b) × IsPart b) where
  as_part : (s : State) (o : Octets) (t u : Tree) → t ≡ u → Fronts s o t → Fronts s o u
  as_part s o t u e f = record { rest = f.rest; split = f.split; encoding = subst (λ (z : Tree). IsEncoding (mode_of s.codec) s.levels o z) e f.encoding }

  -- a value that holds what was read
  pub alternative_made : (s u : State) (b : B) (v : A) → IsHere v → child v ≡ tree b → Decodes tree IsPart s (Ok b) u → Decodes child IsHere s (Ok v) u
  alternative_made s u b v i e d =
      let p = d.read in
      record {
        read = record {
          taken = p.taken;
          split = p.split;
          encoding = subst (λ (t : Tree). IsEncoding (mode_of s.codec) s.levels p.taken t) (sym e) p.encoding;
          value = i;
          only = λ w o j f. let k = only w j in p.only k.0 o k.2 (as_part s o (child w) (tree k.0) k.1 f);
          rest = p.rest;
        };
        refused = tt;
      }

  -- what the part's reading refused
  pub alternative_refused : (Q : DecodeError → Type 0) (s u : State) (x : DecodeError) (result : Result A DecodeError) → Decodes tree IsPart s (Err x) u → IsErrAnd result Q → ((y : DecodeError) → Q y → y ≡ x) → Decodes child IsHere s result u
  alternative_refused Q s u x (Ok v) d k q = absurd k
  alternative_refused Q s u x (Err y) d k q = record {
    read = tt;
    refused = record {
      same = d.refused.same;
      mode = ap (λ (w : DecodeError). w.codec) (q y k) ∙ d.refused.mode;
      none = λ m v o i f. let z = only v i in d.refused.none (λ n. m (ap (λ (w : DecodeError). w.kind) (q y k) ∙ n)) z.0 o z.2 (as_part s o (child v) (tree z.0) z.1 f);
    };
  }

-- ---- where `hold` makes such a value, which has the part's tree

pub record Holds {A B : Type 0} (child : A → Tree) (IsHere : A → Type 0) (tree : B → Tree) (IsPart : B → Type 0) (hold : B → A) : Type 0 where
  pub is : (b : B) → IsPart b → IsHere (hold b)
  pub same : (b : B) → child (hold b) ≡ tree b
  pub only : (v : A) → IsHere v → (b : B) × (child v ≡ tree b) × IsPart b

module _ {A B : Type 0} (child : A → Tree) (IsHere : A → Type 0) (tree : B → Tree) (IsPart : B → Type 0) (hold : B → A) (h : Holds child IsHere tree IsPart hold) where
  pub alternative_read : (s u : State) (b : B) → Decodes tree IsPart s (Ok b) u → Decodes child IsHere s (Ok (hold b)) u
  alternative_read s u b d = alternative_made child IsHere tree IsPart h.only s u b (hold b) (h.is b d.read.value) (h.same b) d

  pub alternative_stops : (Q : DecodeError → Type 0) (s u : State) (x : DecodeError) (result : Result A DecodeError) → Decodes tree IsPart s (Err x) u → IsErrAnd result Q → ((y : DecodeError) → Q y → y ≡ x) → Decodes child IsHere s result u
  alternative_stops Q s u x result d k q = alternative_refused child IsHere tree IsPart h.only Q s u x result d k q

-- ---- at the exits of a closure that reads alternatives

pub alternative_law : {A : Type 0} (child : A → Tree) (IsValue : A → Type 0) (tag_of : A → Tag) (g : Tag) (s : State) (r : Result A DecodeError) (t : State) → Decodes child (λ v. IsValue v × (tag_of v ≡ g)) s r t → ReadsAlternative child IsValue tag_of g s r t
alternative_law child IsValue tag_of g s (Ok v) t d = record { read = d.read; mode = tt; none = tt }
alternative_law child IsValue tag_of g s (Err e) t d = record { read = tt; mode = d.refused.mode; none = d.refused.none }
