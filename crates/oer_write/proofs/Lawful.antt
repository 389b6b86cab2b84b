-- Elements that are written by the law of their type.
use Rattle.std.proofs.Common.{◌≡◌, ◌≢◌, ℕ, ◌+◌, ◌<◌, Bool, true, false, cond, List, [], ◌∷◌, ◌⊎◌, inl, inr, length, refl, ap, sym, ◌∙◌, subst, arith, Err, append-nil, length-append}
use Rattle.asn1_core.specs.Octets.{Octets}
use Rattle.asn1_core.specs.declared.error.EncodeError.{EncodeError}
use Rattle.asn1_core.specs.declared.error.EncodeErrorKind.TheVariants.{TooManyEmptyElements}
use Rattle.asn1_core.specs.declared.codec.Codec.TheVariants.{Coer}
use Rattle.oer_spec.specs.Encoding.{IsEncodable, canonical_octets}
use Rattle.oer_spec.specs.Tree.{Tree}
use Rattle.oer_write.specs.Held.{length_within}
use Rattle.oer_write.specs.Lists.{ByLaw, is_nil, WroteElement, ElementDone, ElementTooMany, ElementsBroken, ListBroken}
use Rattle.oer_write.specs.Written.{Written, append, no_scope, Keeps, Encodes, Refused}
use Rattle.oer_write.proofs.Keeping.{keeps_then}

-- the same octets where no scope is open
abbrev pub shut_of : Written → Written
shut_of e = record e { frame = no_scope }

pub keeps_all : (e : Written) → Keeps e e
keeps_all e = record { octets = ([], sym (append-nil e.octets)); is_open = refl; is_set = refl; extensible = refl; start = refl; outer = refl }

keeps_appended : (old middle : Written) (o : Octets) → middle ≡ append o old → Keeps old middle
keeps_appended old middle o e = subst (λ (w : Written). Keeps old w) (sym e) (record { octets = (o, refl); is_open = refl; is_set = refl; extensible = refl; start = refl; outer = refl })

-- how many octets are written, where some are appended
pub written_more : (old new : Written) (o : Octets) → new ≡ append o old → length new.octets + length_within new.frame ≡ (length old.octets + length_within old.frame) + length o
written_more old new o e =
    ap (λ (w : Written). length w.octets + length_within w.frame) e ∙ omega (arith, length-append old.octets o)

nil_of : (o : Octets) → length o ≡ 0 → is_nil o ≡ true
nil_of [] e = refl
nil_of (x ∷ o) e = absurd (omega (arith, e))

some_of : (o : Octets) → length o ≢ 0 → is_nil o ≡ false
some_of [] e = absurd (e refl)
some_of (x ∷ o) e = refl

module _ {E : Type 0} (tree : E → Tree) (is_value : E → Type 0) where
  law_wrote : (x : E) (old : Written) → IsEncodable (tree x) → is_value x → WroteElement (ByLaw tree is_value x) (canonical_octets (tree x))
  law_wrote x old h v = record {
    entered = shut_of old;
    left = append (canonical_octets (tree x)) (shut_of old);
    opened = refl;
    ran = (record { encodable = h; written = refl }, v);
    wrote = refl;
  }

  pub element_some : (x : E) (old new : Written) (count : ℕ) → Encodes (tree x) old new → is_value x → count < 65537 → length (canonical_octets (tree x)) ≢ 0 → ElementDone (ByLaw tree is_value x) old.octets new.octets count count
  element_some x old new count h v few n = record {
    content = canonical_octets (tree x);
    wrote = law_wrote x old h.encodable v;
    appended = ap (λ (w : Written). w.octets) h.written;
    counted = (let z : count ≡ count + 0 = omega arith in z ∙ ap (λ (b : Bool). count + cond b 1 0) (sym (some_of (canonical_octets (tree x)) n)));
    few = few;
  }

  pub element_none : (x : E) (old new : Written) (count : ℕ) → Encodes (tree x) old new → is_value x → count + 1 < 65537 → length (canonical_octets (tree x)) ≡ 0 → ElementDone (ByLaw tree is_value x) old.octets new.octets count (count + 1)
  element_none x old new count h v few n = record {
    content = canonical_octets (tree x);
    wrote = law_wrote x old h.encodable v;
    appended = ap (λ (w : Written). w.octets) h.written;
    counted = ap (λ (b : Bool). count + cond b 1 0) (sym (nil_of (canonical_octets (tree x)) n));
    few = few;
  }

  pub element_many : (x : E) (old new : Written) (count : ℕ) (y : EncodeError) → Encodes (tree x) old new → is_value x → y ≡ record { kind = TooManyEmptyElements; codec = Coer } → count ≡ 65536 → length (canonical_octets (tree x)) ≡ 0 → ElementTooMany (ByLaw tree is_value x) count y
  element_many x old new count y h v e f n = record {
    refusal = e;
    content = canonical_octets (tree x);
    wrote = law_wrote x old h.encodable v;
    empty = nil_of (canonical_octets (tree x)) n;
    full = f;
  }

  -- what is refused is so where no scope is open
  pub refused_shut : (x : E) (e e' : Written) (y : EncodeError) (count : ℕ) → Refused (tree x) y e e' ⊎ ElementTooMany (ByLaw tree is_value x) count y → ByLaw tree is_value x (shut_of e) (Err y) (shut_of e) ⊎ ElementTooMany (ByLaw tree is_value x) count y
  refused_shut x e e' y count (inl r) = inl (record { reason = r.reason; mode = r.mode; keeps = keeps_all (shut_of e) }, tt)
  refused_shut x e e' y count (inr m) = inr m

pub law_broken : {E : Type 0} (tree : E → Tree) (is_value : E → Type 0) (xs : List E) (old middle new : Written) (o : Octets) (x : EncodeError) → middle ≡ append o old → Keeps middle new → ElementsBroken (ByLaw tree is_value) xs x → ListBroken (ByLaw tree is_value) xs x old new
law_broken tree is_value xs old middle new o x e k b = record { keeps = keeps_then old middle new (keeps_appended old middle o e) k; reason = b }
