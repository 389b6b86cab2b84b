-- A type that contains itself is read as its content, and promises of its answers what that does.
use Rattle.std.specs.Result.{OnOk, IfErr}
use Rattle.std.proofs.Common.{◌≡◌, ℕ, suc, Result, Ok, Err, refl, sym, ap, ◌∙◌, subst}
use Rattle.asn1_core.specs.declared.error.DecodeError.{DecodeError}
use Rattle.asn1_core.specs.declared.error.EncodeError.{EncodeError}
use Rattle.oer_write.specs.Written.{Written, Encodes, Refused}
use Rattle.oer_spec.specs.Tree.{Tree}
use Rattle.oer_read.proofs.Alternatives.{alternative_made, alternative_refused}
use Rattle.oer_read.specs.Law.{Decodes}
use Rattle.oer_read.specs.State.{State}
use Rattle.oer_knots.specs.Answering.{Beside, Follows, Answering, within}
use Rattle.oer_knots.specs.Knots.{IsLayered}

module _ {K C : Type 0} (tree : K → Tree) (IsValue : K → Type 0) (content : K → C) (inner : C → Tree) (IsInner : C → Type 0) (l : IsLayered tree IsValue content inner IsInner) where
  only : (v : K) → IsValue v → (b : C) × (tree v ≡ inner b) × IsInner b
  only v i = (content v, l.same v, l.out v i)

  pub layer_read : (s u : State) (b : C) (v : K) → content v ≡ b → Decodes inner IsInner s (Ok b) u → Decodes tree IsValue s (Ok v) u
  layer_read s u b v e d = alternative_made tree IsValue inner IsInner only s u b v (l.back v (subst IsInner (sym e) d.read.value)) (l.same v ∙ ap inner e) d

  pub layer_stops : (s u : State) (x : DecodeError) → Decodes inner IsInner s (Err x) u → Decodes tree IsValue s (Err x) u
  layer_stops s u x d = alternative_refused tree IsValue inner IsInner only (λ y. y ≡ x) s u x (Err x) d refl (λ y p. p)

-- ---- what it promises of its answers

module _ {K C : Type 0} (content : K → C) (c : Answering K C) (P : Beside K) (n : ℕ) (h : Follows P (within content c n)) where
  pub layer_answers : (s u : State) (b : C) (v : K) → content v ≡ b → c.Answered P s (Ok b) u → within content c (suc n) s (Ok v) u
  unfolding within
  layer_answers s u b v e k = subst (λ (x : C). c.Answered (within content c n) s (Ok x) u) (sym e) (c.also P (within content c n) h s (Ok b) u k)

  pub layer_refuses : (s u : State) (x : DecodeError) → c.Answered P s (Err x) u → within content c (suc n) s (Err x) u
  unfolding within
  layer_refuses s u x k = c.also P (within content c n) h s (Err x) u k

-- ---- what was written of a layer was of the value

pub layer_done : (t u : Tree) (r : Result (Unit {0}) EncodeError) (e f : Written) → t ≡ u → OnOk r (Encodes u e f) → OnOk r (Encodes t e f)
layer_done t u r e f p h = subst (λ (z : Tree). OnOk r (Encodes z e f)) (sym p) h

pub layer_value : (P Q : Type 0) (r : Result (Unit {0}) EncodeError) → (Q → P) → OnOk r Q → OnOk r P
layer_value P Q (Ok v) f h = f h
layer_value P Q (Err e) f h = tt

pub layer_refused : (t u : Tree) (r : Result (Unit {0}) EncodeError) (e f : Written) → t ≡ u → IfErr r (λ x. Refused u x e f) → IfErr r (λ x. Refused t x e f)
layer_refused t u r e f p h = subst (λ (z : Tree). IfErr r (λ x. Refused z x e f)) (sym p) h
