-- Trees of components that may be absent.
use Rattle.std.specs.Prelude.{◌≡◌, Option, Some, None, ⊤, refl}
use Rattle.std.proofs.Common.{ap, ◌∙◌}
use Rattle.oer_spec.specs.Encoding.{IsTree, AreSlot}
use Rattle.oer_spec.specs.Same.{Alike, AlikeSlot}
use Rattle.oer_spec.specs.Tree.{Tree, slot_of}
use Rattle.oer_read.specs.Parts.{Admits, OnPresent}
use Rattle.oer_rows.specs.declared.both.Both.{Both}
use Rattle.oer_rows.specs.Values.{both}

-- each value that is there is one that the type admits
abbrev pub IfThere : {A : Type 0} → (A → Type 0) → Option A → Type 0
IfThere IsValue None = ⊤
IfThere IsValue (Some v) = IsValue v

module _ {A : Type 0} (tree : A → Tree) (IsValue : A → Type 0) where
  pub slot_is : ((v : A) → IsValue v → IsTree (tree v)) → (o : Option A) → IfThere IsValue o → AreSlot (slot_of tree o)
  unfolding Rattle.oer_spec.specs.Encoding.IsTree
  slot_is is None i = tt
  slot_is is (Some v) i = is v i

  pub slots_alike : ((v w : A) → IsValue v → IsValue w → Alike (tree v) (tree w)) → (o p : Option A) → IfThere IsValue o → IfThere IsValue p → AlikeSlot (slot_of tree o) (slot_of tree p)
  unfolding Rattle.oer_spec.specs.Same.Alike
  slots_alike like None p i j = tt
  slots_alike like (Some v) None i j = tt
  slots_alike like (Some v) (Some w) i j = like v w i j

  pub slot_made : (o : Option A) → IfThere IsValue o → OnPresent (Admits tree IsValue) (slot_of tree o)
  slot_made None i = tt
  slot_made (Some v) i = record { value = v; is_value = i; is = refl }

-- ---- places of components, which hold their values once these are read

-- what is there, or else a value handed in
abbrev there : {A : Type 0} → A → Option A → A
there d None = d
there d (Some v) = v

module _ {A R S : Type 0} (filled : R → S) where
  abbrev pub with_required : Both A R → Both (Option A) S
  with_required v = both (Some v.0) (filled v.1)

  abbrev pub with_optional : Both (Option A) R → Both (Option A) S
  with_optional v = both v.0 (filled v.1)

  -- places hold the values of one row alone, where those of the rest do
  pub required_once : ((v w : R) → filled v ≡ filled w → v ≡ w) → (v w : Both A R) → with_required v ≡ with_required w → v ≡ w
  required_once once v w e = ap (λ z. both z v.1) (ap (λ (z : Both (Option A) S). there v.0 z.0) e) ∙ ap (λ z. both w.0 z) (once v.1 w.1 (ap (λ (z : Both (Option A) S). z.1) e))

  pub optional_once : ((v w : R) → filled v ≡ filled w → v ≡ w) → (v w : Both (Option A) R) → with_optional v ≡ with_optional w → v ≡ w
  optional_once once v w e = ap (λ z. both z v.1) (ap (λ (z : Both (Option A) S). z.0) e) ∙ ap (λ z. both w.0 z) (once v.1 w.1 (ap (λ (z : Both (Option A) S). z.1) e))
