-- A type that contains itself: its trees and its values, by those of what it holds.
use Rattle.std.specs.Prelude.{refl, ◌≡◌, ◌+◌, ◌<◌, ℕ, zero, suc}
use Rattle.std.proofs.Common.{sym, subst, arith}
use Rattle.oer_spec.specs.Same.{Alike}
use Rattle.oer_spec.specs.Tree.{Tree, Primitive, Null}
use Rattle.oer_rows.specs.Schema.{Typed, IsTyped}
use Rattle.oer_knots.specs.Ties.{AgreeAt, Ties}
use Rattle.oer_knots.specs.declared.held.Bare.{Bare}

-- values that aren't seen
abbrev unseen : {A : Type 0} → Typed A
unseen = record { tree = λ v. Primitive Null; IsPart = λ v. ⊥ }

module _ {K B : Type 0} (size : K → ℕ) (content : K → B) (tied : Typed K → Typed B) where
  -- one layer more is seen
  abbrev pub layer : Typed K → Typed K
  layer of = record { tree = λ v. (tied of).tree (content v); IsPart = λ v. (tied of).IsPart (content v) }

  -- values of fewer layers are seen
  pub within : ℕ → Typed K
  within zero = unseen
  within (suc n) = layer (within n)

  -- each value, by as many layers as it has
  unfoldable pub knot_tree : K → Tree
  knot_tree v = (within (suc (size v))).tree v

  unfoldable pub IsKnot : K → Type 0
  IsKnot v = (within (suc (size v))).IsPart v

  abbrev pub knot : Typed K
  knot = record { tree = knot_tree; IsPart = IsKnot }

-- what the type has to say: what its content keeps, and that a knot in a value weighs less
pub record Knotted {K B : Type 0} (size : K → ℕ) (content : K → B) (tied : Typed K → Typed B) (weight : (K → ℕ) → B → ℕ) : Type 1 where
  pub ties : Ties tied weight
  pub smaller : (v : K) → weight size (content v) < size v

module _ {K B : Type 0} (size : K → ℕ) (content : K → B) (tied : Typed K → Typed B) (weight : (K → ℕ) → B → ℕ) (k : Knotted size content tied weight) where
  -- how many layers are seen makes no difference to a value of fewer
  level : (n m : ℕ) (v : K) → size v < n → size v < m → AgreeAt (within size content tied n) (within size content tied m) v
  unfolding within
  level zero m v p q = absurd (omega arith)
  level (suc n) zero v p q = absurd (omega arith)
  level (suc n) (suc m) v p q =
      let s : weight size (content v) < size v = k.smaller v in
      let h = k.ties.local size (within size content tied n) (within size content tied m) (content v) (λ w l. level n m w (omega (arith, s)) (omega (arith, s))) in
      record { tree = h.tree; part = h.part }

  -- a value's tree is that of its content, whose knots are seen by theirs
  out_layer : (v : K) → AgreeAt (layer size content tied (within size content tied (size v))) (layer size content tied (knot size content tied)) v
  unfolding knot_tree IsKnot
  out_layer v =
      let s : weight size (content v) < size v = k.smaller v in
      let h = k.ties.local size (within size content tied (size v)) (knot size content tied) (content v) (λ w l. let a = level (size v) (suc (size w)) w (omega (arith, s)) (omega arith) in record { tree = a.tree; part = a.part }) in
      record { tree = h.tree; part = h.part }

  in_layer : (v : K) → AgreeAt (layer size content tied (knot size content tied)) (layer size content tied (within size content tied (size v))) v
  unfolding knot_tree IsKnot
  in_layer v =
      let s : weight size (content v) < size v = k.smaller v in
      let h = k.ties.local size (knot size content tied) (within size content tied (size v)) (content v) (λ w l. let a = level (suc (size w)) (size v) w (omega arith) (omega (arith, s)) in record { tree = a.tree; part = a.part }) in
      record { tree = h.tree; part = h.part }

  pub knot_is_layer : (v : K) → knot_tree size content tied v ≡ (tied (knot size content tied)).tree (content v)
  unfolding knot_tree within
  knot_is_layer v = (out_layer v).tree

  pub knot_in_layer : (v : K) → IsKnot size content tied v → (tied (knot size content tied)).IsPart (content v)
  unfolding IsKnot within
  knot_in_layer v i = (out_layer v).part i

  pub layer_in_knot : (v : K) → (tied (knot size content tied)).IsPart (content v) → IsKnot size content tied v
  unfolding IsKnot within
  layer_in_knot v i = (in_layer v).part i

  -- ---- it is a type
  within_typed : (n : ℕ) → IsTyped (within size content tied n)
  unfolding within
  within_typed zero = record { is = λ v i. absurd i; like = λ v w i j. absurd i }
  within_typed (suc n) =
      let t = k.ties.is (within size content tied n) (within_typed n) in
      record { is = λ v. t.is (content v); like = λ v w. t.like (content v) (content w) }

  pub knot_typed : IsTyped (knot size content tied)
  unfolding knot_tree IsKnot
  knot_typed = record { is = λ v i. (within_typed (suc (size v))).is v i; like = like }
    where
      like : (v w : K) → IsKnot size content tied v → IsKnot size content tied w → Alike (knot_tree size content tied v) (knot_tree size content tied w)
      like v w i j =
          let n : ℕ = suc (size v + size w) in
          let a = level (suc (size v)) n v (omega arith) (omega arith) in
          let b = level (suc (size w)) n w (omega arith) (omega arith) in
          subst (λ (t : Tree). Alike t (knot_tree size content tied w)) (sym a.tree)
          (subst (λ (t : Tree). Alike ((within size content tied n).tree v) t) (sym b.tree)
          ((within_typed n).like v w (a.part i) (b.part j)))

-- A type's trees and admitted values are those of its content.
pub record IsLayered {K C : Type 0} (tree : K → Tree) (IsValue : K → Type 0) (content : K → C) (inner : C → Tree) (IsInner : C → Type 0) : Type 0 where
  pub same : (v : K) → tree v ≡ inner (content v)
  pub out : (v : K) → IsValue v → IsInner (content v)
  pub back : (v : K) → IsInner (content v) → IsValue v

pub knot_layered : {K B : Type 0} (size : K → ℕ) (content : K → B) (tied : Typed K → Typed B) (weight : (K → ℕ) → B → ℕ) → Knotted size content tied weight
    → IsLayered (knot_tree size content tied) (IsKnot size content tied) content (tied (knot size content tied)).tree (tied (knot size content tied)).IsPart
knot_layered size content tied weight k = record { same = knot_is_layer size content tied weight k; out = knot_in_layer size content tied weight k; back = layer_in_knot size content tied weight k }

-- The same, as one layer more of the type is seen.
pub knot_layers : {K B : Type 0} (size : K → ℕ) (content : K → B) (tied : Typed K → Typed B) (weight : (K → ℕ) → B → ℕ) → Knotted size content tied weight
    → IsLayered (knot_tree size content tied) (IsKnot size content tied) (λ v. v) (layer size content tied (knot size content tied)).tree (layer size content tied (knot size content tied)).IsPart
knot_layers size content tied weight k = record { same = knot_is_layer size content tied weight k; out = knot_in_layer size content tied weight k; back = layer_in_knot size content tied weight k }

-- what an element of a list holds
pub bare_layered : {K : Type 0} (tree : K → Tree) (IsValue : K → Type 0) → IsLayered (λ (h : Bare K). tree h.0) (λ (h : Bare K). IsValue h.0) (λ (h : Bare K). h.0) tree IsValue
bare_layered tree IsValue = record { same = λ h. refl; out = λ h i. i; back = λ h i. i }
