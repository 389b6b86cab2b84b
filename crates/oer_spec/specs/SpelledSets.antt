-- Lists whose order doesn't count are equal exactly where their trees are same.
use Rattle.std.specs.Prelude.{◌≡◌, ℕ, ◌+◌, ◌≤◌, Bool, true, false, cond, List, [], ◌∷◌, count_by, refl}
use Rattle.std.specs.Bool.{Decides}
use Rattle.std.specs.Cmp.{IsEquivalence, partial_equiv_from_equiv}
use Rattle.std.proofs.Common.{ap, ap₂, sym, subst, ◌∙◌, inl, inr, arith}
use Rattle.std.proofs.lemmas.List.Sums.{sum_by-cons}
use Rattle.asn1_core.specs.Multisets.{same_items, AreSameItems}
use Rattle.asn1_core.specs.MultisetLaws.{same_items-decides}
use Rattle.oer_spec.specs.Orders.{Stands}
use Rattle.oer_spec.specs.Same.{Same, SameReordered, StandsIn}
use Rattle.oer_spec.specs.Spelled.{EachValue, trees_of, list_of}
use Rattle.oer_spec.specs.Tree.{Tree, Trees, More}

module _ {A : Type 0} (tree : A → Tree) (IsValue : A → Type 0) (eq : A → A → Bool) (o : IsEquivalence eq) (same : (v w : A) → IsValue v → IsValue w → Decides (eq v w) (Same (tree v) (tree w))) where
  abbrev one : A → A → ℕ
  one z x = cond (eq z x) 1 0

  count_more : (z x : A) (xs : List A) → count_by (eq z) (x ∷ xs) ≡ one z x + count_by (eq z) xs
  count_more z x xs = sum_by-cons (λ y. cond (eq z y) 1 0) x xs

  count_taken : (z x : A) (ys rest : List A) → Stands ys x rest → count_by (eq z) ys ≡ one z x + count_by (eq z) rest
  count_taken z x [] rest s = absurd s
  count_taken z x (y ∷ ys) rest (inl e) = count_more z y ys ∙ ap₂ (λ (u : A) (us : List A). one z u + count_by (eq z) us) e.0 e.1
  count_taken z x (y ∷ ys) rest (inr (rs, e, s)) =
      let first = count_more z y ys in
      let later = count_taken z x ys rs s in
      let other : count_by (eq z) rest ≡ one z y + count_by (eq z) rs = ap (λ (us : List A). count_by (eq z) us) e ∙ count_more z y rs in
      omega (arith, first, later, other)

  -- one that is equal to x stands in ys, and what else does
  abbrev Found : A → List A → Type 0
  Found x ys = (y : A) × (rest : List A) × Stands ys y rest × (eq x y ≡ true)

  found_later : (x y : A) (ys : List A) → Found x ys → Found x (y ∷ ys)
  found_later x y ys (z, rest, s, q) = (z, y ∷ rest, inr (rest, refl, s), q)

  found_here : (x y : A) (ys : List A) → (1 ≤ count_by (eq x) ys → Found x ys) → 1 ≤ count_by (eq x) (y ∷ ys) → (b : Bool) → eq x y ≡ b → Found x (y ∷ ys)
  found_here x y ys later some true e = (y, ys, inl (refl, refl), e)
  found_here x y ys later some false e =
      let none : one x y ≡ 0 = ap (λ (b : Bool). cond b 1 0) e in
      let first = count_more x y ys in
      found_later x y ys (later (omega (arith, some, first, none)))

  -- where some are counted, one that is equal stands there
  found : (x : A) (ys : List A) → 1 ≤ count_by (eq x) ys → Found x ys
  found x [] some = absurd (omega arith)
  found x (y ∷ ys) some = found_here x y ys (found x ys) some (eq x y) refl

  values_taken : (x : A) (ys rest : List A) → Stands ys x rest → EachValue IsValue ys → IsValue x × EachValue IsValue rest
  values_taken x [] rest s i = absurd s
  values_taken x (y ∷ ys) rest (inl e) i = (subst IsValue e.0 i.0, subst (EachValue IsValue) e.1 i.1)
  values_taken x (y ∷ ys) rest (inr (rs, e, s)) i =
      let more = values_taken x ys rs s i.1 in
      (more.0, subst (EachValue IsValue) (sym e) (i.0, more.1))

  trees_stand : (x : A) (ys rest : List A) → Stands ys x rest → StandsIn (trees_of tree ys) (tree x) (trees_of tree rest)
  trees_stand x [] rest s = absurd s
  trees_stand x (y ∷ ys) rest (inl e) = inl (ap tree e.0, ap (λ (us : List A). trees_of tree us) e.1)
  trees_stand x (y ∷ ys) rest (inr (rs, e, s)) = inr (trees_of tree rs, ap (λ (us : List A). trees_of tree us) e, trees_stand x ys rs s)

  trees_back : (u : Tree) (ys : List A) (rest : Trees) → StandsIn (trees_of tree ys) u rest → (y : A) × (others : List A) × Stands ys y others × (tree y ≡ u) × (trees_of tree others ≡ rest)
  trees_back u [] rest s = absurd s
  trees_back u (y ∷ ys) rest (inl e) = (y, ys, inl (refl, refl), e.0, e.1)
  trees_back u (y ∷ ys) rest (inr (rs, e, s)) =
      let (z, others, t, is, are) = trees_back u ys rs s in
      (z, y ∷ others, inr (others, refl, t), is, ap (λ (ts : Trees). More (tree y) ts) are ∙ sym e)

  -- equal ones are counted alike
  tied : (x y z : A) → eq x y ≡ true → one z x ≡ one z y
  tied x y z e = ap (λ (b : Bool). cond b 1 0) (o.symm z x ∙ o.congr x y z e ∙ o.symm y z)

  itself : (x : A) → one x x ≡ 1
  itself x = ap (λ (b : Bool). cond b 1 0) (o.refl x)

  reordered : (xs ys : List A) → EachValue IsValue xs → EachValue IsValue ys → AreSameItems eq xs ys → SameReordered (trees_of tree xs) (trees_of tree ys)
  unfolding Rattle.oer_spec.specs.Same.Same
  reordered [] [] i j h = refl
  reordered [] (y ∷ ys) i j h =
      let counts = h y in
      let first = count_more y y ys in
      let self = itself y in
      absurd (omega (arith, counts, first, self))
  reordered (x ∷ xs) ys i j h =
      let counts = h x in
      let first = count_more x x xs in
      let self = itself x in
      let (y, rest, s, q) = found x ys (omega (arith, counts, first, self)) in
      let values = values_taken y ys rest s j in
      let others : AreSameItems eq xs rest = λ z.
      let all = h z in
      let left = count_more z x xs in
      let right = count_taken z y ys rest s in
      let level = tied x y z q in
      omega (arith, all, left, right, level)
      in
      (tree y, trees_of tree rest, trees_stand y ys rest s, (same x y i.0 values.0).0 q, reordered xs rest i.1 values.1 others)

  counted : (xs ys : List A) → EachValue IsValue xs → EachValue IsValue ys → SameReordered (trees_of tree xs) (trees_of tree ys) → AreSameItems eq xs ys
  unfolding Rattle.oer_spec.specs.Same.Same
  counted [] [] i j r = λ z. refl
  counted [] (y ∷ ys) i j r = absurd (cc r)
  counted (x ∷ xs) ys i j (u, rest, s, t, r) =
      let (y, others, stands, is, are) = trees_back u ys rest s in
      let values = values_taken y ys others stands j in
      let q : eq x y ≡ true = (same x y i.0 values.0).1 (subst (λ (w : Tree). Same (tree x) w) (sym is) t) in
      let more = counted xs others i.1 values.1 (subst (λ (ts : Trees). SameReordered (trees_of tree xs) ts) (sym are) r) in
      λ z.
      let all = more z in
      let left = count_more z x xs in
      let right = count_taken z y ys others stands in
      let level = tied x y z q in
      omega (arith, all, left, right, level)

  pub unordered_same : (xs ys : List A) → EachValue IsValue xs → EachValue IsValue ys → Decides (same_items eq xs ys) (Same (list_of false tree xs) (list_of false tree ys))
  unfolding list_of Rattle.oer_spec.specs.Same.Same
  unordered_same xs ys i j =
      let d = same_items-decides eq (partial_equiv_from_equiv o) xs ys in
      (λ e. reordered xs ys i j (d.0 e), λ s. d.1 (counted xs ys i j s))
