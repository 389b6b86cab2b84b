-- Equality of multisets is an equivalence, where the equality of their items is one in part: an item may differ from itself.
use Rattle.std.specs.Prelude.{◌≡◌, ◌+◌, Bool, true, false, cond, ◌&&◌, ◌==◌, ◌⊎◌, List, [], ◌∷◌, count_by, refl}
use Rattle.std.specs.Bool.{Decides}
use Rattle.std.specs.List.{list_all}
use Rattle.std.specs.Cmp.Lexicographic.{pointwise}
use Rattle.std.specs.Cmp.{IsEquivalence, IsPartialEquivalence, partial_equiv_from_equiv, per_alike}
use Rattle.std.proofs.Common.{sym, ◌∙◌, inl, inr}
use Rattle.std.proofs.lemmas.List.Sums.{sum_by-cons}
use Rattle.std.proofs.lemmas.Bool.Decides.{same_from_decides, Decides-like, Decides-eqb}
use Rattle.asn1_core.specs.Multisets.{agree_on, same_items, AreSameItems}

and-first : (x y : Bool) → (x && y) ≡ true → x ≡ true
and-first true y e = refl
and-first false y e = cc

and-second : (x y : Bool) → (x && y) ≡ true → y ≡ true
and-second true y e = e
and-second false y e = cc

module _ {T : Type 0} (eq : T → T → Bool) (o : IsPartialEquivalence eq) where
  -- items that are equal are counted alike
  alike : (z x : T) → eq z x ≡ true → (ys : List T) → count_by (eq z) ys ≡ count_by (eq x) ys
  alike z x e ys = λ i. count_by (λ y. per_alike o z x y e i) ys

  -- where some is counted, one of the items equals it, and passes a test that all of them pass
  agreed : (test : T → Bool) (xs : List T) (z : T) → list_all test xs ≡ true → (count_by (eq z) xs ≡ 0) ⊎ ((x : T) × (eq z x ≡ true) × (test x ≡ true))
  agreed test [] z h = inl refl
  agreed test (x ∷ xs) z h =
      let pick : (s : Bool) → eq z x ≡ s → (count_by (eq z) (x ∷ xs) ≡ 0) ⊎ ((x : T) × (eq z x ≡ true) × (test x ≡ true)) = elim [
        | true ↦ λ e. inr (x, e, and-first (test x) (list_all test xs) h)
        | false ↦ λ e. elim (agreed test xs z (and-second (test x) (list_all test xs) h)) [
          | inl n ↦ inl (sum_by-cons (λ y. cond (eq z y) 1 0) x xs ∙ (λ i. cond (e i) 1 0 + n i))
          | inr w ↦ inr w
        ]
      ] in
      pick (eq z x) refl

  tested : (xs ys : List T) (z : T) → (count_by (eq z) xs == count_by (eq z) ys) ≡ true → count_by (eq z) xs ≡ count_by (eq z) ys
  tested xs ys z h = (Decides-eqb (count_by (eq z) xs) (count_by (eq z) ys)).0 h

  found : (xs ys : List T) (z : T) → ((x : T) × (eq z x ≡ true) × ((count_by (eq x) xs == count_by (eq x) ys) ≡ true)) → count_by (eq z) xs ≡ count_by (eq z) ys
  found xs ys z w = alike z w.0 w.1 xs ∙ tested xs ys w.0 w.2 ∙ sym (alike z w.0 w.1 ys)

  pub same_items-counts : (xs ys : List T) → same_items eq xs ys ≡ true → AreSameItems eq xs ys
  same_items-counts xs ys h = λ z.
      elim (agreed (λ z. count_by (eq z) xs == count_by (eq z) ys) xs z (and-first _ _ h)) [
        | inr w ↦ found xs ys z w
        | inl n ↦ elim (agreed (λ z. count_by (eq z) xs == count_by (eq z) ys) ys z (and-second _ _ h)) [ inr w ↦ found xs ys z w | inl m ↦ n ∙ sym m ]
      ]

  counts-agree : (xs ys items : List T) → AreSameItems eq xs ys → agree_on eq xs ys items ≡ true
  counts-agree xs ys [] h = refl
  counts-agree xs ys (z ∷ zs) h =
      λ i. (Decides-eqb (count_by (eq z) xs) (count_by (eq z) ys)).1 (h z) i && counts-agree xs ys zs h i

  pub counts-same_items : (xs ys : List T) → AreSameItems eq xs ys → same_items eq xs ys ≡ true
  counts-same_items xs ys h = λ i. counts-agree xs ys xs h i && counts-agree xs ys ys h i

  pub same_items-decides : (xs ys : List T) → Decides (same_items eq xs ys) (AreSameItems eq xs ys)
  same_items-decides xs ys = (same_items-counts xs ys, counts-same_items xs ys)

  pub same_items-equivalence : IsEquivalence (same_items eq)
  same_items-equivalence = record {
    refl = λ xs. counts-same_items xs xs (λ z. refl);
    symm = λ xs ys. same_from_decides _ _ (same_items-decides xs ys) (Decides-like _ (λ h z. sym (h z)) (λ h z. sym (h z)) (same_items-decides ys xs));
    congr = λ xs ys zs e.
        let h = same_items-counts xs ys e in
        same_from_decides _ _ (same_items-decides xs zs) (Decides-like _ (λ k z. h z ∙ k z) (λ k z. sym (h z) ∙ k z) (same_items-decides ys zs));
  }

  pub same_items-partial : IsPartialEquivalence (same_items eq)
  same_items-partial = partial_equiv_from_equiv same_items-equivalence

  -- one after the other the same
  pointwise-counts : (xs ys : List T) → pointwise eq xs ys ≡ true → AreSameItems eq xs ys
  pointwise-counts [] [] h = λ z. refl
  pointwise-counts [] (y ∷ ys) h = cc
  pointwise-counts (x ∷ xs) [] h = cc
  pointwise-counts (x ∷ xs) (y ∷ ys) h = λ z.
      let e = o.symm z x ∙ per_alike o x y z (and-first (eq x y) (pointwise eq xs ys) h) ∙ o.symm y z in
      let more = pointwise-counts xs ys (and-second (eq x y) (pointwise eq xs ys) h) z in
      sum_by-cons (λ y. cond (eq z y) 1 0) x xs ∙ (λ i. cond (e i) 1 0 + more i) ∙ sym (sum_by-cons (λ y. cond (eq z y) 1 0) y ys)

  pub pointwise-same_items : (xs ys : List T) → pointwise eq xs ys ≡ true → same_items eq xs ys ≡ true
  pointwise-same_items xs ys h = counts-same_items xs ys (pointwise-counts xs ys h)
