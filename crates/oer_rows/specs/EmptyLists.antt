-- Lists and sets are equal to one without items just where they have none.
use Rattle.std.proofs.Common.{◌≡◌, ℕ, ◌+◌, ◌==◌, Bool, true, false, cond, ◌&&◌, List, [], ◌∷◌, length, refl, sym, ap, ◌∙◌, arith}
use Rattle.std.specs.Prelude.{count_by}
use Rattle.std.specs.List.{list_all}
use Rattle.std.specs.Bool.{Decides}
use Rattle.std.specs.Cmp.{IsEquivalence}
use Rattle.std.specs.Cmp.Lexicographic.{pointwise}
use Rattle.std.proofs.lemmas.Bool.{ne_eqb}
use Rattle.std.proofs.lemmas.List.Sums.{sum_by-cons}
use Rattle.asn1_core.specs.Multisets.{same_items}
use Rattle.oer_spec.specs.Same.{Same}
use Rattle.oer_spec.specs.Spelled.{list_of}
use Rattle.oer_spec.specs.Tree.{Tree}

some : {A : Type 0} (x : A) (xs : List A) → (length (x ∷ xs) == 0) ≡ false
some x xs = ne_eqb (length (x ∷ xs)) 0 (λ e. omega (arith, e))

pub none_listed : {A : Type 0} (eq : A → A → Bool) (xs : List A) → (length xs == 0) ≡ pointwise eq xs []
none_listed eq [] = refl
none_listed eq (x ∷ xs) = some x xs

module _ {A : Type 0} (eq : A → A → Bool) (k : IsEquivalence eq) where
  -- an item is counted among those behind which it stands
  counted : (x : A) (xs : List A) → (count_by (eq x) (x ∷ xs) == count_by (eq x) []) ≡ false
  counted x xs =
      let n : ◌≡◌ {A = ℕ} (count_by (eq x) (x ∷ xs)) (cond (eq x x) 1 0 + count_by (eq x) xs) = sum_by-cons (λ y. cond (eq x y) 1 0) x xs in
      let one : ◌≡◌ {A = ℕ} (cond (eq x x) 1 0) 1 = ap (λ (b : Bool). cond b 1 0) (k.refl x) in
      ne_eqb (count_by (eq x) (x ∷ xs)) 0 (λ e. omega (arith, e, n, one))

  pub none_gathered : (xs : List A) → (length xs == 0) ≡ same_items eq xs []
  none_gathered [] = refl
  none_gathered (x ∷ xs) =
      some x xs ∙ sym (ap (λ (b : Bool). (b && list_all (λ z. count_by (eq z) (x ∷ xs) == count_by (eq z) []) xs) && true) (counted x xs))

-- ---- so are their trees

module _ {A : Type 0} (tree : A → Tree) (eq : A → A → Bool) where
  pub empty_listed : (xs : List A) → Decides (pointwise eq xs []) (Same (list_of true tree xs) (list_of true tree []))
  unfolding list_of Rattle.oer_spec.specs.Same.Same
  empty_listed [] = (λ e. tt, λ s. refl)
  empty_listed (x ∷ xs) = (λ e. absurd (cc e), λ s. absurd s)

  pub empty_gathered : IsEquivalence eq → (xs : List A) → Decides (same_items eq xs []) (Same (list_of false tree xs) (list_of false tree []))
  unfolding list_of Rattle.oer_spec.specs.Same.Same
  empty_gathered k [] = (λ e. refl, λ s. refl)
  empty_gathered k (x ∷ xs) = (λ e. absurd (cc (some x xs, none_gathered eq k (x ∷ xs) ∙ e)), λ s. absurd s.2)
