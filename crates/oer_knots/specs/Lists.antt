-- Lists of values that hold knots, whether their order counts or not: the most that a knot in one of them weighs is `most`, as in a
-- type's own size.
use Rattle.std.specs.Prelude.{◌≡◌, ℕ, Bool, true, false, List, [], ◌∷◌, refl}
use Rattle.std.proofs.Common.{ap, ◌∙◌}
use denote.Param.Weighed.{most}
use Rattle.oer_spec.specs.Spelled.{EachValue, trees_of, list_of, list_is, lists_alike}
use Rattle.oer_spec.specs.Tree.{Tree, Trees, ListOf, More}
use Rattle.oer_rows.specs.Schema.{Typed}
use Rattle.oer_knots.specs.Ties.{AgreeTo, agree_less, Ties, le_left, le_right}

module _ {K A B : Type 0} (ordered : Bool) (items : A → List B) (tied : Typed K → Typed B) where
  abbrev elements_tied : Typed K → Typed A
  elements_tied of = record { tree = λ v. list_of ordered (tied of).tree (items v); IsPart = λ v. EachValue (tied of).IsPart (items v) }

module _ {K A B : Type 0} (ordered : Bool) (items : A → List B) (tied : Typed K → Typed B) (part : (K → ℕ) → B → ℕ) (b : Ties tied part) where
  trees_agree : (size : K → ℕ) (of to : Typed K) (vs : List B) → AgreeTo size (most (part size) vs) of to → trees_of (tied of).tree vs ≡ trees_of (tied to).tree vs
  trees_agree size of to [] a = refl
  trees_agree size of to (v ∷ vs) a =
      let h = b.local size of to v (agree_less size _ _ of to (le_left (part size v) (most (part size) vs)) a) in
      let r = trees_agree size of to vs (agree_less size _ _ of to (le_right (part size v) (most (part size) vs)) a) in
      ap (λ (t : Tree). More t (trees_of (tied of).tree vs)) h.tree ∙ ap (λ (ts : Trees). More ((tied to).tree v) ts) r

  each_agrees : (size : K → ℕ) (of to : Typed K) (vs : List B) → AgreeTo size (most (part size) vs) of to → EachValue (tied of).IsPart vs → EachValue (tied to).IsPart vs
  each_agrees size of to [] a i = tt
  each_agrees size of to (v ∷ vs) a (i, j) = (
    (b.local size of to v (agree_less size _ _ of to (le_left (part size v) (most (part size) vs)) a)).part i,
    each_agrees size of to vs (agree_less size _ _ of to (le_right (part size v) (most (part size) vs)) a) j,
  )

  lists_agree : (size : K → ℕ) (of to : Typed K) (vs : List B) → AgreeTo size (most (part size) vs) of to → list_of ordered (tied of).tree vs ≡ list_of ordered (tied to).tree vs
  unfolding list_of
  lists_agree size of to vs a = ap (λ (ts : Trees). ListOf ordered ts) (trees_agree size of to vs a)

  elements_tie : Ties (elements_tied {K = K} ordered items tied) (λ size v. most (part size) (items v))
  elements_tie = record {
    is = λ of o. record { is = λ v i. list_is (tied of).tree (tied of).IsPart ordered (b.is of o).is (items v) i; like = λ v w i j. lists_alike (tied of).tree (tied of).IsPart ordered (b.is of o).like (items v) (items w) i j };
    local = λ size of to v a. record { tree = lists_agree size of to (items v) a; part = each_agrees size of to (items v) a };
  }

module _ {K A B : Type 0} (items : A → List B) (tied : Typed K → Typed B) (part : (K → ℕ) → B → ℕ) where
  -- a SEQUENCE OF
  abbrev pub list_tied : Typed K → Typed A
  list_tied = elements_tied true items tied

  pub list_ties : Ties tied part → Ties list_tied (λ size v. most (part size) (items v))
  list_ties b = elements_tie true items tied part b

  -- a SET OF
  abbrev pub set_tied : Typed K → Typed A
  set_tied = elements_tied false items tied

  pub set_ties : Ties tied part → Ties set_tied (λ size v. most (part size) (items v))
  set_ties b = elements_tie false items tied part b
