-- The stable order of a list is one: what a stable sort gives is what putting each in its place gives.
use Rattle.std.proofs.Common.{◌≡◌, ℕ, suc, ◌+◌, ◌<◌, Bool, true, false, cond, not, ◌&&◌, List, [], ◌∷◌, length, get_or, refl, ap, ap₂, sym, ◌∙◌, subst, arith, ◌⊎◌, inl, inr}
use Rattle.std.specs.Prelude.{⊤}
use Rattle.std.specs.List.{AllByRecursion, filter}
use Rattle.std.specs.List.Sorted.{IsSortedBy, IsStableBy}
use Rattle.std.proofs.lemmas.Bool.{cases_Bool, cond-true, cond-false}

head_same : {X : Type 0} (c d : X) (a b : List X) → c ∷ a ≡ d ∷ b → c ≡ d
head_same c d a b e = cc

tail_same : {X : Type 0} (c d : X) (a b : List X) → c ∷ a ≡ d ∷ b → a ≡ b
tail_same c d a b e = cc

filter_same : {X : Type 0} (p q : X → Bool) → ((x : X) → p x ≡ q x) → (xs : List X) → filter p xs ≡ filter q xs
filter_same p q e [] = refl
filter_same {X} p q e (x ∷ xs) = ap₂ (λ (b : Bool) (r : List X). cond b (x ∷ r) r) (e x) (filter_same p q e xs)

pub both_true : (a b : Bool) → a ≡ true → b ≡ true → (a && b) ≡ true
both_true true b h i = i
both_true false b h i = absurd cc

pub left_true : (a b : Bool) → (a && b) ≡ true → a ≡ true
left_true true b h = refl
left_true false b h = absurd cc

pub right_true : (a b : Bool) → (a && b) ≡ true → b ≡ true
right_true true b h = h
right_true false b h = absurd cc

not_both : (a b : Bool) → (a ≡ true → b ≡ true → ⊥) → (a && b) ≡ false
not_both true true h = absurd (h refl refl)
not_both true false h = refl
not_both false b h = refl

twice_not : (a b : Bool) → (not (not a) && not (not b)) ≡ (a && b)
twice_not true true = refl
twice_not true false = refl
twice_not false b = refl

pub true_false : (a : Bool) → a ≡ true → a ≡ false → ⊥
true_false a h i = absurd cc

-- a total order of list elements, as a test
pub record IsOrderTest {X : Type 0} (le : X → X → Bool) : Type 0 where
  pub total : (x y : X) → le x y ≡ false → le y x ≡ true
  pub trans : (x y z : X) → le x y ≡ true → le y z ≡ true → le x z ≡ true

module _ {X : Type 0} (le : X → X → Bool) where
  -- in front of the first that is not less
  abbrev pub put : X → List X → List X
  put x [] = x ∷ []
  put x (y ∷ ys) = cond (le x y) (x ∷ y ∷ ys) (y ∷ put x ys)

  abbrev pub arranged : List X → List X
  arranged [] = []
  arranged (x ∷ xs) = put x (arranged xs)

  abbrev pub tied : X → X → Bool
  tied w y = le y w && le w y

  -- those that tie with w
  abbrev pub of : X → List X → List X
  of w xs = filter (tied w) xs

  abbrev pub Above : X → List X → Type 0
  Above w xs = AllByRecursion (λ y. le w y ≡ true) xs

  -- none is less than an earlier one
  abbrev pub Rises : List X → Type 0
  Rises [] = ⊤
  Rises (x ∷ xs) = Above x xs × Rises xs

module _ {X : Type 0} (le : X → X → Bool) (o : IsOrderTest le) where
  itself : (x : X) → le x x ≡ true
  itself x = go (cases_Bool (le x x))
    where
      go : (le x x ≡ true) ⊎ (le x x ≡ false) → le x x ≡ true
      go (inl h) = h
      go (inr h) = o.total x x h

  of_here : (w x : X) (xs : List X) → tied le w x ≡ true → of le w (x ∷ xs) ≡ x ∷ of le w xs
  of_here w x xs e = cond-true (tied le w x) _ _ e

  of_other : (w x : X) (xs : List X) → tied le w x ≡ false → of le w (x ∷ xs) ≡ of le w xs
  of_other w x xs e = cond-false (tied le w x) _ _ e

  -- one that is there is no less than the least
  least : (k w : X) (xs : List X) (z : X) (zs : List X) → Above le k xs → of le w xs ≡ z ∷ zs → le k w ≡ true
  least k w [] z zs a e = absurd cc
  least k w (x ∷ xs) z zs a e = go (cases_Bool (tied le w x)) (λ f. least k w xs z zs a.1 f)
    where
      go : (tied le w x ≡ true) ⊎ (tied le w x ≡ false) → (of le w xs ≡ z ∷ zs → le k w ≡ true) → le k w ≡ true
      go (inl h) more = o.trans k x w a.0 (left_true (le x w) (le w x) h)
      go (inr h) more = more (sym (of_other w x xs h) ∙ e)

  tied_both : (x y : X) → le x y ≡ true → le y x ≡ true → tied le x y ≡ true
  tied_both x y h i = both_true (le y x) (le x y) i h

  -- lists that rise and agree on what ties are equal
  pub unique : (xs ys : List X) → Rises le xs → Rises le ys → ((w : X) → of le w xs ≡ of le w ys) → xs ≡ ys
  unique [] [] r s e = refl
  unique [] (b ∷ ys) r s e = absurd (let here = of_here b b ys (tied_both b b (itself b) (itself b)) in let both = e b in cc)
  unique (a ∷ xs) [] r s e = absurd (let here = of_here a a xs (tied_both a a (itself a) (itself a)) in let both = e a in cc)
  unique (a ∷ xs) (b ∷ ys) r s e = ap₂ (λ (x : X) (zs : List X). x ∷ zs) first (unique xs ys r.1 s.1 rest)
    where
      low : le a b ≡ true
      low = least a b (a ∷ xs) b (of le b ys) (itself a, r.0) (e b ∙ of_here b b ys (tied_both b b (itself b) (itself b)))

      high : le b a ≡ true
      high = least b a (b ∷ ys) a (of le a xs) (itself b, s.0) (sym (e a) ∙ of_here a a xs (tied_both a a (itself a) (itself a)))

      both : a ∷ of le a xs ≡ b ∷ of le a ys
      both = sym (of_here a a xs (tied_both a a (itself a) (itself a))) ∙ e a ∙ of_here a b ys (tied_both a b low high)

      first : a ≡ b
      first = head_same a b _ _ both

      rest : (w : X) → of le w xs ≡ of le w ys
      rest w = go (cases_Bool (tied le w a))
        where
          go : (tied le w a ≡ true) ⊎ (tied le w a ≡ false) → of le w xs ≡ of le w ys
          go (inl h) = tail_same a b _ _ (sym (of_here w a xs h) ∙ e w ∙ of_here w b ys (subst (λ (x : X). tied le w x ≡ true) first h))
          go (inr h) = sym (of_other w a xs h) ∙ e w ∙ of_other w b ys (subst (λ (x : X). tied le w x ≡ false) first h)

  put_low : (x y : X) (ys : List X) → le x y ≡ true → put le x (y ∷ ys) ≡ x ∷ y ∷ ys
  put_low x y ys h = cond-true (le x y) _ _ h

  put_high : (x y : X) (ys : List X) → le x y ≡ false → put le x (y ∷ ys) ≡ y ∷ put le x ys
  put_high x y ys h = cond-false (le x y) _ _ h

  of_put : (w x : X) (xs : List X) → of le w (put le x xs) ≡ of le w (x ∷ xs)
  of_put w x [] = refl
  of_put w x (y ∷ ys) = go (cases_Bool (le x y)) (of_put w x ys)
    where
      -- what is less than x doesn't tie with w where x does
      apart : le x y ≡ false → tied le w y ≡ true → tied le w x ≡ false
      apart l h = not_both (le x w) (le w x) (λ i j. true_false (le x y) (o.trans x w y i (right_true (le y w) (le w y) h)) l)

      past : le x y ≡ false → (tied le w y ≡ true) ⊎ (tied le w y ≡ false) → of le w (put le x ys) ≡ of le w (x ∷ ys) → of le w (y ∷ put le x ys) ≡ of le w (x ∷ y ∷ ys)
      past l (inl h) more = of_here w y (put le x ys) h ∙ ap (λ (r : List X). y ∷ r) (more ∙ of_other w x ys (apart l h)) ∙ sym (of_other w x (y ∷ ys) (apart l h) ∙ of_here w y ys h)
      past l (inr h) more = of_other w y (put le x ys) h ∙ more ∙ ap (λ (r : List X). cond (tied le w x) (x ∷ r) r) (sym (of_other w y ys h))

      go : (le x y ≡ true) ⊎ (le x y ≡ false) → of le w (put le x ys) ≡ of le w (x ∷ ys) → of le w (put le x (y ∷ ys)) ≡ of le w (x ∷ y ∷ ys)
      go (inl l) more = ap (of le w) (put_low x y ys l)
      go (inr l) more = ap (of le w) (put_high x y ys l) ∙ past l (cases_Bool (tied le w y)) more

  pub of_arranged : (w : X) (xs : List X) → of le w (arranged le xs) ≡ of le w xs
  of_arranged w [] = refl
  of_arranged w (x ∷ xs) = of_put w x (arranged le xs) ∙ ap (λ (r : List X). cond (tied le w x) (x ∷ r) r) (of_arranged w xs)

  above_put : (w x : X) (xs : List X) → le w x ≡ true → Above le w xs → Above le w (put le x xs)
  above_put w x [] h a = (h, tt)
  above_put w x (y ∷ ys) h a = go (cases_Bool (le x y)) (above_put w x ys h a.1)
    where
      go : (le x y ≡ true) ⊎ (le x y ≡ false) → Above le w (put le x ys) → Above le w (put le x (y ∷ ys))
      go (inl l) more = subst (Above le w) (sym (put_low x y ys l)) (h, a)
      go (inr l) more = subst (Above le w) (sym (put_high x y ys l)) (a.0, more)

  above_lower : (k w : X) (xs : List X) → le k w ≡ true → Above le w xs → Above le k xs
  above_lower k w [] h a = tt
  above_lower k w (x ∷ xs) h a = (o.trans k w x h a.0, above_lower k w xs h a.1)

  rises_put : (x : X) (xs : List X) → Rises le xs → Rises le (put le x xs)
  rises_put x [] r = (tt, tt)
  rises_put x (y ∷ ys) r = go (cases_Bool (le x y)) (rises_put x ys r.1)
    where
      go : (le x y ≡ true) ⊎ (le x y ≡ false) → Rises le (put le x ys) → Rises le (put le x (y ∷ ys))
      go (inl l) more = subst (Rises le) (sym (put_low x y ys l)) ((l, above_lower x y ys l r.0), r)
      go (inr l) more = subst (Rises le) (sym (put_high x y ys l)) (above_put y x ys (o.total x y l) r.0, more)

  pub rises_arranged : (xs : List X) → Rises le (arranged le xs)
  rises_arranged [] = tt
  rises_arranged (x ∷ xs) = rises_put x (arranged le xs) (rises_arranged xs)

  -- each is no more than the next
  rises_by_steps : (xs : List X) → ((k : ℕ) (d : X) → k + 1 < length xs → le (get_or xs k d) (get_or xs (k + 1) d) ≡ true) → Rises le xs
  rises_by_steps [] h = tt
  rises_by_steps (x ∷ []) h = (tt, tt)
  rises_by_steps (x ∷ y ∷ ys) h =
      let here : le x y ≡ true = h 0 x (omega arith) in
      let more : Rises le (y ∷ ys) = rises_by_steps (y ∷ ys) (λ k d l. let next : suc k + 1 ≡ suc (k + 1) = omega arith in subst (λ (n : ℕ). le (get_or (y ∷ ys) k d) (get_or (x ∷ y ∷ ys) n d) ≡ true) next (h (suc k) d (omega (arith, l)))) in
      ((here, above_lower x y ys here more.0), more)

  -- what a stable sort by a test gives, where the test is that the order does not hold
  pub arranged_is : (lt : X → X → Bool) → ((x y : X) → lt y x ≡ not (le x y)) → (xs ys : List X) → IsSortedBy lt ys → IsStableBy lt xs ys → ys ≡ arranged le xs
  arranged_is lt is xs ys up stable = unique ys (arranged le xs) (rises_by_steps ys (λ k d l. holds _ _ (up k d (omega arith) l))) (rises_arranged xs) (λ w. agree w ∙ sym (of_arranged w xs))
    where
      holds : (x y : X) → lt y x ≡ false → le x y ≡ true
      holds x y h = go (cases_Bool (le x y))
        where
          go : (le x y ≡ true) ⊎ (le x y ≡ false) → le x y ≡ true
          go (inl i) = i
          go (inr i) = absurd (let e : lt y x ≡ true = is x y ∙ ap not i in cc)

      ties_are : (w y : X) → (not (lt w y) && not (lt y w)) ≡ tied le w y
      ties_are w y = ap₂ (λ (a b : Bool). not a && not b) (is y w) (is w y) ∙ twice_not (le y w) (le w y)

      agree : (w : X) → of le w ys ≡ of le w xs
      agree w = sym (filter_same _ _ (ties_are w) ys) ∙ stable w ∙ filter_same _ _ (ties_are w) xs
