-- Octets in ascending order.
use Rattle.std.proofs.Common.{◌≡◌, ℕ, ◌<◌, Bool, true, false, cond, not, ◌==◌, nat_lt, List, [], ◌∷◌, ◌⊎◌, inl, inr, refl, sym, ap, ap₂, ◌∙◌, subst, arith}
use Rattle.std.specs.Cmp.Lexicographic.{slice_cmp}
use Rattle.std.specs.Ordering.{is_lt, nat_cmp, ordering_then}
use Rattle.std.specs.declared.cmp.Ordering.{Ordering}
use Rattle.std.specs.declared.cmp.Ordering.TheVariants.{Less, Equal, Greater}
use Rattle.std.proofs.lemmas.Bool.{lt-ltb, le-ltb, eq-eqb, ne_eqb, cases_order, cond-true, cond-false, cases_Bool}
use Rattle.asn1_core.specs.Octets.{Octets}
use Rattle.oer_spec.specs.Orders.{Stands, Reorders, octets_le, Ascends}
use Rattle.oer_spec.specs.Places.{put_octets, sorted}

le_lt : (x y : ℕ) (o p : Octets) → x < y → octets_le (x ∷ o) (y ∷ p) ≡ true
le_lt x y o p h = cond-true (nat_lt x y) true (cond (x == y) (octets_le o p) false) (lt-ltb x y h)

le_eq : (x y : ℕ) (o p : Octets) → x ≡ y → octets_le (x ∷ o) (y ∷ p) ≡ octets_le o p
le_eq x y o p h =
    cond-false (nat_lt x y) true (cond (x == y) (octets_le o p) false) (le-ltb x y (omega arith))
    ∙ cond-true (x == y) (octets_le o p) false (eq-eqb x y h)

le_gt : (x y : ℕ) (o p : Octets) → y < x → octets_le (x ∷ o) (y ∷ p) ≡ false
le_gt x y o p h =
    cond-false (nat_lt x y) true (cond (x == y) (octets_le o p) false) (le-ltb x y (omega arith))
    ∙ cond-false (x == y) (octets_le o p) false (ne_eqb x y (λ e. omega (arith, e, h)))

le_parts : (x y : ℕ) (o p : Octets) → octets_le (x ∷ o) (y ∷ p) ≡ true → (x < y) ⊎ ((x ≡ y) × (octets_le o p ≡ true))
le_parts x y o p h = go (cases_order x y)
  where
    go : (x ≡ y) ⊎ ((x < y) ⊎ (y < x)) → (x < y) ⊎ ((x ≡ y) × (octets_le o p ≡ true))
    go (inl e) = inr (e, sym (le_eq x y o p e) ∙ h)
    go (inr (inl l)) = inl l
    go (inr (inr l)) = absurd (cc (h, le_gt x y o p l))

pub le_trans' : (o p q : Octets) → octets_le o p ≡ true → octets_le p q ≡ true → octets_le o q ≡ true
le_trans' [] p q f g = refl
le_trans' (x ∷ o) [] q f g = absurd (cc f)
le_trans' (x ∷ o) (y ∷ p) [] f g = absurd (cc g)
le_trans' (x ∷ o) (y ∷ p) (z ∷ q) f g = go (le_parts x y o p f) (le_parts y z p q g) (le_trans' o p q)
  where
    go : (x < y) ⊎ ((x ≡ y) × (octets_le o p ≡ true)) → (y < z) ⊎ ((y ≡ z) × (octets_le p q ≡ true)) → (octets_le o p ≡ true → octets_le p q ≡ true → octets_le o q ≡ true) → octets_le (x ∷ o) (z ∷ q) ≡ true
    go (inl a) (inl b) ih = le_lt x z o q (omega arith)
    go (inl a) (inr (b, _)) ih = le_lt x z o q (omega arith)
    go (inr (a, _)) (inl b) ih = le_lt x z o q (omega arith)
    go (inr (a, h)) (inr (b, k)) ih = le_eq x z o q (a ∙ b) ∙ ih h k

pub le_antisym : (o p : Octets) → octets_le o p ≡ true → octets_le p o ≡ true → o ≡ p
le_antisym [] [] f g = refl
le_antisym [] (y ∷ p) f g = absurd (cc g)
le_antisym (x ∷ o) [] f g = absurd (cc f)
le_antisym (x ∷ o) (y ∷ p) f g = go (le_parts x y o p f) (le_parts y x p o g) (le_antisym o p)
  where
    go : (x < y) ⊎ ((x ≡ y) × (octets_le o p ≡ true)) → (y < x) ⊎ ((y ≡ x) × (octets_le p o ≡ true)) → (octets_le o p ≡ true → octets_le p o ≡ true → o ≡ p) → x ∷ o ≡ y ∷ p
    go (inl a) (inl b) ih = absurd (omega (arith, a, b))
    go (inl a) (inr (b, _)) ih = absurd (omega (arith, a, b))
    go (inr (a, _)) (inl b) ih = absurd (omega (arith, a, b))
    go (inr (a, h)) (inr (b, k)) ih = ap₂ ◌∷◌ a (ih h k)

pub le_total : (o p : Octets) → octets_le o p ≡ false → octets_le p o ≡ true
le_total [] p f = absurd (cc f)
le_total (x ∷ o) [] f = refl
le_total (x ∷ o) (y ∷ p) f = go (cases_order x y) (le_total o p)
  where
    go : (x ≡ y) ⊎ ((x < y) ⊎ (y < x)) → (octets_le o p ≡ false → octets_le p o ≡ true) → octets_le (y ∷ p) (x ∷ o) ≡ true
    go (inl e) ih = le_eq y x p o (sym e) ∙ ih (sym (le_eq x y o p e) ∙ f)
    go (inr (inl l)) ih = absurd (cc (f, le_lt x y o p l))
    go (inr (inr l)) ih = le_lt y x p o l

-- ---- where an element is put
put_low : (x z : Octets) (zs : List Octets) → octets_le x z ≡ true → put_octets x (z ∷ zs) ≡ x ∷ z ∷ zs
put_low x z zs h = cond-true (octets_le x z) (x ∷ z ∷ zs) (z ∷ put_octets x zs) h

put_high : (x z : Octets) (zs : List Octets) → octets_le x z ≡ false → put_octets x (z ∷ zs) ≡ z ∷ put_octets x zs
put_high x z zs h = cond-false (octets_le x z) (x ∷ z ∷ zs) (z ∷ put_octets x zs) h

put_comm : (x y : Octets) (zs : List Octets) → put_octets x (put_octets y zs) ≡ put_octets y (put_octets x zs)
put_comm x y [] = go (cases_Bool (octets_le x y)) (cases_Bool (octets_le y x))
  where
    go : (octets_le x y ≡ true) ⊎ (octets_le x y ≡ false) → (octets_le y x ≡ true) ⊎ (octets_le y x ≡ false) → put_octets x (y ∷ []) ≡ put_octets y (x ∷ [])
    go (inl a) (inl b) = let e : x ≡ y = le_antisym x y a b in ap₂ (λ p q. put_octets p (q ∷ [])) e (sym e)
    go (inl a) (inr b) = put_low x y [] a ∙ sym (put_high y x [] b)
    go (inr a) (inl b) = put_high x y [] a ∙ sym (put_low y x [] b)
    go (inr a) (inr b) = absurd (cc (b, le_total x y a))
put_comm x y (z ∷ zs) = go (cases_Bool (octets_le x z)) (cases_Bool (octets_le y z)) (cases_Bool (octets_le x y)) (cases_Bool (octets_le y x)) (put_comm x y zs)
  where
    two : Octets → Octets → Type 0
    two a b = (octets_le a b ≡ true) ⊎ (octets_le a b ≡ false)

    go : (octets_le x z ≡ true) ⊎ (octets_le x z ≡ false) → (octets_le y z ≡ true) ⊎ (octets_le y z ≡ false) → (octets_le x y ≡ true) ⊎ (octets_le x y ≡ false) → (octets_le y x ≡ true) ⊎ (octets_le y x ≡ false)
        → put_octets x (put_octets y zs) ≡ put_octets y (put_octets x zs) → put_octets x (put_octets y (z ∷ zs)) ≡ put_octets y (put_octets x (z ∷ zs))
    go (inl a) (inl b) (inl c) (inl d) ih = let e : x ≡ y = le_antisym x y c d in ap₂ (λ p q. put_octets p (put_octets q (z ∷ zs))) e (sym e)
    go (inl a) (inl b) (inl c) (inr d) ih =
        ap (put_octets x) (put_low y z zs b) ∙ put_low x y (z ∷ zs) c ∙ sym (ap (put_octets y) (put_low x z zs a) ∙ put_high y x (z ∷ zs) d ∙ ap (λ k. x ∷ k) (put_low y z zs b))
    go (inl a) (inl b) (inr c) (inl d) ih =
        ap (put_octets x) (put_low y z zs b) ∙ put_high x y (z ∷ zs) c ∙ ap (λ k. y ∷ k) (put_low x z zs a) ∙ sym (ap (put_octets y) (put_low x z zs a) ∙ put_low y x (z ∷ zs) d)
    go (inl a) (inl b) (inr c) (inr d) ih = absurd (cc (d, le_total x y c))
    go (inl a) (inr b) c (inl d) ih = absurd (cc (b, le_trans' y x z d a))
    go (inl a) (inr b) (inl c) (inr d) ih =
        ap (put_octets x) (put_high y z zs b) ∙ put_low x z (put_octets y zs) a ∙ sym (ap (put_octets y) (put_low x z zs a) ∙ put_high y x (z ∷ zs) d ∙ ap (λ k. x ∷ k) (put_high y z zs b))
    go (inl a) (inr b) (inr c) (inr d) ih = absurd (cc (d, le_total x y c))
    go (inr a) (inl b) (inl c) d ih = absurd (cc (a, le_trans' x y z c b))
    go (inr a) (inl b) (inr c) d ih =
        ap (put_octets x) (put_low y z zs b) ∙ put_high x y (z ∷ zs) c ∙ ap (λ k. y ∷ k) (put_high x z zs a) ∙ sym (ap (put_octets y) (put_high x z zs a) ∙ put_low y z (put_octets x zs) b)
    go (inr a) (inr b) c d ih =
        ap (put_octets x) (put_high y z zs b) ∙ put_high x z (put_octets y zs) a ∙ ap (λ k. z ∷ k) ih ∙ sym (ap (put_octets y) (put_high x z zs a) ∙ put_high y z (put_octets x zs) b)

pub sorted_taken : (os : List Octets) (o : Octets) (rest : List Octets) → Stands os o rest → sorted os ≡ put_octets o (sorted rest)
sorted_taken [] o rest s = absurd s
sorted_taken (p ∷ os) o rest (inl (e, f)) = ap₂ (λ a b. put_octets a (sorted b)) e f
sorted_taken (p ∷ os) o rest (inr (rs, f, s)) =
    ap (put_octets p) (sorted_taken os o rs s) ∙ put_comm p o (sorted rs) ∙ ap (λ z. put_octets o (sorted z)) (sym f)

-- lists that hold the same are sorted alike
pub sorted_mixed : (os ps : List Octets) → Reorders os ps → sorted os ≡ sorted ps
sorted_mixed [] ps m = ap sorted (sym m)
sorted_mixed (o ∷ os) ps (rest, s, m) = ap (put_octets o) (sorted_mixed os rest m) ∙ sym (sorted_taken ps o rest s)

pub sorted_ascends : (os : List Octets) → Ascends os → sorted os ≡ os
sorted_ascends [] a = refl
sorted_ascends (o ∷ []) a = refl
sorted_ascends (o ∷ p ∷ ps) (f, a) = ap (put_octets o) (sorted_ascends (p ∷ ps) a) ∙ put_low o p ps f

-- ---- the sorted list ascends, and holds the same
ascends_tail : (p : Octets) (os : List Octets) → Ascends (p ∷ os) → Ascends os
ascends_tail p [] a = tt
ascends_tail p (o ∷ os) a = a.1

front_ascends : (p o : Octets) (os : List Octets) → octets_le p o ≡ true → Ascends (p ∷ os) → Ascends (put_octets o os) → Ascends (p ∷ put_octets o os)
front_ascends p o [] f a b = (f, tt)
front_ascends p o (q ∷ qs) f a b = go (cases_Bool (octets_le o q))
  where
    go : (octets_le o q ≡ true) ⊎ (octets_le o q ≡ false) → Ascends (p ∷ put_octets o (q ∷ qs))
    go (inl h) = subst (λ z. Ascends (p ∷ z)) (sym (put_low o q qs h)) (f, subst Ascends (put_low o q qs h) b)
    go (inr h) = subst (λ z. Ascends (p ∷ z)) (sym (put_high o q qs h)) (a.0, subst Ascends (put_high o q qs h) b)

put_ascends : (o : Octets) (os : List Octets) → Ascends os → Ascends (put_octets o os)
put_ascends o [] a = tt
put_ascends o (p ∷ os) a = go (cases_Bool (octets_le o p)) (put_ascends o os (ascends_tail p os a))
  where
    go : (octets_le o p ≡ true) ⊎ (octets_le o p ≡ false) → Ascends (put_octets o os) → Ascends (put_octets o (p ∷ os))
    go (inl h) ih = subst Ascends (sym (put_low o p os h)) (h, a)
    go (inr h) ih = subst Ascends (sym (put_high o p os h)) (front_ascends p o os (le_total o p h) a ih)

pub ascends_sorted : (os : List Octets) → Ascends (sorted os)
ascends_sorted [] = tt
ascends_sorted (o ∷ os) = put_ascends o (sorted os) (ascends_sorted os)

put_stands : (o : Octets) (os : List Octets) → Stands (put_octets o os) o os
put_stands o [] = inl (refl, refl)
put_stands o (p ∷ os) = go (cases_Bool (octets_le o p)) (put_stands o os)
  where
    go : (octets_le o p ≡ true) ⊎ (octets_le o p ≡ false) → Stands (put_octets o os) o os → Stands (put_octets o (p ∷ os)) o (p ∷ os)
    go (inl h) ih = subst (λ z. Stands z o (p ∷ os)) (sym (put_low o p os h)) (inl (refl, refl))
    go (inr h) ih = subst (λ z. Stands z o (p ∷ os)) (sym (put_high o p os h)) (inr (os, refl, ih))

pub mixed_sorted : (os : List Octets) → Reorders os (sorted os)
mixed_sorted [] = refl
mixed_sorted (o ∷ os) = (sorted os, put_stands o (sorted os), mixed_sorted os)

-- the order of octets, as a sort by it tests it
compares : (x y : ℕ) (r : Ordering) → (x ≡ y) ⊎ ((x < y) ⊎ (y < x)) → (k : Bool) → is_lt r ≡ not k → is_lt (ordering_then (nat_cmp y x) r) ≡ not (cond (nat_lt x y) true (cond (x == y) k false))
compares x y r (inl e) k h =
    let left : nat_cmp y x ≡ Equal = cond-false (nat_lt y x) _ _ (le-ltb y x (omega (arith, e))) ∙ cond-true (y == x) _ _ (eq-eqb y x (sym e)) in
    ap (λ (o : Ordering). is_lt (ordering_then o r)) left ∙ h ∙ sym (ap not (cond-false (nat_lt x y) true (cond (x == y) k false) (le-ltb x y (omega (arith, e))) ∙ cond-true (x == y) k false (eq-eqb x y e)))
compares x y r (inr (inl l)) k h =
    let left : nat_cmp y x ≡ Greater = cond-false (nat_lt y x) _ _ (le-ltb y x (omega arith)) ∙ cond-false (y == x) _ _ (ne_eqb y x (λ e. omega (arith, e, l))) in
    ap (λ (o : Ordering). is_lt (ordering_then o r)) left ∙ sym (ap not (cond-true (nat_lt x y) true (cond (x == y) k false) (lt-ltb x y l)))
compares x y r (inr (inr l)) k h =
    let left : nat_cmp y x ≡ Less = cond-true (nat_lt y x) _ _ (lt-ltb y x l) in
    ap (λ (o : Ordering). is_lt (ordering_then o r)) left ∙ sym (ap not (cond-false (nat_lt x y) true (cond (x == y) k false) (le-ltb x y (omega arith)) ∙ cond-false (x == y) k false (ne_eqb x y (λ e. omega (arith, e, l)))))

pub less_is : (o p : Octets) → is_lt (slice_cmp nat_cmp p o) ≡ not (octets_le o p)
less_is [] [] = refl
less_is [] (y ∷ p) = refl
less_is (x ∷ o) [] = refl
less_is (x ∷ o) (y ∷ p) = compares x y (slice_cmp nat_cmp p o) (cases_order x y) (octets_le o p) (less_is o p)
