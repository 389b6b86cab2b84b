-- The common part of two ranges, over any total order of their numbers.
use Rattle.std.proofs.Common.{◌≡◌, Bool, true, false, cond, ◌&&◌, Option, Some, None, refl, sym, ◌∙◌}
use Rattle.asn1_core.specs.declared.constraints.Bounded.{Bounded}
use Rattle.asn1_core.specs.Bounds.{start_of, end_of, is_from, is_to, allows_by, is_between, holds_number_by, later, earlier, common_by, narrowed_bounds_by, narrowed_part_by, is_consistent_part_by}

pub record IsOrder {T : Type 0} (le : T → T → Bool) : Type 0 where
  pub total : (a b : T) → le a b ≡ false → le b a ≡ true
  pub trans : (a b c : T) → le a b ≡ true → le b c ≡ true → le a c ≡ true

and-true : (x : Bool) → x ≡ (x && true)
and-true true = refl
and-true false = refl

-- the four tests of two pairs
and-swap : (s t u v : Bool) → ((s && t) && (u && v)) ≡ ((s && u) && (t && v))
and-swap true true u v = refl
and-swap true false true v = refl
and-swap true false false v = refl
and-swap false t u v = refl

pub and-first : (x y : Bool) → (x && y) ≡ true → x ≡ true
and-first true y e = refl
and-first false y e = cc

pub and-second : (x y : Bool) → (x && y) ≡ true → y ≡ true
and-second true y e = e
and-second false y e = cc

module _ {T : Type 0} (le : T → T → Bool) (o : IsOrder le) where
  later-pick : (a b n : T) (x y z : Bool) → le a b ≡ x → le a n ≡ y → le b n ≡ z → is_from le (cond x (Some b) (Some a)) n ≡ (y && z)
  later-pick a b n true true z p q r = r
  later-pick a b n true false true p q r = let e = o.trans a b n p r in cc
  later-pick a b n true false false p q r = r
  later-pick a b n false true true p q r = q
  later-pick a b n false true false p q r = let e = o.trans b a n (o.total a b p) q in cc
  later-pick a b n false false z p q r = q

  -- what is from the later start is from both
  pub later-from : (s t : Option T) (n : T) → is_from le (later le s t) n ≡ (is_from le s n && is_from le t n)
  later-from None t n = refl
  later-from (Some a) None n = and-true (le a n)
  later-from (Some a) (Some b) n = later-pick a b n (le a b) (le a n) (le b n) refl refl refl

  earlier-pick : (a b n : T) (x y z : Bool) → le a b ≡ x → le n a ≡ y → le n b ≡ z → is_to le (cond x (Some a) (Some b)) n ≡ (y && z)
  earlier-pick a b n true true true p q r = q
  earlier-pick a b n true true false p q r = let e = o.trans n a b q p in cc
  earlier-pick a b n true false z p q r = q
  earlier-pick a b n false true z p q r = r
  earlier-pick a b n false false true p q r = let e = o.trans n b a r (o.total a b p) in cc
  earlier-pick a b n false false false p q r = r

  pub earlier-to : (s t : Option T) (n : T) → is_to le (earlier le s t) n ≡ (is_to le s n && is_to le t n)
  earlier-to None t n = refl
  earlier-to (Some a) None n = and-true (le n a)
  earlier-to (Some a) (Some b) n = earlier-pick a b n (le a b) (le n a) (le n b) refl refl refl

  -- the common part allows what both allow
  pub common-allows : (a b : Bounded T) (n : T) → allows_by le (common_by le a b) n ≡ (allows_by le a n && allows_by le b n)
  common-allows a b n =
      (λ i. later-from (start_of a) (start_of b) n i && earlier-to (end_of a) (end_of b) n i)
      ∙ and-swap (is_from le (start_of a) n) (is_from le (start_of b) n) (is_to le (end_of a) n) (is_to le (end_of b) n)

  -- a range with a number in it holds one
  pub between : (s t : Option T) (n : T) → is_from le s n ≡ true → is_to le t n ≡ true → is_between le s t ≡ true
  between None t n p q = refl
  between (Some a) None n p q = refl
  between (Some a) (Some b) n p q = o.trans a n b p q

  pub allowed-holds : (b : Bounded T) (n : T) → allows_by le b n ≡ true → holds_number_by le b ≡ true
  allowed-holds b n e = between (start_of b) (end_of b) n (and-first _ _ e) (and-second _ _ e)

  le-refl : (a : T) (x : Bool) → le a a ≡ x → x ≡ true
  le-refl a true e = refl
  le-refl a false e = sym e ∙ o.total a a e

  -- and a range that holds a number has one in it
  abbrev number-in : T → Option T → Option T → T
  number-in m None None = m
  number-in m None (Some b) = b
  number-in m (Some a) t = a

  number-from : (m : T) (s t : Option T) → is_between le s t ≡ true → (is_from le s (number-in m s t) && is_to le t (number-in m s t)) ≡ true
  number-from m None None e = refl
  number-from m None (Some b) e = le-refl b (le b b) refl
  number-from m (Some a) None e = sym (and-true (le a a)) ∙ le-refl a (le a a) refl
  number-from m (Some a) (Some b) e = (λ i. le-refl a (le a a) refl i && le a b) ∙ e

  narrowed-pick : (a b : Bounded T) (x : Bool) → holds_number_by le (common_by le a b) ≡ x → holds_number_by le a ≡ true → holds_number_by le (cond x (common_by le a b) a) ≡ true
  narrowed-pick a b true e h = e
  narrowed-pick a b false e h = h

  pub narrowed-holds : (a b : Bounded T) → holds_number_by le a ≡ true → holds_number_by le (narrowed_bounds_by le a b) ≡ true
  narrowed-holds a b h = narrowed-pick a b (holds_number_by le (common_by le a b)) refl h

  -- where a number is allowed by both, the common part
  pub narrowed-common : (a b : Bounded T) (m : T) → allows_by le a m ≡ true → allows_by le b m ≡ true → narrowed_bounds_by le a b ≡ common_by le a b
  narrowed-common a b m p q =
      let e = allowed-holds (common_by le a b) m (common-allows a b m ∙ (λ i. p i && q i)) in
      λ i. cond (e i) (common_by le a b) a

  none-held : (m : T) (a b : Bounded T) (x : Bool) → holds_number_by le (common_by le a b) ≡ x → ((n : T) → (allows_by le a n && allows_by le b n) ≡ false) → x ≡ false
  none-held m a b true e h =
      let s = start_of (common_by le a b) in
      let t = end_of (common_by le a b) in
      sym (number-from m s t e) ∙ (common-allows a b (number-in m s t) ∙ h (number-in m s t))
  none-held m a b false e h = refl

  -- where none is, its own
  pub narrowed-own : (m : T) (a b : Bounded T) → ((n : T) → (allows_by le a n && allows_by le b n) ≡ false) → narrowed_bounds_by le a b ≡ a
  narrowed-own m a b h =
      let e = none-held m a b (holds_number_by le (common_by le a b)) refl h in
      λ i. cond (e i) (common_by le a b) a

  pub narrowed_part-consistent : (own other : Option (Bounded T × Bool)) → is_consistent_part_by le own ≡ true → is_consistent_part_by le other ≡ true → is_consistent_part_by le (narrowed_part_by le own other) ≡ true
  narrowed_part-consistent None other p q = q
  narrowed_part-consistent (Some own) None p q = p
  narrowed_part-consistent (Some (a, true)) (Some (b, true)) p q = narrowed-holds a b p
  narrowed_part-consistent (Some (a, true)) (Some (b, false)) p q = q
  narrowed_part-consistent (Some (a, false)) (Some (b, true)) p q = p
  narrowed_part-consistent (Some (a, false)) (Some (b, false)) p q = narrowed-holds a b p

  -- ---- a range narrowed by itself

  later-itself : (s : Option T) → later le s s ≡ s
  later-itself None = refl
  later-itself (Some a) = elim (le a a) as (λ t. cond t (Some a) (Some a) ≡ Some a) [ true ↦ refl | false ↦ refl ]

  earlier-itself : (s : Option T) → earlier le s s ≡ s
  earlier-itself None = refl
  earlier-itself (Some a) = elim (le a a) as (λ t. cond t (Some a) (Some a) ≡ Some a) [ true ↦ refl | false ↦ refl ]

  pub start_of-itself : (a : Bounded T) → start_of (narrowed_bounds_by le a a) ≡ start_of a
  start_of-itself a =
      elim (holds_number_by le (common_by le a a)) as (λ t. start_of (cond t (common_by le a a) a) ≡ start_of a) [ true ↦ later-itself (start_of a) | false ↦ refl ]

  pub end_of-itself : (a : Bounded T) → end_of (narrowed_bounds_by le a a) ≡ end_of a
  end_of-itself a =
      elim (holds_number_by le (common_by le a a)) as (λ t. end_of (cond t (common_by le a a) a) ≡ end_of a) [ true ↦ earlier-itself (end_of a) | false ↦ refl ]
