-- The root components of a set in the order of its text, by those of its row, which stand in the order of their tags.
use Rattle.std.specs.Prelude.{◌≡◌, ℕ, zero, suc, Bool, true, false, cond, nat_lt, ◌||◌, List, [], ◌∷◌, length, map, ⊤, refl}
use Rattle.std.specs.List.{AllByRecursion}
use Rattle.std.proofs.Common.{ap, sym, ◌∙◌, arith}
use Rattle.std.proofs.lemmas.Bool.Decides.{nat_tests}
use Rattle.asn1_core.specs.Rows.{Row, AreCountedFrom, tags}
use Rattle.asn1_core.specs.Tags.{same_tag, holds, AreDistinct}
use Rattle.asn1_core.specs.declared.tag.Tag.{Tag}
use Rattle.oer_spec.specs.Encoding.{IsTree, AreRows, AreSlot, row_tags}
use Rattle.oer_spec.specs.Same.{SameSlot, Alike, AlikeRows, AlikeSlot, OnSlot}
use Rattle.oer_spec.specs.Tree.{Tree, Rows, NoRows, Required, Optional, Default, Slot, Present}

-- ---- a list in the order of numbers

-- how many of the numbers are less
abbrev pub count_less : ℕ → List ℕ → ℕ
count_less n [] = 0
count_less n (m ∷ ms) = cond (nat_lt m n) (suc (count_less n ms)) (count_less n ms)

-- behind so many of the list, or behind all
abbrev pub put_behind : {X : Type 0} → ℕ → X → List X → List X
put_behind zero x xs = x ∷ xs
put_behind (suc n) x [] = x ∷ []
put_behind (suc n) x (y ∷ ys) = y ∷ put_behind n x ys

-- Each element's place is the number that stands where it does: it goes behind those of the later ones whose numbers are
-- less. Elements without a number stay as they are, so that no number leaves the whole list.
abbrev pub by_place : {X : Type 0} → List ℕ → List X → List X
by_place [] xs = xs
by_place (n ∷ ns) [] = []
by_place (n ∷ ns) (x ∷ xs) = put_behind (count_less n ns) x (by_place ns xs)

-- ---- tables and rows of trees in that order

-- the rows of a table, counted from n
abbrev pub counted_from : ℕ → List Row → List Row
counted_from n [] = []
counted_from n (r ∷ rs) = record { index = n; tag = r.tag; presence = r.presence } ∷ counted_from (suc n) rs

abbrev pub table_by_place : List ℕ → List Row → List Row
table_by_place ns rs = counted_from 0 (by_place ns rs)

-- one row of a tree
pub data Cell : Type 0 where
  RequiredCell : Tag → Tree → Cell
  OptionalCell : Tag → Slot → Cell
  DefaultCell : Tag → Tree → Slot → Cell

abbrev pub cell_tag : Cell → Tag
cell_tag (RequiredCell g t) = g
cell_tag (OptionalCell g s) = g
cell_tag (DefaultCell g u s) = g

abbrev pub cells : Rows → List Cell
cells NoRows = []
cells (Required g t r) = RequiredCell g t ∷ cells r
cells (Optional g s r) = OptionalCell g s ∷ cells r
cells (Default g u s r) = DefaultCell g u s ∷ cells r

abbrev pub rows_of : List Cell → Rows
rows_of [] = NoRows
rows_of (RequiredCell g t ∷ cs) = Required g t (rows_of cs)
rows_of (OptionalCell g s ∷ cs) = Optional g s (rows_of cs)
rows_of (DefaultCell g u s ∷ cs) = Default g u s (rows_of cs)

abbrev pub rows_by_place : List ℕ → Rows → Rows
rows_by_place ns r = rows_of (by_place ns (cells r))

-- ---- lists: what holds in one order holds in the other
module _ {X Y : Type 0} (f : X → Y) where
  map_behind : (n : ℕ) (x : X) (xs : List X) → map f (put_behind n x xs) ≡ put_behind n (f x) (map f xs)
  map_behind zero x xs = refl
  map_behind (suc n) x [] = refl
  map_behind (suc n) x (y ∷ ys) = ap (λ (l : List Y). f y ∷ l) (map_behind n x ys)

  pub map_by_place : (ns : List ℕ) (xs : List X) → map f (by_place ns xs) ≡ by_place ns (map f xs)
  map_by_place [] xs = refl
  map_by_place (n ∷ ns) [] = refl
  map_by_place (n ∷ ns) (x ∷ xs) = map_behind (count_less n ns) x (by_place ns xs) ∙ ap (put_behind (count_less n ns) (f x)) (map_by_place ns xs)

module _ {X : Type 0} where
  length_behind : (n : ℕ) (x : X) (xs : List X) → length (put_behind n x xs) ≡ suc (length xs)
  length_behind zero x xs = refl
  length_behind (suc n) x [] = refl
  length_behind (suc n) x (y ∷ ys) = ap (λ (k : ℕ). suc k) (length_behind n x ys)

  pub length_by_place : (ns : List ℕ) (xs : List X) → length (by_place ns xs) ≡ length xs
  length_by_place [] xs = refl
  length_by_place (n ∷ ns) [] = refl
  length_by_place (n ∷ ns) (x ∷ xs) = length_behind (count_less n ns) x (by_place ns xs) ∙ ap (λ (k : ℕ). suc k) (length_by_place ns xs)

module _ {X : Type 0} (P : X → Type 0) where
  all_behind : (n : ℕ) (x : X) (xs : List X) → P x → AllByRecursion P xs → AllByRecursion P (put_behind n x xs)
  all_behind zero x xs p h = (p, h)
  all_behind (suc n) x [] p h = (p, tt)
  all_behind (suc n) x (y ∷ ys) p h = (h.0, all_behind n x ys p h.1)

  pub all_by_place : (ns : List ℕ) (xs : List X) → AllByRecursion P xs → AllByRecursion P (by_place ns xs)
  all_by_place [] xs h = h
  all_by_place (n ∷ ns) [] h = tt
  all_by_place (n ∷ ns) (x ∷ xs) h = all_behind (count_less n ns) x (by_place ns xs) h.0 (all_by_place ns xs h.1)

-- R holds of each two that stand at one place, and both lists are as long
abbrev Pairs : {X : Type 0} → (X → X → Type 0) → List X → List X → Type 0
Pairs R [] [] = ⊤
Pairs R (x ∷ xs) (y ∷ ys) = R x y × Pairs R xs ys
Pairs R _ _ = ⊥

module _ {X : Type 0} (R : X → X → Type 0) where
  pairs_behind : (n : ℕ) (x y : X) (xs ys : List X) → R x y → Pairs R xs ys → Pairs R (put_behind n x xs) (put_behind n y ys)
  pairs_behind zero x y xs ys r h = (r, h)
  pairs_behind (suc n) x y [] [] r h = (r, tt)
  pairs_behind (suc n) x y (v ∷ xs) (w ∷ ys) r h = (h.0, pairs_behind n x y xs ys r h.1)
  pairs_behind (suc n) x y [] (w ∷ ys) r h = absurd h
  pairs_behind (suc n) x y (v ∷ xs) [] r h = absurd h

  pairs_by_place : (ns : List ℕ) (xs ys : List X) → Pairs R xs ys → Pairs R (by_place ns xs) (by_place ns ys)
  pairs_by_place [] xs ys h = h
  pairs_by_place (n ∷ ns) [] [] h = tt
  pairs_by_place (n ∷ ns) (x ∷ xs) (y ∷ ys) h = pairs_behind (count_less n ns) x y (by_place ns xs) (by_place ns ys) h.0 (pairs_by_place ns xs ys h.1)
  pairs_by_place (n ∷ ns) [] (y ∷ ys) h = absurd h
  pairs_by_place (n ∷ ns) (x ∷ xs) [] h = absurd h

-- ---- distinct tags

pub or_swap : (a b c : Bool) → (a || (b || c)) ≡ (b || (a || c))
or_swap true true c = refl
or_swap true false c = refl
or_swap false b c = refl

same_back : (a b : Tag) → same_tag a b ≡ false → same_tag b a ≡ false
same_back a b e = grind (arith, nat_tests)

pub neither : (a b : Bool) → a ≡ false → b ≡ false → (a || b) ≡ false
neither true b e f = absurd (cc e)
neither false b e f = f

not_either : (a b : Bool) → (a || b) ≡ false → (a ≡ false) × (b ≡ false)
not_either true b e = absurd (cc e)
not_either false b e = (refl, e)

held_behind : (n : ℕ) (g : Tag) (hs : List Tag) (k : Tag) → holds (put_behind n g hs) k ≡ (same_tag g k || holds hs k)
held_behind zero g hs k = refl
held_behind (suc n) g [] k = refl
held_behind (suc n) g (h ∷ hs) k = ap (λ (b : Bool). same_tag h k || b) (held_behind n g hs k) ∙ or_swap (same_tag h k) (same_tag g k) (holds hs k)

held_by_place : (ns : List ℕ) (gs : List Tag) (k : Tag) → holds (by_place ns gs) k ≡ holds gs k
held_by_place [] gs k = refl
held_by_place (n ∷ ns) [] k = refl
held_by_place (n ∷ ns) (g ∷ gs) k = held_behind (count_less n ns) g (by_place ns gs) k ∙ ap (λ (b : Bool). same_tag g k || b) (held_by_place ns gs k)

distinct_behind : (n : ℕ) (g : Tag) (hs : List Tag) → holds hs g ≡ false → AreDistinct hs → AreDistinct (put_behind n g hs)
distinct_behind zero g hs e d = (e, d)
distinct_behind (suc n) g [] e d = (refl, tt)
distinct_behind (suc n) g (h ∷ hs) e d =
    let (own, others) = not_either (same_tag h g) (holds hs g) e in
    (held_behind n g hs h ∙ neither (same_tag g h) (holds hs h) (same_back h g own) d.0, distinct_behind n g hs others d.1)

pub distinct_by_place : (ns : List ℕ) (gs : List Tag) → AreDistinct gs → AreDistinct (by_place ns gs)
distinct_by_place [] gs d = d
distinct_by_place (n ∷ ns) [] d = tt
distinct_by_place (n ∷ ns) (g ∷ gs) d = distinct_behind (count_less n ns) g (by_place ns gs) (held_by_place ns gs g ∙ d.0) (distinct_by_place ns gs d.1)

-- ---- tables

counted_length : (n : ℕ) (rs : List Row) → length (counted_from n rs) ≡ length rs
counted_length n [] = refl
counted_length n (r ∷ rs) = ap (λ (k : ℕ). suc k) (counted_length (suc n) rs)

pub counted_counts : (n : ℕ) (rs : List Row) → AreCountedFrom n (counted_from n rs)
counted_counts n [] = tt
counted_counts n (r ∷ rs) = (refl, counted_counts (suc n) rs)

counted_tags : (n : ℕ) (rs : List Row) → tags (counted_from n rs) ≡ tags rs
counted_tags n [] = refl
counted_tags n (r ∷ rs) = ap (λ (gs : List Tag). r.tag ∷ gs) (counted_tags (suc n) rs)

pub table_length : (ns : List ℕ) (rs : List Row) → length (table_by_place ns rs) ≡ length rs
table_length ns rs = counted_length 0 (by_place ns rs) ∙ length_by_place ns rs

pub table_tags : (ns : List ℕ) (rs : List Row) → tags (table_by_place ns rs) ≡ by_place ns (tags rs)
table_tags ns rs = counted_tags 0 (by_place ns rs) ∙ map_by_place (λ r. r.tag) ns rs

-- ---- rows of trees

pub rows_back : (r : Rows) → rows_of (cells r) ≡ r
rows_back NoRows = refl
rows_back (Required g t r) = ap (Required g t) (rows_back r)
rows_back (Optional g s r) = ap (Optional g s) (rows_back r)
rows_back (Default g u s r) = ap (Default g u s) (rows_back r)

tags_of : (cs : List Cell) → row_tags (rows_of cs) ≡ map cell_tag cs
tags_of [] = refl
tags_of (RequiredCell g t ∷ cs) = ap (λ (gs : List Tag). g ∷ gs) (tags_of cs)
tags_of (OptionalCell g s ∷ cs) = ap (λ (gs : List Tag). g ∷ gs) (tags_of cs)
tags_of (DefaultCell g u s ∷ cs) = ap (λ (gs : List Tag). g ∷ gs) (tags_of cs)

pub cell_tags : (r : Rows) → map cell_tag (cells r) ≡ row_tags r
cell_tags r = sym (tags_of (cells r)) ∙ ap row_tags (rows_back r)

pub tags_by_place : (ns : List ℕ) (r : Rows) → row_tags (rows_by_place ns r) ≡ by_place ns (row_tags r)
tags_by_place ns r = tags_of (by_place ns (cells r)) ∙ map_by_place cell_tag ns (cells r) ∙ ap (by_place ns) (cell_tags r)

-- what a row of a tree keeps
abbrev IsCell : Cell → Type 0
IsCell (RequiredCell g t) = IsTree t
IsCell (OptionalCell g s) = AreSlot s
IsCell (DefaultCell g u s) = IsTree u × AreSlot s × (SameSlot s (Present u) → ⊥)

cells_are : (r : Rows) → AreRows r → AllByRecursion IsCell (cells r)
unfolding IsTree
cells_are NoRows h = tt
cells_are (Required g t r) h = (h.0, cells_are r h.1)
cells_are (Optional g s r) h = (h.0, cells_are r h.1)
cells_are (Default g u s r) h = ((h.0, h.1, h.2), cells_are r h.3)

rows_are : (cs : List Cell) → AllByRecursion IsCell cs → AreRows (rows_of cs)
unfolding IsTree
rows_are [] h = tt
rows_are (RequiredCell g t ∷ cs) h = (h.0, rows_are cs h.1)
rows_are (OptionalCell g s ∷ cs) h = (h.0, rows_are cs h.1)
rows_are (DefaultCell g u s ∷ cs) h = (h.0.0, h.0.1, h.0.2, rows_are cs h.1)

pub are_by_place : (ns : List ℕ) (r : Rows) → AreRows r → AreRows (rows_by_place ns r)
are_by_place ns r h = rows_are (by_place ns (cells r)) (all_by_place IsCell ns (cells r) (cells_are r h))

-- two rows that could be of one type
abbrev AlikeCell : Cell → Cell → Type 0
AlikeCell (RequiredCell g t) (RequiredCell g' t') = (g ≡ g') × Alike t t'
AlikeCell (OptionalCell g s) (OptionalCell g' s') = (g ≡ g') × AlikeSlot s s'
AlikeCell (DefaultCell g u s) (DefaultCell g' u' s') = (g ≡ g') × (u ≡ u') × Alike u u × OnSlot (λ t'. Alike u t') s' × AlikeSlot s (Present u) × AlikeSlot s s'
AlikeCell _ _ = ⊥

cells_alike : (r q : Rows) → AlikeRows r q → Pairs AlikeCell (cells r) (cells q)
unfolding Alike
cells_alike NoRows NoRows h = tt
cells_alike (Required g t r) (Required g' t' q) h = ((h.0, h.1), cells_alike r q h.2)
cells_alike (Optional g s r) (Optional g' s' q) h = ((h.0, h.1), cells_alike r q h.2)
cells_alike (Default g u s r) (Default g' u' s' q) h = ((h.0, h.1, h.2, h.3, h.4, h.5), cells_alike r q h.6)
cells_alike _ _ h = absurd h

rows_alike : (cs ds : List Cell) → Pairs AlikeCell cs ds → AlikeRows (rows_of cs) (rows_of ds)
unfolding Alike
rows_alike [] [] h = tt
rows_alike [] (d ∷ ds) h = absurd h
rows_alike (c ∷ cs) [] h = absurd h
rows_alike (RequiredCell g t ∷ cs) (RequiredCell g' t' ∷ ds) h = (h.0.0, h.0.1, rows_alike cs ds h.1)
rows_alike (OptionalCell g s ∷ cs) (OptionalCell g' s' ∷ ds) h = (h.0.0, h.0.1, rows_alike cs ds h.1)
rows_alike (DefaultCell g u s ∷ cs) (DefaultCell g' u' s' ∷ ds) h = (h.0.0, h.0.1, h.0.2, h.0.3, h.0.4, h.0.5, rows_alike cs ds h.1)
rows_alike (c ∷ cs) (d ∷ ds) h = absurd h.0

pub alike_by_place : (ns : List ℕ) (r q : Rows) → AlikeRows r q → AlikeRows (rows_by_place ns r) (rows_by_place ns q)
alike_by_place ns r q h = rows_alike (by_place ns (cells r)) (by_place ns (cells q)) (pairs_by_place AlikeCell ns (cells r) (cells q) (cells_alike r q h))
