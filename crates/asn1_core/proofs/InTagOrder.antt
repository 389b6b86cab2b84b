-- The first row of the lowest tag, among those that are left, is the first of them in tag order.
use Rattle.std.proofs.Common.{◌≡◌, ℕ, suc, ◌<◌, ◌≤◌, Bool, true, false, cond, not, ◌&&◌, ◌⊎◌, inl, inr, List, [], ◌∷◌, Option, Some, None, refl, sym, ap, ◌∙◌, arith}
use Rattle.std.specs.List.{AllByRecursion}
use Rattle.asn1_core.specs.declared.tag.Tag.{Tag}
use Rattle.asn1_core.specs.declared.fields.Field.{Field}
use Rattle.asn1_core.specs.Tags.{tag_le, put_by_tag, by_tag}
use Rattle.asn1_core.specs.NextRow.{is_after, is_lower, first_after, left_after}
use Rattle.asn1_core.proofs.TagFacts.{is_after-front, is_after-back, is_after-front_first, is_after-back_first, is_after-itself, tag_le-above, tag_le-between, not-false, not-true}

-- before the first call each row is left
pub left_after-none : (n : ℕ) (rows : List Field) → left_after None n rows ≡ rows
left_after-none n [] = refl
left_after-none n (row ∷ rows) = ap (λ xs. row ∷ xs) (left_after-none (suc n) rows)

-- ---- a row of no higher tag than the others goes first

-- none has a lower tag than m
abbrev pub AreFrom : Field → List Field → Type 0
AreFrom m rows = AllByRecursion (λ r. tag_le m.tag r.tag ≡ true) rows

pub put-from : (m x : Field) (ys : List Field) → tag_le m.tag x.tag ≡ true → AreFrom m ys → AreFrom m (put_by_tag (λ f. f.tag) x ys)
put-from m x [] p q = (p, tt)
put-from m x (y ∷ ys) p q =
    elim (tag_le x.tag y.tag) as (λ s. AreFrom m (cond s (x ∷ y ∷ ys) (y ∷ put_by_tag (λ f. f.tag) x ys))) [ true ↦ (p, q) | false ↦ (q.0, put-from m x ys p q.1) ]

by_tag-from : (m : Field) (xs : List Field) → AreFrom m xs → AreFrom m (by_tag (λ f. f.tag) xs)
by_tag-from m [] h = tt
by_tag-from m (x ∷ xs) h = put-from m x (by_tag (λ f. f.tag) xs) h.0 (by_tag-from m xs h.1)

put-first : (m : Field) (ys : List Field) → AreFrom m ys → put_by_tag (λ f. f.tag) m ys ≡ m ∷ ys
put-first m [] h = refl
put-first m (y ∷ ys) h = λ i. cond (h.0 i) (m ∷ y ∷ ys) (y ∷ put_by_tag (λ f. f.tag) m ys)

-- ---- the row that is found: m at place k

-- the rows that are left have no lower tag
abbrev FromAll : Option (Tag × ℕ) → Field → ℕ → List Field → Type 0
FromAll last m n [] = Unit {0}
FromAll last m n (r ∷ rs) = (is_after last r.tag n ≡ true → tag_le m.tag r.tag ≡ true) × FromAll last m (suc n) rs

-- those in front of m that are left have a higher tag, and those behind it no lower one
abbrev IsFirst : Option (Tag × ℕ) → ℕ → Field → ℕ → List Field → Type 0
IsFirst last k m n [] = ⊥
IsFirst last k m n (r ∷ rs) =
    ((n ≡ k) × (r ≡ m) × (is_after last m.tag k ≡ true) × FromAll last m (suc n) rs)
    ⊎ ((is_after last r.tag n ≡ true → tag_le r.tag m.tag ≡ false) × IsFirst last k m (suc n) rs)

first-le : (last : Option (Tag × ℕ)) (k : ℕ) (m : Field) (n : ℕ) (rows : List Field) → IsFirst last k m n rows → n ≤ k
first-le last k m n [] h = absurd h
first-le last k m n (r ∷ rs) h = elim h [ inl h ↦ omega (arith, h.0) | inr h ↦ omega (arith, first-le last k m (suc n) rs h.1) ]

is-after : (last : Option (Tag × ℕ)) (k : ℕ) (m : Field) (n : ℕ) (rows : List Field) → IsFirst last k m n rows → is_after last m.tag k ≡ true
is-after last k m n [] h = absurd h
is-after last k m n (r ∷ rs) h = elim h [ inl h ↦ h.2 | inr h ↦ is-after last k m (suc n) rs h.1 ]

-- ---- what is left behind m stays left

after-back : (last : Option (Tag × ℕ)) (m : Field) (k : ℕ) (t : Tag) (j : ℕ) → is_after last m.tag k ≡ true → k < j → (is_after last t j ≡ true → tag_le m.tag t ≡ true) → is_after (Some (m.tag, k)) t j ≡ is_after last t j
after-back None m k t j after lt from = is_after-back_first m.tag k t j lt (from refl)
after-back (Some (last, place)) m k t j after lt from = is_after-back last place m.tag k t j after lt from

after-front : (last : Option (Tag × ℕ)) (m : Field) (k : ℕ) (t : Tag) (j : ℕ) → is_after last m.tag k ≡ true → j < k → (is_after last t j ≡ true → tag_le t m.tag ≡ false) → is_after (Some (m.tag, k)) t j ≡ is_after last t j
after-front None m k t j after lt above = is_after-front_first m.tag k t j (above refl)
after-front (Some (last, place)) m k t j after lt above = is_after-front last place m.tag k t j after lt above

left-back : (last : Option (Tag × ℕ)) (m : Field) (k n : ℕ) (rows : List Field) → is_after last m.tag k ≡ true → k < n → FromAll last m n rows → left_after (Some (m.tag, k)) n rows ≡ left_after last n rows
left-back last m k n [] after lt h = refl
left-back last m k n (r ∷ rs) after lt h =
    let e = after-back last m k r.tag n after lt h.0 in
    let f = left-back last m k (suc n) rs after (omega arith) h.1 in
    λ i. cond (e i) (r ∷ f i) (f i)

left-from : (last : Option (Tag × ℕ)) (m : Field) (n : ℕ) (rows : List Field) → FromAll last m n rows → AreFrom m (left_after last n rows)
left-from last m n [] h = tt
left-from last m n (r ∷ rs) h =
    let rest = left-from last m (suc n) rs h.1 in
    let P : Bool → Type 0 = λ s. AreFrom m (cond s (r ∷ left_after last (suc n) rs) (left_after last (suc n) rs)) in
    let pick : (s : Bool) → is_after last r.tag n ≡ s → P s = elim [ true ↦ λ e. (h.0 e, rest) | false ↦ λ e. rest ] in
    pick (is_after last r.tag n) refl

-- ---- so m is the first in tag order, and the others are what is left behind it

pick-front : (last : Option (Tag × ℕ)) (k : ℕ) (m : Field) (n : ℕ) (r : Field) (rs : List Field) (b : Bool) → is_after last r.tag n ≡ b → is_after (Some (m.tag, k)) r.tag n ≡ is_after last r.tag n → (is_after last r.tag n ≡ true → tag_le r.tag m.tag ≡ false) → by_tag (λ f. f.tag) (left_after last (suc n) rs) ≡ m ∷ by_tag (λ f. f.tag) (left_after (Some (m.tag, k)) (suc n) rs) → by_tag (λ f. f.tag) (left_after last n (r ∷ rs)) ≡ m ∷ by_tag (λ f. f.tag) (left_after (Some (m.tag, k)) n (r ∷ rs))
pick-front last k m n r rs true e same above more =
    let left = left_after last (suc n) rs in
    let others = left_after (Some (m.tag, k)) (suc n) rs in
    let here = sym (same ∙ e) in
    (λ i. by_tag (λ f. f.tag) (cond (e i) (r ∷ left) left))
    ∙ (λ i. put_by_tag (λ f. f.tag) r (more i))
    ∙ (λ i. cond (above e i) (r ∷ m ∷ by_tag (λ f. f.tag) others) (m ∷ put_by_tag (λ f. f.tag) r (by_tag (λ f. f.tag) others)))
    ∙ (λ i. m ∷ by_tag (λ f. f.tag) (cond (here i) (r ∷ others) others))
pick-front last k m n r rs false e same above more =
    let left = left_after last (suc n) rs in
    let others = left_after (Some (m.tag, k)) (suc n) rs in
    let gone = sym (same ∙ e) in
    (λ i. by_tag (λ f. f.tag) (cond (e i) (r ∷ left) left)) ∙ more ∙ (λ i. m ∷ by_tag (λ f. f.tag) (cond (gone i) (r ∷ others) others))

in-order : (last : Option (Tag × ℕ)) (k : ℕ) (m : Field) (n : ℕ) (rows : List Field) → IsFirst last k m n rows → by_tag (λ f. f.tag) (left_after last n rows) ≡ m ∷ by_tag (λ f. f.tag) (left_after (Some (m.tag, k)) n rows)
in-order last k m n [] h = absurd h
in-order last k m n (r ∷ rs) h =
    elim h [
      | inl h ↦
          let here : is_after last r.tag n ≡ true = (λ i. is_after last (h.1 i).tag (h.0 i)) ∙ h.2 in
          let gone : is_after (Some (m.tag, k)) r.tag n ≡ false = (λ i. is_after (Some (m.tag, k)) (h.1 i).tag (h.0 i)) ∙ is_after-itself m.tag k in
          let back = left-back last m k (suc n) rs h.2 (omega (arith, h.0)) h.3 in
          let left = left_after last (suc n) rs in
          (λ i. by_tag (λ f. f.tag) (cond (here i) (h.1 i ∷ left) left))
          ∙ put-first m (by_tag (λ f. f.tag) left) (by_tag-from m left (left-from last m (suc n) rs h.3))
          ∙ (λ i. m ∷ by_tag (λ f. f.tag) (cond (sym gone i) (r ∷ sym back i) (sym back i)))
      | inr h ↦
          let le = first-le last k m (suc n) rs h.1 in
          let same = after-front last m k r.tag n (is-after last k m (suc n) rs h.1) (omega arith) h.0 in
          let more = in-order last k m (suc n) rs h.1 in
          pick-front last k m n r rs (is_after last r.tag n) refl same h.0 more
    ]

-- ---- the search for it

not-is-false : (b : Bool) → not b ≡ false → b ≡ true
not-is-false true h = refl
not-is-false false h = cc

none-after : (last : Option (Tag × ℕ)) (n : ℕ) (rows : List Field) (x : ℕ × Field) → first_after last n rows (Some x) ≡ None → ⊥
none-after last n [] x h = cc
none-after last n (r ∷ rs) x h =
    elim (is_lower r.tag (Some x) && is_after last r.tag n) as (λ s. first_after last (suc n) rs (cond s (Some (n, r)) (Some x)) ≡ None → ⊥) [ true ↦ none-after last (suc n) rs (n, r) | false ↦ none-after last (suc n) rs x ] h

-- nothing is found where nothing is left
pub none-left : (last : Option (Tag × ℕ)) (n : ℕ) (rows : List Field) → first_after last n rows None ≡ None → left_after last n rows ≡ []
none-left last n [] h = refl
none-left last n (r ∷ rs) h =
    elim (is_after last r.tag n) as (λ s. first_after last (suc n) rs (cond s (Some (n, r)) None) ≡ None → cond s (r ∷ left_after last (suc n) rs) (left_after last (suc n) rs) ≡ []) [ true ↦ λ e. absurd (none-after last (suc n) rs (n, r) e) | false ↦ none-left last (suc n) rs ] h

-- the row found is the one before it, or a lower one
abbrev Found : Option (Tag × ℕ) → ℕ → List Field → Option (ℕ × Field) → ℕ → Field → Type 0
Found last n rows found k m =
    ((found ≡ Some (k, m)) × FromAll last m n rows) ⊎ ((is_lower m.tag found ≡ true) × IsFirst last k m n rows)

lower-than : (t f : Tag) (found : Option (ℕ × Field)) → tag_le f t ≡ false → is_lower f found ≡ true → is_lower t found ≡ true
lower-than t f None p q = refl
lower-than t f (Some (place, lowest)) p q = not-true (tag_le-above lowest.tag f t (not-false q) p)

not-lower : (t m : Tag) (found : Option (ℕ × Field)) → is_lower t found ≡ false → is_lower m found ≡ true → tag_le t m ≡ false
not-lower t m None p q = cc
not-lower t m (Some (place, lowest)) p q = tag_le-between lowest.tag t m p (not-false q)

from-found : (t : Tag) (found : Option (ℕ × Field)) (k : ℕ) (m : Field) → is_lower t found ≡ false → found ≡ Some (k, m) → tag_le m.tag t ≡ true
from-found t found k m p e = not-is-false (tag_le m.tag t) (sym (λ i. is_lower t (e i)) ∙ p)

pick-found : (last : Option (Tag × ℕ)) (n : ℕ) (r : Field) (rs : List Field) (found : Option (ℕ × Field)) (k : ℕ) (m : Field) (a b : Bool) → is_lower r.tag found ≡ a → is_after last r.tag n ≡ b → Found last (suc n) rs (cond (a && b) (Some (n, r)) found) k m → Found last n (r ∷ rs) found k m
pick-found last n r rs found k m true true p q h =
    elim h [
      | inl h ↦
          let pair : ◌≡◌ {A = ℕ × Field} (n, r) (k, m) = cc in
          let place : n ≡ k = λ i. (pair i).0 in
          let row : r ≡ m = λ i. (pair i).1 in
          inr ((λ i. is_lower (sym row i).tag found) ∙ p, inl (place, row, (λ i. is_after last (sym row i).tag (sym place i)) ∙ q, h.1))
      | inr h ↦
          let above = not-false h.0 in
          inr (lower-than m.tag r.tag found above p, inr (λ _. above, h.1))
    ]
pick-found last n r rs found k m true false p q h =
    elim h [
      | inl h ↦ inl (h.0, (λ e. cc, h.1))
      | inr h ↦ inr (h.0, inr (λ e. cc, h.1))
    ]
pick-found last n r rs found k m false b p q h =
    elim h [
      | inl h ↦ inl (h.0, (λ e. from-found r.tag found k m p h.0, h.1))
      | inr h ↦ inr (h.0, inr (λ e. not-lower r.tag m.tag found p h.0, h.1))
    ]

found-is : (last : Option (Tag × ℕ)) (n : ℕ) (rows : List Field) (found : Option (ℕ × Field)) (k : ℕ) (m : Field) → first_after last n rows found ≡ Some (k, m) → Found last n rows found k m
found-is last n [] found k m h = inl (h, tt)
found-is last n (r ∷ rs) found k m h =
    pick-found last n r rs found k m (is_lower r.tag found) (is_after last r.tag n) refl refl
    (found-is last (suc n) rs (cond (is_lower r.tag found && is_after last r.tag n) (Some (n, r)) found) k m h)

-- what is found is the first in tag order of what is left
pub first-found : (last : Option (Tag × ℕ)) (rows : List Field) (k : ℕ) (m : Field) → first_after last 0 rows None ≡ Some (k, m) → by_tag (λ f. f.tag) (left_after last 0 rows) ≡ m ∷ by_tag (λ f. f.tag) (left_after (Some (m.tag, k)) 0 rows)
first-found last rows k m h = elim (found-is last 0 rows None k m h) [ inl h ↦ cc | inr h ↦ in-order last k m 0 rows h.1 ]
