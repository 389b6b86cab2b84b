-- Sorting by tag: the order, what it keeps, and that a list of rows without their names is sorted alike.
use Rattle.std.proofs.Common.{◌≡◌, Bool, true, false, cond, List, [], ◌∷◌, map, refl, ◌∙◌, ap, filter}
use Rattle.asn1_core.specs.declared.tag.Tag.{Tag}
use Rattle.asn1_core.specs.declared.fields.Field.{Field}
use Rattle.asn1_core.specs.Rows.{row, may_be_absent, optional_rows}
use Rattle.asn1_core.specs.Tables.{optional_fields}
use Rattle.asn1_core.specs.Tags.{tag_le, same_tag, put_by_tag, by_tag}
use Rattle.asn1_core.specs.TagOrder.{AreInTagOrder}
use Rattle.asn1_core.proofs.TagFacts.{tag_le-total, tag_le-trans, same_tag-le}
use Rattle.asn1_core.proofs.InTagOrder.{AreFrom, put-from}

from-lower : (x y : Field) (ys : List Field) → tag_le x.tag y.tag ≡ true → AreFrom y ys → AreFrom x ys
from-lower x y [] p h = tt
from-lower x y (z ∷ zs) p h = (tag_le-trans x.tag y.tag z.tag p h.0, from-lower x y zs p h.1)

put-order : (x : Field) (ys : List Field) → AreInTagOrder ys → AreInTagOrder (put_by_tag (λ f. f.tag) x ys)
put-order x [] h = (tt, tt)
put-order x (y ∷ ys) h =
    let P : Bool → Type 0 = λ s. AreInTagOrder (cond s (x ∷ y ∷ ys) (y ∷ put_by_tag (λ f. f.tag) x ys)) in
    let pick : (s : Bool) → tag_le x.tag y.tag ≡ s → P s = elim [
      | true ↦ λ e. ((e, from-lower x y ys e h.0), h)
      | false ↦ λ e. (put-from y x ys (tag_le-total x.tag y.tag e) h.0, put-order x ys h.1)
    ] in
    pick (tag_le x.tag y.tag) refl

pub by_tag-order : (fields : List Field) → AreInTagOrder (by_tag (λ f. f.tag) fields)
by_tag-order [] = tt
by_tag-order (f ∷ fs) = put-order f (by_tag (λ f. f.tag) fs) (by_tag-order fs)

skipped : (t : Tag) (x y : Field) (xs ys : List Field) (p q : Bool) → same_tag x.tag t ≡ p → same_tag y.tag t ≡ q → tag_le x.tag y.tag ≡ false → cond q (y ∷ cond p (x ∷ ys) ys) (cond p (x ∷ ys) ys) ≡ cond p (x ∷ cond q (y ∷ ys) ys) (cond q (y ∷ ys) ys)
skipped t x y xs ys true true e f h = let k = same_tag-le x.tag y.tag t e f in cc
skipped t x y xs ys true false e f h = refl
skipped t x y xs ys false q e f h = refl

put-kept : (t : Tag) (x : Field) (ys : List Field) → filter (λ f. same_tag f.tag t) (put_by_tag (λ f. f.tag) x ys) ≡ cond (same_tag x.tag t) (x ∷ filter (λ f. same_tag f.tag t) ys) (filter (λ f. same_tag f.tag t) ys)
put-kept t x [] = refl
put-kept t x (y ∷ ys) =
    let kept = filter (λ f. same_tag f.tag t) ys in
    let P : Bool → Type 0 = λ s. filter (λ f. same_tag f.tag t) (cond s (x ∷ y ∷ ys) (y ∷ put_by_tag (λ f. f.tag) x ys)) ≡ cond (same_tag x.tag t) (x ∷ filter (λ f. same_tag f.tag t) (y ∷ ys)) (filter (λ f. same_tag f.tag t) (y ∷ ys)) in
    let pick : (s : Bool) → tag_le x.tag y.tag ≡ s → P s = elim [
      | true ↦ λ e. refl
      | false ↦ λ e. (λ i. cond (same_tag y.tag t) (y ∷ put-kept t x ys i) (put-kept t x ys i)) ∙ skipped t x y ys kept (same_tag x.tag t) (same_tag y.tag t) refl refl e
    ] in
    pick (tag_le x.tag y.tag) refl

pub by_tag-kept : (t : Tag) (fields : List Field) → filter (λ f. same_tag f.tag t) (by_tag (λ f. f.tag) fields) ≡ filter (λ f. same_tag f.tag t) fields
by_tag-kept t [] = refl
by_tag-kept t (f ∷ fs) =
    put-kept t f (by_tag (λ f. f.tag) fs)
    ∙ (λ i. cond (same_tag f.tag t) (f ∷ by_tag-kept t fs i) (by_tag-kept t fs i))

-- ---- rows without names

map-pick : (x y : Field) (ys zs : List Field) (s : Bool) → map row (cond s (x ∷ y ∷ ys) (y ∷ zs)) ≡ cond s (row x ∷ row y ∷ map row ys) (row y ∷ map row zs)
map-pick x y ys zs true = refl
map-pick x y ys zs false = refl

map-put : (x : Field) (ys : List Field) → map row (put_by_tag (λ f. f.tag) x ys) ≡ put_by_tag (λ r. r.tag) (row x) (map row ys)
map-put x [] = refl
map-put x (y ∷ ys) =
    map-pick x y ys (put_by_tag (λ f. f.tag) x ys) (tag_le x.tag y.tag)
    ∙ (λ i. cond (tag_le x.tag y.tag) (row x ∷ row y ∷ map row ys) (row y ∷ map-put x ys i))

pub map-by_tag : (fields : List Field) → map row (by_tag (λ f. f.tag) fields) ≡ by_tag (λ r. r.tag) (map row fields)
map-by_tag [] = refl
map-by_tag (f ∷ fs) = map-put f (by_tag (λ f. f.tag) fs) ∙ ap (put_by_tag (λ r. r.tag) (row f)) (map-by_tag fs)

map-cond : (f : Field) (fs : List Field) (s : Bool) → map row (cond s (f ∷ fs) fs) ≡ cond s (row f ∷ map row fs) (map row fs)
map-cond f fs true = refl
map-cond f fs false = refl

pub map-optional_fields : (fields : List Field) → map row (optional_fields fields) ≡ optional_rows (map row fields)
map-optional_fields [] = refl
map-optional_fields (f ∷ fs) =
    map-cond f (optional_fields fs) (may_be_absent f.presence)
    ∙ (λ i. cond (may_be_absent f.presence) (row f ∷ map-optional_fields fs i) (map-optional_fields fs i))
