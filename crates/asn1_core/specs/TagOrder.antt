-- The order of tags (X.680, 8.6): by class, then by number.
use Rattle.std.specs.Prelude.{◌≡◌, Bool, true, false, nat_le, Option, Some, List, [], ◌∷◌, filter, ⊤}
use Rattle.std.specs.declared.cmp.Ordering.{Ordering}
use Rattle.std.specs.Ordering.{is_le, is_eq}
use Rattle.asn1_core.specs.declared.tag.Class.{Class}
use Rattle.asn1_core.specs.declared.tag.Tag.{Tag}
use Rattle.std.specs.List.{AllByRecursion}
use Rattle.asn1_core.specs.declared.fields.Field.{Field}
use Rattle.asn1_core.specs.Tags.{class_number, tag_le, same_tag, by_tag}

pub record IsTagOrder (class_cmp : Class → Class → Ordering) (cmp : Tag → Tag → Ordering) (partial_cmp : Tag → Tag → Option Ordering) (eq : Tag → Tag → Bool) : Type 0 where
  -- what the code's comparisons answer
  pub classes : (c d : Class) → is_le (class_cmp c d) ≡ nat_le (class_number c) (class_number d)
  pub tags : (a b : Tag) → is_le (cmp a b) ≡ tag_le a b
  pub partial : (a b : Tag) → partial_cmp a b ≡ Some (cmp a b)
  pub equal : (a b : Tag) → eq a b ≡ same_tag a b
  pub ties : (a b : Tag) → is_eq (cmp a b) ≡ same_tag a b
  -- the order is total, and agrees with equality
  pub same : (a b : Tag) → same_tag a b ≡ true → a ≡ b
  pub total : (a b : Tag) → tag_le a b ≡ false → tag_le b a ≡ true
  pub trans : (a b c : Tag) → tag_le a b ≡ true → tag_le b c ≡ true → tag_le a c ≡ true
  pub antisymm : (a b : Tag) → tag_le a b ≡ true → tag_le b a ≡ true → a ≡ b

-- each tag is at most those behind it
abbrev pub AreInTagOrder : List Field → Type 0
AreInTagOrder [] = ⊤
AreInTagOrder (f ∷ fs) = AllByRecursion (λ g. tag_le f.tag g.tag ≡ true) fs × AreInTagOrder fs

-- the rows in tag order, those of each tag as they stood
pub record IsSortedByTag (fields : List Field) : Type 0 where
  pub order : AreInTagOrder (by_tag (λ f. f.tag) fields)
  pub kept : (t : Tag) → filter (λ f. same_tag f.tag t) (by_tag (λ f. f.tag) fields) ≡ filter (λ f. same_tag f.tag t) fields
