-- Sets: their root components stand in their row in the order of their tags, in the tree and the table in that of the text.
use Rattle.std.specs.Prelude.{◌≡◌, ℕ, Bool, true, false, not, ◌&&◌, List, [], ◌∷◌, length, refl}
use Rattle.std.proofs.Common.{ap, ap₂, sym, subst, ◌∙◌, arith}
use Rattle.std.proofs.lemmas.Bool.Decides.{nat_tests}
use Rattle.asn1_core.specs.Rows.{Row, AreTables, tags}
use Rattle.asn1_core.specs.Tags.{tag_le, same_tag, holds, AreDistinct}
use Rattle.asn1_core.specs.declared.tag.Tag.{Tag}
use Rattle.oer_spec.specs.Encoding.{IsTree, row_tags}
use Rattle.oer_spec.specs.Same.{Alike}
use Rattle.oer_spec.specs.Tree.{Tree, Rows, NoRows, Required, Optional, Default, Struct}
use Rattle.oer_read.specs.Parts.{Parts, NoParts, RequiredPart, OptionalPart, DefaultPart, AreOf, IsTableOf}
use Rattle.oer_rows.specs.Schema.{Schema, IsSchema, IsOf}
use Rattle.oer_rows.specs.TextOrder.{by_place, table_by_place, rows_by_place, neither, distinct_by_place, counted_counts, table_length, table_tags, tags_by_place, are_by_place, alike_by_place}

-- a tag is less than each of these
abbrev pub is_below : Tag → List Tag → Bool
is_below g [] = true
is_below g (h ∷ hs) = not (tag_le h g) && is_below g hs

-- Each tag is less than all behind it (X.680, 8.6).
abbrev pub are_in_order : List Tag → Bool
are_in_order [] = true
are_in_order (g ∷ gs) = is_below g gs && are_in_order gs

-- ---- what order gives

pub both : (a b : Bool) → (a && b) ≡ true → (a ≡ true) × (b ≡ true)
both true b e = (refl, e)
both false b e = absurd (cc e)

pub is_not : (a : Bool) → not a ≡ true → a ≡ false
is_not true e = absurd (cc e)
is_not false e = refl

not_same : (g h : Tag) → tag_le h g ≡ false → same_tag h g ≡ false
not_same g h e = grind (arith, nat_tests)

not_held : (g : Tag) (hs : List Tag) → is_below g hs ≡ true → holds hs g ≡ false
not_held g [] e = refl
not_held g (h ∷ hs) e =
    let (first, rest) = both (not (tag_le h g)) (is_below g hs) e in
    neither (same_tag h g) (holds hs g) (not_same g h (is_not (tag_le h g) first)) (not_held g hs rest)

pub in_order_distinct : (gs : List Tag) → are_in_order gs ≡ true → AreDistinct gs
in_order_distinct [] e = tt
in_order_distinct (g ∷ gs) e = let (first, rest) = both (is_below g gs) (are_in_order gs) e in (not_held g gs first, in_order_distinct gs rest)

-- a value's rows have the tags of the table
tags_are : (rs : List Row) (ps : Parts) (r : Rows) → IsTableOf rs ps → AreOf ps r → row_tags r ≡ tags rs
tags_are [] NoParts NoRows k l = refl
tags_are [] NoParts (Required h t r) k l = absurd l
tags_are [] NoParts (Optional h s r) k l = absurd l
tags_are [] NoParts (Default h u s r) k l = absurd l
tags_are [] (RequiredPart g P ps) r k l = absurd k
tags_are [] (OptionalPart g P ps) r k l = absurd k
tags_are [] (DefaultPart g u P ps) r k l = absurd k
tags_are (q ∷ rs) NoParts r k l = absurd k
tags_are (q ∷ rs) (RequiredPart g P ps) NoRows k l = absurd l
tags_are (q ∷ rs) (RequiredPart g P ps) (Required h t r) k l = ap₂ ◌∷◌ (l.0 ∙ sym k.0) (tags_are rs ps r k.2 l.2)
tags_are (q ∷ rs) (RequiredPart g P ps) (Optional h s r) k l = absurd l
tags_are (q ∷ rs) (RequiredPart g P ps) (Default h u s r) k l = absurd l
tags_are (q ∷ rs) (OptionalPart g P ps) NoRows k l = absurd l
tags_are (q ∷ rs) (OptionalPart g P ps) (Required h t r) k l = absurd l
tags_are (q ∷ rs) (OptionalPart g P ps) (Optional h s r) k l = ap₂ ◌∷◌ (l.0 ∙ sym k.0) (tags_are rs ps r k.2 l.2)
tags_are (q ∷ rs) (OptionalPart g P ps) (Default h u s r) k l = absurd l
tags_are (q ∷ rs) (DefaultPart g u P ps) NoRows k l = absurd l
tags_are (q ∷ rs) (DefaultPart g u P ps) (Required h t r) k l = absurd l
tags_are (q ∷ rs) (DefaultPart g u P ps) (Optional h s r) k l = absurd l
tags_are (q ∷ rs) (DefaultPart g u P ps) (Default h v s r) k l = ap₂ ◌∷◌ (l.0 ∙ sym k.0) (tags_are rs ps r k.2 l.4)

-- ---- what a set type has by its schema

-- the schema's root components stand in the order of their tags
abbrev pub IsInTagOrder : {A : Type 0} → Schema A → Type 0
IsInTagOrder s = are_in_order (tags (s.roots.fields 0)) ≡ true

-- a set's tree: its root components by their places in the text
abbrev pub set_of : {A : Type 0} → List ℕ → Schema A → Bool → A → Tree
set_of places s extensible v = Struct true extensible (rows_by_place places (s.roots.rows v)) (s.additions.rows v)

-- the rows of its table, as the tree has them
abbrev pub set_fields : {A : Type 0} → List ℕ → Schema A → List Row
set_fields places s = table_by_place places (s.roots.fields 0)

-- a set's admitted values; the order is a part of what is said of them, since a tree's facts can't cite a law of the type
pub record IsInSet {A : Type 0} (s : Schema A) (v : A) : Type 0 where
  pub in_order : IsInTagOrder s
  pub is_of : IsOf s v

-- their rows are in that order too
pub rows_in_order : {A : Type 0} (s : Schema A) (extensible : Bool) → IsSchema s extensible → (v : A) → IsInSet s v → are_in_order (row_tags (s.roots.rows v)) ≡ true
rows_in_order s extensible k v i = ap are_in_order (tags_are (s.roots.fields 0) s.roots.parts (s.roots.rows v) (k.roots.is_table 0) (k.roots.made v i.is_of.0)) ∙ i.in_order

module _ {A : Type 0} (places : List ℕ) (s : Schema A) (extensible : Bool) (k : IsSchema s extensible) where
  tree_distinct : (v : A) → IsInSet s v → AreDistinct (row_tags (rows_by_place places (s.roots.rows v)))
  tree_distinct v i =
      subst AreDistinct (sym (tags_by_place places (s.roots.rows v)))
      (distinct_by_place places (row_tags (s.roots.rows v)) (in_order_distinct (row_tags (s.roots.rows v)) (rows_in_order s extensible k v i)))

  table_distinct : IsInTagOrder s → AreDistinct (tags (set_fields places s))
  table_distinct o =
      subst AreDistinct (sym (table_tags places (s.roots.fields 0)))
      (distinct_by_place places (tags (s.roots.fields 0)) (in_order_distinct (tags (s.roots.fields 0)) o))

  pub set_is : (v : A) → IsInSet s v → IsTree (set_of places s extensible v)
  unfolding Rattle.oer_spec.specs.Encoding.IsTree
  set_is v i = (are_by_place places (s.roots.rows v) (k.roots.are v i.is_of.0), k.additions.are v i.is_of.1, (λ e. k.no_additions e v), (λ e. tree_distinct v i))

  pub set_like : (v w : A) → IsInSet s v → IsInSet s w → Alike (set_of places s extensible v) (set_of places s extensible w)
  unfolding Rattle.oer_spec.specs.Same.Alike
  set_like v w i j = (refl, refl, alike_by_place places (s.roots.rows v) (s.roots.rows w) (k.roots.like v w i.is_of.0 j.is_of.0), k.additions.like v w i.is_of.1 j.is_of.1)

  -- its two tables, by how many rows each has
  pub set_tables : IsInTagOrder s → (roots additions : ℕ) → length (s.roots.fields 0) ≡ roots → length (s.additions.fields 0) ≡ additions
      → AreTables true extensible roots additions (set_fields places s) (s.additions.fields 0)
  set_tables o roots additions e f = record {
    root_count = table_length places (s.roots.fields 0) ∙ e;
    addition_count = f;
    root_indexes = counted_counts 0 (by_place places (s.roots.fields 0));
    addition_indexes = k.additions.counted 0;
    only = k.no_fields;
    distinct = λ e. table_distinct o;
  }
