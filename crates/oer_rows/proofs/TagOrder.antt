-- A set is encoded as the sequence of its row, which ascends in tag order, wherever its rows stand in the text.
use Rattle.std.proofs.Common.{◌≡◌, ℕ, zero, suc, Bool, true, false, cond, not, ◌&&◌, ◌||◌, List, [], ◌∷◌, ◌++◌, map, ◌⊎◌, inl, inr, Result, Ok, Err, refl, sym, ap, ap₂, ◌∙◌, subst}
use Rattle.std.proofs.lemmas.Bool.{cond-true, cond-false}
use Rattle.std.specs.Result.{IfErr, OnOk}
use Rattle.asn1_core.proofs.TagFacts.{tag_le-total}
use Rattle.asn1_core.specs.Octets.{Octets, pack}
use Rattle.asn1_core.specs.Tags.{tag_le, put_by_tag, by_tag}
use Rattle.asn1_core.specs.declared.error.DecodeError.{DecodeError}
use Rattle.asn1_core.specs.declared.error.EncodeError.{EncodeError}
use Rattle.asn1_core.specs.declared.error.EncodeErrorKind.{EncodeErrorKind}
use Rattle.asn1_core.specs.declared.error.EncodeErrorKind.TheVariants.{OutOfMemory}
use Rattle.asn1_core.specs.declared.tag.Tag.{Tag}
use Rattle.oer_spec.specs.Encoding.{IsEncoding, row_tags, canonical_octets, canonical_items, canonical_item, fails, rows_fail, slot_fails, opens_fail, bitmap_fails}
use Rattle.oer_spec.specs.Failures.{Fails, SizeFails, RowsSizeFails, SlotSizeFails}
use Rattle.oer_spec.specs.Leaves.{Failure}
use Rattle.oer_spec.specs.Mode.{Mode, mode_of}
use Rattle.oer_spec.specs.Places.{Item, needed, put_by_tag as put_item, by_tag as items_by_tag, presence, bodies, extension_bit, any_bit, extension_octets}
use Rattle.oer_spec.specs.Tree.{Struct, Rows, NoRows, Required, Optional, Default, Slot, Absent, Present}
use Rattle.oer_write.specs.Written.{Written, Encodes, Refused}
use Rattle.oer_read.specs.Law.{Decodes, Fronts}
use Rattle.oer_read.specs.State.{State}
use Rattle.oer_read.proofs.SetOrder.{put_row, rows_by_tag, set_sorted, set_unsorted}
use Rattle.oer_rows.specs.Schema.{Schema, IsSchema, IsOf, tree_of}
use Rattle.oer_rows.specs.Sets.{is_below, are_in_order, both, is_not, IsInTagOrder, IsInSet, set_of, rows_in_order}
use Rattle.oer_rows.specs.TextOrder.{count_less, put_behind, by_place, Cell, RequiredCell, OptionalCell, DefaultCell, cell_tag, cells, rows_of, rows_by_place, rows_back, cell_tags, or_swap}

and_swap : (a b c : Bool) → (a && (b && c)) ≡ (b && (a && c))
and_swap true b c = refl
and_swap false true c = refl
and_swap false false c = refl

-- ---- lists in the order of tags
module _ {X : Type 0} (key : X → Tag) where
  -- what is below all stands first
  put_first : (x : X) (ys : List X) → is_below (key x) (map key ys) ≡ true → put_by_tag key x ys ≡ x ∷ ys
  put_first x [] e = refl
  put_first x (y ∷ ys) e =
      let (first, rest) = both (not (tag_le (key y) (key x))) (is_below (key x) (map key ys)) e in
      cond-true (tag_le (key x) (key y)) (x ∷ y ∷ ys) (y ∷ put_by_tag key x ys) (tag_le-total (key y) (key x) (is_not (tag_le (key y) (key x)) first))

  stays : (xs : List X) → are_in_order (map key xs) ≡ true → by_tag key xs ≡ xs
  stays [] e = refl
  stays (x ∷ xs) e = let (first, rest) = both (is_below (key x) (map key xs)) (are_in_order (map key xs)) e in ap (put_by_tag key x) (stays xs rest) ∙ put_first x xs first

  -- what is below a list, is below it in any order
  module _ (g : Tag) where
    abbrev below : List X → Bool
    below xs = is_below g (map key xs)

    below_behind : (n : ℕ) (x : X) (ys : List X) → below (put_behind n x ys) ≡ below (x ∷ ys)
    below_behind zero x ys = refl
    below_behind (suc n) x [] = refl
    below_behind (suc n) x (y ∷ ys) = ap (λ (b : Bool). not (tag_le (key y) g) && b) (below_behind n x ys) ∙ and_swap (not (tag_le (key y) g)) (not (tag_le (key x) g)) (below ys)

    below_by_place : (ns : List ℕ) (xs : List X) → below (by_place ns xs) ≡ below xs
    below_by_place [] xs = refl
    below_by_place (n ∷ ns) [] = refl
    below_by_place (n ∷ ns) (x ∷ xs) = below_behind (count_less n ns) x (by_place ns xs) ∙ ap (λ (b : Bool). not (tag_le (key x) g) && b) (below_by_place ns xs)

    below_cond : (b : Bool) (xs ys : List X) → below ys ≡ below xs → below (cond b xs ys) ≡ below xs
    below_cond true xs ys e = refl
    below_cond false xs ys e = e

    below_put : (x : X) (ys : List X) → below (put_by_tag key x ys) ≡ below (x ∷ ys)
    below_put x [] = refl
    below_put x (y ∷ ys) =
        below_cond (tag_le (key x) (key y)) (x ∷ y ∷ ys) (y ∷ put_by_tag key x ys)
        (ap (λ (b : Bool). not (tag_le (key y) g) && b) (below_put x ys) ∙ and_swap (not (tag_le (key y) g)) (not (tag_le (key x) g)) (below ys))

    below_sorted : (xs : List X) → below (by_tag key xs) ≡ below xs
    below_sorted [] = refl
    below_sorted (x ∷ xs) = below_put x (by_tag key xs) ∙ ap (λ (b : Bool). not (tag_le (key x) g) && b) (below_sorted xs)

  -- what is below all comes first, wherever it stood
  sorted_behind : (n : ℕ) (x : X) (ys : List X) → is_below (key x) (map key ys) ≡ true → by_tag key (put_behind n x ys) ≡ x ∷ by_tag key ys
  sorted_behind zero x ys e = put_first x (by_tag key ys) (below_sorted (key x) ys ∙ e)
  sorted_behind (suc n) x [] e = refl
  sorted_behind (suc n) x (y ∷ ys) e =
      let (first, rest) = both (not (tag_le (key y) (key x))) (is_below (key x) (map key ys)) e in
      ap (put_by_tag key y) (sorted_behind n x ys rest)
      ∙ cond-false (tag_le (key y) (key x)) (y ∷ x ∷ by_tag key ys) (x ∷ put_by_tag key y (by_tag key ys)) (is_not (tag_le (key y) (key x)) first)

  -- a list that ascends is found again, in whatever order it was put
  sorted_by_place : (ns : List ℕ) (xs : List X) → are_in_order (map key xs) ≡ true → by_tag key (by_place ns xs) ≡ xs
  sorted_by_place [] xs e = stays xs e
  sorted_by_place (n ∷ ns) [] e = refl
  sorted_by_place (n ∷ ns) (x ∷ xs) e =
      let (first, rest) = both (is_below (key x) (map key xs)) (are_in_order (map key xs)) e in
      sorted_behind (count_less n ns) x (by_place ns xs) (below_by_place (key x) ns xs ∙ first) ∙ ap (λ (l : List X). x ∷ l) (sorted_by_place ns xs rest)

-- the cells of rows that ascend
cells_sorted : (ns : List ℕ) (r : Rows) → are_in_order (row_tags r) ≡ true → by_tag cell_tag (by_place ns (cells r)) ≡ cells r
cells_sorted ns r e = sorted_by_place cell_tag ns (cells r) (ap are_in_order (cell_tags r) ∙ e)

-- ---- rows in the order of tags

from_cond : (b : Bool) (cs ds : List Cell) → cond b (rows_of cs) (rows_of ds) ≡ rows_of (cond b cs ds)
from_cond true cs ds = refl
from_cond false cs ds = refl

module _ (c : Cell) (cons : Rows → Rows) (e : (cs : List Cell) → cons (rows_of cs) ≡ rows_of (c ∷ cs)) where
  past_cell : (d : Cell) (other : Rows → Rows) (ds : List Cell) (r : Rows) → other (rows_of ds) ≡ rows_of (d ∷ ds) → other r ≡ rows_of (d ∷ put_by_tag cell_tag c ds)
      → cond (tag_le (cell_tag c) (cell_tag d)) (cons (other (rows_of ds))) (other r) ≡ rows_of (put_by_tag cell_tag c (d ∷ ds))
  past_cell d other ds r f h = ap₂ (cond (tag_le (cell_tag c) (cell_tag d))) (ap cons f ∙ e (d ∷ ds)) h ∙ from_cond (tag_le (cell_tag c) (cell_tag d)) (c ∷ d ∷ ds) (d ∷ put_by_tag cell_tag c ds)

  put_cells : (ds : List Cell) → put_row (cell_tag c) cons (rows_of ds) ≡ rows_of (put_by_tag cell_tag c ds)
  put_cells [] = e []
  put_cells (RequiredCell h t ∷ ds) = past_cell (RequiredCell h t) (λ q. Required h t q) ds (put_row (cell_tag c) cons (rows_of ds)) refl (ap (Required h t) (put_cells ds))
  put_cells (OptionalCell h s ∷ ds) = past_cell (OptionalCell h s) (λ q. Optional h s q) ds (put_row (cell_tag c) cons (rows_of ds)) refl (ap (Optional h s) (put_cells ds))
  put_cells (DefaultCell h u s ∷ ds) = past_cell (DefaultCell h u s) (λ q. Default h u s q) ds (put_row (cell_tag c) cons (rows_of ds)) refl (ap (Default h u s) (put_cells ds))

rows_sorted : (cs : List Cell) → rows_by_tag (rows_of cs) ≡ rows_of (by_tag cell_tag cs)
rows_sorted [] = refl
rows_sorted (RequiredCell g t ∷ cs) = ap (put_row g (λ q. Required g t q)) (rows_sorted cs) ∙ put_cells (RequiredCell g t) (λ q. Required g t q) (λ ds. refl) (by_tag cell_tag cs)
rows_sorted (OptionalCell g s ∷ cs) = ap (put_row g (λ q. Optional g s q)) (rows_sorted cs) ∙ put_cells (OptionalCell g s) (λ q. Optional g s q) (λ ds. refl) (by_tag cell_tag cs)
rows_sorted (DefaultCell g u s ∷ cs) = ap (put_row g (λ q. Default g u s q)) (rows_sorted cs) ∙ put_cells (DefaultCell g u s) (λ q. Default g u s q) (λ ds. refl) (by_tag cell_tag cs)

-- rows that ascend are found again, in whatever order they were put
pub rows_return : (ns : List ℕ) (r : Rows) → are_in_order (row_tags r) ≡ true → rows_by_tag (rows_by_place ns r) ≡ r
rows_return ns r e = rows_sorted (by_place ns (cells r)) ∙ ap rows_of (cells_sorted ns r e) ∙ rows_back r

-- ---- items in the order of tags

abbrev cell_item : Cell → Item
cell_item (RequiredCell g t) = needed g (canonical_octets t)
cell_item (OptionalCell g s) = canonical_item g s
cell_item (DefaultCell g u s) = canonical_item g s

item_tag : (g : Tag) (s : Slot) → (canonical_item g s).tag ≡ g
unfolding canonical_octets
item_tag g Absent = refl
item_tag g (Present t) = refl

cell_item_tag : (c : Cell) → (cell_item c).tag ≡ cell_tag c
cell_item_tag (RequiredCell g t) = refl
cell_item_tag (OptionalCell g s) = item_tag g s
cell_item_tag (DefaultCell g u s) = item_tag g s

items_of : (cs : List Cell) → canonical_items (rows_of cs) ≡ map cell_item cs
unfolding canonical_octets
items_of [] = refl
items_of (RequiredCell g t ∷ cs) = ap (λ (is : List Item). needed g (canonical_octets t) ∷ is) (items_of cs)
items_of (OptionalCell g s ∷ cs) = ap (λ (is : List Item). canonical_item g s ∷ is) (items_of cs)
items_of (DefaultCell g u s ∷ cs) = ap (λ (is : List Item). canonical_item g s ∷ is) (items_of cs)

items_cond : (b : Bool) (cs ds : List Cell) → cond b (map cell_item cs) (map cell_item ds) ≡ map cell_item (cond b cs ds)
items_cond true cs ds = refl
items_cond false cs ds = refl

put_items : (c : Cell) (ds : List Cell) → put_item (cell_item c) (map cell_item ds) ≡ map cell_item (put_by_tag cell_tag c ds)
put_items c [] = refl
put_items c (d ∷ ds) =
    ap₂ (λ (g h : Tag). cond (tag_le g h) (cell_item c ∷ cell_item d ∷ map cell_item ds) (cell_item d ∷ put_item (cell_item c) (map cell_item ds))) (cell_item_tag c) (cell_item_tag d)
    ∙ ap (λ (is : List Item). cond (tag_le (cell_tag c) (cell_tag d)) (cell_item c ∷ cell_item d ∷ map cell_item ds) (cell_item d ∷ is)) (put_items c ds)
    ∙ items_cond (tag_le (cell_tag c) (cell_tag d)) (c ∷ d ∷ ds) (d ∷ put_by_tag cell_tag c ds)

items_sorted : (cs : List Cell) → items_by_tag (map cell_item cs) ≡ map cell_item (by_tag cell_tag cs)
items_sorted [] = refl
items_sorted (c ∷ cs) = ap (put_item (cell_item c)) (items_sorted cs) ∙ put_items c (by_tag cell_tag cs)

items_return : (ns : List ℕ) (r : Rows) → are_in_order (row_tags r) ≡ true → items_by_tag (canonical_items (rows_by_place ns r)) ≡ canonical_items r
items_return ns r e =
    ap items_by_tag (items_of (by_place ns (cells r))) ∙ items_sorted (by_place ns (cells r)) ∙ ap (map cell_item) (cells_sorted ns r e)
    ∙ sym (items_of (cells r)) ∙ ap canonical_items (rows_back r)

-- ---- what fails, in any order

abbrev any_of : {X : Type 0} → (X → Bool) → List X → Bool
any_of test [] = false
any_of test (x ∷ xs) = test x || any_of test xs

module _ {X : Type 0} (test : X → Bool) where
  any_behind : (n : ℕ) (x : X) (ys : List X) → any_of test (put_behind n x ys) ≡ (test x || any_of test ys)
  any_behind zero x ys = refl
  any_behind (suc n) x [] = refl
  any_behind (suc n) x (y ∷ ys) = ap (λ (b : Bool). test y || b) (any_behind n x ys) ∙ or_swap (test y) (test x) (any_of test ys)

  any_by_place : (ns : List ℕ) (xs : List X) → any_of test (by_place ns xs) ≡ any_of test xs
  any_by_place [] xs = refl
  any_by_place (n ∷ ns) [] = refl
  any_by_place (n ∷ ns) (x ∷ xs) = any_behind (count_less n ns) x (by_place ns xs) ∙ ap (λ (b : Bool). test x || b) (any_by_place ns xs)

abbrev cell_fails : Failure → Cell → Bool
cell_fails k (RequiredCell g t) = fails t k
cell_fails k (OptionalCell g s) = slot_fails s k
cell_fails k (DefaultCell g u s) = slot_fails s k

fail_of : (cs : List Cell) (k : Failure) → rows_fail (rows_of cs) k ≡ any_of (cell_fails k) cs
unfolding fails
fail_of [] k = refl
fail_of (RequiredCell g t ∷ cs) k = ap (λ (b : Bool). fails t k || b) (fail_of cs k)
fail_of (OptionalCell g s ∷ cs) k = ap (λ (b : Bool). slot_fails s k || b) (fail_of cs k)
fail_of (DefaultCell g u s ∷ cs) k = ap (λ (b : Bool). slot_fails s k || b) (fail_of cs k)

fail_by_place : (ns : List ℕ) (r : Rows) (k : Failure) → rows_fail (rows_by_place ns r) k ≡ rows_fail r k
fail_by_place ns r k = fail_of (by_place ns (cells r)) k ∙ any_by_place (cell_fails k) ns (cells r) ∙ sym (fail_of (cells r) k) ∙ ap (λ (q : Rows). rows_fail q k) (rows_back r)

set_fails : (ns : List ℕ) (extensible : Bool) (r a : Rows) (k : Failure) → fails (Struct true extensible (rows_by_place ns r) a) k ≡ fails (Struct false extensible r a) k
unfolding fails
set_fails ns extensible r a k = ap (λ (b : Bool). b || (rows_fail a k || (opens_fail (canonical_items a) k || bitmap_fails (canonical_items a) k))) (fail_by_place ns r k)

-- P holds of one
abbrev OneOf : {X : Type 0} → (X → Type 0) → List X → Type 0
OneOf P [] = ⊥
OneOf P (x ∷ xs) = P x ⊎ OneOf P xs

module _ {X : Type 0} (P : X → Type 0) where
  one_behind : (n : ℕ) (x : X) (ys : List X) → P x ⊎ OneOf P ys → OneOf P (put_behind n x ys)
  one_behind zero x ys h = h
  one_behind (suc n) x [] h = h
  one_behind (suc n) x (y ∷ ys) (inl p) = inr (one_behind n x ys (inl p))
  one_behind (suc n) x (y ∷ ys) (inr (inl p)) = inl p
  one_behind (suc n) x (y ∷ ys) (inr (inr h)) = inr (one_behind n x ys (inr h))

  one_by_place : (ns : List ℕ) (xs : List X) → OneOf P xs → OneOf P (by_place ns xs)
  one_by_place [] xs h = h
  one_by_place (n ∷ ns) [] h = h
  one_by_place (n ∷ ns) (x ∷ xs) (inl p) = one_behind (count_less n ns) x (by_place ns xs) (inl p)
  one_by_place (n ∷ ns) (x ∷ xs) (inr h) = one_behind (count_less n ns) x (by_place ns xs) (inr (one_by_place ns xs h))

abbrev CellSizeFails : ℕ → Cell → Type 0
CellSizeFails n (RequiredCell g t) = SizeFails t n
CellSizeFails n (OptionalCell g s) = SlotSizeFails s n
CellSizeFails n (DefaultCell g u s) = SlotSizeFails s n

cells_size : (n : ℕ) (r : Rows) → RowsSizeFails r n → OneOf (CellSizeFails n) (cells r)
unfolding SizeFails
cells_size n NoRows h = h
cells_size n (Required g t r) (inl f) = inl f
cells_size n (Required g t r) (inr h) = inr (cells_size n r h)
cells_size n (Optional g s r) (inl f) = inl f
cells_size n (Optional g s r) (inr h) = inr (cells_size n r h)
cells_size n (Default g u s r) (inl f) = inl f
cells_size n (Default g u s r) (inr h) = inr (cells_size n r h)

rows_size : (n : ℕ) (cs : List Cell) → OneOf (CellSizeFails n) cs → RowsSizeFails (rows_of cs) n
unfolding SizeFails
rows_size n [] h = h
rows_size n (RequiredCell g t ∷ cs) (inl f) = inl f
rows_size n (RequiredCell g t ∷ cs) (inr h) = inr (rows_size n cs h)
rows_size n (OptionalCell g s ∷ cs) (inl f) = inl f
rows_size n (OptionalCell g s ∷ cs) (inr h) = inr (rows_size n cs h)
rows_size n (DefaultCell g u s ∷ cs) (inl f) = inl f
rows_size n (DefaultCell g u s ∷ cs) (inr h) = inr (rows_size n cs h)

set_size_fails : (ns : List ℕ) (extensible : Bool) (r a : Rows) (n : ℕ) → SizeFails (Struct false extensible r a) n → SizeFails (Struct true extensible (rows_by_place ns r) a) n
unfolding SizeFails
set_size_fails ns extensible r a n (inl h) = inl (rows_size n (by_place ns (cells r)) (one_by_place (CellSizeFails n) ns (cells r) (cells_size n r h)))
set_size_fails ns extensible r a n (inr h) = inr h

-- ---- the octets

pub set_octets_as_sequence : (ns : List ℕ) (extensible : Bool) (r a : Rows) → are_in_order (row_tags r) ≡ true → canonical_octets (Struct true extensible (rows_by_place ns r) a) ≡ canonical_octets (Struct false extensible r a)
unfolding canonical_octets
set_octets_as_sequence ns extensible r a e =
    ap (λ (is : List Item). pack (extension_bit extensible (any_bit (canonical_items a)) ++ presence is) ++ (bodies is ++ extension_octets (canonical_items a))) (items_return ns r e)

pub set_as_sequence : (m : Mode) (d : ℕ) (o : Octets) (ns : List ℕ) (extensible : Bool) (r a : Rows) → are_in_order (row_tags r) ≡ true → IsEncoding m d o (Struct true extensible (rows_by_place ns r) a) → IsEncoding m d o (Struct false extensible r a)
set_as_sequence m d o ns extensible r a e k = subst (λ (z : Rows). IsEncoding m d o (Struct false extensible z a)) (rows_return ns r e) (set_sorted m d o extensible (rows_by_place ns r) a k)

pub sequence_as_set : (m : Mode) (d : ℕ) (o : Octets) (ns : List ℕ) (extensible : Bool) (r a : Rows) → are_in_order (row_tags r) ≡ true → IsEncoding m d o (Struct false extensible r a) → IsEncoding m d o (Struct true extensible (rows_by_place ns r) a)
sequence_as_set m d o ns extensible r a e k = set_unsorted m d o extensible (rows_by_place ns r) a (subst (λ (z : Rows). IsEncoding m d o (Struct false extensible z a)) (sym (rows_return ns r e)) k)

-- ---- writing

encodes_set : (ns : List ℕ) (extensible : Bool) (r a : Rows) (e e' : Written) → are_in_order (row_tags r) ≡ true → Encodes (Struct false extensible r a) e e' → Encodes (Struct true extensible (rows_by_place ns r) a) e e'
encodes_set ns extensible r a e e' k d = record {
  encodable = λ f. set_fails ns extensible r a f ∙ d.encodable f;
  written = d.written ∙ ap (λ (o : Octets). record e { octets = e.octets ++ o }) (sym (set_octets_as_sequence ns extensible r a k));
}

fails_as_set : (ns : List ℕ) (extensible : Bool) (r a : Rows) (kind : EncodeErrorKind) → Fails (Struct false extensible r a) kind → Fails (Struct true extensible (rows_by_place ns r) a) kind
fails_as_set ns extensible r a kind (k, same, broken, sizes) = (k, same, set_fails ns extensible r a k ∙ broken, (λ n e. set_size_fails ns extensible r a n (sizes n e)))

reason_as_set : (ns : List ℕ) (extensible : Bool) (r a : Rows) (kind : EncodeErrorKind) → (kind ≡ OutOfMemory) ⊎ Fails (Struct false extensible r a) kind → (kind ≡ OutOfMemory) ⊎ Fails (Struct true extensible (rows_by_place ns r) a) kind
reason_as_set ns extensible r a kind (inl e) = inl e
reason_as_set ns extensible r a kind (inr f) = inr (fails_as_set ns extensible r a kind f)

refused_set : (ns : List ℕ) (extensible : Bool) (r a : Rows) (x : EncodeError) (e e' : Written) → Refused (Struct false extensible r a) x e e' → Refused (Struct true extensible (rows_by_place ns r) a) x e e'
refused_set ns extensible r a x e e' d = record { reason = reason_as_set ns extensible r a x.kind d.reason; mode = d.mode; keeps = d.keeps }

module _ {R A : Type 0} (places : List ℕ) (s : Schema R) (extensible : Bool) (k : IsSchema s extensible) (v : R) (e e' : Written) where
  pub set_done : (r : Result A EncodeError) → OnOk r (Encodes (tree_of s extensible v) e e') → OnOk r (IsInSet s v) → OnOk r (Encodes (set_of places s extensible v) e e')
  set_done (Ok u) d i = encodes_set places extensible (s.roots.rows v) (s.additions.rows v) e e' (rows_in_order s extensible k v i) d
  set_done (Err x) d i = tt

  pub set_not_done : (r : Result A EncodeError) → IfErr r (λ x. Refused (tree_of s extensible v) x e e') → IfErr r (λ x. Refused (set_of places s extensible v) x e e')
  set_not_done (Ok u) d = tt
  set_not_done (Err x) d = refused_set places extensible (s.roots.rows v) (s.additions.rows v) x e e' d

-- an admitted value's components, of a set too
pub set_value : {R A E : Type 0} (s : Schema R) (v : R) (r : Result A E) → IsInTagOrder s → OnOk r (IsOf s v) → OnOk r (IsInSet s v)
set_value s v (Ok u) o i = record { in_order = o; is_of = i }
set_value s v (Err x) o i = tt

-- ---- reading: `of` gives a value's components, and `to` the sequence of a set's components

module _ {R A B : Type 0} (places : List ℕ) (s : Schema R) (extensible : Bool) (k : IsSchema s extensible) (of : A → R) (to : B → A) where
  in_sequence : (t : State) (p : Octets) (w : B) → IsInSet s (of (to w)) → Fronts t p (set_of places s extensible (of (to w))) → Fronts t p (tree_of s extensible (of (to w)))
  in_sequence t p w i f = record {
    rest = f.rest;
    split = f.split;
    encoding = set_as_sequence (mode_of t.codec) t.levels p places extensible (s.roots.rows (of (to w))) (s.additions.rows (of (to w))) (rows_in_order s extensible k (of (to w)) i) f.encoding;
  }

  pub set_read : (old new : State) (v : A) (made : B) → IsInTagOrder s → to made ≡ v → Decodes (λ a. tree_of s extensible (of a)) (λ a. IsOf s (of a)) old (Ok v) new → Decodes (λ b. set_of places s extensible (of (to b))) (λ b. IsInSet s (of (to b))) old (Ok made) new
  set_read old new v made o e d =
      let there : Decodes (λ a. tree_of s extensible (of a)) (λ a. IsOf s (of a)) old (Ok (to made)) new = subst (λ (z : A). Decodes (λ a. tree_of s extensible (of a)) (λ a. IsOf s (of a)) old (Ok z) new) (sym e) d in
      let p = there.read in
      let r : R = of (to made) in
      let i : IsInSet s r = record { in_order = o; is_of = p.value } in
      record {
        read = record {
          taken = p.taken;
          split = p.split;
          encoding = sequence_as_set (mode_of old.codec) old.levels p.taken places extensible (s.roots.rows r) (s.additions.rows r) (rows_in_order s extensible k r i) p.encoding;
          value = i;
          only = λ w q j f. p.only (to w) q j.is_of (in_sequence old q w j f);
          rest = p.rest;
        };
        refused = tt;
      }

  pub set_refused : (old new : State) (e : DecodeError) → Decodes (λ a. tree_of s extensible (of a)) (λ a. IsOf s (of a)) old (Err e) new → Decodes (λ b. set_of places s extensible (of (to b))) (λ b. IsInSet s (of (to b))) old (Err e) new
  set_refused old new e d = record { read = tt; refused = record { same = d.refused.same; mode = d.refused.mode; none = λ m w q j f. d.refused.none m (to w) q j.is_of (in_sequence old q w j f) } }
