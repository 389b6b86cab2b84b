-- A set's encoding is that of the sequence whose root rows are in tag order.
use Rattle.std.proofs.Common.{◌≡◌, ℕ, suc, ◌-◌, ◌++◌, Bool, true, false, cond, List, [], ◌∷◌, inl, inr, refl, sym, ap, ap₂, ◌∙◌, subst}
use Rattle.std.specs.List.{AllByRecursion}
use Rattle.asn1_core.specs.Octets.{Octets}
use Rattle.asn1_core.specs.Rows.{Row, may_be_absent}
use Rattle.asn1_core.specs.Tags.{tag_le, put_by_tag, by_tag}
use Rattle.asn1_core.specs.declared.fields.FieldPresence.{FieldPresence}
use Rattle.asn1_core.specs.declared.fields.FieldPresence.TheVariants as presence
use Rattle.asn1_core.specs.declared.tag.Tag.{Tag}
use Rattle.oer_spec.specs.Encoding.{IsEncoding, AreItems, IsItem}
use Rattle.oer_spec.specs.Mode.{Mode}
use Rattle.oer_spec.specs.Places.{Item, needed, bodies, extension_bit, IsPreamble, presence as presence_bits, put_by_tag as put_item, by_tag as items_by_tag}
use Rattle.oer_spec.specs.Tree.{Tree, Struct, Rows, NoRows, Required, Optional, Default, Slot, Absent, Present}
use Rattle.oer_read.specs.Parts.{Parts, AreOf, IsTableOf}
use Rattle.oer_read.specs.SetRows.{row_at, rows_from, part_at, parts_of, FitsAt, Fits}
use Rattle.oer_read.specs.State.{marked_count}
use Rattle.oer_read.proofs.Marked.{IsDefaultItem}

-- ---- rows in tag order

-- in front of the first whose tag is not less
abbrev pub put_row : Tag → (Rows → Rows) → Rows → Rows
put_row g cons NoRows = cons NoRows
put_row g cons (Required h t r) = cond (tag_le g h) (cons (Required h t r)) (Required h t (put_row g cons r))
put_row g cons (Optional h s r) = cond (tag_le g h) (cons (Optional h s r)) (Optional h s (put_row g cons r))
put_row g cons (Default h u s r) = cond (tag_le g h) (cons (Default h u s r)) (Default h u s (put_row g cons r))

abbrev pub rows_by_tag : Rows → Rows
rows_by_tag NoRows = NoRows
rows_by_tag (Required g t r) = put_row g (λ q. Required g t q) (rows_by_tag r)
rows_by_tag (Optional g s r) = put_row g (λ q. Optional g s q) (rows_by_tag r)
rows_by_tag (Default g u s r) = put_row g (λ q. Default g u s q) (rows_by_tag r)

-- ---- their items

-- the rows begin with one that gives an item of which P holds
record Begins (m : Mode) (d : ℕ) (g : Tag) (cons : Rows → Rows) (P : Item → Type 0) : Type 0 where
  pub first : (r : Rows) (is : List Item) → AreItems m d is (cons r) → (i : Item) × (js : List Item) × (is ≡ i ∷ js) × P i × AreItems m d js r
  pub again : (r : Rows) (i : Item) (is : List Item) → P i → AreItems m d is r → AreItems m d (i ∷ is) (cons r)
  pub tag : (i : Item) → P i → i.tag ≡ g

abbrev IsRequired : Mode → ℕ → Tag → Tree → Item → Type 0
IsRequired m d g t i = (i ≡ needed g i.octets) × IsEncoding m d i.octets t

required_begins : (m : Mode) (d : ℕ) (g : Tag) (t : Tree) → Begins m d g (λ q. Required g t q) (IsRequired m d g t)
unfolding IsEncoding
required_begins m d g t = record { first = first; again = λ r i is p h. (p.0, p.1, h); tag = λ i p. ap (λ (z : Item). z.tag) p.0 }
  where
    first : (r : Rows) (is : List Item) → AreItems m d is (Required g t r) → (i : Item) × (js : List Item) × (is ≡ i ∷ js) × IsRequired m d g t i × AreItems m d js r
    first r [] h = absurd h
    first r (i ∷ is) (e, f, h) = (i, is, refl, (e, f), h)

item_tag : (m : Mode) (d : ℕ) (g : Tag) (s : Slot) (i : Item) → IsItem m d g i s → i.tag ≡ g
unfolding IsEncoding
item_tag m d g Absent i p = ap (λ (z : Item). z.tag) p
item_tag m d g (Present t) i p = ap (λ (z : Item). z.tag) p.0

default_tag : (m : Mode) (d : ℕ) (g : Tag) (u : Tree) (s : Slot) (i : Item) → IsDefaultItem m d g u i s → i.tag ≡ g
default_tag m d g u s i (inl p) = item_tag m d g s i p
default_tag m d g u s i (inr p) = ap (λ (z : Item). z.tag) p.2

optional_begins : (m : Mode) (d : ℕ) (g : Tag) (s : Slot) → Begins m d g (λ q. Optional g s q) (λ i. IsItem m d g i s)
unfolding IsEncoding
optional_begins m d g s = record { first = first; again = λ r i is p h. (p, h); tag = item_tag m d g s }
  where
    first : (r : Rows) (is : List Item) → AreItems m d is (Optional g s r) → (i : Item) × (js : List Item) × (is ≡ i ∷ js) × IsItem m d g i s × AreItems m d js r
    first r [] h = absurd h
    first r (i ∷ is) (p, h) = (i, is, refl, p, h)

default_begins : (m : Mode) (d : ℕ) (g : Tag) (u : Tree) (s : Slot) → Begins m d g (λ q. Default g u s q) (λ i. IsDefaultItem m d g u i s)
unfolding IsEncoding
default_begins m d g u s = record { first = first; again = λ r i is p h. (p, h); tag = default_tag m d g u s }
  where
    first : (r : Rows) (is : List Item) → AreItems m d is (Default g u s r) → (i : Item) × (js : List Item) × (is ≡ i ∷ js) × IsDefaultItem m d g u i s × AreItems m d js r
    first r [] h = absurd h
    first r (i ∷ is) (p, h) = (i, is, refl, p, h)

no_items : (m : Mode) (d : ℕ) (is : List Item) → AreItems m d is NoRows → is ≡ []
unfolding IsEncoding
no_items m d is h = h

none_items : (m : Mode) (d : ℕ) → AreItems m d [] NoRows
unfolding IsEncoding
none_items m d = refl

pick : (m : Mode) (d : ℕ) (is js : List Item) (r q : Rows) (x y : Bool) → x ≡ y → AreItems m d is r → AreItems m d js q → AreItems m d (cond x is js) (cond y r q)
pick m d is js r q true true e h k = h
pick m d is js r q false false e h k = k
pick m d is js r q true false e h k = absurd (cc e)
pick m d is js r q false true e h k = absurd (cc e)

-- what an item is put in front of, or behind
put_low : (i j : Item) (js : List Item) → tag_le i.tag j.tag ≡ true → put_item i (j ∷ js) ≡ i ∷ j ∷ js
put_low i j js e = ap (λ (x : Bool). cond x (i ∷ j ∷ js) (j ∷ put_item i js)) e

put_high : (i j : Item) (js : List Item) → tag_le i.tag j.tag ≡ false → put_item i (j ∷ js) ≡ j ∷ put_item i js
put_high i j js e = ap (λ (x : Bool). cond x (i ∷ j ∷ js) (j ∷ put_item i js)) e

pub record Unput (m : Mode) (d : ℕ) (P : Item → Type 0) (ks : List Item) (r : Rows) : Type 0 where
  pub item : Item
  pub items : List Item
  pub holds : P item
  pub are : AreItems m d items r
  pub same : put_item item items ≡ ks

module _ (m : Mode) (d : ℕ) (g : Tag) (cons : Rows → Rows) (P : Item → Type 0) (b : Begins m d g cons P) where
  -- one more item, at another row
  put_past : (h : Tag) (other : Rows → Rows) (Q : Item → Type 0) → Begins m d h other Q → (i : Item) (is : List Item) (r : Rows) → P i → AreItems m d is (other r)
      → ((js : List Item) → AreItems m d js r → AreItems m d (put_item i js) (put_row g cons r)) → AreItems m d (put_item i is) (cond (tag_le g h) (cons (other r)) (other (put_row g cons r)))
  put_past h other Q c i is r p k ih =
      let (j, js, e, q, rest) = c.first r is k in
      subst (λ (l : List Item). AreItems m d (put_item i l) (cond (tag_le g h) (cons (other r)) (other (put_row g cons r)))) (sym e)
      (pick m d (i ∷ j ∷ js) (j ∷ put_item i js) (cons (other r)) (other (put_row g cons r)) (tag_le i.tag j.tag) (tag_le g h) (ap₂ tag_le (b.tag i p) (c.tag j q)) (b.again (other r) i (j ∷ js) p (c.again r j js q rest)) (c.again (put_row g cons r) j (put_item i js) q (ih js rest)))

  sorted_put : (i : Item) → P i → (is : List Item) (r : Rows) → AreItems m d is r → AreItems m d (put_item i is) (put_row g cons r)
  sorted_put i p is NoRows h = subst (λ (l : List Item). AreItems m d (put_item i l) (cons NoRows)) (sym (no_items m d is h)) (b.again NoRows i [] p (none_items m d))
  sorted_put i p is (Required k t r) h = put_past k (λ q. Required k t q) (IsRequired m d k t) (required_begins m d k t) i is r p h (λ js f. sorted_put i p js r f)
  sorted_put i p is (Optional k s r) h = put_past k (λ q. Optional k s q) (λ j. IsItem m d k j s) (optional_begins m d k s) i is r p h (λ js f. sorted_put i p js r f)
  sorted_put i p is (Default k u s r) h = put_past k (λ q. Default k u s q) (λ j. IsDefaultItem m d k u j s) (default_begins m d k u s) i is r p h (λ js f. sorted_put i p js r f)

  unput_past : (h : Tag) (other : Rows → Rows) (Q : Item → Type 0) → Begins m d h other Q → (ks : List Item) (r : Rows) (x : Bool) → tag_le g h ≡ x → AreItems m d ks (cond x (cons (other r)) (other (put_row g cons r)))
      → ((js : List Item) → AreItems m d js (put_row g cons r) → Unput m d P js r) → Unput m d P ks (other r)
  unput_past h other Q c ks r true low k ih =
      let (i, js, e, p, rest) = b.first (other r) ks k in
      let (j, js', e', q, rest') = c.first r js rest in
      let here : tag_le i.tag j.tag ≡ true = ap₂ tag_le (b.tag i p) (c.tag j q) ∙ low in
      record { item = i; items = js; holds = p; are = rest; same = ap (put_item i) e' ∙ put_low i j js' here ∙ ap (λ (l : List Item). i ∷ l) (sym e') ∙ sym e }
  unput_past h other Q c ks r false high k ih =
      let (j, js, e, q, rest) = c.first (put_row g cons r) ks k in
      let u = ih js rest in
      let here : tag_le u.item.tag j.tag ≡ false = ap₂ tag_le (b.tag u.item u.holds) (c.tag j q) ∙ high in
      record { item = u.item; items = j ∷ u.items; holds = u.holds; are = c.again r j u.items q u.are; same = put_high u.item j u.items here ∙ ap (λ (l : List Item). j ∷ l) u.same ∙ sym e }

  unput : (ks : List Item) (r : Rows) → AreItems m d ks (put_row g cons r) → Unput m d P ks r
  unput ks NoRows k =
      let (i, js, e, p, rest) = b.first NoRows ks k in
      let none : js ≡ [] = no_items m d js rest in
      record { item = i; items = js; holds = p; are = rest; same = ap (put_item i) none ∙ ap (λ (l : List Item). i ∷ l) (sym none) ∙ sym e }
  unput ks (Required h t r) k = unput_past h (λ q. Required h t q) (IsRequired m d h t) (required_begins m d h t) ks r (tag_le g h) refl k (λ js f. unput js r f)
  unput ks (Optional h s r) k = unput_past h (λ q. Optional h s q) (λ j. IsItem m d h j s) (optional_begins m d h s) ks r (tag_le g h) refl k (λ js f. unput js r f)
  unput ks (Default h u s r) k = unput_past h (λ q. Default h u s q) (λ j. IsDefaultItem m d h u j s) (default_begins m d h u s) ks r (tag_le g h) refl k (λ js f. unput js r f)

module _ (m : Mode) (d : ℕ) where
  sorted_more : (g : Tag) (cons : Rows → Rows) (P : Item → Type 0) → Begins m d g cons P → (is : List Item) (r sorted : Rows) → AreItems m d is (cons r) → ((js : List Item) → AreItems m d js r → AreItems m d (items_by_tag js) sorted) → AreItems m d (items_by_tag is) (put_row g cons sorted)
  sorted_more g cons P b is r sorted h ih =
      let (i, js, e, p, rest) = b.first r is h in
      subst (λ (l : List Item). AreItems m d (items_by_tag l) (put_row g cons sorted)) (sym e) (sorted_put m d g cons P b i p (items_by_tag js) sorted (ih js rest))

  pub items_sorted : (is : List Item) (r : Rows) → AreItems m d is r → AreItems m d (items_by_tag is) (rows_by_tag r)
  items_sorted is NoRows h = subst (λ (l : List Item). AreItems m d (items_by_tag l) NoRows) (sym (no_items m d is h)) (none_items m d)
  items_sorted is (Required g t r) h = sorted_more g (λ q. Required g t q) (IsRequired m d g t) (required_begins m d g t) is r (rows_by_tag r) h (λ js f. items_sorted js r f)
  items_sorted is (Optional g s r) h = sorted_more g (λ q. Optional g s q) (λ j. IsItem m d g j s) (optional_begins m d g s) is r (rows_by_tag r) h (λ js f. items_sorted js r f)
  items_sorted is (Default g u s r) h = sorted_more g (λ q. Default g u s q) (λ j. IsDefaultItem m d g u j s) (default_begins m d g u s) is r (rows_by_tag r) h (λ js f. items_sorted js r f)

  abbrev Unsorted : List Item → Rows → Type 0
  Unsorted ks r = (is : List Item) × AreItems m d is r × (items_by_tag is ≡ ks)

  unsorted_more : (g : Tag) (cons : Rows → Rows) (P : Item → Type 0) → Begins m d g cons P → (ks : List Item) (r sorted : Rows) → AreItems m d ks (put_row g cons sorted) → ((js : List Item) → AreItems m d js sorted → Unsorted js r) → Unsorted ks (cons r)
  unsorted_more g cons P b ks r sorted h ih =
      let u = unput m d g cons P b ks sorted h in
      let (is, are, e) = ih u.items u.are in
      (u.item ∷ is, b.again r u.item is u.holds are, ap (put_item u.item) e ∙ u.same)

  pub items_unsorted : (ks : List Item) (r : Rows) → AreItems m d ks (rows_by_tag r) → Unsorted ks r
  items_unsorted ks NoRows h = ([], none_items m d, sym (no_items m d ks h))
  items_unsorted ks (Required g t r) h = unsorted_more g (λ q. Required g t q) (IsRequired m d g t) (required_begins m d g t) ks r (rows_by_tag r) h (λ js f. items_unsorted js r f)
  items_unsorted ks (Optional g s r) h = unsorted_more g (λ q. Optional g s q) (λ j. IsItem m d g j s) (optional_begins m d g s) ks r (rows_by_tag r) h (λ js f. items_unsorted js r f)
  items_unsorted ks (Default g u s r) h = unsorted_more g (λ q. Default g u s q) (λ j. IsDefaultItem m d g u j s) (default_begins m d g u s) ks r (rows_by_tag r) h (λ js f. items_unsorted js r f)

-- ---- the encoding

pub set_sorted : (m : Mode) (d : ℕ) (o : Octets) (extensible : Bool) (r a : Rows) → IsEncoding m d o (Struct true extensible r a) → IsEncoding m d o (Struct false extensible (rows_by_tag r) a)
unfolding IsEncoding
set_sorted m d o extensible r a (level, is, js, h, k, f) = (
  level,
  items_by_tag is,
  js,
  items_sorted m (d - 1) is r h,
  k,
  record { extended = f.extended; preamble = f.preamble; extension = f.extension; whole = f.whole; bits = f.bits; rest = f.rest; only = f.only },
)

pub set_unsorted : (m : Mode) (d : ℕ) (o : Octets) (extensible : Bool) (r a : Rows) → IsEncoding m d o (Struct false extensible (rows_by_tag r) a) → IsEncoding m d o (Struct true extensible r a)
unfolding IsEncoding
set_unsorted m d o extensible r a (level, ks, js, h, k, f) =
    let (is, are, e) = items_unsorted m (d - 1) ks r h in (
      level,
      is,
      js,
      are,
      k,
      record {
        extended = f.extended;
        preamble = f.preamble;
        extension = f.extension;
        whole = subst (λ (l : List Item). o ≡ f.preamble ++ (bodies l ++ f.extension)) (sym e) f.whole;
        bits = subst (λ (l : List Item). IsPreamble f.preamble (extension_bit extensible f.extended ++ presence_bits l)) (sym e) f.bits;
        rest = f.rest;
        only = f.only;
      },
    )

-- ---- the rows of a table

past_row : (g : Tag) (cons : Rows → Rows) (p : FieldPresence) (h : Tag) (u : Tree) (s : Slot) (r : Rows) → put_row g cons (row_at p h u s r) ≡ cond (tag_le g h) (cons (row_at p h u s r)) (row_at p h u s (put_row g cons r))
past_row g cons presence.Required h u s r = refl
past_row g cons presence.Optional h u s r = refl
past_row g cons presence.Default h u s r = refl

first_row : (p : FieldPresence) (g : Tag) (u : Tree) (s : Slot) (r : Rows) → rows_by_tag (row_at p g u s r) ≡ put_row g (λ q. row_at p g u s q) (rows_by_tag r)
first_row presence.Required g u s r = refl
first_row presence.Optional g u s r = refl
first_row presence.Default g u s r = refl

module _ (u : ℕ → Tree) (f : ℕ → Slot) where
  from_cond : (x : Bool) (rs qs : List Row) → cond x (rows_from u f rs) (rows_from u f qs) ≡ rows_from u f (cond x rs qs)
  from_cond true rs qs = refl
  from_cond false rs qs = refl

  put_from : (q : Row) (rs : List Row) → put_row q.tag (λ r. row_at q.presence q.tag (u q.index) (f q.index) r) (rows_from u f rs) ≡ rows_from u f (put_by_tag (λ r. r.tag) q rs)
  put_from q [] = refl
  put_from q (x ∷ rs) =
      past_row q.tag (λ r. row_at q.presence q.tag (u q.index) (f q.index) r) x.presence x.tag (u x.index) (f x.index) (rows_from u f rs)
      ∙ ap (λ (z : Rows). cond (tag_le q.tag x.tag) (rows_from u f (q ∷ x ∷ rs)) (row_at x.presence x.tag (u x.index) (f x.index) z)) (put_from q rs)
      ∙ from_cond (tag_le q.tag x.tag) (q ∷ x ∷ rs) (x ∷ put_by_tag (λ r. r.tag) q rs)

  pub sorted_from : (rs : List Row) → rows_by_tag (rows_from u f rs) ≡ rows_from u f (by_tag (λ r. r.tag) rs)
  sorted_from [] = refl
  sorted_from (q ∷ rs) =
      first_row q.presence q.tag (u q.index) (f q.index) (rows_from u f rs)
      ∙ ap (put_row q.tag (λ r. row_at q.presence q.tag (u q.index) (f q.index) r)) (sorted_from rs)
      ∙ put_from q (by_tag (λ r. r.tag) rs)

module _ (P : Row → Type 0) where
  all_cond : (b : Bool) (rs qs : List Row) → AllByRecursion P rs → AllByRecursion P qs → AllByRecursion P (cond b rs qs)
  all_cond true rs qs h k = h
  all_cond false rs qs h k = k

  all_put : (q : Row) (rs : List Row) → P q → AllByRecursion P rs → AllByRecursion P (put_by_tag (λ r. r.tag) q rs)
  all_put q [] p h = (p, tt)
  all_put q (x ∷ rs) p h = all_cond (tag_le q.tag x.tag) (q ∷ x ∷ rs) (x ∷ put_by_tag (λ r. r.tag) q rs) (p, h) (h.0, all_put q rs p h.1)

  pub all_by_tag : (rs : List Row) → AllByRecursion P rs → AllByRecursion P (by_tag (λ r. r.tag) rs)
  all_by_tag [] h = tt
  all_by_tag (q ∷ rs) h = all_put q (by_tag (λ r. r.tag) rs) h.0 (all_by_tag rs h.1)

swap : (a b : Bool) (n : ℕ) → cond a (suc (cond b (suc n) n)) (cond b (suc n) n) ≡ cond b (suc (cond a (suc n) n)) (cond a (suc n) n)
swap true true n = refl
swap true false n = refl
swap false b n = refl

marked_cond : (x : Bool) (rs qs : List Row) → marked_count (cond x rs qs) ≡ cond x (marked_count rs) (marked_count qs)
marked_cond true rs qs = refl
marked_cond false rs qs = refl

either : (x : Bool) (n : ℕ) → cond x n n ≡ n
either true n = refl
either false n = refl

marked_put : (q : Row) (rs : List Row) → marked_count (put_by_tag (λ r. r.tag) q rs) ≡ marked_count (q ∷ rs)
marked_put q [] = refl
marked_put q (x ∷ rs) =
    marked_cond (tag_le q.tag x.tag) (q ∷ x ∷ rs) (x ∷ put_by_tag (λ r. r.tag) q rs)
    ∙ ap (λ (n : ℕ). cond (tag_le q.tag x.tag) (marked_count (q ∷ x ∷ rs)) n) (ap (λ (n : ℕ). cond (may_be_absent x.presence) (suc n) n) (marked_put q rs) ∙ swap (may_be_absent x.presence) (may_be_absent q.presence) (marked_count rs))
    ∙ either (tag_le q.tag x.tag) (marked_count (q ∷ x ∷ rs))

pub marked_by_tag : (rs : List Row) → marked_count (by_tag (λ r. r.tag) rs) ≡ marked_count rs
marked_by_tag [] = refl
marked_by_tag (q ∷ rs) = marked_put q (by_tag (λ r. r.tag) rs) ∙ ap (λ (n : ℕ). cond (may_be_absent q.presence) (suc n) n) (marked_by_tag rs)

-- ---- the parts of a table
module _ {V : Type 0} (tree : V → Tree) (Is : ℕ → V → Type 0) (default : ℕ → V) where
  table_more : (r : Row) (rs : List Row) (ps : Parts) (p : FieldPresence) → r.presence ≡ p → IsTableOf rs ps → IsTableOf (r ∷ rs) (part_at tree Is default p r.index r.tag ps)
  table_more r rs ps presence.Required e h = (refl, e, h)
  table_more r rs ps presence.Optional e h = (refl, e, h)
  table_more r rs ps presence.Default e h = (refl, e, h)

  pub parts_table : (rs : List Row) → IsTableOf rs (parts_of tree Is default rs)
  parts_table [] = tt
  parts_table (r ∷ rs) = table_more r rs (parts_of tree Is default rs) r.presence refl (parts_table rs)

  fits_more : (p : FieldPresence) (n : ℕ) (g : Tag) (s : Slot) (ps : Parts) (r : Rows) → FitsAt tree Is default p n s → AreOf ps r → AreOf (part_at tree Is default p n g ps) (row_at p g (tree (default n)) s r)
  fits_more presence.Required n g Absent ps r f h = absurd f
  fits_more presence.Required n g (Present t) ps r f h = (refl, f, h)
  fits_more presence.Optional n g s ps r f h = (refl, f, h)
  fits_more presence.Default n g s ps r f h = (refl, refl, f.0, f.1, h)

  pub fits_parts : (f : ℕ → Slot) (rs : List Row) → AllByRecursion (Fits tree Is default f) rs → AreOf (parts_of tree Is default rs) (rows_from (λ n. tree (default n)) f rs)
  fits_parts f [] h = tt
  fits_parts f (r ∷ rs) h = fits_more r.presence r.index r.tag (f r.index) (parts_of tree Is default rs) (rows_from (λ n. tree (default n)) f rs) h.0 (fits_parts f rs h.1)
