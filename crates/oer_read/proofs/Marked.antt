-- The next row of a scope that has a presence bit, and what comes after it.
use Rattle.std.proofs.Common.{◌≡◌, ℕ, Bool, true, false, cond, List, [], ◌∷◌, ◌++◌, ◌⊎◌, inl, inr, refl, sym, ap, ap₂, ◌∙◌, append_assoc}
use Rattle.asn1_core.specs.Octets.{Octets}
use Rattle.asn1_core.specs.declared.tag.Tag.{Tag}
use Rattle.oer_spec.specs.Encoding.{IsEncoding, AreItems, IsItem}
use Rattle.oer_spec.specs.Mode.{Mode, mode_of, InLenient}
use Rattle.oer_spec.specs.Places.{Item, present, absent, bodies}
use Rattle.oer_spec.specs.Tree.{Tree, Rows, Optional, Default, Slot, Absent, Present}
use Rattle.oer_read.specs.Components.{asking}
use Rattle.oer_read.specs.Parts.{Comes, asks_in}
use Rattle.oer_read.specs.State.{Ask, State}
use Rattle.oer_read.proofs.Comes.{past}

-- what a default row's item is
abbrev pub IsDefaultItem : Mode → ℕ → Tag → Tree → Item → Slot → Type 0
IsDefaultItem m d g u i s = IsItem m d g i s ⊎ (InLenient m × (s ≡ Absent) × (i ≡ present g i.octets) × IsEncoding m d i.octets u)

-- the item of the next row, which is the next ask, and what comes after it
pub record Marked (s : State) (g : Tag) (r a : Rows) (rest : Octets) (P : Item → Type 0) : Type 0 where
  pub item : Item
  pub holds : P item
  pub more : List Ask
  pub next : s.frame.asks ≡ record { tag = g; bit = item.bit } ∷ more
  pub after : Octets
  pub split : s.input ≡ item.octets ++ after
  pub comes : Comes (past (asking s more) after) r a rest

pub item_marks : (m : Mode) (d : ℕ) (g : Tag) (i : Item) (s : Slot) → IsItem m d g i s → (i.marked ≡ true) × (i.tag ≡ g)
unfolding IsEncoding
item_marks m d g i Absent f = (ap (λ (z : Item). z.marked) f, ap (λ (z : Item). z.tag) f)
item_marks m d g i (Present t) f = (ap (λ (z : Item). z.marked) f.0, ap (λ (z : Item). z.tag) f.0)

pub default_marks : (m : Mode) (d : ℕ) (g : Tag) (u : Tree) (i : Item) (s : Slot) → IsDefaultItem m d g u i s → (i.marked ≡ true) × (i.tag ≡ g)
default_marks m d g u i s (inl f) = item_marks m d g i s f
default_marks m d g u i s (inr (_, _, f, _)) = (ap (λ (z : Item). z.marked) f, ap (λ (z : Item). z.tag) f)

asked_first : (i : Item) (is : List Item) (g : Tag) → i.marked ≡ true → i.tag ≡ g → asks_in (i ∷ is) ≡ record { tag = g; bit = i.bit } ∷ asks_in is
asked_first i is g e f = ap₂ (λ (b : Bool) (h : Tag). cond b (record { tag = h; bit = i.bit } ∷ asks_in is) (asks_in is)) e f

-- from what is left of a scope, by an item of which P holds, and back
mark : (s : State) (g : Tag) (r a : Rows) (rest : Octets) (P : Item → Type 0) (i : Item) (is : List Item) (row : Rows) → ((j : Item) → P j → (j.marked ≡ true) × (j.tag ≡ g)) → (c : Comes s row a rest) → c.roots ≡ i ∷ is → P i → AreItems (mode_of s.codec) s.levels is r → Marked s g r a rest P
mark s g r a rest P i is row marks c e p h = record {
  item = i;
  holds = p;
  more = asks_in is;
  next = sym c.asked ∙ ap asks_in e ∙ asked_first i is g (marks i p).0 (marks i p).1;
  after = bodies is ++ (c.extension ++ rest);
  split = c.split ∙ ap (λ (l : List Item). bodies l ++ (c.extension ++ rest)) e ∙ append_assoc i.octets (bodies is) (c.extension ++ rest);
  comes = record {
    roots = is;
    additions = c.additions;
    extension = c.extension;
    split = refl;
    are_roots = h;
    are_additions = c.are_additions;
    asked = refl;
    placed = c.placed;
    only = c.only;
    tail = c.tail;
  };
}

unmark : (s : State) (g : Tag) (r a : Rows) (rest : Octets) (P : Item → Type 0) (row : Rows) → ((j : Item) → P j → (j.marked ≡ true) × (j.tag ≡ g)) → ((j : Item) (is : List Item) → P j → AreItems (mode_of s.codec) s.levels is r → AreItems (mode_of s.codec) s.levels (j ∷ is) row) → Marked s g r a rest P → Comes s row a rest
unmark s g r a rest P row marks cons k =
    let c = k.comes in
    record {
      roots = k.item ∷ c.roots;
      additions = c.additions;
      extension = c.extension;
      split = k.split ∙ ap (λ (l : Octets). k.item.octets ++ l) c.split ∙ sym (append_assoc k.item.octets (bodies c.roots) (c.extension ++ rest));
      are_roots = cons k.item c.roots k.holds c.are_roots;
      are_additions = c.are_additions;
      asked = asked_first k.item c.roots g (marks k.item k.holds).0 (marks k.item k.holds).1 ∙ ap (λ (l : List Ask). record { tag = g; bit = k.item.bit } ∷ l) c.asked ∙ sym k.next;
      placed = c.placed;
      only = c.only;
      tail = c.tail;
    }

pub optional_items : (m : Mode) (d : ℕ) (g : Tag) (sl : Slot) (r : Rows) (is : List Item) → AreItems m d is (Optional g sl r) → (i : Item) × (js : List Item) × (is ≡ i ∷ js) × IsItem m d g i sl × AreItems m d js r
unfolding IsEncoding
optional_items m d g sl r [] h = absurd h
optional_items m d g sl r (i ∷ js) (f, h) = (i, js, refl, f, h)

pub default_items : (m : Mode) (d : ℕ) (g : Tag) (u : Tree) (sl : Slot) (r : Rows) (is : List Item) → AreItems m d is (Default g u sl r) → (i : Item) × (js : List Item) × (is ≡ i ∷ js) × IsDefaultItem m d g u i sl × AreItems m d js r
unfolding IsEncoding
default_items m d g u sl r [] h = absurd h
default_items m d g u sl r (i ∷ js) (f, h) = (i, js, refl, f, h)

pub cons_optional : (m : Mode) (d : ℕ) (g : Tag) (sl : Slot) (r : Rows) (i : Item) (is : List Item) → IsItem m d g i sl → AreItems m d is r → AreItems m d (i ∷ is) (Optional g sl r)
unfolding IsEncoding
cons_optional m d g sl r i is f h = (f, h)

pub cons_default : (m : Mode) (d : ℕ) (g : Tag) (u : Tree) (sl : Slot) (r : Rows) (i : Item) (is : List Item) → IsDefaultItem m d g u i sl → AreItems m d is r → AreItems m d (i ∷ is) (Default g u sl r)
unfolding IsEncoding
cons_default m d g u sl r i is f h = (f, h)

abbrev pub OptionalItem : State → Tag → Slot → Item → Type 0
OptionalItem s g sl i = IsItem (mode_of s.codec) s.levels g i sl

abbrev pub DefaultItem : State → Tag → Tree → Slot → Item → Type 0
DefaultItem s g u sl i = IsDefaultItem (mode_of s.codec) s.levels g u i sl

pub mark_optional : (s : State) (g : Tag) (sl : Slot) (r a : Rows) (rest : Octets) → Comes s (Optional g sl r) a rest → Marked s g r a rest (OptionalItem s g sl)
mark_optional s g sl r a rest c =
    let (i, js, e, f, h) = optional_items (mode_of s.codec) s.levels g sl r c.roots c.are_roots in
    mark s g r a rest (OptionalItem s g sl) i js (Optional g sl r) (λ j p. item_marks (mode_of s.codec) s.levels g j sl p) c e f h

pub unmark_optional : (s : State) (g : Tag) (sl : Slot) (r a : Rows) (rest : Octets) → Marked s g r a rest (OptionalItem s g sl) → Comes s (Optional g sl r) a rest
unmark_optional s g sl r a rest k =
    unmark s g r a rest (OptionalItem s g sl) (Optional g sl r) (λ j p. item_marks (mode_of s.codec) s.levels g j sl p) (λ j is p h. cons_optional (mode_of s.codec) s.levels g sl r j is p h) k

pub mark_default : (s : State) (g : Tag) (u : Tree) (sl : Slot) (r a : Rows) (rest : Octets) → Comes s (Default g u sl r) a rest → Marked s g r a rest (DefaultItem s g u sl)
mark_default s g u sl r a rest c =
    let (i, js, e, f, h) = default_items (mode_of s.codec) s.levels g u sl r c.roots c.are_roots in
    mark s g r a rest (DefaultItem s g u sl) i js (Default g u sl r) (λ j p. default_marks (mode_of s.codec) s.levels g u j sl p) c e f h

pub unmark_default : (s : State) (g : Tag) (u : Tree) (sl : Slot) (r a : Rows) (rest : Octets) → Marked s g r a rest (DefaultItem s g u sl) → Comes s (Default g u sl r) a rest
unmark_default s g u sl r a rest k =
    unmark s g r a rest (DefaultItem s g u sl) (Default g u sl r) (λ j p. default_marks (mode_of s.codec) s.levels g u j sl p) (λ j is p h. cons_default (mode_of s.codec) s.levels g u sl r j is p h) k

-- ---- items by their bit
pub absent_item : (s : State) (g : Tag) → OptionalItem s g Absent (absent g)
unfolding IsEncoding
absent_item s g = refl

pub present_item : (s : State) (g : Tag) (t : Tree) (o : Octets) → IsEncoding (mode_of s.codec) s.levels o t → OptionalItem s g (Present t) (present g o)
unfolding IsEncoding
present_item s g t o f = (refl, f)

pub unset_item : (s : State) (g : Tag) (sl : Slot) (i : Item) → OptionalItem s g sl i → i.bit ≡ false → (sl ≡ Absent) × (i.octets ≡ [])
unfolding IsEncoding
unset_item s g Absent i f b = (refl, ap (λ (z : Item). z.octets) f)
unset_item s g (Present t) i f b = absurd (cc (ap (λ (z : Item). z.bit) f.0, b))

pub set_item : (s : State) (g : Tag) (sl : Slot) (i : Item) → OptionalItem s g sl i → i.bit ≡ true → (t : Tree) × (sl ≡ Present t) × IsEncoding (mode_of s.codec) s.levels i.octets t
unfolding IsEncoding
set_item s g Absent i f b = absurd (cc (ap (λ (z : Item). z.bit) f, b))
set_item s g (Present t) i f b = (t, refl, f.1)

pub unset_default : (s : State) (g : Tag) (u : Tree) (sl : Slot) (i : Item) → DefaultItem s g u sl i → i.bit ≡ false → (sl ≡ Absent) × (i.octets ≡ [])
unset_default s g u sl i (inl f) b = unset_item s g sl i f b
unset_default s g u sl i (inr (_, _, f, _)) b = absurd (cc (ap (λ (z : Item). z.bit) f, b))

-- the next asks are one
pub next_is : (g h : Tag) (b c : Bool) (ks ls asks : List Ask) → asks ≡ record { tag = g; bit = b } ∷ ks → asks ≡ record { tag = h; bit = c } ∷ ls → (b ≡ c) × (ks ≡ ls)
next_is g h b c ks ls asks e f = go (sym e ∙ f)
  where
    go : ◌≡◌ {A = List Ask} (record { tag = g; bit = b } ∷ ks) (record { tag = h; bit = c } ∷ ls) → (b ≡ c) × (ks ≡ ls)
    go z = (ap (λ (k : Ask). k.bit) (head z), tail z)
      where
        head : ◌≡◌ {A = List Ask} (record { tag = g; bit = b } ∷ ks) (record { tag = h; bit = c } ∷ ls) → ◌≡◌ {A = Ask} (record { tag = g; bit = b }) (record { tag = h; bit = c })
        head z = cc z

        tail : ◌≡◌ {A = List Ask} (record { tag = g; bit = b } ∷ ks) (record { tag = h; bit = c } ∷ ls) → ks ≡ ls
        tail z = cc z
