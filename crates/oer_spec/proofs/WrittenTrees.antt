-- What is written of a encodable tree is its canonical encoding, with bitmaps of the own size.
use Rattle.std.proofs.Common.{◌≡◌, ℕ, ◌+◌, ◌-◌, ◌≤◌, Bool, true, false, cond, not, ◌&&◌, ◌||◌, nat_lt, List, [], ◌∷◌, ◌++◌, map, length, inl, refl, sym, ap, subst, arith}
use Rattle.std.specs.List.{AllByRecursion}
use Rattle.std.proofs.lemmas.Bool.{ltb-false, or_parts}
use Rattle.std.proofs.lemmas.List.{length-map}
use Rattle.asn1_core.specs.Octets.{Octets, AreOctets, usize_max, pack, octets_for, joined}
use Rattle.asn1_core.specs.Tags.{tag_le, holds}
use Rattle.asn1_core.specs.declared.tag.Tag.{Tag}
use Rattle.oer_spec.specs.Encoding.{IsTree, AreRows, AreSlot, AreTrees, IsEncoding, AreItems, IsItem, AreElements, canonical_octets, canonical_items, canonical_item, canonical_elements, levels, levels_rows, levels_slot, levels_trees, fails, rows_fail, slot_fails, trees_fail, opens_fail, open_fails, bitmap_fails, list_fails, IsEncodable}
use Rattle.oer_spec.specs.Leaves.{Failure, TooLong}
use Rattle.oer_spec.specs.Lengths.{AnyTrue, behind_length, tag_octets, counted_bits, quantity_octets}
use Rattle.oer_spec.specs.Mode.{OwnSized}
use Rattle.oer_spec.specs.Orders.{Reorders}
use Rattle.oer_spec.specs.Places.{Item, put_by_tag, by_tag, in_writing_order, presence, bodies, extension_bit, IsAddition, AreAdditions, IsExtension, SpellsStruct, IsInOrder, SpellsList, IsAlternative, SpellsChoice, any_bit, additions_octets, extension_octets, struct_octets, sorted, list_octets, choice_octets}
use Rattle.oer_spec.specs.Same.{EachTree, OnSlot}
use Rattle.oer_spec.specs.Tree.{Tree, Struct, ListOf, Choice, Rows, NoRows, Required, Optional, Default, Slot, Absent, Present, Trees, NoTrees, More}
use Rattle.oer_spec.proofs.Lists.{Reorders-sym, Reorders-all}
use Rattle.oer_spec.proofs.Trees.{EachRow, by_parts}
use Rattle.oer_spec.proofs.Sorted.{ascends_sorted, mixed_sorted}
use Rattle.asn1_core.proofs.Digits.{append_octets}
use Rattle.oer_spec.proofs.Written.{behind_are_octets, open_form, quantity_form, quantity_are_octets, tag_form, tag_are_octets, packed_is, counted_bits_form, counted_bits_are_octets}
use Rattle.oer_spec.proofs.WrittenLeaves.{leaf_form}

not_long : (n : ℕ) → nat_lt usize_max n ≡ false → n ≤ usize_max
not_long n e = ltb-false usize_max n e

-- ---- octets of parts
abbrev pub AllOctets : List Item → Type 0
AllOctets is = AllByRecursion (λ i. AreOctets i.octets) is

put_octets_kept : (i : Item) (is : List Item) → AreOctets i.octets → AllOctets is → AllOctets (put_by_tag i is)
put_octets_kept i [] f fs = (f, tt)
put_octets_kept i (j ∷ js) f (g, gs) = go (tag_le i.tag j.tag) (put_octets_kept i js f gs)
  where
    go : (b : Bool) → AllOctets (put_by_tag i js) → AllOctets (cond b (i ∷ j ∷ js) (j ∷ put_by_tag i js))
    go true h = (f, (g, gs))
    go false h = (g, h)

by_tag_octets : (is : List Item) → AllOctets is → AllOctets (by_tag is)
by_tag_octets [] f = tt
by_tag_octets (i ∷ is) (f, fs) = put_octets_kept i (by_tag is) f (by_tag_octets is fs)

order_octets : (set : Bool) (is : List Item) → AllOctets is → AllOctets (in_writing_order set is)
order_octets true is f = by_tag_octets is f
order_octets false is f = f

bodies_octets : (is : List Item) → AllOctets is → AreOctets (bodies is)
bodies_octets [] f = tt
bodies_octets (i ∷ is) (f, fs) = append_octets i.octets (bodies is) f (bodies_octets is fs)

joined_octets : (os : List Octets) → AllByRecursion AreOctets os → AreOctets (joined os)
joined_octets [] f = tt
joined_octets (o ∷ os) (f, fs) = append_octets o (joined os) f (joined_octets os fs)

-- ---- additions
short_open : (bit : Bool) (f : Octets) → (bit && open_fails f TooLong) ≡ false → bit ≡ true → length f ≤ usize_max
short_open true f e _ = not_long (length f) e
short_open false f e h = absurd (cc h)

additions_form : (is : List Item) → AllOctets is → opens_fail is TooLong ≡ false → AreAdditions OwnSized (map (λ i. i.bit) is) (additions_octets is) is × AreOctets (additions_octets is)
additions_form [] f e = (refl, tt)
additions_form (i ∷ is) (f, fs) e =
    let s : ((i.bit && open_fails i.octets TooLong) ≡ false) × (opens_fail is TooLong ≡ false) = or_parts (i.bit && open_fails i.octets TooLong) (opens_fail is TooLong) e in
    let r : AreAdditions OwnSized (map (λ j. j.bit) is) (additions_octets is) is × AreOctets (additions_octets is) = additions_form is fs s.1 in
    let k = go i.bit (short_open i.bit i.octets s.0) r.1 in
    ((refl, additions_octets is, k.0, r.0), k.1)
  where
    go : (bit : Bool) → (bit ≡ true → length i.octets ≤ usize_max) → AreOctets (additions_octets is)
        → IsAddition OwnSized bit i.octets (cond bit (behind_length i.octets) [] ++ additions_octets is) (additions_octets is) × AreOctets (cond bit (behind_length i.octets) [] ++ additions_octets is)
    go true l g = ((behind_length i.octets, refl, open_form i.octets f (l refl)), append_octets (behind_length i.octets) (additions_octets is) (behind_are_octets i.octets f (l refl)) g)
    go false l g = (refl, g)

any_is : (is : List Item) → any_bit is ≡ true → AnyTrue (map (λ i. i.bit) is)
any_is [] e = absurd (cc e)
any_is (i ∷ is) e = go i.bit e (any_is is)
  where
    go : (bit : Bool) → (bit || any_bit is) ≡ true → (any_bit is ≡ true → AnyTrue (map (λ j. j.bit) is)) → AnyTrue (bit ∷ map (λ j. j.bit) is)
    go true e ih = tt
    go false e ih = ih e

none_is : (is : List Item) → any_bit is ≡ false → AllByRecursion (λ i. i.bit ≡ false) is
none_is [] e = tt
none_is (i ∷ is) e = let s = or_parts i.bit (any_bit is) e in (s.0, none_is is s.1)

tail_form : (is : List Item) → AllOctets is → opens_fail is TooLong ≡ false → bitmap_fails is TooLong ≡ false → IsExtension OwnSized (any_bit is) (extension_octets is) is × AreOctets (extension_octets is)
tail_form is f e k = go (any_bit is) refl
  where
    go : (b : Bool) → any_bit is ≡ b → IsExtension OwnSized b (cond b (counted_bits (map (λ i. i.bit) is) ++ additions_octets is) []) is × AreOctets (cond b (counted_bits (map (λ i. i.bit) is) ++ additions_octets is) [])
    go false h = ((refl, none_is is h), tt)
    go true h =
        let bits : List Bool = map (λ i. i.bit) is in
        let small : 1 + octets_for (length bits) ≤ usize_max =
        subst (λ z. 1 + octets_for z ≤ usize_max) (sym (length-map is (λ i. i.bit))) (not_long (1 + octets_for (length is)) (subst (λ z. (z && nat_lt usize_max (1 + octets_for (length is))) ≡ false) h k)) in
        let (u, c, z) = counted_bits_form bits small in
        let r = additions_form is f e in (
          (counted_bits bits, additions_octets is, bits, refl, (u, c, (any_is is h, z)), r.0, length-map is (λ i. i.bit)),
          append_octets (counted_bits bits) (additions_octets is) (counted_bits_are_octets bits small) r.1,
        )

pub struct_form : (set extensible : Bool) (is js : List Item) → AllOctets is → AllOctets js → opens_fail js TooLong ≡ false → bitmap_fails js TooLong ≡ false → (extensible ≡ false → js ≡ [])
    → SpellsStruct OwnSized (struct_octets set extensible is js) set extensible is js × AreOctets (struct_octets set extensible is js)
struct_form set ext is js f g e k n =
    let bits : List Bool = extension_bit ext (any_bit js) ++ presence (in_writing_order set is) in
    let p = packed_is bits in
    let t = tail_form js g e k in (
      record {
        extended = any_bit js;
        preamble = pack bits;
        extension = extension_octets js;
        whole = refl;
        bits = (p.octets, p.unused, p.few, p.bits, p.zeros);
        rest = t.0;
        only = only ext n;
      },
      append_octets (pack bits) (bodies (in_writing_order set is) ++ extension_octets js) p.octets
          (append_octets (bodies (in_writing_order set is)) (extension_octets js) (bodies_octets (in_writing_order set is) (order_octets set is f)) t.1),
    )
  where
    only : (x : Bool) → (x ≡ false → js ≡ []) → any_bit js ≡ true → x ≡ true
    only true n e = refl
    only false n e = absurd (cc (e, ap any_bit (n refl)))

-- ---- lists
pub list_form : (ordered : Bool) (own : List Octets) → AllByRecursion AreOctets own → list_fails own TooLong ≡ false → SpellsList OwnSized (list_octets ordered own) ordered own × AreOctets (list_octets ordered own)
list_form ordered own f e =
    let n : length own ≤ usize_max = not_long (length own) e in
    let r = go ordered in (
      (quantity_octets (length own), cond ordered own (sorted own), refl, quantity_form (length own) n, r.0),
      append_octets (quantity_octets (length own)) (joined (cond ordered own (sorted own))) (quantity_are_octets (length own) n) (joined_octets (cond ordered own (sorted own)) r.1),
    )
  where
    go : (l : Bool) → IsInOrder OwnSized l (cond l own (sorted own)) own × AllByRecursion AreOctets (cond l own (sorted own))
    go true = (refl, f)
    go false =
        let m : Reorders (sorted own) own = Reorders-sym own (sorted own) (mixed_sorted own) in
        ((m, ascends_sorted own), Reorders-all AreOctets (sorted own) own m f)

pub choice_form : (roots : List Tag) (g : Tag) (f : Octets) → AreOctets f → (not (holds roots g) && open_fails f TooLong) ≡ false → SpellsChoice OwnSized (choice_octets roots g f) roots g f × AreOctets (choice_octets roots g f)
choice_form roots g f a e =
    let r = go (holds roots g) e in
    ((tag_octets g, cond (holds roots g) f (behind_length f), refl, tag_form g, r.0), append_octets (tag_octets g) (cond (holds roots g) f (behind_length f)) (tag_are_octets g) r.1)
  where
    go : (b : Bool) → (not b && open_fails f TooLong) ≡ false → IsAlternative OwnSized b (cond b f (behind_length f)) f × AreOctets (cond b f (behind_length f))
    go true e = (refl, a)
    go false e = let l : length f ≤ usize_max = not_long (length f) e in (open_form f a l, behind_are_octets f a l)

-- ---- trees
abbrev Spelt : Tree → Type 0
Spelt t = (d : ℕ) → IsTree t → IsEncodable t → levels t ≤ d → IsEncoding OwnSized d (canonical_octets t) t × AreOctets (canonical_octets t)

slot_form : (d : ℕ) (g : Tag) (s : Slot) → OnSlot Spelt s → AreSlot s → ((k : Failure) → slot_fails s k ≡ false) → levels_slot s ≤ d → IsItem OwnSized d g (canonical_item g s) s × AreOctets (canonical_item g s).octets
unfolding IsEncoding Rattle.oer_spec.specs.Encoding.canonical_octets Rattle.oer_spec.specs.Encoding.levels Rattle.oer_spec.specs.Encoding.fails Rattle.oer_spec.specs.Encoding.IsTree
slot_form d g Absent h w f l = (refl, tt)
slot_form d g (Present t) h w f l = let r = h d w f l in ((refl, r.0), r.1)

rows_form : (d : ℕ) (r : Rows) → EachRow Spelt r → AreRows r → ((k : Failure) → rows_fail r k ≡ false) → levels_rows r ≤ d → AreItems OwnSized d (canonical_items r) r × AllOctets (canonical_items r)
unfolding IsEncoding Rattle.oer_spec.specs.Encoding.canonical_octets Rattle.oer_spec.specs.Encoding.levels Rattle.oer_spec.specs.Encoding.fails Rattle.oer_spec.specs.Encoding.IsTree
rows_form d NoRows h w f l = (refl, tt)
rows_form d (Required g t r) (h, hs) (w, ws) f l =
    let a = h d w (λ k. (or_parts (fails t k) (rows_fail r k) (f k)).0) (omega (arith, l)) in
    let b = rows_form d r hs ws (λ k. (or_parts (fails t k) (rows_fail r k) (f k)).1) (omega (arith, l)) in
    ((refl, a.0, b.0), (a.1, b.1))
rows_form d (Optional g s r) (h, hs) (w, ws) f l =
    let a = slot_form d g s h w (λ k. (or_parts (slot_fails s k) (rows_fail r k) (f k)).0) (omega (arith, l)) in
    let b = rows_form d r hs ws (λ k. (or_parts (slot_fails s k) (rows_fail r k) (f k)).1) (omega (arith, l)) in
    ((a.0, b.0), (a.1, b.1))
rows_form d (Default g u s r) (hu, h, hs) (v, w, n, ws) f l =
    let a = slot_form d g s h w (λ k. (or_parts (slot_fails s k) (rows_fail r k) (f k)).0) (omega (arith, l)) in
    let b = rows_form d r hs ws (λ k. (or_parts (slot_fails s k) (rows_fail r k) (f k)).1) (omega (arith, l)) in
    ((inl a.0, b.0), (a.1, b.1))

trees_form : (d : ℕ) (ts : Trees) → EachTree Spelt ts → AreTrees ts → ((k : Failure) → trees_fail ts k ≡ false) → levels_trees ts ≤ d → AreElements OwnSized d (canonical_elements ts) ts × AllByRecursion AreOctets (canonical_elements ts)
unfolding IsEncoding Rattle.oer_spec.specs.Encoding.canonical_octets Rattle.oer_spec.specs.Encoding.levels Rattle.oer_spec.specs.Encoding.fails Rattle.oer_spec.specs.Encoding.IsTree
trees_form d NoTrees h w f l = (refl, tt)
trees_form d (More t ts) (h, hs) (w, ws) f l =
    let a = h d w (λ k. (or_parts (fails t k) (trees_fail ts k) (f k)).0) (omega (arith, l)) in
    let b = trees_form d ts hs ws (λ k. (or_parts (fails t k) (trees_fail ts k) (f k)).1) (omega (arith, l)) in
    ((a.0, b.0), (a.1, b.1))

spelt_struct : (set extensible : Bool) (r a : Rows) → EachRow Spelt r → EachRow Spelt a → Spelt (Struct set extensible r a)
unfolding IsEncoding Rattle.oer_spec.specs.Encoding.canonical_octets Rattle.oer_spec.specs.Encoding.levels Rattle.oer_spec.specs.Encoding.fails Rattle.oer_spec.specs.Encoding.IsTree
spelt_struct s x r a h k d (i, j, n, _) f l =
    let p : (c : Failure) → (rows_fail r c ≡ false) × ((rows_fail a c || (opens_fail (canonical_items a) c || bitmap_fails (canonical_items a) c)) ≡ false) =
    λ c. or_parts (rows_fail r c) (rows_fail a c || (opens_fail (canonical_items a) c || bitmap_fails (canonical_items a) c)) (f c) in
    let q : (c : Failure) → (rows_fail a c ≡ false) × ((opens_fail (canonical_items a) c || bitmap_fails (canonical_items a) c) ≡ false) =
    λ c. or_parts (rows_fail a c) (opens_fail (canonical_items a) c || bitmap_fails (canonical_items a) c) (p c).1 in
    let o : (opens_fail (canonical_items a) TooLong ≡ false) × (bitmap_fails (canonical_items a) TooLong ≡ false) = or_parts (opens_fail (canonical_items a) TooLong) (bitmap_fails (canonical_items a) TooLong) (q TooLong).1 in
    let u = rows_form (d - 1) r h i (λ c. (p c).0) (omega (arith, l)) in
    let v = rows_form (d - 1) a k j (λ c. (q c).0) (omega (arith, l)) in
    let w = struct_form s x (canonical_items r) (canonical_items a) u.1 v.1 o.0 o.1 (λ e. ap canonical_items (n e)) in
    ((omega (arith, l), canonical_items r, canonical_items a, u.0, v.0, w.0), w.1)

spelt_items : (ordered : Bool) (ts : Trees) → EachTree Spelt ts → Spelt (ListOf ordered ts)
unfolding IsEncoding Rattle.oer_spec.specs.Encoding.canonical_octets Rattle.oer_spec.specs.Encoding.levels Rattle.oer_spec.specs.Encoding.fails Rattle.oer_spec.specs.Encoding.IsTree
spelt_items ordered ts h d i f l =
    let p : (c : Failure) → (trees_fail ts c ≡ false) × (list_fails (canonical_elements ts) c ≡ false) = λ c. or_parts (trees_fail ts c) (list_fails (canonical_elements ts) c) (f c) in
    let u = trees_form (d - 1) ts h i (λ c. (p c).0) (omega (arith, l)) in
    let w = list_form ordered (canonical_elements ts) u.1 (p TooLong).1 in
    ((omega (arith, l), λ c. (p c).1, canonical_elements ts, u.0, w.0), w.1)

spelt_choice : (roots additions : List Tag) (g : Tag) (t : Tree) → Spelt t → Spelt (Choice roots additions g t)
unfolding IsEncoding Rattle.oer_spec.specs.Encoding.canonical_octets Rattle.oer_spec.specs.Encoding.levels Rattle.oer_spec.specs.Encoding.fails Rattle.oer_spec.specs.Encoding.IsTree
spelt_choice r a g t h d (i, _) f l =
    let p : (k : Failure) → (fails t k ≡ false) × ((not (holds r g) && open_fails (canonical_octets t) k) ≡ false) = λ k. or_parts (fails t k) (not (holds r g) && open_fails (canonical_octets t) k) (f k) in
    let u = h (d - 1) i (λ k. (p k).0) (omega (arith, l)) in
    let w = choice_form r g (canonical_octets t) u.1 (p TooLong).1 in
    ((omega (arith, l), canonical_octets t, u.0, w.0), w.1)

pub spelt : (t : Tree) → Spelt t
unfolding IsEncoding Rattle.oer_spec.specs.Encoding.canonical_octets Rattle.oer_spec.specs.Encoding.fails Rattle.oer_spec.specs.Encoding.IsTree
spelt t = by_parts Spelt (λ l d i f z. leaf_form l i f) spelt_struct spelt_items spelt_choice t
