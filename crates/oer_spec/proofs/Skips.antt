-- What a newer sender wrote is read as the older tree.
use Rattle.std.proofs.Common.{◌≡◌, ℕ, zero, suc, ◌+◌, ◌-◌, ◌*◌, Bool, true, false, cond, not, nat_lt, ◌&&◌, List, [], ◌∷◌, ◌++◌, length, drop, ◌⊎◌, inl, inr, refl, sym, ap, ap₂, ◌∙◌, subst, subst₂, arith, append_assoc, append-nil}
use Rattle.std.specs.List.{AllByRecursion}
use Rattle.asn1_core.specs.Numbers.{number_octets}
use Rattle.asn1_core.specs.Octets.{Octets, usize_max, pack, pack_into, octets_for, joined}
use Rattle.asn1_core.specs.Tags.{holds, tag_le, class_number}
use Rattle.asn1_core.specs.declared.tag.Tag.{Tag}
use Rattle.oer_spec.specs.Encoding.{IsTree, AreRows, AreSlot, AreTrees, IsEncoding, AreItems, IsItem, AreElements, canonical_octets, canonical_items, canonical_item, canonical_elements, empties, list_fails}
use Rattle.oer_spec.specs.Leaves.{Failure, BadValue, BadSize, BadIdentifier, BadTime, TooManyEmpty, TooLong, IsLeafEncoding}
use Rattle.oer_spec.specs.Lengths.{IsQuantity, IsTag, behind_length, with_top_bits}
use Rattle.oer_spec.specs.Mode.{Mode, Lenient, Canonical, InLenient, InOwnSized}
use Rattle.oer_spec.specs.Orders.{Stands, Reorders}
use Rattle.oer_spec.specs.Places.{Item, needed, present, absent, AreSkipped, IsAddition, AreAdditions, IsExtension, SpellsStruct, IsAlternative, struct_octets, presence, bodies, in_writing_order, by_tag, put_by_tag, extension_octets, any_bit, list_octets, choice_octets, sorted}
use Rattle.oer_spec.specs.Same.{EachTree, OnSlot, StandsIn}
use Rattle.oer_spec.specs.Tree.{Leaf, Tree, Primitive, Struct, ListOf, Choice, Rows, NoRows, Required, Optional, Default, Slot, Absent, Present, Trees, NoTrees, More}
use Rattle.oer_spec.specs.Versions.{Drops, DropsRows, DropsSlot, DropsTrees, DropsReordered}
use Rattle.std.specs.Int.Digits.{digits_of}
use Rattle.std.proofs.lemmas.Bool.{cases_Bool, cond-true, cond-false}
use Rattle.oer_spec.proofs.Lists.{Reorders-trans, Reorders-length}
use Rattle.oer_spec.proofs.Trees.{EachRow, by_parts, StandsIn-each}

-- ---- which trees take no octets
abbrev pub is_nil : Octets → Bool
is_nil [] = true
is_nil (x ∷ o) = false

abbrev pub all_nil : List Item → Bool
all_nil [] = true
all_nil (i ∷ is) = (not i.marked && is_nil i.octets) && all_nil is

pub nil_append : (o p : Octets) → is_nil (o ++ p) ≡ (is_nil o && is_nil p)
nil_append [] p = refl
nil_append (x ∷ o) p = refl

pub swap_and : (a b c : Bool) → (a && (b && c)) ≡ (b && (a && c))
swap_and true true c = refl
swap_and true false c = refl
swap_and false true c = refl
swap_and false false c = refl

put_nil : (i : Item) (is : List Item) → all_nil (put_by_tag i is) ≡ all_nil (i ∷ is)
put_nil i [] = refl
put_nil i (j ∷ js) = go (tag_le i.tag j.tag) (put_nil i js)
  where
    go : (b : Bool) → all_nil (put_by_tag i js) ≡ all_nil (i ∷ js) → all_nil (cond b (i ∷ j ∷ js) (j ∷ put_by_tag i js)) ≡ all_nil (i ∷ j ∷ js)
    go true e = refl
    go false e = ap (λ z. (not j.marked && is_nil j.octets) && z) e ∙ swap_and (not j.marked && is_nil j.octets) (not i.marked && is_nil i.octets) (all_nil js)

tag_nil : (is : List Item) → all_nil (by_tag is) ≡ all_nil is
tag_nil [] = refl
tag_nil (i ∷ is) = put_nil i (by_tag is) ∙ ap (λ z. (not i.marked && is_nil i.octets) && z) (tag_nil is)

pub order_nil : (set : Bool) (is : List Item) → all_nil (in_writing_order set is) ≡ all_nil is
order_nil true is = tag_nil is
order_nil false is = refl

pub pack_some : (x : Bool) (b : List Bool) → is_nil (pack (x ∷ b)) ≡ false
pack_some x b = go (octets_for (suc (length b))) refl
  where
    none_for : (n : ℕ) → octets_for (suc n) ≡ 0 → ⊥
    none_for n e = omega arith

    go : (k : ℕ) → octets_for (suc (length b)) ≡ k → is_nil (pack_into k (x ∷ b)) ≡ false
    go zero e = absurd (none_for (length b) e)
    go (suc k) e = refl

-- the preamble's bits and the rows, in one order
pub rows_nil : (is : List Item) → is_nil (pack (presence is) ++ (bodies is ++ [])) ≡ all_nil is
rows_nil [] = refl
rows_nil (i ∷ is) = go i.marked (rows_nil is)
  where
    go : (b : Bool) → is_nil (pack (presence is) ++ (bodies is ++ [])) ≡ all_nil is
        → is_nil (pack (cond b (i.bit ∷ presence is) (presence is)) ++ ((i.octets ++ bodies is) ++ [])) ≡ ((not b && is_nil i.octets) && all_nil is)
    go true e = nil_append (pack (i.bit ∷ presence is)) ((i.octets ++ bodies is) ++ []) ∙ ap (λ z. z && is_nil ((i.octets ++ bodies is) ++ [])) (pack_some i.bit (presence is))
    go false e =
        nil_append (pack (presence is)) ((i.octets ++ bodies is) ++ [])
        ∙ ap (λ z. is_nil (pack (presence is)) && z) (ap is_nil (append_assoc i.octets (bodies is) []) ∙ nil_append i.octets (bodies is ++ []))
        ∙ swap_and (is_nil (pack (presence is))) (is_nil i.octets) (is_nil (bodies is ++ []))
        ∙ ap (λ z. is_nil i.octets && z) (sym (nil_append (pack (presence is)) (bodies is ++ [])) ∙ e)

pub struct_nil : (set extensible : Bool) (is js : List Item) → (extensible ≡ false → js ≡ []) → is_nil (struct_octets set extensible is js) ≡ (not extensible && all_nil is)
struct_nil set true is js f =
    nil_append (pack (any_bit js ∷ presence (in_writing_order set is))) (bodies (in_writing_order set is) ++ extension_octets js)
    ∙ ap (λ z. z && is_nil (bodies (in_writing_order set is) ++ extension_octets js)) (pack_some (any_bit js) (presence (in_writing_order set is)))
struct_nil set false is js f =
    ap (λ z. is_nil (struct_octets set false is z)) (f refl) ∙ rows_nil (in_writing_order set is) ∙ order_nil set is

pub behind_some : (c r : Octets) → is_nil (behind_length c ++ r) ≡ false
behind_some c r = go (cases_Bool (nat_lt (length c) 128))
  where
    go : (nat_lt (length c) 128 ≡ true) ⊎ (nat_lt (length c) 128 ≡ false) → is_nil (behind_length c ++ r) ≡ false
    go (inl e) = ap (λ z. is_nil ((z ++ c) ++ r)) (cond-true (nat_lt (length c) 128) (length c ∷ []) ((128 + length (digits_of 256 (length c))) ∷ digits_of 256 (length c)) e)
    go (inr e) = ap (λ z. is_nil ((z ++ c) ++ r)) (cond-false (nat_lt (length c) 128) (length c ∷ []) ((128 + length (digits_of 256 (length c))) ∷ digits_of 256 (length c)) e)

pub list_some : (ordered : Bool) (own : List Octets) → is_nil (list_octets ordered own) ≡ false
list_some ordered own = behind_some (number_octets (length own)) (joined (cond ordered own (sorted own)))

pub choice_some : (roots : List Tag) (g : Tag) (f : Octets) → is_nil (choice_octets roots g f) ≡ false
choice_some roots g f = go (cases_Bool (nat_lt g.value 63))
  where
    go : (nat_lt g.value 63 ≡ true) ⊎ (nat_lt g.value 63 ≡ false) → is_nil (choice_octets roots g f) ≡ false
    go (inl e) = ap (λ z. is_nil (z ++ cond (holds roots g) f (behind_length f))) (cond-true (nat_lt g.value 63) ((class_number g.class * 64 + g.value) ∷ []) ((class_number g.class * 64 + 63) ∷ with_top_bits (digits_of 128 g.value)) e)
    go (inr e) = ap (λ z. is_nil (z ++ cond (holds roots g) f (behind_length f))) (cond-false (nat_lt g.value 63) ((class_number g.class * 64 + g.value) ∷ []) ((class_number g.class * 64 + 63) ∷ with_top_bits (digits_of 128 g.value)) e)

pub slot_nil : (g : Tag) (s : Slot) (is : List Item) → all_nil (canonical_item g s ∷ is) ≡ false
unfolding Rattle.oer_spec.specs.Encoding.canonical_octets
slot_nil g Absent is = refl
slot_nil g (Present t) is = refl

-- ---- both versions take octets, or neither
abbrev SameNil : Tree → Type 0
SameNil t = (z : Bool) (u : Tree) → IsTree t → IsTree u → Drops z t u → is_nil (canonical_octets t) ≡ is_nil (canonical_octets u)

rows_same_nil : (z : Bool) (r r' : Rows) → EachRow SameNil r → AreRows r → AreRows r' → DropsRows z false r r' → all_nil (canonical_items r) ≡ all_nil (canonical_items r')
unfolding Rattle.oer_spec.specs.Encoding.canonical_octets Rattle.oer_spec.specs.Encoding.IsTree Rattle.oer_spec.specs.Versions.Drops
rows_same_nil z NoRows NoRows h w w' f = refl
rows_same_nil z (Required g t r) (Required g' t' r') (h, hs) (w, ws) (w', ws') (e, f, fs) = ap₂ ◌&&◌ (h z t' w w' f) (rows_same_nil z r r' hs ws ws' fs)
rows_same_nil z (Optional g s r) (Optional g' s' r') h w w' f = slot_nil g s (canonical_items r) ∙ sym (slot_nil g' s' (canonical_items r'))
rows_same_nil z (Default g u s r) (Default g' u' s' r') h w w' f = slot_nil g s (canonical_items r) ∙ sym (slot_nil g' s' (canonical_items r'))
rows_same_nil z (Required g t r) NoRows h w w' f = absurd (cc f)
rows_same_nil z (Optional g s r) NoRows h w w' f = absurd (cc f)
rows_same_nil z (Default g u s r) NoRows h w w' f = absurd (cc f)
rows_same_nil z _ _ h w w' f = absurd f

struct_same_nil : (set extensible : Bool) (r a : Rows) → EachRow SameNil r → EachRow SameNil a → SameNil (Struct set extensible r a)
unfolding Rattle.oer_spec.specs.Encoding.canonical_octets Rattle.oer_spec.specs.Encoding.IsTree Rattle.oer_spec.specs.Versions.Drops
struct_same_nil s x r a h k z (Struct s' x' r' a') (i, _, n, _) (j, _, n', _) (p, q, f, g) =
    struct_nil s x (canonical_items r) (canonical_items a) (λ e. ap canonical_items (n e))
    ∙ ap₂ (λ b c. not b && c) q (rows_same_nil z r r' h i j f)
    ∙ sym (struct_nil s' x' (canonical_items r') (canonical_items a') (λ e. ap canonical_items (n' e)))
struct_same_nil s x r a h k z _ i j f = absurd f

items_same_nil : (ordered : Bool) (ts : Trees) → EachTree SameNil ts → SameNil (ListOf ordered ts)
unfolding Rattle.oer_spec.specs.Encoding.canonical_octets Rattle.oer_spec.specs.Versions.Drops
items_same_nil true ts h z (ListOf true us) i j f = list_some true (canonical_elements ts) ∙ sym (list_some true (canonical_elements us))
items_same_nil false ts h z (ListOf false us) i j f = list_some false (canonical_elements ts) ∙ sym (list_some false (canonical_elements us))
items_same_nil true ts h z _ i j f = absurd f
items_same_nil false ts h z _ i j f = absurd f

choice_same_nil : (roots additions : List Tag) (g : Tag) (t : Tree) → SameNil t → SameNil (Choice roots additions g t)
unfolding Rattle.oer_spec.specs.Encoding.canonical_octets Rattle.oer_spec.specs.Versions.Drops
choice_same_nil r a g t h z (Choice r' a' g' t') i j f = choice_some r g (canonical_octets t) ∙ sym (choice_some r' g' (canonical_octets t'))
choice_same_nil r a g t h z _ i j f = absurd f

leaf_same_nil : (l : Leaf) → SameNil (Primitive l)
unfolding Rattle.oer_spec.specs.Versions.Drops
leaf_same_nil l z (Primitive k) i j f = ap (λ x. is_nil (canonical_octets (Primitive x))) f
leaf_same_nil l z _ i j f = absurd f

same_nil : (t : Tree) → SameNil t
same_nil t = by_parts SameNil leaf_same_nil struct_same_nil items_same_nil choice_same_nil t

empties_cons : (o : Octets) (ps : List Octets) → empties (o ∷ ps) ≡ cond (is_nil o) 1 0 + empties ps
empties_cons [] ps = omega arith
empties_cons (x ∷ o) ps = omega arith

-- as many trees without octets, and as many trees
abbrev SameCounts : List Octets → List Octets → Type 0
SameCounts os ps = (empties os ≡ empties ps) × (length os ≡ length ps)

counts_cons : (o p : Octets) (os ps qs : List Octets) → is_nil o ≡ is_nil p → SameCounts os ps → (empties qs ≡ cond (is_nil p) 1 0 + empties ps) → length qs ≡ suc (length ps) → SameCounts (o ∷ os) qs
counts_cons o p os ps qs e (f, g) h l =
    (empties_cons o os ∙ ap₂ (λ b n. cond b 1 0 + n) e f ∙ sym h, ap suc g ∙ sym l)

taken_counts : (us : Trees) (u : Tree) (rest : Trees) → StandsIn us u rest
    → (empties (canonical_elements us) ≡ cond (is_nil (canonical_octets u)) 1 0 + empties (canonical_elements rest)) × (length (canonical_elements us) ≡ suc (length (canonical_elements rest)))
unfolding Rattle.oer_spec.specs.Encoding.canonical_octets
taken_counts NoTrees u rest s = absurd s
taken_counts (More v us) u rest (inl (e, f)) =
    (empties_cons (canonical_octets v) (canonical_elements us) ∙ ap₂ (λ a b. cond (is_nil (canonical_octets a)) 1 0 + empties (canonical_elements b)) e f, ap (λ b. suc (length (canonical_elements b))) f)
taken_counts (More v us) u rest (inr (rs, f, s)) =
    let (a, b) = taken_counts us u rs s in
    let c : empties (canonical_elements rest) ≡ cond (is_nil (canonical_octets v)) 1 0 + empties (canonical_elements rs) = ap (λ z. empties (canonical_elements z)) f ∙ empties_cons (canonical_octets v) (canonical_elements rs) in (
      empties_cons (canonical_octets v) (canonical_elements us) ∙ turned (cond (is_nil (canonical_octets v)) 1 0) (cond (is_nil (canonical_octets u)) 1 0) (empties (canonical_elements rs)) (empties (canonical_elements us)) (empties (canonical_elements rest)) a c,
      ap suc b ∙ sym (ap (λ z. suc (length (canonical_elements z))) f),
    )
  where
    turned : (v u n m k : ℕ) → m ≡ u + n → k ≡ v + n → v + m ≡ u + k
    turned v u n m k p q = omega arith

trees_counts : (z : Bool) (ts us : Trees) → AreTrees ts → AreTrees us → DropsTrees z ts us → SameCounts (canonical_elements ts) (canonical_elements us)
unfolding Rattle.oer_spec.specs.Encoding.canonical_octets Rattle.oer_spec.specs.Encoding.IsTree Rattle.oer_spec.specs.Versions.Drops
trees_counts z NoTrees NoTrees i j f = (refl, refl)
trees_counts z (More t ts) (More u us) (i, is) (j, js) (f, fs) =
    counts_cons (canonical_octets t) (canonical_octets u) (canonical_elements ts) (canonical_elements us) (canonical_octets u ∷ canonical_elements us) (same_nil t z u i j f) (trees_counts z ts us is js fs) (empties_cons (canonical_octets u) (canonical_elements us)) refl
trees_counts z _ _ i j f = absurd f

are_each : (ts : Trees) → AreTrees ts → EachTree IsTree ts
unfolding Rattle.oer_spec.specs.Encoding.IsTree
are_each NoTrees h = tt
are_each (More t ts) (h, hs) = (h, are_each ts hs)

pub each_are : (ts : Trees) → EachTree IsTree ts → AreTrees ts
unfolding Rattle.oer_spec.specs.Encoding.IsTree
each_are NoTrees h = tt
each_are (More t ts) (h, hs) = (h, each_are ts hs)

pub are_taken : (us : Trees) (u : Tree) (rest : Trees) → StandsIn us u rest → AreTrees us → IsTree u × AreTrees rest
are_taken us u rest s h = let (a, b) = StandsIn-each IsTree us u rest s (are_each us h) in (a, each_are rest b)

mixed_counts : (z : Bool) (ts us : Trees) → AreTrees ts → AreTrees us → DropsReordered z ts us → SameCounts (canonical_elements ts) (canonical_elements us)
unfolding Rattle.oer_spec.specs.Encoding.canonical_octets Rattle.oer_spec.specs.Encoding.IsTree Rattle.oer_spec.specs.Versions.Drops
mixed_counts z NoTrees us i j f = (ap (λ k. empties (canonical_elements k)) (sym f), ap (λ k. length (canonical_elements k)) (sym f))
mixed_counts z (More t ts) us (i, is) j (u, rest, s, f, fs) =
    let (a, b) = are_taken us u rest s j in
    let (c, l) = taken_counts us u rest s in
    counts_cons (canonical_octets t) (canonical_octets u) (canonical_elements ts) (canonical_elements rest) (canonical_elements us) (same_nil t z u i a f) (mixed_counts z ts rest is b fs) c l

counts_fail : (os ps : List Octets) (k : Failure) → SameCounts os ps → list_fails os k ≡ list_fails ps k
counts_fail os ps TooManyEmpty (e, l) = ap (nat_lt 65536) e
counts_fail os ps TooLong (e, l) = ap (nat_lt usize_max) l
counts_fail os ps BadValue c = refl
counts_fail os ps BadSize c = refl
counts_fail os ps BadIdentifier c = refl
counts_fail os ps BadTime c = refl

-- ---- additions that the older table lacks
additions_skip : (m : Mode) (b : List Bool) (o : Octets) (is : List Item) → AreAdditions m b o is → AreSkipped m b o
additions_skip m b o [] f = f
additions_skip m [] o (i ∷ is) (e, r, a, more) = go i.bit e a (additions_skip m [] r is more)
  where
    go : (bit : Bool) → false ≡ bit → IsAddition m bit i.octets o r → r ≡ [] → o ≡ []
    go true e a f = absurd (cc e)
    go false e a f = a ∙ f
additions_skip m (x ∷ b) o (i ∷ is) (e, r, a, more) = go x i.bit e a (additions_skip m b r is more)
  where
    go : (x bit : Bool) → x ≡ bit → IsAddition m bit i.octets o r → AreSkipped m b r → AreSkipped m (x ∷ b) o
    go false false e a s = subst (AreSkipped m b) (sym a) s
    go true true e (g, a, (c, q, f, _, _)) s = (g, r, c, a, f, s)
    go true false e a s = absurd (cc e)
    go false true e a s = absurd (cc e)

additions_front : (m : Mode) (b : List Bool) (o : Octets) (is more : List Item) → AreAdditions m b o (is ++ more) → AreAdditions m b o is
additions_front m b o [] more f = additions_skip m b o more f
additions_front m b o (i ∷ is) more (e, r, a, f) = (e, r, a, additions_front m (drop 1 b) r is more f)

all_front : (P : Item → Type 0) (is more : List Item) → AllByRecursion P (is ++ more) → AllByRecursion P is
all_front P [] more f = tt
all_front P (i ∷ is) more (f, fs) = (f, all_front P is more fs)

-- ---- reading as the older tree, in a mode without bitmaps of the own size
module _ (m : Mode) (own : (P : Type 0) → InOwnSized m P) where
  tail_front : (extended : Bool) (o : Octets) (is more : List Item) → IsExtension m extended o (is ++ more) → IsExtension m extended o is
  tail_front false o is more (f, g) = (f, all_front (λ i. i.bit ≡ false) is more g)
  tail_front true o is more (q, r, b, f, h, a, _) = (q, r, b, f, h, additions_front m b r is more a, own _)

  struct_front : (o : Octets) (set extensible : Bool) (is js more : List Item) → SpellsStruct m o set extensible is (js ++ more) → SpellsStruct m o set extensible is js
  struct_front o set extensible is js more f = record {
    extended = f.extended;
    preamble = f.preamble;
    extension = f.extension;
    whole = f.whole;
    bits = f.bits;
    rest = tail_front f.extended f.extension js more f.rest;
    only = f.only;
  }

  -- where a default's slot may be dropped, spelled-out defaults are read
  abbrev Older : Tree → Type 0
  Older t = (z : Bool) → (z ≡ false → InLenient m) → (u : Tree) (d : ℕ) (o : Octets) → IsTree t → IsTree u → Drops z t u → IsEncoding m d o t → IsEncoding m d o u

  piece_older : (z : Bool) → (z ≡ false → InLenient m) → (d : ℕ) (g g' : Tag) (i : Item) (s s' : Slot) → g ≡ g' → OnSlot Older s → AreSlot s → AreSlot s' → DropsSlot z s s' → IsItem m d g i s → IsItem m d g' i s'
  unfolding IsEncoding Rattle.oer_spec.specs.Encoding.IsTree Rattle.oer_spec.specs.Versions.Drops
  piece_older z zo d g g' i Absent Absent e h w w' f p = p ∙ ap absent e
  piece_older z zo d g g' i (Present t) (Present t') e h w w' f (p, x) = (p ∙ ap (λ k. present k i.octets) e, h z zo t' d i.octets w w' f x)
  piece_older z zo d g g' i Absent (Present t') e h w w' f p = absurd f
  piece_older z zo d g g' i (Present t) Absent e h w w' f p = absurd f

  -- the first of the items are the older rows'
  pieces_older : (z : Bool) → (z ≡ false → InLenient m) → (d : ℕ) (more : Bool) (is : List Item) (r r' : Rows) → EachRow Older r → AreRows r → AreRows r' → DropsRows z more r r' → AreItems m d is r
      → (js ks : List Item) × (is ≡ js ++ ks) × AreItems m d js r' × (more ≡ false → ks ≡ [])
  unfolding IsEncoding Rattle.oer_spec.specs.Encoding.IsTree Rattle.oer_spec.specs.Versions.Drops
  pieces_older z zo d more is NoRows NoRows h w w' f p = ([], [], p, refl, λ _. refl)
  pieces_older z zo d more [] (Required g t r) r' h w w' f p = absurd p
  pieces_older z zo d more [] (Optional g s r) r' h w w' f p = absurd p
  pieces_older z zo d more [] (Default g u s r) r' h w w' f p = absurd p
  pieces_older z zo d more (i ∷ is) (Required g t r) NoRows h w w' f p = ([], i ∷ is, refl, refl, λ e. absurd (cc (e, f)))
  pieces_older z zo d more (i ∷ is) (Optional g s r) NoRows h w w' f p = ([], i ∷ is, refl, refl, λ e. absurd (cc (e, f)))
  pieces_older z zo d more (i ∷ is) (Default g u s r) NoRows h w w' f p = ([], i ∷ is, refl, refl, λ e. absurd (cc (e, f)))
  pieces_older z zo d more (i ∷ is) (Required g t r) (Required g' t' r') (h, hs) (w, ws) (w', ws') (e, f, fs) (p, x, ps) =
      let (js, ks, a, b, c) = pieces_older z zo d more is r r' hs ws ws' fs ps in
      (i ∷ js, ks, ap (λ k. i ∷ k) a, (p ∙ ap (λ k. needed k i.octets) e, h z zo t' d i.octets w w' f x, b), c)
  pieces_older z zo d more (i ∷ is) (Optional g s r) (Optional g' s' r') (h, hs) (w, ws) (w', ws') (e, f, fs) (p, ps) =
      let (js, ks, a, b, c) = pieces_older z zo d more is r r' hs ws ws' fs ps in
      (i ∷ js, ks, ap (λ k. i ∷ k) a, (piece_older z zo d g g' i s s' e h w w' f p, b), c)
  pieces_older z zo d more (i ∷ is) (Default g u s r) (Default g' u' s' r') (hu, h, hs) (v, w, n, ws) (v', w', n', ws') (e, fu, f, fs) (p, ps) =
      let (js, ks, a, b, c) = pieces_older z zo d more is r r' hs ws ws' fs ps in
      (i ∷ js, ks, ap (λ k. i ∷ k) a, (go s s' h w w' f p, b), c)
    where
      go : (s s' : Slot) → OnSlot Older s → AreSlot s → AreSlot s' → DropsSlot z s s' ⊎ ((z ≡ false) × (s' ≡ Absent) × DropsSlot z s (Present u'))
          → IsItem m d g i s ⊎ (InLenient m × (s ≡ Absent) × (i ≡ present g i.octets) × IsEncoding m d i.octets u)
          → IsItem m d g' i s' ⊎ (InLenient m × (s' ≡ Absent) × (i ≡ present g' i.octets) × IsEncoding m d i.octets u')
      go s s' h w w' (inl f) (inl p) = inl (piece_older z zo d g g' i s s' e h w w' f p)
      go Absent Absent h w w' (inl f) (inr (oer, k, p, x)) = inr (oer, refl, p ∙ ap (λ k. present k i.octets) e, hu false (λ _. oer) u' d i.octets v v' fu x)
      go Absent (Present t') h w w' (inl f) (inr p) = absurd f
      go (Present t) s' h w w' f (inr (oer, k, p, x)) = absurd (cc k)
      go Absent s' h w w' (inr (_, _, f)) p = absurd f
      go (Present t) s' h w w' (inr (k, l, f)) (inl (p, x)) = inr (zo k, l, p ∙ ap (λ k. present k i.octets) e, h z zo u' d i.octets w v' f x)
  pieces_older z zo d more is _ _ h w w' f p = absurd f

  -- the elements' octets in the order of the older trees
  pub put_element : (d : ℕ) (us : Trees) (u : Tree) (rest : Trees) (o : Octets) (os : List Octets) → StandsIn us u rest → IsEncoding m d o u → AreElements m d os rest → (ps : List Octets) × Stands ps o os × AreElements m d ps us
  unfolding IsEncoding
  put_element d NoTrees u rest o os s f fs = absurd s
  put_element d (More v us) u rest o os (inl (e, k)) f fs = (o ∷ os, inl (refl, refl), (subst (IsEncoding m d o) (sym e) f, subst (AreElements m d os) (sym k) fs))
  put_element d (More v us) u rest o os (inr (rs, k, s)) f fs = go os (subst (AreElements m d os) k fs) (λ qs gs. put_element d us u rs o qs s f gs)
    where
      go : (os : List Octets) → AreElements m d os (More v rs) → ((qs : List Octets) → AreElements m d qs rs → (ps : List Octets) × Stands ps o qs × AreElements m d ps us) → (ps : List Octets) × Stands ps o os × AreElements m d ps (More v us)
      go [] g ih = absurd g
      go (q ∷ qs) (g, gs) ih = let (ps, st, hs) = ih qs gs in (q ∷ ps, inr (qs, refl, st), (g, hs))

  trees_older : (z : Bool) → (z ≡ false → InLenient m) → (d : ℕ) (os : List Octets) (ts us : Trees) → EachTree Older ts → AreTrees ts → AreTrees us → DropsTrees z ts us → AreElements m d os ts → AreElements m d os us
  unfolding IsEncoding Rattle.oer_spec.specs.Encoding.IsTree Rattle.oer_spec.specs.Versions.Drops
  trees_older z zo d os NoTrees NoTrees h i j f g = g
  trees_older z zo d [] (More t ts) (More u us) h i j f g = absurd g
  trees_older z zo d (o ∷ os) (More t ts) (More u us) (h, hs) (i, is) (j, js) (f, fs) (g, gs) = (h z zo u d o i j f g, trees_older z zo d os ts us hs is js fs gs)
  trees_older z zo d os _ _ h i j f g = absurd f

  mixed_older : (z : Bool) → (z ≡ false → InLenient m) → (d : ℕ) (os : List Octets) (ts us : Trees) → EachTree Older ts → AreTrees ts → AreTrees us → DropsReordered z ts us → AreElements m d os ts → (ps : List Octets) × Reorders os ps × AreElements m d ps us
  unfolding IsEncoding Rattle.oer_spec.specs.Encoding.IsTree Rattle.oer_spec.specs.Versions.Drops
  mixed_older z zo d os NoTrees us h i j f g = ([], subst (λ k. Reorders k []) (sym g) refl, subst (AreElements m d []) (sym f) refl)
  mixed_older z zo d [] (More t ts) us h i j f g = absurd g
  mixed_older z zo d (o ∷ os) (More t ts) us (h, hs) (i, is) j (u, rest, s, f, fs) (g, gs) =
      let (a, b) = are_taken us u rest s j in
      let (ps, x, k) = mixed_older z zo d os ts rest hs is b fs gs in
      let (qs, st, l) = put_element d us u rest o ps s (h z zo u d o i a f g) k in
      (qs, (ps, st, x), l)

  struct_older : (set extensible : Bool) (r a : Rows) → EachRow Older r → EachRow Older a → Older (Struct set extensible r a)
  unfolding IsEncoding Rattle.oer_spec.specs.Encoding.IsTree Rattle.oer_spec.specs.Versions.Drops
  struct_older s x r a h k z zo (Struct s' x' r' a') d o (i, i', _, _) (j, j', _, _) (p, q, f, g) (l, is, js, u, v, w) =
      let (is', none, e, u', n) = pieces_older z zo (d - 1) false is r r' h i j f u in
      let (js', more, e', v', _) = pieces_older z zo (d - 1) true js a a' k i' j' g v in
      let same : is ≡ is' = e ∙ ap (λ y. is' ++ y) (n refl) ∙ append-nil is' in
      let w' : SpellsStruct m o s x is' js' = struct_front o s x is' js' more (subst₂ (SpellsStruct m o s x) same e' w) in
      (l, is', js', u', v', subst₂ (λ y c. SpellsStruct m o y c is' js') p q w')
  struct_older s x r a h k z zo _ d o i j f g = absurd f

  items_older : (ordered : Bool) (ts : Trees) → EachTree Older ts → Older (ListOf ordered ts)
  unfolding IsEncoding Rattle.oer_spec.specs.Encoding.IsTree Rattle.oer_spec.specs.Versions.Drops
  items_older true ts h z zo (ListOf true us) d o i j f (l, n, own', g, w) =
      (l, λ k. sym (counts_fail (canonical_elements ts) (canonical_elements us) k (trees_counts z ts us i j f)) ∙ n k, own', trees_older z zo (d - 1) own' ts us h i j f g, w)
  items_older false ts h z zo (ListOf false us) d o i j f (l, n, own', g, (q, read, e, c, (x, y))) =
      let (ps, x', g') = mixed_older z zo (d - 1) own' ts us h i j f g in (
        l,
        λ k. sym (counts_fail (canonical_elements ts) (canonical_elements us) k (mixed_counts z ts us i j f)) ∙ n k,
        ps,
        g',
        (q, read, e, subst (IsQuantity m q) (Reorders-length own' ps x') c, (Reorders-trans read own' ps x x', y)),
      )
  items_older true ts h z zo _ d o i j f g = absurd f
  items_older false ts h z zo _ d o i j f g = absurd f

  choice_older : (roots additions : List Tag) (g : Tag) (t : Tree) → Older t → Older (Choice roots additions g t)
  unfolding IsEncoding Rattle.oer_spec.specs.Encoding.IsTree Rattle.oer_spec.specs.Versions.Drops
  choice_older r a g t h z zo (Choice r' a' g' t') d o (i, _) (j, _) (e, k, f) (l, c, x, (p, q, b, y, w)) =
      (l, c, h z zo t' (d - 1) c i j f x, (p, q, b, subst (IsTag m p) e y, subst (λ n. IsAlternative m n q c) k w))
  choice_older r a g t h z zo _ d o i j f x = absurd f

  leaf_older : (l : Leaf) → Older (Primitive l)
  unfolding IsEncoding Rattle.oer_spec.specs.Versions.Drops
  leaf_older l z zo (Primitive k) d o i j f g = subst (IsLeafEncoding m o) f g
  leaf_older l z zo _ d o i j f g = absurd f

  pub older : (t : Tree) → Older t
  older t = by_parts Older leaf_older struct_older items_older choice_older t

pub skips_lenient : (n t : Tree) (d : ℕ) (o : Octets) → IsTree n → IsTree t → Drops false n t → IsEncoding Lenient d o n → IsEncoding Lenient d o t
skips_lenient n t d o i j f g = older Lenient (λ P. tt) n false (λ _. tt) t d o i j f g

pub skips_canonical : (n t : Tree) (d : ℕ) (o : Octets) → IsTree n → IsTree t → Drops true n t → IsEncoding Canonical d o n → IsEncoding Canonical d o t
skips_canonical n t d o i j f g = older Canonical (λ P. tt) n true (λ e. absurd (cc e)) t d o i j f g
