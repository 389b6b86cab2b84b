-- An own-sized canonical encoding is the octets that are written.
use Rattle.std.proofs.Common.{◌≡◌, ◌≢◌, ℕ, ◌+◌, ◌-◌, ◌*◌, ◌%◌, ◌<◌, Bool, true, false, cond, not, ◌||◌, ◌==◌, nat_lt, List, [], ◌∷◌, ◌++◌, map, length, get_or, inl, inr, refl, sym, ap, ap₂, ◌∙◌, subst, arith, append-nil, ℤ, pos, Option, Some, None}
use Rattle.std.specs.List.{AllByRecursion}
use Rattle.std.specs.Int.Digits.{digits_of}
use Rattle.std.proofs.lemmas.Bool.{lt-ltb, le-ltb, cond-true, cond-false}
use Rattle.asn1_core.specs.Bounds.{fixed_size}
use Rattle.asn1_core.specs.Numbers.{number_octets, signed_octets}
use Rattle.asn1_core.specs.Octets.{Octets, AreOctets, unsigned, AllFalse, pack, joined}
use Rattle.asn1_core.specs.Tags.{holds, class_number}
use Rattle.asn1_core.specs.declared.tag.Tag.{Tag}
use Rattle.oer_spec.specs.Encoding.{IsEncoding, AreItems, IsItem, AreElements, canonical_octets, canonical_items, canonical_item, canonical_elements}
use Rattle.oer_spec.specs.Leaves.{Width, Fixed, Counted, IsBoolean, IsInteger, IsEnumerated, IsBitString, IsText, IsLeafEncoding, IsShort, value_of, width_of, is_small, fixed_octets, counted_octets, unsigned_octets, int_octets, enum_octets, bits_octets, text_octets, leaf_octets}
use Rattle.oer_spec.specs.Lengths.{IsLength, IsBehindLength, IsTag, IsOpenType, AreCountedBits, IsQuantity, AnyTrue, NoLeadingZero, length_octets, behind_length, tag_octets, with_top_bits, counted_bits, quantity_octets}
use Rattle.oer_spec.specs.Mode.{OwnSized}
use Rattle.oer_spec.specs.Orders.{Reorders, Stands}
use Rattle.oer_spec.specs.Places.{Item, IsPreamble, IsAddition, AreAdditions, IsExtension, SpellsStruct, IsInOrder, SpellsList, IsAlternative, SpellsChoice, any_bit, additions_octets, extension_octets, struct_octets, sorted, list_octets, choice_octets, extension_bit, presence, in_writing_order, bodies, needed, present, absent}
use Rattle.oer_spec.specs.Same.{Same, SameRows, SameSlot, SameTrees, SameReordered, EachTree, OnSlot, StandsIn}
use Rattle.oer_spec.specs.Tree.{Content, InOctets, Civil, Leaf, Boolean, Null, Enum, Int, Bits, Named, Text, Tree, Primitive, Struct, ListOf, Choice, Rows, NoRows, Required, Optional, Default, Slot, Absent, Present, Trees, NoTrees, More}
use Rattle.oer_spec.proofs.Trees.{EachRow, by_parts}
use Rattle.oer_spec.proofs.Sorted.{sorted_mixed, sorted_ascends}
use Rattle.oer_spec.proofs.Lists.{Reorders-length}
use Rattle.asn1_core.proofs.Digits.{digits_unsigned}
use Rattle.asn1_core.proofs.Shortest.{IsTight, signed_octets_signed}
use Rattle.oer_spec.proofs.Numbers.{number_octets_unsigned, tight_from_short, fixed_octets_unsigned, fixed_octets_signed}
use Rattle.oer_spec.proofs.Bits.{packed, unused_count, groups_canonical}

pub length_canonical : (o : Octets) (n : ℕ) → IsLength OwnSized o n → o ≡ length_octets n
length_canonical [] n f = absurd f
length_canonical (x ∷ xs) n (inl (a, b, c)) =
    ap₂ ◌∷◌ (sym c) b ∙ sym (cond-true (nat_lt n 128) (n ∷ []) ((128 + length (digits_of 256 n)) ∷ digits_of 256 n) (lt-ltb n 128 (omega (arith, a, c))))
length_canonical (x ∷ xs) n (inr (a, _, b, c, d, _, (e, f))) =
    let digits : xs ≡ digits_of 256 n = go xs c d f in
    let first : x ≡ 128 + length (digits_of 256 n) = sized x (length xs) (length (digits_of 256 n)) b (ap length digits) in
    ap₂ ◌∷◌ first digits ∙ sym (cond-false (nat_lt n 128) (n ∷ []) ((128 + length (digits_of 256 n)) ∷ digits_of 256 n) (le-ltb n 128 e))
  where
    sized : (x l k : ℕ) → l + 128 ≡ x → l ≡ k → x ≡ 128 + k
    sized x l k p q = omega arith

    go : (ys : Octets) → AreOctets ys → n ≡ unsigned ys → get_or ys 0 0 ≢ 0 → ys ≡ digits_of 256 n
    go [] c d f = absurd (f refl)
    go (y ∷ ys) c d f = sym (digits_unsigned y ys c f) ∙ ap (digits_of 256) (sym d)

pub behind_canonical : (o c : Octets) → IsBehindLength OwnSized o c → o ≡ behind_length c
behind_canonical o c (l, f, g, _) = f ∙ ap (λ z. z ++ c) (length_canonical l (length c) g)

pub open_canonical : (o f : Octets) → IsOpenType OwnSized o f → o ≡ behind_length f
open_canonical o f (c, r, a, b, d) = behind_canonical o c a ∙ ap behind_length (b ∙ ap (λ z. f ++ z) d ∙ append-nil f)

pub tag_canonical : (o : Octets) (t : Tag) → IsTag OwnSized o t → o ≡ tag_octets t
tag_canonical [] t f = absurd f
tag_canonical (x ∷ xs) t (inl (a, b, c)) =
    ap₂ ◌∷◌ b c ∙ sym (cond-true (nat_lt t.value 63) ((class_number t.class * 64 + t.value) ∷ []) ((class_number t.class * 64 + 63) ∷ with_top_bits (digits_of 128 t.value)) (lt-ltb t.value 63 a))
tag_canonical (x ∷ xs) t (inr (a, b, c, d, e)) =
    ap₂ ◌∷◌ a (sym (groups_canonical xs t.value b c d)) ∙ sym (cond-false (nat_lt t.value 63) ((class_number t.class * 64 + t.value) ∷ []) ((class_number t.class * 64 + 63) ∷ with_top_bits (digits_of 128 t.value)) (le-ltb t.value 63 e))

pub bits_canonical : (o : Octets) (b u : List Bool) → AreCountedBits OwnSized o b u → AllFalse u → o ≡ counted_bits b
bits_canonical o b u (c, a, l, e) f =
    let (_, _, _, (_, octets)) = a in
    behind_canonical o (length u ∷ c) a ∙ ap behind_length (ap₂ ◌∷◌ (sym (unused_count c b u l e)) (packed c b u octets f l e))

pub quantity_canonical : (o : Octets) (n : ℕ) → IsQuantity OwnSized o n → o ≡ quantity_octets n
quantity_canonical o n (c, a, _, e, _, f) =
    let (_, _, _, octets) = a in
    behind_canonical o c a ∙ ap behind_length (sym (number_octets_unsigned c octets f) ∙ ap number_octets (sym e))

-- ---- leaves
boolean_canonical : (o : Octets) (b : Bool) → IsBoolean OwnSized o b → o ≡ leaf_octets (Boolean b)
boolean_canonical o b (x, f, l, v, inl e) = f ∙ ap (λ z. z ∷ []) (e ∙ sym (ap (λ z. cond z 255 0) (v ∙ ap (λ z. not (z == 0)) e)))
boolean_canonical o b (x, f, l, v, inr e) = f ∙ ap (λ z. z ∷ []) (e ∙ sym (ap (λ z. cond z 255 0) (v ∙ ap (λ z. not (z == 0)) e)))

pub tight : (c : Octets) → AreOctets c → IsShort true c → IsTight c
tight [] f s = absurd s
tight (x ∷ []) f s = tt
tight (x ∷ y ∷ ys) f s = tight_from_short x y ys f s

-- without a sign, a leading 0 would leave the value
pub plain : (c : Octets) → IsShort false c → NoLeadingZero c
plain [] s = absurd s
plain (x ∷ []) s = tt
plain (x ∷ y ∷ ys) s = λ e. s (subst (λ z. pos (unsigned (y ∷ ys)) ≡ pos (unsigned (z ∷ y ∷ ys))) (sym e) refl)

counted_canonical : (sign : Bool) (c : Octets) (n : ℤ) → AreOctets c → n ≡ value_of sign c → IsShort sign c → c ≡ counted_octets sign n
counted_canonical true c n f e s = sym (signed_octets_signed c f (tight c f s)) ∙ ap signed_octets (sym e)
counted_canonical false c n f e s = sym (number_octets_unsigned c f (plain c s)) ∙ ap unsigned_octets (sym e)

pub int_canonical : (o : Octets) (w : Width) (n : ℤ) → IsInteger OwnSized o w n → o ≡ int_octets w n
int_canonical o (Fixed true k) n (l, f, e) = sym (fixed_octets_signed k o f l) ∙ ap (fixed_octets k) (sym e)
int_canonical o (Fixed false k) n (l, f, e) = sym (fixed_octets_unsigned k o f l) ∙ ap (fixed_octets k) (sym e)
int_canonical o (Counted sign) n (c, a, l, e, s) =
    let (_, _, _, octets) = a in
    behind_canonical o c a ∙ ap behind_length (counted_canonical sign c n octets e s)

enum_canonical : (o : Octets) (n : ℤ) → IsEnumerated OwnSized o n → o ≡ enum_octets n
enum_canonical [] n f = absurd f
enum_canonical (x ∷ xs) n (inl (a, b, c)) = ap₂ ◌∷◌ refl b ∙ short x a ∙ ap enum_octets (sym c)
  where
    short : (x : ℕ) → x < 128 → x ∷ [] ≡ enum_octets (pos x)
    short x a =
        let e : x ≡ x % 256 = omega arith in
        ap (λ z. z ∷ []) e ∙ sym (cond-true (nat_lt x 128) (fixed_octets 1 (pos x)) ((128 + length (signed_octets (pos x))) ∷ signed_octets (pos x)) (lt-ltb x 128 a))
enum_canonical (x ∷ xs) n (inr (a, _, b, f, c, (d, s))) =
    let digits : xs ≡ signed_octets n = sym (signed_octets_signed xs f (tight xs f s)) ∙ ap signed_octets (sym c) in
    let first : x ≡ 128 + length (signed_octets n) = sized x (length xs) (length (signed_octets n)) b (ap length digits) in
    ap₂ ◌∷◌ first digits ∙ sym (cond-false (is_small n) (fixed_octets 1 n) ((128 + length (signed_octets n)) ∷ signed_octets n) d)
  where
    sized : (x l k : ℕ) → l + 128 ≡ x → l ≡ k → x ≡ 128 + k
    sized x l k p q = omega arith

bits_form_canonical : (o : Octets) (s : Option ℕ) (b : List Bool) → IsBitString OwnSized o s b → o ≡ bits_octets s b
bits_form_canonical o (Some n) b (f, u, l, e, z) = packed o b u f z l e
bits_form_canonical o None b (inl (u, a, z)) = bits_canonical o b u a z
bits_form_canonical o None b (inr (never, _, _)) = absurd never

text_canonical : (o : Octets) (s : Option ℕ) (c : Content) → IsText OwnSized o s c → o ≡ text_octets s c
text_canonical o (Some n) (InOctets c) f = f.0
text_canonical o None (InOctets c) f = behind_canonical o c f
text_canonical o s (Civil c) f = absurd f

pub leaf_canonical : (o : Octets) (l : Leaf) → IsLeafEncoding OwnSized o l → o ≡ leaf_octets l
leaf_canonical o (Boolean b) f = boolean_canonical o b f.1
leaf_canonical o Null f = f.1
leaf_canonical o (Enum n) f = enum_canonical o n f.1
leaf_canonical o (Int r n) f = int_canonical o (width_of r) n f.1
leaf_canonical o (Bits s b) f = bits_form_canonical o (fixed_size s) b f.1
leaf_canonical o (Named s b) f = let (zeros, _, _, spells, least) = f.1 in bits_form_canonical o (fixed_size s) (b ++ zeros) spells ∙ ap (bits_octets (fixed_size s)) least
leaf_canonical o (Text r s c) f = text_canonical o (fixed_size s) c f.1

-- ---- rows
pub preamble_canonical : (o : Octets) (b : List Bool) → IsPreamble o b → o ≡ pack b
preamble_canonical o b (f, u, l, e, z) = packed o b u f z l e

-- a bitmap as long as the items are
additions_canonical : (b : List Bool) (o : Octets) (is : List Item) → length b ≡ length is → AreAdditions OwnSized b o is → (b ≡ map (λ i. i.bit) is) × (o ≡ additions_octets is)
additions_canonical [] o [] l f = (refl, f)
additions_canonical (x ∷ b) o [] l f = absurd (omega arith)
additions_canonical [] o (i ∷ is) l f = absurd (omega arith)
additions_canonical (x ∷ b) o (i ∷ is) l (e, r, a, more) =
    let h : (b ≡ map (λ i. i.bit) is) × (r ≡ additions_octets is) = additions_canonical b r is (omega (arith, l)) more in
    (ap₂ ◌∷◌ e h.0, go i.bit a ∙ ap (λ z. cond i.bit (behind_length i.octets) [] ++ z) h.1)
  where
    go : (bit : Bool) → IsAddition OwnSized bit i.octets o r → o ≡ cond bit (behind_length i.octets) [] ++ r
    go true (g, a, c) = a ∙ ap (λ z. z ++ r) (open_canonical g i.octets c)
    go false a = a

any_true : (is : List Item) → AnyTrue (map (λ i. i.bit) is) → any_bit is ≡ true
any_true [] f = absurd f
any_true (i ∷ is) f = go i.bit f (any_true is)
  where
    go : (bit : Bool) → AnyTrue (bit ∷ map (λ i. i.bit) is) → (AnyTrue (map (λ i. i.bit) is) → any_bit is ≡ true) → (bit || any_bit is) ≡ true
    go true f ih = refl
    go false f ih = ih f

none_set : (is : List Item) → AllByRecursion (λ i. i.bit ≡ false) is → any_bit is ≡ false
none_set [] f = refl
none_set (i ∷ is) (f, fs) = ap₂ ◌||◌ f (none_set is fs)

tail_canonical : (extended : Bool) (o : Octets) (is : List Item) → IsExtension OwnSized extended o is → (extended ≡ any_bit is) × (o ≡ extension_octets is)
tail_canonical false o is (f, g) =
    let h : any_bit is ≡ false = none_set is g in
    (sym h, f ∙ sym (cond-false (any_bit is) (counted_bits (map (λ i. i.bit) is) ++ additions_octets is) [] h))
tail_canonical true o is (q, r, b, f, (u, c, (t, z)), a, l) =
    let h : (b ≡ map (λ i. i.bit) is) × (r ≡ additions_octets is) = additions_canonical b r is l a in
    let k : any_bit is ≡ true = any_true is (subst AnyTrue h.0 t) in
    (sym k, f ∙ ap₂ ◌++◌ (bits_canonical q b u c z ∙ ap counted_bits h.0) h.1 ∙ sym (cond-true (any_bit is) (counted_bits (map (λ i. i.bit) is) ++ additions_octets is) [] k))

pub struct_canonical : (o : Octets) (set extensible : Bool) (is js : List Item) → SpellsStruct OwnSized o set extensible is js → o ≡ struct_octets set extensible is js
struct_canonical o set ext is js f =
    let t : (f.extended ≡ any_bit js) × (f.extension ≡ extension_octets js) = tail_canonical f.extended f.extension js f.rest in
    f.whole ∙ ap₂ ◌++◌ (preamble_canonical f.preamble (extension_bit ext f.extended ++ presence (in_writing_order set is)) f.bits ∙ ap (λ z. pack (extension_bit ext z ++ presence (in_writing_order set is))) t.0)
    (ap (λ z. bodies (in_writing_order set is) ++ z) t.1)

-- ---- lists
pub list_canonical : (o : Octets) (ordered : Bool) (own : List Octets) → SpellsList OwnSized o ordered own → o ≡ list_octets ordered own
list_canonical o ordered own (q, read, f, n, i) = f ∙ ap₂ ◌++◌ (quantity_canonical q (length own) n) (ap joined (go ordered i))
  where
    go : (l : Bool) → IsInOrder OwnSized l read own → read ≡ cond l own (sorted own)
    go true i = i
    go false (m, a) = sym (sorted_ascends read a) ∙ sorted_mixed read own m

pub choice_canonical : (o : Octets) (roots : List Tag) (g : Tag) (f : Octets) → SpellsChoice OwnSized o roots g f → o ≡ choice_octets roots g f
choice_canonical o roots g f (q, r, a, t, c) = a ∙ ap₂ ◌++◌ (tag_canonical q g t) (go (holds roots g) c)
  where
    go : (direct : Bool) → IsAlternative OwnSized direct r f → r ≡ cond direct f (behind_length f)
    go true c = c
    go false c = open_canonical r f c

-- ---- trees
abbrev pub IsCoer : Tree → Type 0
IsCoer t = (d : ℕ) (o : Octets) → IsEncoding OwnSized d o t → o ≡ canonical_octets t

piece_canonical : (d : ℕ) (g : Tag) (i : Item) (s : Slot) → OnSlot IsCoer s → IsItem OwnSized d g i s → i ≡ canonical_item g s
unfolding IsEncoding Rattle.oer_spec.specs.Encoding.canonical_octets
piece_canonical d g i Absent h f = f
piece_canonical d g i (Present t) h (f, x) = f ∙ ap (present g) (h d i.octets x)

pub pieces_canonical : (d : ℕ) (is : List Item) (r : Rows) → EachRow IsCoer r → AreItems OwnSized d is r → is ≡ canonical_items r
unfolding IsEncoding Rattle.oer_spec.specs.Encoding.canonical_octets
pieces_canonical d is NoRows h f = f
pieces_canonical d [] (Required g t r) h f = absurd f
pieces_canonical d [] (Optional g s r) h f = absurd f
pieces_canonical d [] (Default g u s r) h f = absurd f
pieces_canonical d (i ∷ is) (Required g t r) (h, hs) (f, x, fs) = ap₂ ◌∷◌ (f ∙ ap (needed g) (h d i.octets x)) (pieces_canonical d is r hs fs)
pieces_canonical d (i ∷ is) (Optional g s r) (h, hs) (f, fs) = ap₂ ◌∷◌ (piece_canonical d g i s h f) (pieces_canonical d is r hs fs)
pieces_canonical d (i ∷ is) (Default g u s r) (k, h, hs) (inl f, fs) = ap₂ ◌∷◌ (piece_canonical d g i s h f) (pieces_canonical d is r hs fs)
pieces_canonical d (i ∷ is) (Default g u s r) (k, h, hs) (inr (never, _, _, _), fs) = absurd never

pub elements_canonical : (d : ℕ) (os : List Octets) (ts : Trees) → EachTree IsCoer ts → AreElements OwnSized d os ts → os ≡ canonical_elements ts
unfolding IsEncoding Rattle.oer_spec.specs.Encoding.canonical_octets
elements_canonical d os NoTrees h f = f
elements_canonical d [] (More t ts) h f = absurd f
elements_canonical d (o ∷ os) (More t ts) (h, hs) (f, fs) = ap₂ ◌∷◌ (h d o f) (elements_canonical d os ts hs fs)

pub own_is_canonical : (t : Tree) → IsCoer t
unfolding IsEncoding Rattle.oer_spec.specs.Encoding.canonical_octets
own_is_canonical t = by_parts IsCoer
    (λ l d o f. leaf_canonical o l f)
    (λ set e r a h k d o f. struct_canonical o set e f.1 f.2 f.5 ∙ ap₂ (struct_octets set e) (pieces_canonical (d - 1) f.1 r h f.3) (pieces_canonical (d - 1) f.2 a k f.4))
    (λ ordered ts h d o f. list_canonical o ordered f.2 f.4 ∙ ap (list_octets ordered) (elements_canonical (d - 1) f.2 ts h f.3))
    (λ roots a g t h d o f. choice_canonical o roots g f.1 f.3 ∙ ap (choice_octets roots g) (h (d - 1) f.1 f.2))
    t

-- ---- same trees have the same octets
abbrev SameOctets : Tree → Type 0
SameOctets t = (u : Tree) → Same t u → canonical_octets t ≡ canonical_octets u

same_slot_octets : (g g' : Tag) (s s' : Slot) → g ≡ g' → OnSlot SameOctets s → SameSlot s s' → canonical_item g s ≡ canonical_item g' s'
unfolding Rattle.oer_spec.specs.Encoding.canonical_octets Rattle.oer_spec.specs.Same.Same
same_slot_octets g g' Absent Absent e h x = ap absent e
same_slot_octets g g' (Present t) (Present t') e h x = ap₂ present e (h t' x)
same_slot_octets g g' Absent (Present t') e h x = absurd x
same_slot_octets g g' (Present t) Absent e h x = absurd x

same_row_octets : (r r' : Rows) → EachRow SameOctets r → SameRows r r' → canonical_items r ≡ canonical_items r'
unfolding Rattle.oer_spec.specs.Encoding.canonical_octets Rattle.oer_spec.specs.Same.Same
same_row_octets NoRows NoRows h x = refl
same_row_octets (Required g t r) (Required g' t' r') (h, hs) (e, x, xs) = ap₂ ◌∷◌ (ap₂ needed e (h t' x)) (same_row_octets r r' hs xs)
same_row_octets (Optional g s r) (Optional g' s' r') (h, hs) (e, x, xs) = ap₂ ◌∷◌ (same_slot_octets g g' s s' e h x) (same_row_octets r r' hs xs)
same_row_octets (Default g u s r) (Default g' u' s' r') (k, h, hs) (e, f, x, xs) = ap₂ ◌∷◌ (same_slot_octets g g' s s' e h x) (same_row_octets r r' hs xs)
same_row_octets _ _ h x = absurd x

same_tree_octets : (ts us : Trees) → EachTree SameOctets ts → SameTrees ts us → canonical_elements ts ≡ canonical_elements us
unfolding Rattle.oer_spec.specs.Encoding.canonical_octets Rattle.oer_spec.specs.Same.Same
same_tree_octets NoTrees NoTrees h x = refl
same_tree_octets (More t ts) (More u us) (h, hs) (x, xs) = ap₂ ◌∷◌ (h u x) (same_tree_octets ts us hs xs)
same_tree_octets _ _ h x = absurd x

coer_taken : (us : Trees) (u : Tree) (rest : Trees) → StandsIn us u rest → Stands (canonical_elements us) (canonical_octets u) (canonical_elements rest)
unfolding Rattle.oer_spec.specs.Encoding.canonical_octets
coer_taken NoTrees u rest s = absurd s
coer_taken (More v us) u rest (inl (e, f)) = inl (ap canonical_octets e, ap canonical_elements f)
coer_taken (More v us) u rest (inr (rs, f, s)) = inr (canonical_elements rs, ap canonical_elements f, coer_taken us u rs s)

same_mixed_octets : (ts us : Trees) → EachTree SameOctets ts → SameReordered ts us → Reorders (canonical_elements ts) (canonical_elements us)
unfolding Rattle.oer_spec.specs.Encoding.canonical_octets Rattle.oer_spec.specs.Same.Same
same_mixed_octets NoTrees us h x = ap canonical_elements x
same_mixed_octets (More t ts) us (h, hs) (u, rest, s, x, xs) =
    (canonical_elements rest, subst (λ z. Stands (canonical_elements us) z (canonical_elements rest)) (sym (h u x)) (coer_taken us u rest s), same_mixed_octets ts rest hs xs)

same_struct_octets : (set extensible : Bool) (r a : Rows) → EachRow SameOctets r → EachRow SameOctets a → SameOctets (Struct set extensible r a)
unfolding Rattle.oer_spec.specs.Encoding.canonical_octets Rattle.oer_spec.specs.Same.Same
same_struct_octets set e r a h k (Struct set' e' r' a') (x, y, z, w) =
    λ i. struct_octets (x i) (y i) (same_row_octets r r' h z i) (same_row_octets a a' k w i)
same_struct_octets set e r a h k _ x = absurd x

same_items_octets : (ordered : Bool) (ts : Trees) → EachTree SameOctets ts → SameOctets (ListOf ordered ts)
unfolding Rattle.oer_spec.specs.Encoding.canonical_octets Rattle.oer_spec.specs.Same.Same
same_items_octets true ts h (ListOf true us) x = ap (list_octets true) (same_tree_octets ts us h x)
same_items_octets false ts h (ListOf false us) x =
    let m : Reorders (canonical_elements ts) (canonical_elements us) = same_mixed_octets ts us h x in
    ap₂ (λ n os. quantity_octets n ++ joined os) (Reorders-length (canonical_elements ts) (canonical_elements us) m) (sorted_mixed (canonical_elements ts) (canonical_elements us) m)
same_items_octets true ts h _ x = absurd x
same_items_octets false ts h _ x = absurd x

same_choice_octets : (roots additions : List Tag) (g : Tag) (t : Tree) → SameOctets t → SameOctets (Choice roots additions g t)
unfolding Rattle.oer_spec.specs.Encoding.canonical_octets Rattle.oer_spec.specs.Same.Same
same_choice_octets r a g t h (Choice r' a' g' t') (x, y, z, w) = λ i. choice_octets (x i) (z i) (h t' w i)
same_choice_octets r a g t h _ x = absurd x

same_leaf_octets : (l : Leaf) → SameOctets (Primitive l)
unfolding Rattle.oer_spec.specs.Encoding.canonical_octets Rattle.oer_spec.specs.Same.Same
same_leaf_octets l (Primitive k) x = ap leaf_octets x
same_leaf_octets l _ x = absurd x

pub same_octets : (t u : Tree) → Same t u → canonical_octets t ≡ canonical_octets u
same_octets t = by_parts SameOctets same_leaf_octets same_struct_octets same_items_octets same_choice_octets t
