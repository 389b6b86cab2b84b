-- An encoding has octets where what is written has.
use Rattle.std.proofs.Common.{◌≡◌, ℕ, suc, ◌+◌, ◌-◌, ◌*◌, ◌<◌, Bool, true, false, cond, not, ◌&&◌, List, [], ◌∷◌, ◌++◌, length, inl, inr, refl, sym, ap, ap₂, ◌∙◌, subst, arith, append-nil, ℤ, pos, negsuc, Option, Some, None}
use Rattle.std.proofs.lemmas.Bool.{not-false}
use Rattle.asn1_core.specs.Bounds.{Size, fixed_size, size_fits}
use Rattle.asn1_core.specs.Numbers.{low_octets, signed_octets}
use Rattle.asn1_core.specs.Octets.{Octets, bits_of, pack, octets_for, joined}
use Rattle.asn1_core.specs.declared.tag.Tag.{Tag}
use Rattle.oer_spec.specs.Encoding.{IsTree, AreRows, IsEncoding, AreItems, IsItem, canonical_octets, canonical_items, canonical_elements}
use Rattle.oer_spec.specs.Leaves.{Width, Fixed, Counted, width_of, IsInteger, IsEnumerated, BadSize, IsBitString, IsNamedBits, IsText, SpellsLeaf, leaf_octets, named_bits, int_octets, fixed_octets, enum_octets, bits_octets, text_octets, is_small, counted_octets}
use Rattle.oer_spec.specs.Lengths.{IsLength, IsBehindLength, IsTag, behind_length}
use Rattle.oer_spec.specs.Mode.{Mode}
use Rattle.oer_spec.specs.Places.{Item, SpellsStruct, SpellsList, SpellsChoice, presence, in_writing_order, bodies, IsExtension}
use Rattle.oer_spec.specs.Tree.{Content, InOctets, Civil, Leaf, Boolean, Null, Enum, Int, Bits, Named, Text, Tree, Rows, NoRows, Required, Optional, Default, Slot, Absent, Present}
use Rattle.oer_spec.proofs.Named.{whole_size, least_fine}
use Rattle.oer_spec.proofs.UniqueLeaves.{fixed_count}
use Rattle.oer_spec.proofs.Unique.{length-bits_of}
use Rattle.oer_spec.proofs.Trees.{EachRow, by_parts}
use Rattle.asn1_core.proofs.Complement.{length-complement}
use Rattle.asn1_core.proofs.Fixed.{low_length}
use Rattle.oer_spec.proofs.Skips.{is_nil, all_nil, nil_append, pack_some, behind_some, list_some, choice_some, struct_nil, slot_nil}

-- by the count of octets
nil_by_length : (o p : Octets) → (length o ≡ 0 → length p ≡ 0) → (length p ≡ 0 → length o ≡ 0) → is_nil o ≡ is_nil p
nil_by_length [] [] f g = refl
nil_by_length [] (y ∷ p) f g = absurd (omega (arith, f refl))
nil_by_length (x ∷ o) [] f g = absurd (omega (arith, g refl))
nil_by_length (x ∷ o) (y ∷ p) f g = refl

length_some : (m : Mode) (l r : Octets) (n : ℕ) → IsLength m l n → is_nil (l ++ r) ≡ false
length_some m [] r n f = absurd f
length_some m (x ∷ l) r n f = refl

pub behind_form_some : (m : Mode) (o c : Octets) → IsBehindLength m o c → is_nil o ≡ false
behind_form_some m o c (l, f, g, _) = ap is_nil f ∙ length_some m l c (length c) g

behind_octets_some : (c : Octets) → is_nil (behind_length c) ≡ false
behind_octets_some c = ap is_nil (sym (append-nil (behind_length c))) ∙ behind_some c []

fixed_length : (k : ℕ) (n : ℤ) → length (fixed_octets k n) ≡ k
fixed_length k (pos n) = low_length k n
fixed_length k (negsuc n) = length-complement (low_octets k n) ∙ low_length k n

int_nil : (m : Mode) (o : Octets) (w : Width) (n : ℤ) → IsInteger m o w n → is_nil o ≡ is_nil (int_octets w n)
int_nil m o (Fixed s k) n (l, _, _) = let e : length o ≡ length (fixed_octets k n) = l ∙ sym (fixed_length k n) in nil_by_length o (fixed_octets k n) (λ z. sym e ∙ z) (λ z. e ∙ z)
int_nil m o (Counted s) n (c, a, _, _, _) = behind_form_some m o c a ∙ sym (behind_octets_some (counted_octets s n))

enum_octets_some : (n : ℤ) → is_nil (enum_octets n) ≡ false
enum_octets_some n = go (is_small n) n
  where
    one : (n : ℤ) → is_nil (fixed_octets 1 n) ≡ false
    one (pos n) = refl
    one (negsuc n) = refl

    go : (b : Bool) (n : ℤ) → is_nil (cond b (fixed_octets 1 n) ((128 + length (signed_octets n)) ∷ signed_octets n)) ≡ false
    go true n = one n
    go false n = refl

enum_nil : (m : Mode) (o : Octets) (n : ℤ) → IsEnumerated m o n → is_nil o ≡ is_nil (enum_octets n)
enum_nil m [] n f = absurd f
enum_nil m (x ∷ o) n f = sym (enum_octets_some n)

-- bits in octets of which less than eight are unused
pack_nil : (o : Octets) (b u : List Bool) → bits_of o ≡ b ++ u → length u < 8 → is_nil o ≡ is_nil (pack b)
pack_nil [] [] u e l = refl
pack_nil (x ∷ o) [] u e l = absurd (many (length o) (length u) (sym (length-bits_of (x ∷ o)) ∙ ap length e) l)
  where
    many : (n k : ℕ) → 8 * suc n ≡ k → k < 8 → ⊥
    many n k f h = omega arith
pack_nil [] (y ∷ b) u e l = absurd (cc e)
pack_nil (x ∷ o) (y ∷ b) u e l = sym (pack_some y b)

bits_nil : (m : Mode) (o : Octets) (s : Option ℕ) (b : List Bool) → IsBitString m o s b → is_nil o ≡ is_nil (bits_octets s b)
bits_nil m o (Some n) b (_, u, l, e, _) = pack_nil o b u e l
bits_nil m o None b (inl (u, (c, a, _, _), _)) = behind_form_some m o (length u ∷ c) a ∙ sym (behind_octets_some ((8 * octets_for (length b) - length b) ∷ pack b))
bits_nil m o None b (inr (_, a, _)) = behind_form_some m o [] a ∙ sym (behind_octets_some ((8 * octets_for (length b) - length b) ∷ pack b))

packs_nil : (b c : List Bool) → length b ≡ length c → is_nil (pack b) ≡ is_nil (pack c)
packs_nil [] [] e = refl
packs_nil [] (y ∷ c) e = absurd (omega arith)
packs_nil (x ∷ b) [] e = absurd (omega arith)
packs_nil (x ∷ b) (y ∷ c) e = pack_some x b ∙ sym (pack_some y c)

-- bits of one size
sized_nil : (s : Option ℕ) (b c : List Bool) → ((n : ℕ) → s ≡ Some n → length b ≡ length c) → is_nil (bits_octets s b) ≡ is_nil (bits_octets s c)
sized_nil (Some n) b c same = packs_nil b c (same n refl)
sized_nil None b c same = behind_octets_some ((8 * octets_for (length b) - length b) ∷ pack b) ∙ sym (behind_octets_some ((8 * octets_for (length c) - length c) ∷ pack c))

named_nil : (m : Mode) (o : Octets) (s : Size) (b : List Bool) → IsNamedBits m o s b → is_nil o ≡ is_nil (bits_octets (fixed_size s) (named_bits s b))
named_nil m o s b (zeros, _, fine, spells, _) =
    bits_nil m o (fixed_size s) (b ++ zeros) spells
    ∙ sized_nil (fixed_size s) (b ++ zeros) (named_bits s b)
    (λ n e. fixed_count s n (length (b ++ zeros)) (whole_size s b zeros fine) e ∙ sym (fixed_count s n (length (named_bits s b)) (not-false (size_fits s (length (named_bits s b))) (least_fine s b zeros fine BadSize)) e))

text_nil : (m : Mode) (o : Octets) (s : Option ℕ) (c : Content) → IsText m o s c → is_nil o ≡ is_nil (text_octets s c)
text_nil m o (Some n) (InOctets c) f = ap is_nil f.0
text_nil m o None (InOctets c) f = behind_form_some m o c f ∙ sym (behind_octets_some c)
text_nil m o s (Civil c) f = absurd f

leaf_nil : (m : Mode) (o : Octets) (l : Leaf) → SpellsLeaf m o l → is_nil o ≡ is_nil (leaf_octets l)
leaf_nil m o (Boolean b) (x, f, _, _, _) = ap is_nil f
leaf_nil m o Null f = ap is_nil f
leaf_nil m o (Enum n) f = enum_nil m o n f
leaf_nil m o (Int r n) f = int_nil m o (width_of r) n f
leaf_nil m o (Bits s b) f = bits_nil m o (fixed_size s) b f
leaf_nil m o (Named s b) f = named_nil m o s b f
leaf_nil m o (Text r s c) f = text_nil m o (fixed_size s) c f

-- ---- nodes
rows_and_preamble : (p : Octets) (is : List Item) → is_nil p ≡ is_nil (pack (presence is)) → is_nil (p ++ (bodies is ++ [])) ≡ is_nil (pack (presence is) ++ (bodies is ++ []))
rows_and_preamble p is e = nil_append p (bodies is ++ []) ∙ ap (λ z. z && is_nil (bodies is ++ [])) e ∙ sym (nil_append (pack (presence is)) (bodies is ++ []))

nil_front : (o p : Octets) → is_nil o ≡ false → is_nil (o ++ p) ≡ false
nil_front o p e = nil_append o p ∙ ap (λ z. z && is_nil p) e

struct_form_nil : (m : Mode) (o : Octets) (set extensible : Bool) (is js : List Item) → (extensible ≡ false → js ≡ []) → SpellsStruct m o set extensible is js → is_nil o ≡ (not extensible && all_nil is)
struct_form_nil m o set true is js n f =
    let (_, u, l, e, _) = f.bits in
    ap is_nil f.whole
    ∙ nil_front f.preamble (bodies (in_writing_order set is) ++ f.extension) (pack_nil f.preamble (f.extended ∷ presence (in_writing_order set is)) u e l ∙ pack_some f.extended (presence (in_writing_order set is)))
struct_form_nil m o set false is js n f =
    let w : List Item = in_writing_order set is in
    let (_, u, l, e, _) = f.bits in
    let p : is_nil f.preamble ≡ is_nil (pack (presence w)) = pack_nil f.preamble (presence w) u e l in
    let t : f.extension ≡ [] = no_tail f.extended f.only f.rest in
    ap is_nil (f.whole ∙ ap (λ z. f.preamble ++ (bodies w ++ z)) t) ∙ rows_and_preamble f.preamble w p ∙ struct_nil set false is [] (λ _. refl)
  where
    no_tail : (x : Bool) → (x ≡ true → false ≡ true) → IsExtension m x f.extension js → f.extension ≡ []
    no_tail true h t = absurd (cc (h refl))
    no_tail false h t = t.0

abbrev NilAlike : Tree → Type 0
NilAlike t = (m : Mode) (d : ℕ) (o : Octets) → IsTree t → IsEncoding m d o t → is_nil o ≡ is_nil (canonical_octets t)

slot_all_nil : (m : Mode) (d : ℕ) (g : Tag) (i : Item) (s : Slot) (is : List Item) → IsItem m d g i s → all_nil (i ∷ is) ≡ false
unfolding IsEncoding
slot_all_nil m d g i Absent is f = ap (λ z. all_nil (z ∷ is)) f
slot_all_nil m d g i (Present t) is (f, _) = ap (λ z. all_nil (z ∷ is)) f

rows_all_nil : (m : Mode) (d : ℕ) (is : List Item) (r : Rows) → EachRow NilAlike r → AreRows r → AreItems m d is r → all_nil is ≡ all_nil (canonical_items r)
unfolding IsEncoding Rattle.oer_spec.specs.Encoding.canonical_octets Rattle.oer_spec.specs.Encoding.IsTree
rows_all_nil m d is NoRows h w f = ap all_nil f
rows_all_nil m d [] (Required g t r) h w f = absurd f
rows_all_nil m d [] (Optional g s r) h w f = absurd f
rows_all_nil m d [] (Default g u s r) h w f = absurd f
rows_all_nil m d (i ∷ is) (Required g t r) (h, hs) (w, ws) (f, x, fs) =
    ap (λ z. all_nil (z ∷ is)) f ∙ ap₂ ◌&&◌ (h m d i.octets w x) (rows_all_nil m d is r hs ws fs)
rows_all_nil m d (i ∷ is) (Optional g s r) h w (f, fs) = slot_all_nil m d g i s is f ∙ sym (slot_nil g s (canonical_items r))
rows_all_nil m d (i ∷ is) (Default g u s r) h w (inl f, fs) = slot_all_nil m d g i s is f ∙ sym (slot_nil g s (canonical_items r))
rows_all_nil m d (i ∷ is) (Default g u s r) h w (inr (_, _, f, _), fs) = ap (λ z. all_nil (z ∷ is)) f ∙ sym (slot_nil g s (canonical_items r))

no_items : (m : Mode) (d : ℕ) (js : List Item) (a : Rows) → a ≡ NoRows → AreItems m d js a → js ≡ []
unfolding IsEncoding
no_items m d js a e f = subst (AreItems m d js) e f

pub nil_alike : (t : Tree) → NilAlike t
unfolding IsEncoding Rattle.oer_spec.specs.Encoding.canonical_octets Rattle.oer_spec.specs.Encoding.IsTree
nil_alike t = by_parts NilAlike
    (λ l m d o i f. leaf_nil m o l f.1)
    (λ set e r a h k m d o i f.
    struct_form_nil m o set e f.1 f.2 (λ z. no_items m (d - 1) f.2 a (i.2 z) f.4) f.5
    ∙ ap (λ z. not e && z) (rows_all_nil m (d - 1) f.1 r h i.0 f.3)
    ∙ sym (struct_nil set e (canonical_items r) (canonical_items a) (λ z. ap canonical_items (i.2 z))))
    (λ ordered ts h m d o i f. list_nil m o ordered f.2 f.4 ∙ sym (list_some ordered (canonical_elements ts)))
    (λ roots a g t h m d o i f. choice_nil m o roots g f.1 f.3 ∙ sym (choice_some roots g (canonical_octets t)))
    t
  where
    list_nil : (m : Mode) (o : Octets) (ordered : Bool) (own : List Octets) → SpellsList m o ordered own → is_nil o ≡ false
    list_nil m o ordered own (q, read, f, (c, a, _, _, _, _), _) = ap is_nil f ∙ nil_front q (joined read) (behind_form_some m q c a)

    tag_some : (m : Mode) (q : Octets) (g : Tag) → IsTag m q g → is_nil q ≡ false
    tag_some m [] g f = absurd f
    tag_some m (x ∷ q) g f = refl

    choice_nil : (m : Mode) (o : Octets) (roots : List Tag) (g : Tag) (f : Octets) → SpellsChoice m o roots g f → is_nil o ≡ false
    choice_nil m o roots g f (q, r, e, t, _) = ap is_nil e ∙ nil_front q r (tag_some m q g t)
