-- Near misses of sequences and sets.
use Rattle.std.proofs.Common.{◌≡◌, ℕ, ◌-◌, ◌<◌, Bool, true, false, cond, ◌⊎◌, List, [], ◌∷◌, ◌++◌, length, inl, inr, refl, sym, ap, ap₂, ◌∙◌, subst, subst₂, arith, ℤ, pos, Option, Some, None, length-append}
use Rattle.asn1_core.specs.Octets.{Octets, AreOctets, AllFalse, bits_of, pack}
use Rattle.asn1_core.specs.declared.tag.Tag.{Tag}
use Rattle.oer_spec.specs.Encoding.{IsTree, IsEncoding, AreItems, IsItem, AreSlot, canonical_octets, levels, fails}
use Rattle.oer_spec.specs.Examples.{SpellNone, boolean, integer, context, slot, with_default, first_version, second_version, required_addition, group, with_group, set_of_two}
use Rattle.oer_spec.specs.Leaves.{leaf_fails}
use Rattle.oer_spec.specs.Lengths.{IsLength, IsOpenType, IsBitmap, AnyTrue}
use Rattle.oer_spec.specs.Mode.{Mode, Lenient, Canonical, InLenient, InStrict, InOwnSized}
use Rattle.oer_spec.specs.NearMisses.{StructMisses}
use Rattle.oer_spec.specs.Places.{Item, needed, present, absent, presence, bodies, extension_bit, in_writing_order, AreSkipped, IsAddition, AreAdditions, IsExtension, SpellsStruct}
use Rattle.oer_spec.specs.Same.{Same, Alike}
use Rattle.oer_spec.specs.Tree.{Boolean, Int, Rows, NoRows, Required, Optional, Default, Slot, Absent, Present, Tree, Struct}
use Rattle.oer_spec.proofs.Canonical.{preamble_canonical}
use Rattle.oer_spec.proofs.ExampleParts.{are_octets, in_strict, behind, content, padded, counted_parts, none_fails, spelled}
use Rattle.oer_spec.proofs.Lists.{head_same, tail_same, not_nil}
use Rattle.oer_spec.proofs.Unambiguous.{unique}
use Rattle.oer_spec.proofs.Within.{canonical_within_lenient}

-- ---- taken apart

-- the octets, with the preamble as it must be
whole : (m : Mode) (o : Octets) (set extensible : Bool) (is js : List Item) (f : SpellsStruct m o set extensible is js)
    → o ≡ pack (extension_bit extensible f.extended ++ presence (in_writing_order set is)) ++ (bodies (in_writing_order set is) ++ f.extension)
whole m o set extensible is js f =
    f.whole ∙ ap (λ p. p ++ (bodies (in_writing_order set is) ++ f.extension)) (preamble_canonical f.preamble (extension_bit extensible f.extended ++ presence (in_writing_order set is)) f.bits)

-- what follows a root component of one boolean, behind a preamble of the extension bit
record Extended (m : Mode) (d : ℕ) (extended : Bool) (o : Octets) (additions : Rows) : Type 0 where
  items : List Item
  spelled : AreItems m (d - 1) items additions
  extension : IsExtension m extended o items

after_root : (m : Mode) (d : ℕ) (extended : Bool) (o : Octets) (b : Bool) (additions : Rows)
    → IsEncoding m d (cond extended 0x80 0x00 ∷ 0xFF ∷ o) (Struct false true (Required (context 0) (boolean b) NoRows) additions) → Extended m d extended o additions
unfolding IsEncoding
after_root m d extended o b additions (_, [], js, r, a, w) = absurd r
after_root m d extended o b additions (_, (i ∷ is), js, (e, (_, (x, f, _, _, _)), n), a, w) = at extended w.extended (whole m (cond extended 0x80 0x00 ∷ 0xFF ∷ o) false true (i ∷ is) js w ∙ known w.extended) w.rest
  where
    known : (k : Bool) → pack (k ∷ presence (i ∷ is)) ++ (bodies (i ∷ is) ++ w.extension) ≡ pack (k ∷ []) ++ (x ∷ w.extension)
    known k = ap (λ z. pack (k ∷ presence z) ++ (bodies z ++ w.extension)) (ap₂ ◌∷◌ (e ∙ ap (needed (context 0)) f) n)

    after : (p q : ℕ) → p ∷ 0xFF ∷ o ≡ q ∷ x ∷ w.extension → o ≡ w.extension
    after p q g = tail_same 0xFF x o w.extension (tail_same p q (0xFF ∷ o) (x ∷ w.extension) g)

    at : (l k : Bool) → cond l 0x80 0x00 ∷ 0xFF ∷ o ≡ pack (k ∷ []) ++ (x ∷ w.extension) → IsExtension m k w.extension js → Extended m d l o additions
    at true true g rest = record { items = js; spelled = a; extension = subst (λ z. IsExtension m true z js) (sym (after 0x80 0x80 g)) rest }
    at false false g rest = record { items = js; spelled = a; extension = subst (λ z. IsExtension m false z js) (sym (after 0x00 0x00 g)) rest }
    at false true g rest = absurd (omega (arith, head_same 0x00 0x80 (0xFF ∷ o) (x ∷ w.extension) g))
    at true false g rest = absurd (omega (arith, head_same 0x80 0x00 (0xFF ∷ o) (x ∷ w.extension) g))

-- behind a known bitmap
bitmap_then : (m : Mode) (c : Octets) (b u : List Bool) → length (length u ∷ c) < 128 → AreOctets (length u ∷ c) → bits_of c ≡ b ++ u → (r : Octets) (js : List Item)
    → IsExtension m true ((length (length u ∷ c) ∷ length u ∷ c) ++ r) js → AreAdditions m b r js × InStrict m (AnyTrue b × AllFalse u)
bitmap_then m c b u l a w r js (q, rest, k, e, (v, f, s), g, _) =
    let p = counted_parts m c b u l a w q rest r k v f (sym e) in
    (subst₂ (λ y z. AreAdditions m y z js) p.0 p.2 g, subst₂ (λ y z. InStrict m (AnyTrue y × AllFalse z)) p.0 p.1 s)

-- ---- put together

abbrev seven_unset : List Bool
seven_unset = false ∷ false ∷ false ∷ false ∷ false ∷ false ∷ false ∷ []

abbrev pub six_unset : List Bool
six_unset = false ∷ false ∷ false ∷ false ∷ false ∷ false ∷ []

are_unset : AllFalse seven_unset
are_unset = (refl, (refl, (refl, (refl, (refl, (refl, (refl, tt)))))))

pub truth : (m : Mode) → IsEncoding m 127 (0xFF ∷ []) (boolean true)
unfolding IsEncoding
truth m = (none_fails (leaf_fails (Boolean true)) refl, (0xFF, refl, omega arith, refl, in_strict m ((255 ≡ 0) ⊎ (255 ≡ 255)) (inr refl)))

-- a root component that is true, behind an extension bit that is set
extended : (m : Mode) (o : Octets) (additions : Rows) (js : List Item) → AreItems m 127 js additions → IsExtension m true o js
    → IsEncoding m 128 (0x80 ∷ 0xFF ∷ o) (Struct false true (Required (context 0) (boolean true) NoRows) additions)
unfolding IsEncoding
extended m o additions js a e = (
  omega arith,
  needed (context 0) (0xFF ∷ []) ∷ [],
  js,
  (refl, truth m, refl),
  a,
  record {
    extended = true;
    preamble = 0x80 ∷ [];
    extension = o;
    whole = refl;
    bits = (are_octets (0x80 ∷ []) refl, seven_unset, omega arith, refl, are_unset);
    rest = e;
    only = λ z. refl;
  },
)

-- a bitmap, in lenient mode
bitmap : (c : Octets) (b u : List Bool) → length (length u ∷ c) < 128 → AreOctets (length u ∷ c) → length u < 8 → bits_of c ≡ b ++ u → IsBitmap Lenient (length (length u ∷ c) ∷ length u ∷ c) b
bitmap c b u l a k w = (u, (c, behind Lenient (length u ∷ c) l a, k, w), tt)

-- ---- defaults and preambles

spelled_out : IsEncoding Lenient 128 (0x80 ∷ 0x01 ∷ 0x00 ∷ []) (with_default None)
unfolding IsEncoding
spelled_out = (
  omega arith,
  present (context 0) (0x01 ∷ 0x00 ∷ []) ∷ [],
  [],
  (inr (tt, refl, refl, (none_fails (leaf_fails (Int None (pos 0))) refl, (0x00 ∷ [], behind Lenient (0x00 ∷ []) (omega arith) (are_octets (0x00 ∷ []) refl), omega arith, refl, tt))), refl),
  refl,
  record {
    extended = false;
    preamble = 0x80 ∷ [];
    extension = [];
    whole = refl;
    bits = (are_octets (0x80 ∷ []) refl, seven_unset, omega arith, refl, are_unset);
    rest = (refl, tt);
    only = λ e. absurd (cc e);
  },
)

-- a sequence of one default row
abbrev pub holder : Tree → Slot → Tree
holder u s = Struct false false (Default (context 0) u s NoRows) NoRows

-- what spells an absent default out spells nothing canonically
pub no_default_spelled_out : (u : Tree) (x : ℕ) (o : Octets) (s : Slot) → (x ≡ 0 → ⊥) → IsEncoding Lenient 128 (x ∷ o) (holder u Absent) → IsTree (holder u Absent) → Alike (holder u Absent) (holder u s)
    → (d : ℕ) → IsTree (holder u s) → IsEncoding Canonical d (x ∷ o) (holder u s) → ⊥
unfolding IsEncoding Same
no_default_spelled_out u x o Absent h f i a d j (_, [], js, r, _, w) = absurd r
no_default_spelled_out u x o Absent h f i a d j (_, (p ∷ ps), js, (inr (never, _, _, _), _), _, w) = absurd never
no_default_spelled_out u x o Absent h f i a d j (_, (p ∷ ps), js, (inl e, n), _, w) =
    let octets_are : x ∷ o ≡ 0x00 ∷ w.extension = whole Canonical (x ∷ o) false false (p ∷ ps) js w ∙ ap (λ z. pack (presence z) ++ (bodies z ++ w.extension)) (ap₂ ◌∷◌ e n) in
    h (head_same x 0x00 o w.extension octets_are)
no_default_spelled_out u x o (Present t) h f i a d j g =
    (unique (holder u Absent) (holder u (Present t)) Lenient 128 d (x ∷ o) (x ∷ o) [] [] i j a f (canonical_within_lenient (holder u (Present t)) d (x ∷ o) g) refl).1.2.2

zero_is_default : IsTree (with_default None)
unfolding IsTree Same
zero_is_default = ((tt, tt, (λ e. e), tt), tt, (λ e. refl), (λ e. absurd (cc e)))

zero_alike : (v : Option ℤ) → Alike (with_default None) (with_default v)
unfolding Alike
zero_alike None = (refl, refl, (refl, refl, refl, tt, tt, tt, tt), tt)
zero_alike (Some n) = (refl, refl, (refl, refl, refl, refl, tt, tt, tt), tt)

marked : (m : Mode) (d : ℕ) (g : Tag) (i : Item) (s : Option ℤ) → IsItem m d g i (slot integer s) → i.marked ≡ true
unfolding IsEncoding
marked m d g i None e = ap (λ z. z.marked) e
marked m d g i (Some n) (e, _) = ap (λ z. z.marked) e

fill_bit_set : SpellNone with_default (0x81 ∷ 0x01 ∷ 0x01 ∷ [])
unfolding IsEncoding
fill_bit_set m d v i (_, [], js, r, _, w) = absurd r
fill_bit_set m d v i (_, (p ∷ ps), js, (k, n), _, w) = at p.bit (whole m (0x81 ∷ 0x01 ∷ 0x01 ∷ []) false false (p ∷ ps) js w ∙ ap₂ (λ y z. pack (cond y (p.bit ∷ presence z) (presence z)) ++ (bodies (p ∷ ps) ++ w.extension)) (mark k) n)
  where
    mark : IsItem m (d - 1) (context 0) p (slot integer v) ⊎ (InLenient m × (slot integer v ≡ Absent) × (p ≡ present (context 0) p.octets) × IsEncoding m (d - 1) p.octets (integer (pos 0))) → p.marked ≡ true
    mark (inl e) = marked m (d - 1) (context 0) p v e
    mark (inr (_, _, e, _)) = ap (λ z. z.marked) e

    at : (b : Bool) → 0x81 ∷ 0x01 ∷ 0x01 ∷ [] ≡ pack (b ∷ []) ++ (bodies (p ∷ ps) ++ w.extension) → ⊥
    at true e = absurd (omega (arith, head_same 0x81 0x80 (0x01 ∷ 0x01 ∷ []) (bodies (p ∷ ps) ++ w.extension) e))
    at false e = absurd (omega (arith, head_same 0x81 0x00 (0x01 ∷ 0x01 ∷ []) (bodies (p ∷ ps) ++ w.extension) e))

-- ---- additions

abbrev two_additions : Option Bool → Option Bool → Rows
two_additions b c = Optional (context 1) (slot boolean b) (Optional (context 2) (slot boolean c) NoRows)

no_bit_set : (d : ℕ) (v : Bool × Option Bool × Option Bool) → IsEncoding Canonical d (0x80 ∷ 0xFF ∷ 0x02 ∷ 0x06 ∷ 0x00 ∷ []) (second_version v) → ⊥
no_bit_set d (a, b, c) f =
    let r = after_root Canonical d true (0x02 ∷ 0x06 ∷ 0x00 ∷ []) a (two_additions b c) f in
    (bitmap_then Canonical (0x00 ∷ []) (false ∷ false ∷ []) six_unset (omega arith) (are_octets (0x06 ∷ 0x00 ∷ []) refl) refl [] r.items r.extension).1.0

unused_bit_set : (d : ℕ) (v : Bool × Option Bool × Option Bool) → IsEncoding Canonical d (0x80 ∷ 0xFF ∷ 0x02 ∷ 0x06 ∷ 0xA0 ∷ 0x01 ∷ 0xFF ∷ []) (second_version v) → ⊥
unused_bit_set d (a, b, c) f =
    let r = after_root Canonical d true (0x02 ∷ 0x06 ∷ 0xA0 ∷ 0x01 ∷ 0xFF ∷ []) a (two_additions b c) f in
    absurd (cc (bitmap_then Canonical (0xA0 ∷ []) (true ∷ false ∷ []) (true ∷ false ∷ false ∷ false ∷ false ∷ false ∷ []) (omega arith) (are_octets (0x06 ∷ 0xA0 ∷ []) refl) refl (0x01 ∷ 0xFF ∷ []) r.items r.extension).1.1.0)

no_bitmap : SpellNone second_version (0x80 ∷ 0xFF ∷ 0x00 ∷ [])
no_bitmap m d (a, b, c) i f = at (after_root m d true (0x00 ∷ []) a (two_additions b c) f).items (after_root m d true (0x00 ∷ []) a (two_additions b c) f).extension
  where
    at : (js : List Item) → IsExtension m true (0x00 ∷ []) js → ⊥
    at js (q, rest, k, e, (u, (n, g, _, _), _), _, _) = not_nil (length u) n (content m [] (omega arith) tt q (length u ∷ n) [] rest g (sym e)).0

left_over : (d : ℕ) (v : Bool × Option Bool × Option Bool) → IsEncoding Canonical d (0x80 ∷ 0xFF ∷ 0x02 ∷ 0x06 ∷ 0x80 ∷ 0x02 ∷ 0xFF ∷ 0x00 ∷ []) (second_version v) → ⊥
unfolding IsEncoding
left_over d (a, b, c) f =
    let r = after_root Canonical d true (0x02 ∷ 0x06 ∷ 0x80 ∷ 0x02 ∷ 0xFF ∷ 0x00 ∷ []) a (two_additions b c) f in
    at b r.items r.spelled (bitmap_then Canonical (0x80 ∷ []) (true ∷ false ∷ []) six_unset (omega arith) (are_octets (0x06 ∷ 0x80 ∷ []) refl) refl (0x02 ∷ 0xFF ∷ 0x00 ∷ []) r.items r.extension).0
  where
    boolean_and_more : (x : ℕ) (k more : Octets) → k ≡ 0xFF ∷ 0x00 ∷ [] → k ≡ (x ∷ []) ++ more → more ≡ [] → ⊥
    boolean_and_more x k more e g n = not_nil 0x00 [] (tail_same 0xFF x (0x00 ∷ []) more (sym e ∙ g) ∙ n)

    left : (o rest : Octets) (x : ℕ) → o ≡ x ∷ [] → IsAddition Canonical true o (0x02 ∷ 0xFF ∷ 0x00 ∷ []) rest → ⊥
    left o rest x e (g, h, (k, more, l, p, n)) =
        boolean_and_more x k more (content Canonical (0xFF ∷ 0x00 ∷ []) (omega arith) (are_octets (0xFF ∷ 0x00 ∷ []) refl) g k [] rest l (sym h)).0 (p ∙ ap (λ z. z ++ more) e) n

    at : (b : Option Bool) (js : List Item) → AreItems Canonical (d - 1) js (two_additions b c) → AreAdditions Canonical (true ∷ false ∷ []) (0x02 ∷ 0xFF ∷ 0x00 ∷ []) js → ⊥
    at b [] s g = absurd s
    at None (j ∷ js) (e, _) (h, _, _, _) = absurd (cc (h ∙ ap (λ z. z.bit) e))
    at (Some y) (j ∷ js) ((e, (_, (x, k, _, _, _))), _) (h, rest, g, _) = left j.octets rest x k (subst (λ z. IsAddition Canonical z j.octets (0x02 ∷ 0xFF ∷ 0x00 ∷ []) rest) (sym h) g)

padded_skip : (d : ℕ) (a : Bool) → IsEncoding Canonical d (0x80 ∷ 0xFF ∷ 0x02 ∷ 0x07 ∷ 0x80 ∷ 0x81 ∷ 0x01 ∷ 0xFF ∷ []) (first_version a) → ⊥
unfolding IsEncoding
padded_skip d a f =
    let r = after_root Canonical d true (0x02 ∷ 0x07 ∷ 0x80 ∷ 0x81 ∷ 0x01 ∷ 0xFF ∷ []) a NoRows f in
    at (subst (λ z. AreAdditions Canonical (true ∷ []) (0x81 ∷ 0x01 ∷ 0xFF ∷ []) z) r.spelled
    (bitmap_then Canonical (0x80 ∷ []) (true ∷ []) seven_unset (omega arith) (are_octets (0x07 ∷ 0x80 ∷ []) refl) refl (0x81 ∷ 0x01 ∷ 0xFF ∷ []) r.items r.extension).0)
  where
    not_short : IsLength Canonical (0x81 ∷ 0x01 ∷ []) 1 → ⊥
    not_short (inl (l, _, _)) = absurd (omega (arith, l))
    not_short (inr (_, _, _, _, _, _, (l, _))) = absurd (omega (arith, l))

    at : AreSkipped Canonical (true ∷ []) (0x81 ∷ 0x01 ∷ 0xFF ∷ []) → ⊥
    at (g, rest, c, e, b, _) = padded (0x81 ∷ 0x01 ∷ []) 1 (inr (omega arith, omega arith, refl, are_octets (0x01 ∷ []) refl, refl, omega arith, tt)) not_short g c rest (0xFF ∷ []) b (sym e)

-- octets of a sequence of one optional boolean
group_begins : (m : Mode) (d : ℕ) (o : Octets) (b : Option Bool) → IsEncoding m d o (group b) → (x : Bool) × (rest : Octets) × (o ≡ cond x 0x80 0x00 ∷ rest)
unfolding IsEncoding
group_begins m d o b (_, [], js, s, _, w) = absurd s
group_begins m d o None (_, (p ∷ ps), js, (e, n), _, w) = (false, w.extension, whole m o false false (p ∷ ps) js w ∙ ap (λ z. pack (presence z) ++ (bodies z ++ w.extension)) (ap₂ ◌∷◌ e n))
group_begins m d o (Some b) (_, (p ∷ ps), js, ((e, _), n), _, w) =
    (true, (p.octets ++ []) ++ w.extension, whole m o false false (p ∷ ps) js w ∙ ap (λ z. pack (presence z) ++ (bodies z ++ w.extension)) (ap₂ ◌∷◌ e n))

group_fill_bit_set : SpellNone with_group (0x80 ∷ 0xFF ∷ 0x02 ∷ 0x07 ∷ 0x80 ∷ 0x01 ∷ 0x01 ∷ [])
unfolding IsEncoding
group_fill_bit_set m d (a, b) i f =
    let r = after_root m d true (0x02 ∷ 0x07 ∷ 0x80 ∷ 0x01 ∷ 0x01 ∷ []) a (Optional (context 1) (slot group b) NoRows) f in
    at b r.items r.spelled (bitmap_then m (0x80 ∷ []) (true ∷ []) seven_unset (omega arith) (are_octets (0x07 ∷ 0x80 ∷ []) refl) refl (0x01 ∷ 0x01 ∷ []) r.items r.extension).0
  where
    begins : (x : Bool) (rest more : Octets) → 0x01 ∷ [] ≡ (cond x 0x80 0x00 ∷ rest) ++ more → ⊥
    begins true rest more e = absurd (omega (arith, head_same 0x01 0x80 [] (rest ++ more) e))
    begins false rest more e = absurd (omega (arith, head_same 0x01 0x00 [] (rest ++ more) e))

    opens : (o rest : Octets) (x : Bool) (r : Octets) → o ≡ cond x 0x80 0x00 ∷ r → IsAddition m true o (0x01 ∷ 0x01 ∷ []) rest → ⊥
    opens o rest x r e (g, h, (k, more, l, p, _)) =
        begins x r more (sym (content m (0x01 ∷ []) (omega arith) (are_octets (0x01 ∷ []) refl) g k [] rest l (sym h)).0 ∙ p ∙ ap (λ z. z ++ more) e)

    at : (b : Option (Option Bool)) (js : List Item) → AreItems m (d - 1) js (Optional (context 1) (slot group b) NoRows) → AreAdditions m (true ∷ []) (0x01 ∷ 0x01 ∷ []) js → ⊥
    at b [] s g = absurd s
    at None (j ∷ js) (e, _) (h, _, _, _) = absurd (cc (h ∙ ap (λ z. z.bit) e))
    at (Some v) (j ∷ js) ((e, f), _) (h, rest, g, _) =
        let (x, r, k) = group_begins m (d - 1) j.octets v f in opens j.octets rest x r k (subst (λ z. IsAddition m z j.octets (0x01 ∷ 0x01 ∷ []) rest) (sym h) g)

missing_addition : SpellNone required_addition (0x00 ∷ 0xFF ∷ [])
unfolding IsEncoding
missing_addition m d (a, b) i f = let r = after_root m d false [] a (Required (context 1) (integer b) NoRows) f in at r.items r.spelled r.extension
  where
    at : (js : List Item) → AreItems m (d - 1) js (Required (context 1) (integer b) NoRows) → IsExtension m false [] js → ⊥
    at [] s e = absurd s
    at (j ∷ js) (s, _, _) (_, (e, _)) = absurd (cc (sym e ∙ ap (λ z. z.bit) s))

-- ---- sets

table_order : SpellNone set_of_two (0xFF ∷ 0x01 ∷ 0x05 ∷ [])
unfolding IsEncoding
table_order m d (a, b) i (_, [], js, r, _, w) = absurd r
table_order m d (a, b) i (_, (p ∷ []), js, (_, _, r), _, w) = absurd r
table_order m d (a, b) i (_, (p ∷ q ∷ is), js, (e, _, (f, (_, (c, (k, g, l, _), _, _, _)), n)), _, w) =
    at k l (whole m (0xFF ∷ 0x01 ∷ 0x05 ∷ []) true false (p ∷ q ∷ is) js w
    ∙ ap (λ z. pack (presence (in_writing_order true z)) ++ (bodies (in_writing_order true z) ++ w.extension)) (ap₂ ◌∷◌ e (ap₂ ◌∷◌ (f ∙ ap (needed (context 1)) g) n)))
  where
    rest : Octets
    rest = p.octets ++ []

    at : (k : Octets) → IsLength m k (length c) → 0xFF ∷ 0x01 ∷ 0x05 ∷ [] ≡ ((k ++ c) ++ rest) ++ w.extension → ⊥
    at [] l e = absurd l
    at (x ∷ k) (inl l) e = absurd (omega (arith, l.0, head_same 0xFF x (0x01 ∷ 0x05 ∷ []) (((k ++ c) ++ rest) ++ w.extension) e))
    at (x ∷ k) (inr l) e =
        let many : 2 ≡ length (((k ++ c) ++ rest) ++ w.extension) = ap length (tail_same 0xFF x (0x01 ∷ 0x05 ∷ []) (((k ++ c) ++ rest) ++ w.extension) e) in
        absurd (omega (arith, l.2, head_same 0xFF x (0x01 ∷ 0x05 ∷ []) (((k ++ c) ++ rest) ++ w.extension) e, many, length-append ((k ++ c) ++ rest) w.extension, length-append (k ++ c) rest, length-append k c))

-- ---- versions

-- an open type of one octet
pub opened : (m : Mode) → IsOpenType m (0x01 ∷ 0xFF ∷ []) (0xFF ∷ [])
opened m = (0xFF ∷ [], [], behind m (0xFF ∷ []) (omega arith) (are_octets (0xFF ∷ []) refl), refl, in_strict m ([] ≡ []) refl)

-- a bitmap without unused bits set
pub plain_bitmap : (m : Mode) (c : Octets) (b u : List Bool) → length (length u ∷ c) < 128 → AreOctets (length u ∷ c) → length u < 8 → bits_of c ≡ b ++ u → AnyTrue b → AllFalse u
    → IsBitmap m (length (length u ∷ c) ∷ length u ∷ c) b
plain_bitmap m c b u l a k w x y = (u, (c, behind m (length u ∷ c) l a, k, w), in_strict m (AnyTrue b × AllFalse u) (x, y))

pub skipping : (m : Mode) → ((P : Type 0) → InOwnSized m P) → IsEncoding m 128 (0x80 ∷ 0xFF ∷ 0x02 ∷ 0x06 ∷ 0xC0 ∷ 0x01 ∷ 0xFF ∷ 0x01 ∷ 0xFF ∷ []) (first_version true)
unfolding IsEncoding
skipping m own =
    let one = behind m (0xFF ∷ []) (omega arith) (are_octets (0xFF ∷ []) refl) in
    extended m (0x02 ∷ 0x06 ∷ 0xC0 ∷ 0x01 ∷ 0xFF ∷ 0x01 ∷ 0xFF ∷ []) NoRows [] refl (
      0x02 ∷ 0x06 ∷ 0xC0 ∷ [],
      0x01 ∷ 0xFF ∷ 0x01 ∷ 0xFF ∷ [],
      true ∷ true ∷ [],
      refl,
      plain_bitmap m (0xC0 ∷ []) (true ∷ true ∷ []) six_unset (omega arith) (are_octets (0x06 ∷ 0xC0 ∷ []) refl) (omega arith) refl tt are_unset.1,
      (0x01 ∷ 0xFF ∷ [], 0x01 ∷ 0xFF ∷ [], 0xFF ∷ [], refl, one, (0x01 ∷ 0xFF ∷ [], [], 0xFF ∷ [], refl, one, refl)),
      own (2 ≡ 0),
    )

lacking : (m : Mode) → ((P : Type 0) → InOwnSized m P) → IsEncoding m 128 (0x80 ∷ 0xFF ∷ 0x02 ∷ 0x07 ∷ 0x80 ∷ 0x01 ∷ 0xFF ∷ []) (second_version (true, Some true, None))
unfolding IsEncoding
lacking m own =
    extended m (0x02 ∷ 0x07 ∷ 0x80 ∷ 0x01 ∷ 0xFF ∷ []) (two_additions (Some true) None) (present (context 1) (0xFF ∷ []) ∷ absent (context 2) ∷ []) ((refl, truth m), (refl, refl)) (
      0x02 ∷ 0x07 ∷ 0x80 ∷ [],
      0x01 ∷ 0xFF ∷ [],
      true ∷ [],
      refl,
      plain_bitmap m (0x80 ∷ []) (true ∷ []) seven_unset (omega arith) (are_octets (0x07 ∷ 0x80 ∷ []) refl) (omega arith) refl tt are_unset,
      (refl, [], (0x01 ∷ 0xFF ∷ [], refl, opened m), (refl, [], refl, refl)),
      own (1 ≡ 2),
    )

-- ---- all

pub first_is : (a : Bool) → IsTree (first_version a)
unfolding IsTree
first_is a = ((tt, tt), tt, (λ e. absurd (cc e)), (λ e. absurd (cc e)))

boolean_slot : (b : Option Bool) → AreSlot (slot boolean b)
unfolding IsTree
boolean_slot None = tt
boolean_slot (Some b) = tt

pub second_is : (a : Bool) (b c : Option Bool) → IsTree (second_version (a, b, c))
unfolding IsTree
second_is a b c = ((tt, tt), (boolean_slot b, (boolean_slot c, tt)), (λ e. absurd (cc e)), (λ e. absurd (cc e)))

pub struct_misses : StructMisses
unfolding IsEncoding canonical_octets levels fails IsTree Same
struct_misses = record {
  default_absent = spelled (with_default None) zero_is_default refl refl;
  default_spelled_out = record { is_tree = zero_is_default; leniently = spelled_out; canonically = λ d v i f. no_default_spelled_out (integer (pos 0)) 0x80 (0x01 ∷ 0x00 ∷ []) (slot integer v) (λ e. absurd (omega (arith, e))) spelled_out zero_is_default (zero_alike v) d i f };
  preamble_with_a_fill_bit_set = fill_bit_set;
  additions = spelled (second_version (true, Some true, None)) (second_is true (Some true) None) refl refl;
  bitmap_without_a_bit_set = record {
    is_tree = second_is true None None;
    leniently = extended Lenient (0x02 ∷ 0x06 ∷ 0x00 ∷ []) (two_additions None None) (absent (context 1) ∷ absent (context 2) ∷ []) (refl, (refl, refl))
        (0x02 ∷ 0x06 ∷ 0x00 ∷ [], [], false ∷ false ∷ [], refl, bitmap (0x00 ∷ []) (false ∷ false ∷ []) six_unset (omega arith) (are_octets (0x06 ∷ 0x00 ∷ []) refl) (omega arith) refl, (refl, [], refl, (refl, [], refl, refl)), tt);
    canonically = λ d v i f. no_bit_set d v f;
  };
  bitmap_with_an_unused_bit_set = record {
    is_tree = second_is true (Some true) None;
    leniently = extended Lenient (0x02 ∷ 0x06 ∷ 0xA0 ∷ 0x01 ∷ 0xFF ∷ []) (two_additions (Some true) None) (present (context 1) (0xFF ∷ []) ∷ absent (context 2) ∷ []) ((refl, truth Lenient), (refl, refl)) (
      0x02 ∷ 0x06 ∷ 0xA0 ∷ [],
      0x01 ∷ 0xFF ∷ [],
      true ∷ false ∷ [],
      refl,
      bitmap (0xA0 ∷ []) (true ∷ false ∷ []) (true ∷ false ∷ false ∷ false ∷ false ∷ false ∷ []) (omega arith) (are_octets (0x06 ∷ 0xA0 ∷ []) refl) (omega arith) refl,
      (refl, [], (0x01 ∷ 0xFF ∷ [], refl, opened Lenient), (refl, [], refl, refl)),
      tt,
    );
    canonically = λ d v i f. unused_bit_set d v f;
  };
  bitmap_of_length_zero = no_bitmap;
  octets_left_over_in_an_addition = record {
    is_tree = second_is true (Some true) None;
    leniently = extended Lenient (0x02 ∷ 0x06 ∷ 0x80 ∷ 0x02 ∷ 0xFF ∷ 0x00 ∷ []) (two_additions (Some true) None) (present (context 1) (0xFF ∷ []) ∷ absent (context 2) ∷ []) ((refl, truth Lenient), (refl, refl)) (
      0x02 ∷ 0x06 ∷ 0x80 ∷ [],
      0x02 ∷ 0xFF ∷ 0x00 ∷ [],
      true ∷ false ∷ [],
      refl,
      bitmap (0x80 ∷ []) (true ∷ false ∷ []) six_unset (omega arith) (are_octets (0x06 ∷ 0x80 ∷ []) refl) (omega arith) refl,
      (refl, [], (0x02 ∷ 0xFF ∷ 0x00 ∷ [], refl, (0xFF ∷ 0x00 ∷ [], 0x00 ∷ [], behind Lenient (0xFF ∷ 0x00 ∷ []) (omega arith) (are_octets (0xFF ∷ 0x00 ∷ []) refl), refl, tt)), (refl, [], refl, refl)),
      tt,
    );
    canonically = λ d v i f. left_over d v f;
  };
  skipped_additions = record { is_tree = first_is true; leniently = skipping Lenient (λ P. tt); canonically = skipping Canonical (λ P. tt) };
  skipped_addition_with_a_length_in_long_form = record {
    is_tree = first_is true;
    leniently = extended Lenient (0x02 ∷ 0x07 ∷ 0x80 ∷ 0x81 ∷ 0x01 ∷ 0xFF ∷ []) NoRows [] refl (
      0x02 ∷ 0x07 ∷ 0x80 ∷ [],
      0x81 ∷ 0x01 ∷ 0xFF ∷ [],
      true ∷ [],
      refl,
      bitmap (0x80 ∷ []) (true ∷ []) seven_unset (omega arith) (are_octets (0x07 ∷ 0x80 ∷ []) refl) (omega arith) refl,
      (0x81 ∷ 0x01 ∷ 0xFF ∷ [], [], 0xFF ∷ [], refl, (0x81 ∷ 0x01 ∷ [], refl, inr (omega arith, omega arith, refl, are_octets (0x01 ∷ []) refl, refl, omega arith, tt), are_octets (0xFF ∷ []) refl), refl),
      tt,
    );
    canonically = λ d v i f. padded_skip d v f;
  };
  lacking_additions = record { is_tree = second_is true (Some true) None; leniently = lacking Lenient (λ P. tt); canonically = lacking Canonical (λ P. tt) };
  with_the_required_addition = spelled (required_addition (true, pos 7)) ((tt, tt), (tt, tt), (λ e. absurd (cc e)), (λ e. absurd (cc e))) refl refl;
  without_the_required_addition = missing_addition;
  group_with_nothing_in_it = spelled (with_group (true, Some None)) ((tt, tt), (((tt, tt), tt, (λ e. refl), (λ e. absurd (cc e))), tt), (λ e. absurd (cc e)), (λ e. absurd (cc e))) refl refl;
  group_with_a_fill_bit_set = group_fill_bit_set;
  set_in_tag_order = spelled (set_of_two (true, pos 5)) ((tt, (tt, tt)), tt, (λ e. refl), (λ e. (refl, (refl, tt)))) refl refl;
  set_in_table_order = table_order;
}
