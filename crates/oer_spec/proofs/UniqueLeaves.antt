-- No encoding of a leaf begins another.
use Rattle.std.proofs.Common.{◌≡◌, ℕ, ◌/◌, Bool, true, false, cond, ◌==◌, List, [], ◌∷◌, ◌++◌, length, inl, inr, refl, sym, ap, ap₂, ◌∙◌, subst, subst₂, arith, ℤ, pos, Option, Some, None, nat_le}
use Rattle.std.proofs.lemmas.Bool.{and_parts, not-false, leb-true, eqb-true}
use Rattle.asn1_core.specs.Bounds.{fixed_size, size_fits, Size}
use Rattle.asn1_core.specs.Octets.{Octets}
use Rattle.asn1_core.specs.Texts.{Rule, Bmp, Universal, Obeys}
use Rattle.asn1_strings.specs.NamedBits.{IsNamed}
use Rattle.oer_spec.specs.Leaves.{BadSize, Width, Fixed, Counted, width_of, IsBoolean, IsInteger, IsEnumerated, IsBitString, IsNamedBits, IsText, IsLeafEncoding, unit_of, IsLeaf}
use Rattle.oer_spec.specs.Mode.{Mode}
use Rattle.oer_spec.specs.Same.{AlikeLeaf}
use Rattle.oer_spec.specs.Tree.{Content, InOctets, Civil, Leaf, Boolean, Null, Enum, Int, Bits, Named, Text}
use Rattle.oer_spec.proofs.Lists.{head_same, tail_same, not_nil, split_same}
use Rattle.oer_spec.proofs.Named.{named_unique}
use Rattle.oer_spec.proofs.Unique.{behind_unique, counted_bits_unique, packed_unique}

boolean_unique : (m : Mode) (o p x y : Octets) (b c : Bool) → IsBoolean m o b → IsBoolean m p c → o ++ x ≡ p ++ y → (o ≡ p) × (b ≡ c)
boolean_unique m o p x y b c (a, f, _, v, _) (a', g, _, v', _) e =
    let h : a ≡ a' = head_same a a' x y (ap (λ z. z ++ x) (sym f) ∙ e ∙ ap (λ z. z ++ y) g) in
    (f ∙ cc h ∙ sym g, v ∙ cc h ∙ sym v')

int_unique : (m : Mode) (o p x y : Octets) (w : Width) (n k : ℤ) → IsInteger m o w n → IsInteger m p w k → o ++ x ≡ p ++ y → (o ≡ p) × (n ≡ k)
int_unique m o p x y (Fixed s w) n k (l, _, f) (l', _, g) e =
    let r : (o ≡ p) × (x ≡ y) = split_same o p x y (l ∙ sym l') e in
    (r.0, f ∙ cc (r.0) ∙ sym g)
int_unique m o p x y (Counted s) n k (c, a, _, f, _) (d, a', _, g, _) e =
    let r : (o ≡ p) × (c ≡ d) = behind_unique m o p c d x y a a' e in
    (r.0, f ∙ cc (r.1) ∙ sym g)

enum_unique : (m : Mode) (o p x y : Octets) (n k : ℤ) → IsEnumerated m o n → IsEnumerated m p k → o ++ x ≡ p ++ y → (o ≡ p) × (n ≡ k)
enum_unique m [] p x y n k f g e = absurd f
enum_unique m (a ∷ o) [] x y n k f g e = absurd g
enum_unique m (a ∷ o) (b ∷ p) x y n k (inl f) (inl g) e =
    let h = head_same a b (o ++ x) (p ++ y) e in
    (ap₂ ◌∷◌ h (f.1 ∙ sym g.1), f.2 ∙ ap pos h ∙ sym g.2)
enum_unique m (a ∷ o) (b ∷ p) x y n k (inl f) (inr g) e =
    let h = head_same a b (o ++ x) (p ++ y) e in absurd (omega (arith, f.0, g.0, h))
enum_unique m (a ∷ o) (b ∷ p) x y n k (inr f) (inl g) e =
    let h = head_same a b (o ++ x) (p ++ y) e in absurd (omega (arith, f.0, g.0, h))
enum_unique m (a ∷ o) (b ∷ p) x y n k (inr f) (inr g) e =
    let h = head_same a b (o ++ x) (p ++ y) e in
    let r : (o ≡ p) × (x ≡ y) = split_same o p x y (omega (arith, f.2, g.2, h)) (tail_same a b (o ++ x) (p ++ y) e) in
    (ap₂ ◌∷◌ h r.0, f.4 ∙ cc (r.0) ∙ sym g.4)

bits_unique : (m : Mode) (o p x y : Octets) (s : Option ℕ) (b c : List Bool) → ((n : ℕ) → s ≡ Some n → length b ≡ length c) → IsBitString m o s b → IsBitString m p s c → o ++ x ≡ p ++ y → (o ≡ p) × (b ≡ c)
bits_unique m o p x y (Some n) b c same (_, u, lu, f, _) (_, v, lv, g, _) e = packed_unique o p x y b c u v (same n refl) lu lv f g e
bits_unique m o p x y None b c same (inl (u, f, _)) (inl (v, g, _)) e = counted_bits_unique m o p x y b c u v f g e
bits_unique m o p x y None b c same (inl (u, (k, a, _, _), _)) (inr (_, g, _)) e = absurd (not_nil (length u) k (behind_unique m o p (length u ∷ k) [] x y a g e).1)
bits_unique m o p x y None b c same (inr (_, f, _)) (inl (v, (k, a, _, _), _)) e = absurd (not_nil (length v) k (sym (behind_unique m o p [] (length v ∷ k) x y f a e).1))
bits_unique m o p x y None b c same (inr (_, f, z)) (inr (_, g, z')) e = ((behind_unique m o p [] [] x y f g e).0, z ∙ sym z')

text_unique : (m : Mode) (o p x y : Octets) (s : Option ℕ) (c d : Octets) → ((n : ℕ) → s ≡ Some n → length c ≡ length d) → IsText m o s (InOctets c) → IsText m p s (InOctets d) → o ++ x ≡ p ++ y → (o ≡ p) × (c ≡ d)
text_unique m o p x y (Some n) c d same f g e =
    let r : (o ≡ p) × (x ≡ y) = split_same o p x y (ap length f.0 ∙ same n refl ∙ sym (ap length g.0)) e in
    (r.0, sym f.0 ∙ r.0 ∙ g.0)
text_unique m o p x y None c d same f g e = behind_unique m o p c d x y f g e

-- a fixed size is the count
pub fixed_count : (s : Size) (n k : ℕ) → size_fits s k ≡ true → fixed_size s ≡ Some n → k ≡ n
fixed_count None n k f g = absurd (cc g)
fixed_count (Some (low, high)) n k f g = go (low == high) refl g
  where
    go : (t : Bool) → (low == high) ≡ t → cond t (Some low) None ≡ Some n → k ≡ n
    go true h g' =
        let low_is : low ≡ n = cc g' in
        let b : (nat_le low k ≡ true) × (nat_le k high ≡ true) = and_parts (nat_le low k) (nat_le k high) f in
        omega (arith, low_is, eqb-true low high h, leb-true low k b.0, leb-true k high b.1)
    go false h g' = absurd (cc g')

-- text of a fixed size has the same count of octets
text_count : (r : Rule) (s : Size) (c d : Octets) (n : ℕ) → Obeys r c → Obeys r d → fixed_size s ≡ Some n → size_fits s (length c / unit_of r) ≡ true → size_fits s (length d / unit_of r) ≡ true → length c ≡ length d
text_count Bmp s c d n (i, a) (j, b) h f g =
    omega (arith, a, b, fixed_count s n (length c / 2) f h, fixed_count s n (length d / 2) g h)
text_count Universal s c d n (i, a) (j, b) h f g =
    omega (arith, a, b, fixed_count s n (length c / 4) f h, fixed_count s n (length d / 4) g h)
text_count r s c d n i j h f g = omega (arith, fixed_count s n (length c / 1) f h, fixed_count s n (length d / 1) g h)

bits_leaf_unique : (m : Mode) (o p x y : Octets) (s : Size) (b c : List Bool) → IsLeafEncoding m o (Bits s b) → IsLeafEncoding m p (Bits s c) → o ++ x ≡ p ++ y → (o ≡ p) × (b ≡ c)
bits_leaf_unique m o p x y s b c f g e =
    bits_unique m o p x y (fixed_size s) b c
    (λ n h. fixed_count s n (length b) (not-false (size_fits s (length b)) (f.0 BadSize)) h ∙ sym (fixed_count s n (length c) (not-false (size_fits s (length c)) (g.0 BadSize)) h))
    f.1 g.1 e

named_leaf_unique : (m : Mode) (o p x y : Octets) (s : Size) (b c : List Bool) → IsNamed b → IsNamed c → IsNamedBits m o s b → IsNamedBits m p s c → o ++ x ≡ p ++ y → (o ≡ p) × (b ≡ c)
named_leaf_unique m o p x y s b c i j (zeros, f, fine, spells, _) (others, f', fine', spells', _) e =
    let r = bits_leaf_unique m o p x y s (b ++ zeros) (c ++ others) (fine, spells) (fine', spells') e in
    (r.0, named_unique b c zeros others i j f f' r.1)

text_leaf_unique : (m : Mode) (o p x y : Octets) (r : Rule) (s : Size) (c d : Content) → IsLeaf (Text r s c) → IsLeaf (Text r s d) → IsLeafEncoding m o (Text r s c) → IsLeafEncoding m p (Text r s d) → o ++ x ≡ p ++ y → (o ≡ p) × (c ≡ d)
text_leaf_unique m o p x y r s (Civil c) d i j f g e = absurd (f.1)
text_leaf_unique m o p x y r s (InOctets c) (Civil d) i j f g e = absurd (g.1)
text_leaf_unique m o p x y r s (InOctets c) (InOctets d) i j f g e =
    let u : (o ≡ p) × (c ≡ d) = text_unique m o p x y (fixed_size s) c d
    (λ n h. text_count r s c d n i.1 j.1 h (not-false (size_fits s (length c / unit_of r)) (f.0 BadSize)) (not-false (size_fits s (length d / unit_of r)) (g.0 BadSize)))
    f.1 g.1 e in
    (u.0, ap InOctets u.1)

pub leaf_unique : (m : Mode) (o p x y : Octets) (l k : Leaf) → IsLeaf l → IsLeaf k → AlikeLeaf l k → IsLeafEncoding m o l → IsLeafEncoding m p k → o ++ x ≡ p ++ y → (o ≡ p) × (l ≡ k)
leaf_unique m o p x y (Boolean b) (Boolean c) i j a f g e = let r = boolean_unique m o p x y b c f.1 g.1 e in (r.0, ap Boolean r.1)
leaf_unique m o p x y Null Null i j a f g e = (f.1 ∙ sym g.1, refl)
leaf_unique m o p x y (Enum n) (Enum k) i j a f g e = let r = enum_unique m o p x y n k f.1 g.1 e in (r.0, ap Enum r.1)
leaf_unique m o p x y (Int s n) (Int t k) i j a f g e =
    let r = int_unique m o p x y (width_of s) n k f.1 (subst (λ q. IsInteger m p (width_of q) k) (sym a) g.1) e in
    (r.0, ap₂ Int a r.1)
leaf_unique m o p x y (Bits s b) (Bits t c) i j a f g e =
    let r = bits_leaf_unique m o p x y s b c f (subst (λ q. IsLeafEncoding m p (Bits q c)) (sym a) g) e in
    (r.0, ap₂ Bits a r.1)
leaf_unique m o p x y (Named s b) (Named t c) i j a f g e =
    let r = named_leaf_unique m o p x y s b c i j f.1 (subst (λ q. IsNamedBits m p q c) (sym a) g.1) e in
    (r.0, ap₂ Named a r.1)
leaf_unique m o p x y (Text w s c) (Text w' t d) i j a f g e =
    let j' : IsLeaf (Text w s d) = subst₂ (λ q z. IsLeaf (Text q z d)) (sym a.0) (sym a.1) j in
    let g' : IsLeafEncoding m p (Text w s d) = subst₂ (λ q z. IsLeafEncoding m p (Text q z d)) (sym a.0) (sym a.1) g in
    let r = text_leaf_unique m o p x y w s c d i j' f g' e in
    (r.0, λ z. Text (a.0 z) (a.1 z) (r.1 z))
leaf_unique m o p x y _ _ i j a f g e = absurd a
