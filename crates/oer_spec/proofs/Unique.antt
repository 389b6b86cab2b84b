-- No encoding begins another: lengths, tags, open types, bitmaps.
use Rattle.asn1_core.specs.Tags.{class_number}
use Rattle.std.proofs.Common.{◌≡◌, ℕ, zero, suc, ◌+◌, ◌*◌, ◌<◌, Bool, List, [], ◌∷◌, ◌++◌, length, inl, inr, refl, sym, ap, ap₂, ◌∙◌, arith, length-append}
use Rattle.std.proofs.lemmas.List.{append_cancel_left}
use Rattle.asn1_core.specs.Octets.{Octets, bits_of}
use Rattle.asn1_core.specs.declared.tag.Class.{Class}
use Rattle.asn1_core.specs.declared.tag.Class.TheVariants.{Universal, Application, Context, Private}
use Rattle.asn1_core.specs.declared.tag.Tag.{Tag}
use Rattle.oer_spec.specs.Lengths.{IsLength, IsBehindLength, AreGroups, IsTag, IsOpenType, AreCountedBits, IsBitmap, IsQuantity}
use Rattle.oer_spec.specs.Mode.{Mode}
use Rattle.oer_spec.proofs.Lists.{head_same, tail_same, split_same, regroup}

-- what is left after equal fronts
pub cancel : {X : Type 0} (o p x y : List X) → o ≡ p → o ++ x ≡ p ++ y → x ≡ y
cancel o p x y f e = append_cancel_left p x y (ap (λ z. z ++ x) (sym f) ∙ e)

pub length_unique : (m : Mode) (o p x y : Octets) (n k : ℕ) → IsLength m o n → IsLength m p k → o ++ x ≡ p ++ y → (o ≡ p) × (n ≡ k)
length_unique m [] p x y n k f g e = absurd f
length_unique m (a ∷ us) [] x y n k f g e = absurd g
length_unique m (a ∷ us) (b ∷ vs) x y n k (inl f) (inl g) e =
    let h = head_same a b (us ++ x) (vs ++ y) e in
    (ap₂ ◌∷◌ h (f.1 ∙ sym g.1), f.2 ∙ h ∙ sym g.2)
length_unique m (a ∷ us) (b ∷ vs) x y n k (inl f) (inr g) e =
    let h = head_same a b (us ++ x) (vs ++ y) e in absurd (omega (arith, f.0, g.0, h))
length_unique m (a ∷ us) (b ∷ vs) x y n k (inr f) (inl g) e =
    let h = head_same a b (us ++ x) (vs ++ y) e in absurd (omega (arith, f.0, g.0, h))
length_unique m (a ∷ us) (b ∷ vs) x y n k (inr f) (inr g) e =
    let h = head_same a b (us ++ x) (vs ++ y) e in
    let r = split_same us vs x y (omega (arith, f.2, g.2, h)) (tail_same a b (us ++ x) (vs ++ y) e) in
    (ap₂ ◌∷◌ h r.0, f.4 ∙ cc (r.0) ∙ sym g.4)

pub behind_unique : (m : Mode) (o p c d x y : Octets) → IsBehindLength m o c → IsBehindLength m p d → o ++ x ≡ p ++ y → (o ≡ p) × (c ≡ d)
behind_unique m o p c d x y (l, f, lf, oc) (k, g, lg, od) e =
    let e' : l ++ (c ++ x) ≡ k ++ (d ++ y) = regroup o p l k c d x y f g e in
    let r : (l ≡ k) × (length c ≡ length d) = length_unique m l k (c ++ x) (d ++ y) (length c) (length d) lf lg e' in
    let s : (c ≡ d) × (x ≡ y) = split_same c d x y r.1 (cancel l k (c ++ x) (d ++ y) r.0 e') in
    (f ∙ ap₂ ◌++◌ r.0 s.0 ∙ sym g, s.0)

-- equal open types have contents of which one is a front of the other
pub open_unique : (m : Mode) (o p f g x y : Octets) → IsOpenType m o f → IsOpenType m p g → o ++ x ≡ p ++ y
    → (o ≡ p) × ((u v : Octets) × (f ++ u ≡ g ++ v))
open_unique m o p f g x y (c, r, a, b, _) (d, s, a', b', _) e =
    let t : (o ≡ p) × (c ≡ d) = behind_unique m o p c d x y a a' e in
    (t.0, (r, s, sym b ∙ t.1 ∙ b'))

pub groups_unique : (o p x y : Octets) → AreGroups o → AreGroups p → o ++ x ≡ p ++ y → o ≡ p
groups_unique [] p x y f g e = absurd f
groups_unique (a ∷ o) [] x y f g e = absurd g
groups_unique (a ∷ []) (b ∷ []) x y f g e = ap (λ z. z ∷ []) (head_same a b x y e)
groups_unique (a ∷ []) (b ∷ c ∷ p) x y f g e = let h = head_same a b x ((c ∷ p) ++ y) e in absurd (omega (arith, f, g.0, h))
groups_unique (a ∷ c ∷ o) (b ∷ []) x y f g e = let h = head_same a b ((c ∷ o) ++ x) y e in absurd (omega (arith, f.0, g, h))
groups_unique (a ∷ c ∷ o) (b ∷ d ∷ p) x y f g e =
    ap₂ ◌∷◌ (head_same a b ((c ∷ o) ++ x) ((d ∷ p) ++ y) e) (groups_unique (c ∷ o) (d ∷ p) x y f.2 g.2 (tail_same a b ((c ∷ o) ++ x) ((d ∷ p) ++ y) e))

class_of : ℕ → Class
class_of zero = Universal
class_of (suc zero) = Application
class_of (suc (suc zero)) = Context
class_of _ = Private

class_again : (c : Class) → class_of (class_number c) ≡ c
unfolding class_of
class_again Universal = refl
class_again Application = refl
class_again Context = refl
class_again Private = refl

pub class_same : (c d : Class) → class_number c ≡ class_number d → c ≡ d
class_same c d e = sym (class_again c) ∙ ap class_of e ∙ class_again d

pub tag_same : (t s : Tag) → class_number t.class ≡ class_number s.class → t.value ≡ s.value → t ≡ s
tag_same t s p q = let c = class_same t.class s.class p in λ i. record { class = c i; value = q i }

pub tag_unique : (m : Mode) (o p x y : Octets) (t s : Tag) → IsTag m o t → IsTag m p s → o ++ x ≡ p ++ y → (o ≡ p) × (t ≡ s)
tag_unique m [] p x y t s f g e = absurd f
tag_unique m (a ∷ o) [] x y t s f g e = absurd g
tag_unique m (a ∷ o) (b ∷ p) x y t s (inl f) (inl g) e =
    let h = head_same a b (o ++ x) (p ++ y) e in
    (ap₂ ◌∷◌ h (f.2 ∙ sym g.2), tag_same t s (omega (arith, f.0, f.1, g.0, g.1, h)) (omega (arith, f.0, f.1, g.0, g.1, h)))
tag_unique m (a ∷ o) (b ∷ p) x y t s (inl f) (inr g) e =
    let h = head_same a b (o ++ x) (p ++ y) e in absurd (omega (arith, f.0, f.1, g.0, h))
tag_unique m (a ∷ o) (b ∷ p) x y t s (inr f) (inl g) e =
    let h = head_same a b (o ++ x) (p ++ y) e in absurd (omega (arith, f.0, g.0, g.1, h))
tag_unique m (a ∷ o) (b ∷ p) x y t s (inr f) (inr g) e =
    let h = head_same a b (o ++ x) (p ++ y) e in
    let r : o ≡ p = groups_unique o p x y f.1 g.1 (tail_same a b (o ++ x) (p ++ y) e) in
    (ap₂ ◌∷◌ h r, tag_same t s (omega (arith, f.0, g.0, h)) (f.3 ∙ cc r ∙ sym g.3))

pub counted_bits_unique : (m : Mode) (o p x y : Octets) (b c u v : List Bool) → AreCountedBits m o b u → AreCountedBits m p c v → o ++ x ≡ p ++ y → (o ≡ p) × (b ≡ c)
counted_bits_unique m o p x y b c u v (k, a, _, f) (l, a', _, g) e =
    let r : (o ≡ p) × (length u ∷ k ≡ length v ∷ l) = behind_unique m o p (length u ∷ k) (length v ∷ l) x y a a' e in
    let same : b ++ u ≡ c ++ v = sym f ∙ ap bits_of (tail_same (length u) (length v) k l r.1) ∙ g in
    let long : length b + length u ≡ length c + length v = sym (length-append b u) ∙ ap length same ∙ length-append c v in
    let h : length u ≡ length v = head_same (length u) (length v) k l r.1 in
    (r.0, (split_same b c u v (omega (arith, long, h)) same).0)

pub bitmap_unique : (m : Mode) (o p x y : Octets) (b c : List Bool) → IsBitmap m o b → IsBitmap m p c → o ++ x ≡ p ++ y → (o ≡ p) × (b ≡ c)
bitmap_unique m o p x y b c (u, a, _) (v, a', _) e = counted_bits_unique m o p x y b c u v a a' e

pub quantity_unique : (m : Mode) (o p x y : Octets) (n k : ℕ) → IsQuantity m o n → IsQuantity m p k → o ++ x ≡ p ++ y → (o ≡ p) × (n ≡ k)
quantity_unique m o p x y n k (c, a, _, f, _, _) (d, a', _, g, _, _) e =
    let r : (o ≡ p) × (c ≡ d) = behind_unique m o p c d x y a a' e in
    (r.0, f ∙ cc (r.1) ∙ sym g)

-- eight bits an octet
pub length-bits_of : (o : Octets) → length (bits_of o) ≡ 8 * length o
length-bits_of [] = refl
length-bits_of (x ∷ o) = omega (arith, length-bits_of o)

-- octets of equally many bits are equally many, where less than eight are unused
pub packed_unique : (o p x y : Octets) (b c u v : List Bool) → length b ≡ length c → length u < 8 → length v < 8 → bits_of o ≡ b ++ u → bits_of p ≡ c ++ v → o ++ x ≡ p ++ y → (o ≡ p) × (b ≡ c)
packed_unique o p x y b c u v l lu lv f g e =
    let n : 8 * length o ≡ length b + length u = sym (length-bits_of o) ∙ ap length f ∙ length-append b u in
    let k : 8 * length p ≡ length c + length v = sym (length-bits_of p) ∙ ap length g ∙ length-append c v in
    let r : (o ≡ p) × (x ≡ y) = split_same o p x y (omega (arith, n, k, l, lu, lv)) e in
    (r.0, (split_same b c u v l (sym f ∙ ap bits_of r.0 ∙ g)).0)
