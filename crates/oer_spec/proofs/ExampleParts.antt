-- What the octets of examples can be read as: parts of known octets.
use Rattle.std.proofs.Common.{◌≡◌, ℕ, ◌+◌, ◌<◌, Bool, true, false, ◌||◌, List, [], ◌∷◌, ◌++◌, length, nat_lt, nat_le, inl, refl, sym, ap, ◌∙◌, subst₂, arith, append_assoc, length-append}
use Rattle.std.proofs.lemmas.Bool.{and_parts, or_parts, ltb-true, leb-true}
use Rattle.asn1_core.specs.Octets.{Octets, AreOctets, bits_of}
use Rattle.std.specs.List.{list_all}
use Rattle.oer_spec.specs.Encoding.{IsTree, IsEncoding, canonical_octets, levels, fails}
use Rattle.oer_spec.specs.Examples.{IsSpelled}
use Rattle.oer_spec.specs.Leaves.{Failure, BadValue, BadSize, BadIdentifier, BadTime, TooManyEmpty, TooLong}
use Rattle.oer_spec.specs.Lengths.{IsLength, IsBehindLength, AreCountedBits}
use Rattle.oer_spec.specs.Mode.{Mode, Lenient, Canonical, OwnSized, InStrict}
use Rattle.oer_spec.specs.Tree.{Tree}
use Rattle.oer_spec.proofs.Lists.{head_same, tail_same, split_same}
use Rattle.oer_spec.proofs.Unique.{cancel, length_unique, behind_unique}
use Rattle.oer_spec.proofs.Within.{length_within, own_sized_within_canonical, canonical_within_lenient}
use Rattle.oer_spec.proofs.WrittenTrees.{spelt}

pub are_octets : (c : Octets) → list_all (λ x. nat_lt x 256) c ≡ true → AreOctets c
are_octets [] e = tt
are_octets (x ∷ c) e = let b = and_parts (nat_lt x 256) (list_all (λ y. nat_lt y 256) c) e in (ltb-true x 256 b.0, are_octets c b.1)

pub in_strict : (m : Mode) (P : Type 0) → P → InStrict m P
in_strict Lenient P p = tt
in_strict Canonical P p = p
in_strict OwnSized P p = p

-- octets behind a length of one octet
pub behind : (m : Mode) (c : Octets) → length c < 128 → AreOctets c → IsBehindLength m (length c ∷ c) c
behind m c l f = (length c ∷ [], refl, inl (l, refl, refl), f)

-- and only these are behind it
pub content : (m : Mode) (c : Octets) → length c < 128 → AreOctets c → (g f r rest : Octets) → IsBehindLength m g f → g ++ rest ≡ (length c ∷ c) ++ r → (f ≡ c) × (rest ≡ r)
content m c l a g f r rest b e =
    let u : (g ≡ length c ∷ c) × (f ≡ c) = behind_unique m g (length c ∷ c) f c rest r b (behind m c l a) e in
    (u.1, cancel g (length c ∷ c) rest r u.0 e)

-- octets of a length that is longer than it need be, and what begins with them
pub padded : (l : Octets) (n : ℕ) → IsLength Lenient l n → (IsLength Canonical l n → ⊥) → (g c rest y : Octets) → IsBehindLength Canonical g c → g ++ rest ≡ l ++ y → ⊥
padded l n f not_short g c rest y (k, a, b, _) e =
    let e' : k ++ (c ++ rest) ≡ l ++ y = sym (append_assoc k c rest) ∙ ap (λ z. z ++ rest) (sym a) ∙ e in
    let u : (k ≡ l) × (length c ≡ n) = length_unique Lenient k l (c ++ rest) y (length c) n (length_within Canonical Lenient (λ P h. tt) (λ h. tt) (λ P h. h) k (length c) b) f e' in
    not_short (subst₂ (IsLength Canonical) u.0 u.1 b)

-- counted bits of known octets
pub counted_parts : (m : Mode) (c : Octets) (b u : List Bool) → length (length u ∷ c) < 128 → AreOctets (length u ∷ c) → bits_of c ≡ b ++ u
    → (o rest r : Octets) (b' u' : List Bool) → AreCountedBits m o b' u' → o ++ rest ≡ (length (length u ∷ c) ∷ length u ∷ c) ++ r → (b' ≡ b) × (u' ≡ u) × (rest ≡ r)
counted_parts m c b u l a w o rest r b' u' (k, f, _, g) e =
    let p : (length u' ∷ k ≡ length u ∷ c) × (rest ≡ r) = content m (length u ∷ c) l a o (length u' ∷ k) r rest f e in
    let same : b' ++ u' ≡ b ++ u = sym g ∙ ap bits_of (tail_same (length u') (length u) k c p.0) ∙ w in
    let n : length u' ≡ length u = head_same (length u') (length u) k c p.0 in
    let long : length b' + length u' ≡ length b + length u = sym (length-append b' u') ∙ ap length same ∙ length-append b u in
    let s : (b' ≡ b) × (u' ≡ u) = split_same b' b u' u (omega (arith, long, n)) same in
    (s.0, s.1, p.1)

-- ---- trees that can be written
-- some kind of failure is there
abbrev pub any_failure : (Failure → Bool) → Bool
any_failure f = f BadValue || (f BadSize || (f BadIdentifier || (f BadTime || (f TooManyEmpty || f TooLong))))

pub none_fails : (f : Failure → Bool) → any_failure f ≡ false → (k : Failure) → f k ≡ false
none_fails f e =
    let a = or_parts (f BadValue) (f BadSize || (f BadIdentifier || (f BadTime || (f TooManyEmpty || f TooLong)))) e in
    let b = or_parts (f BadSize) (f BadIdentifier || (f BadTime || (f TooManyEmpty || f TooLong))) a.1 in
    let c = or_parts (f BadIdentifier) (f BadTime || (f TooManyEmpty || f TooLong)) b.1 in
    let d = or_parts (f BadTime) (f TooManyEmpty || f TooLong) c.1 in
    let e = or_parts (f TooManyEmpty) (f TooLong) d.1 in
    λ k. elim k as (λ z. f z ≡ false) [ BadValue ↦ a.0 | BadSize ↦ b.0 | BadIdentifier ↦ c.0 | BadTime ↦ d.0 | TooManyEmpty ↦ e.0 | TooLong ↦ e.1 ]

-- the canonical octets spell the tree
pub spelled : (t : Tree) → IsTree t → any_failure (fails t) ≡ false → nat_le (levels t) 128 ≡ true → IsSpelled (canonical_octets t) t
spelled t i f l =
    let c : IsEncoding Canonical 128 (canonical_octets t) t =
    own_sized_within_canonical t 128 (canonical_octets t) (spelt t 128 i (none_fails (fails t) f) (leb-true (levels t) 128 l)).0 in
    record { is_tree = i; leniently = canonical_within_lenient t 128 (canonical_octets t) c; canonically = c }
