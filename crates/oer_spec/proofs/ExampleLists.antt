-- Near misses of lists and choices.
use Rattle.std.proofs.Common.{◌≡◌, ℕ, ◌+◌, ◌*◌, ◌-◌, ◌<◌, ◌≤◌, true, false, List, [], ◌∷◌, ◌++◌, length, inl, inr, refl, sym, ap, ◌∙◌, subst, subst₂, arith, ℤ, pos, None, append-nil}
use Rattle.std.specs.List.{AllByRecursion}
use Rattle.asn1_core.specs.Octets.{Octets, joined, signed}
use Rattle.asn1_core.specs.Tags.{holds, times_held}
use Rattle.asn1_core.specs.declared.tag.Tag.{Tag}
use Rattle.oer_spec.specs.Encoding.{IsTree, IsEncoding, AreElements, canonical_octets, levels, fails, list_fails}
use Rattle.oer_spec.specs.Examples.{SpellNone, integer, context, elements, list_of, set_of, choice, long_tags}
use Rattle.oer_spec.specs.Leaves.{leaf_fails}
use Rattle.oer_spec.specs.Lengths.{IsTag, IsQuantity, NoLeadingZero}
use Rattle.oer_spec.specs.Mode.{Mode, Lenient, Canonical}
use Rattle.oer_spec.specs.NearMisses.{ListAndChoiceMisses}
use Rattle.oer_spec.specs.Orders.{octets_le, Ascends}
use Rattle.oer_spec.specs.Places.{IsAlternative}
use Rattle.oer_spec.specs.Tree.{Int}
use Rattle.oer_spec.proofs.ExampleParts.{are_octets, in_strict, behind, content, any_failure, none_fails, spelled}
use Rattle.oer_spec.proofs.Lists.{head_same, tail_same, not_nil, Reorders-refl, Reorders-length, Reorders-all}
use Rattle.oer_spec.proofs.Unique.{cancel, tag_unique, quantity_unique}
use Rattle.oer_spec.proofs.UniqueLeaves.{leaf_unique}
use Rattle.oer_spec.proofs.Within.{tag_within, own_sized_within_canonical}
use Rattle.oer_spec.proofs.Written.{class_below}
use Rattle.oer_spec.proofs.WrittenTrees.{spelt}

-- ---- lists

padded_quantity : (d : ℕ) (v : List ℤ) → IsEncoding Canonical d (0x02 ∷ 0x00 ∷ 0x01 ∷ 0x01 ∷ 0x05 ∷ []) (list_of integer v) → ⊥
unfolding IsEncoding
padded_quantity d v (_, _, _, _, (q, read, e, (c, b, _, _, _, s), _)) =
    subst NoLeadingZero (content Canonical (0x00 ∷ 0x01 ∷ []) (omega arith) (are_octets (0x00 ∷ 0x01 ∷ []) refl) q c (0x01 ∷ 0x05 ∷ []) (joined read) b (sym e)).0 s refl

no_quantity : SpellNone (list_of integer) (0x00 ∷ [])
unfolding IsEncoding
no_quantity m d v i (_, _, _, _, (q, read, e, (c, b, l, _, _, _), _)) =
    let none : length c ≡ 0 = ap length (content m [] (omega arith) tt q c [] (joined read) b (sym e)).0 in absurd (omega (arith, l, none))

-- an integer's canonical encoding
abbrev IsOne : ℕ → Octets → Type 0
IsOne d o = (n : ℤ) × IsEncoding Canonical d o (integer n)

each_integer : (d : ℕ) (os : List Octets) (v : List ℤ) → AreElements Canonical d os (elements integer v) → AllByRecursion (IsOne d) os
unfolding IsEncoding
each_integer d os [] e = subst (AllByRecursion (IsOne d)) (sym e) tt
each_integer d [] (n ∷ v) e = absurd e
each_integer d (o ∷ os) (n ∷ v) (e, es) = ((n, e), each_integer d os v es)

two_is : (d : ℕ) → IsEncoding Canonical d (0x01 ∷ 0x02 ∷ []) (integer (pos 2))
unfolding IsEncoding
two_is d = (none_fails (leaf_fails (Int None (pos 2))) refl, (0x02 ∷ [], behind Canonical (0x02 ∷ []) (omega arith) (are_octets (0x02 ∷ []) refl), omega arith, refl, tt))

descending : (d : ℕ) (v : List ℤ) → IsEncoding Canonical d (0x01 ∷ 0x02 ∷ 0x01 ∷ 0x02 ∷ 0x01 ∷ 0x01 ∷ []) (set_of integer v) → ⊥
unfolding IsEncoding
descending d v (_, _, own, f, (q, read, e, n, (o, s))) =
    let two : IsQuantity Canonical (0x01 ∷ 0x02 ∷ []) 2 = (0x02 ∷ [], behind Canonical (0x02 ∷ []) (omega arith) (are_octets (0x02 ∷ []) refl), omega arith, refl, omega arith, tt) in
    let u : (0x01 ∷ 0x02 ∷ [] ≡ q) × (2 ≡ length own) = quantity_unique Canonical (0x01 ∷ 0x02 ∷ []) q (0x01 ∷ 0x02 ∷ 0x01 ∷ 0x01 ∷ []) (joined read) 2 (length own) two n e in
    at read (u.1 ∙ sym (Reorders-length read own o)) (Reorders-all (IsOne (d - 1)) read own o (each_integer (d - 1) own v f))
    (cancel (0x01 ∷ 0x02 ∷ []) q (0x01 ∷ 0x02 ∷ 0x01 ∷ 0x01 ∷ []) (joined read) u.0 e) s
  where
    at : (read : List Octets) → 2 ≡ length read → AllByRecursion (IsOne (d - 1)) read → 0x01 ∷ 0x02 ∷ 0x01 ∷ 0x01 ∷ [] ≡ joined read → Ascends read → ⊥
    at [] n f e s = absurd (omega (arith, n))
    at (a ∷ []) n f e s = absurd (omega (arith, n))
    at (a ∷ b ∷ c ∷ r) n f e s = absurd (omega (arith, n))
    at (a ∷ b ∷ []) n ((k, f), _) e (s, _) =
        let one : 0x01 ∷ 0x02 ∷ [] ≡ a = (leaf_unique Canonical (0x01 ∷ 0x02 ∷ []) a (0x01 ∷ 0x01 ∷ []) (b ++ []) (Int None (pos 2)) (Int None k) tt tt refl (two_is (d - 1)) f e).0 in
        let other : 0x01 ∷ 0x01 ∷ [] ≡ b = cancel (0x01 ∷ 0x02 ∷ []) a (0x01 ∷ 0x01 ∷ []) (b ++ []) one e ∙ append-nil b in
        absurd (cc (subst₂ (λ x y. octets_le x y ≡ true) (sym one) (sym other) s))

level_too_few : (m : Mode) → IsEncoding m 1 (0x01 ∷ 0x01 ∷ 0x01 ∷ 0x00 ∷ []) (list_of (list_of integer) ([] ∷ [])) → ⊥
unfolding IsEncoding
level_too_few m (_, _, [], f, _) = absurd f
level_too_few m (_, _, (o ∷ os), ((l, _, _, _, _), _), _) = absurd (omega (arith, l))

-- ---- choices

-- a tag of one octet
short_tag : (m : Mode) (n : ℕ) → n < 63 → IsTag m ((2 * 64 + n) ∷ []) (context n)
short_tag m n l = inl (l, refl, refl)

left_over : (d : ℕ) (v : Tag × ℤ) → IsEncoding Canonical d (0x82 ∷ 0x04 ∷ 0x02 ∷ 0x01 ∷ 0x4D ∷ 0x00 ∷ []) (choice v) → ⊥
unfolding IsEncoding
left_over d (g, n) (_, f, (_, (c, b, _, _, _)), (q, r, e, t, a)) =
    let u = tag_unique Canonical (0x82 ∷ []) q (0x04 ∷ 0x02 ∷ 0x01 ∷ 0x4D ∷ 0x00 ∷ []) r (context 2) g (short_tag Canonical 2 (omega arith)) t e in
    let (k, rest, b', p, none) = subst (λ z. IsAlternative Canonical (holds (context 0 ∷ context 1 ∷ []) z) r f) (sym u.1) a in
    let after : 0x04 ∷ 0x02 ∷ 0x01 ∷ 0x4D ∷ 0x00 ∷ [] ≡ r = cancel (0x82 ∷ []) q (0x04 ∷ 0x02 ∷ 0x01 ∷ 0x4D ∷ 0x00 ∷ []) r u.0 e in
    let known : k ≡ 0x02 ∷ 0x01 ∷ 0x4D ∷ 0x00 ∷ [] =
    (content Canonical (0x02 ∷ 0x01 ∷ 0x4D ∷ 0x00 ∷ []) (omega arith) (are_octets (0x02 ∷ 0x01 ∷ 0x4D ∷ 0x00 ∷ []) refl) r k [] [] b' (append-nil r ∙ sym after)).0 in
    let more : rest ≡ 0x00 ∷ [] = (content Canonical (0x01 ∷ 0x4D ∷ []) (omega arith) (are_octets (0x01 ∷ 0x4D ∷ []) refl) f c (0x00 ∷ []) rest b (sym p ∙ known)).1 in
    not_nil 0x00 [] (sym more ∙ none)

small_in_groups : (d : ℕ) (v : Tag × ℤ) → IsEncoding Canonical d (0xBF ∷ 0x01 ∷ 0x02 ∷ 0x01 ∷ 0x4D ∷ []) (choice v) → ⊥
unfolding IsEncoding
small_in_groups d (g, n) (_, _, _, (q, r, e, t, _)) =
    let u = tag_unique Lenient (0xBF ∷ 0x01 ∷ []) q (0x02 ∷ 0x01 ∷ 0x4D ∷ []) r (context 1) g (inr (refl, omega arith, (λ z. absurd (omega (arith, z))), refl, tt)) (tag_within Canonical Lenient (λ P h. tt) (λ h. tt) (λ P h. h) q g t) e in
    at (subst₂ (IsTag Canonical) (sym u.0) (sym u.1) t)
  where
    at : IsTag Canonical (0xBF ∷ 0x01 ∷ []) (context 1) → ⊥
    at (inl (_, h, _)) = absurd (omega (arith, h))
    at (inr (_, _, _, _, h)) = absurd (omega (arith, h))

-- a choice of another tag
other_tag : (d : ℕ) (m : Mode) (o p : Octets) (h : Tag) (v : Tag × ℤ) → IsTag m o h → (IsTree (choice (h, v.1)) → ⊥) → IsTree (choice v) → IsEncoding m d (o ++ p) (choice v) → ⊥
unfolding IsEncoding
other_tag d m o p h (g, n) t never i (_, _, _, (q, r, e, t', _)) = never (subst (λ z. IsTree (choice (z, n))) (sym (tag_unique m o q p r h g t t' e).1) i)

no_such_tag : SpellNone choice (0x83 ∷ 0x02 ∷ 0x01 ∷ 0x4D ∷ [])
unfolding IsTree
no_such_tag m d v i f = other_tag d m (0x83 ∷ []) (0x02 ∷ 0x01 ∷ 0x4D ∷ []) (context 3) v (short_tag m 3 (omega arith)) (λ j. absurd (omega (arith, j.1))) i f

lowest_first : SpellNone long_tags (0xBF ∷ 0x82 ∷ 0x01 ∷ 0xFF ∷ [])
unfolding IsEncoding IsTree
lowest_first m d (g, b) (_, i) (_, _, _, (q, r, e, t, _)) =
    let u = tag_unique m (0xBF ∷ 0x82 ∷ 0x01 ∷ []) q (0xFF ∷ []) r (context 257) g
    (inr (refl, (omega arith, omega arith, omega arith), (λ z. absurd (omega (arith, z))), refl, in_strict m (63 ≤ 257) (omega arith))) t e in
    absurd (omega (arith, subst (λ z. times_held (context 130 ∷ context 4294967295 ∷ []) z + 0 ≡ 1) (sym u.1) i))

superfluous_group : SpellNone long_tags (0xBF ∷ 0x80 ∷ 0x81 ∷ 0x02 ∷ 0xFF ∷ [])
unfolding IsEncoding
superfluous_group m d (g, b) i (_, _, _, (q, r, e, t, _)) = at q t e
  where
    at : (q : Octets) → IsTag m q g → 0xBF ∷ 0x80 ∷ 0x81 ∷ 0x02 ∷ 0xFF ∷ [] ≡ q ++ r → ⊥
    at [] t e = absurd t
    at (x ∷ q) (inl (l, k, _)) e = absurd (omega (arith, l, k, class_below g.class, head_same 0xBF x (0x80 ∷ 0x81 ∷ 0x02 ∷ 0xFF ∷ []) (q ++ r) e))
    at (x ∷ []) (inr (_, k, _, _, _)) e = absurd k
    at (x ∷ y ∷ q) (inr (_, _, k, _, _)) e =
        let first : 0x80 ≡ y = head_same 0x80 y (0x81 ∷ 0x02 ∷ 0xFF ∷ []) (q ++ r) (tail_same 0xBF x (0x80 ∷ 0x81 ∷ 0x02 ∷ 0xFF ∷ []) (y ∷ (q ++ r)) e) in
        absurd (k (omega (arith, first)))

-- ---- all

pub list_and_choice_misses : ListAndChoiceMisses
unfolding IsEncoding canonical_octets levels fails IsTree
list_and_choice_misses = record {
  integers = spelled (list_of integer (pos 5 ∷ [])) (tt, tt) refl refl;
  quantity_with_a_superfluous_octet = record {
    is_tree = (tt, tt);
    leniently = (
      omega arith,
      none_fails (list_fails ((0x01 ∷ 0x05 ∷ []) ∷ [])) refl,
      (0x01 ∷ 0x05 ∷ []) ∷ [],
      (number 5 (pos 5) (omega arith) refl refl, refl),
      (0x02 ∷ 0x00 ∷ 0x01 ∷ [], (0x01 ∷ 0x05 ∷ []) ∷ [], refl, (0x00 ∷ 0x01 ∷ [], behind Lenient (0x00 ∷ 0x01 ∷ []) (omega arith) (are_octets (0x00 ∷ 0x01 ∷ []) refl), omega arith, refl, omega arith, tt), refl),
    );
    canonically = λ d v i f. padded_quantity d v f;
  };
  quantity_without_octets = no_quantity;
  ascending_set = spelled (set_of integer (pos 2 ∷ pos 1 ∷ [])) (tt, (tt, tt)) refl refl;
  descending_set = record {
    is_tree = (tt, (tt, tt));
    leniently = (
      omega arith,
      none_fails (list_fails ((0x01 ∷ 0x02 ∷ []) ∷ (0x01 ∷ 0x01 ∷ []) ∷ [])) refl,
      (0x01 ∷ 0x02 ∷ []) ∷ (0x01 ∷ 0x01 ∷ []) ∷ [],
      (number 2 (pos 2) (omega arith) refl refl, (number 1 (pos 1) (omega arith) refl refl, refl)),
      (
        0x01 ∷ 0x02 ∷ [],
        (0x01 ∷ 0x02 ∷ []) ∷ (0x01 ∷ 0x01 ∷ []) ∷ [],
        refl,
        (0x02 ∷ [], behind Lenient (0x02 ∷ []) (omega arith) (are_octets (0x02 ∷ []) refl), omega arith, refl, omega arith, tt),
        (Reorders-refl ((0x01 ∷ 0x02 ∷ []) ∷ (0x01 ∷ 0x01 ∷ []) ∷ []), tt),
      ),
    );
    canonically = λ d v i f. descending d v f;
  };
  two_levels = own_sized_within_canonical (list_of (list_of integer) ([] ∷ [])) 2 (0x01 ∷ 0x01 ∷ 0x01 ∷ 0x00 ∷ [])
      (spelt (list_of (list_of integer) ([] ∷ [])) 2 (tt, tt) (none_fails (fails (list_of (list_of integer) ([] ∷ []))) refl) (omega arith)).0;
  a_level_too_few = level_too_few;
  root_alternative = spelled (choice (context 1, pos 333)) (tt, refl) refl refl;
  tag_below_63_in_groups = record {
    is_tree = (tt, refl);
    leniently = (omega arith, 0x02 ∷ 0x01 ∷ 0x4D ∷ [], large, (0xBF ∷ 0x01 ∷ [], 0x02 ∷ 0x01 ∷ 0x4D ∷ [], refl, inr (refl, omega arith, (λ z. absurd (omega (arith, z))), refl, tt), refl));
    canonically = λ d v i f. small_in_groups d v f;
  };
  addition_alternative = spelled (choice (context 2, pos 333)) (tt, refl) refl refl;
  octets_left_over_in_an_alternative = record {
    is_tree = (tt, refl);
    leniently = (
      omega arith,
      0x02 ∷ 0x01 ∷ 0x4D ∷ [],
      large,
      (
        0x82 ∷ [],
        0x04 ∷ 0x02 ∷ 0x01 ∷ 0x4D ∷ 0x00 ∷ [],
        refl,
        short_tag Lenient 2 (omega arith),
        (0x02 ∷ 0x01 ∷ 0x4D ∷ 0x00 ∷ [], 0x00 ∷ [], behind Lenient (0x02 ∷ 0x01 ∷ 0x4D ∷ 0x00 ∷ []) (omega arith) (are_octets (0x02 ∷ 0x01 ∷ 0x4D ∷ 0x00 ∷ []) refl), refl, tt),
      ),
    );
    canonically = λ d v i f. left_over d v f;
  };
  tag_of_no_alternative = no_such_tag;
  long_tag = spelled (long_tags (context 130, true)) (tt, refl) refl refl;
  long_tag_with_its_groups_lowest_first = lowest_first;
  long_tag_with_a_superfluous_group = superfluous_group;
}
  where
    number : (x : ℕ) (n : ℤ) → x < 256 → any_failure (leaf_fails (Int None n)) ≡ false → n ≡ signed (x ∷ []) → IsEncoding Lenient 127 (0x01 ∷ x ∷ []) (integer n)
    number x n l f e = (none_fails (leaf_fails (Int None n)) f, (x ∷ [], behind Lenient (x ∷ []) (omega arith) (l, tt), omega arith, e, tt))

    large : IsEncoding Lenient 127 (0x02 ∷ 0x01 ∷ 0x4D ∷ []) (integer (pos 333))
    large = (none_fails (leaf_fails (Int None (pos 333))) refl, (0x01 ∷ 0x4D ∷ [], behind Lenient (0x01 ∷ 0x4D ∷ []) (omega arith) (are_octets (0x01 ∷ 0x4D ∷ []) refl), omega arith, refl, tt))
