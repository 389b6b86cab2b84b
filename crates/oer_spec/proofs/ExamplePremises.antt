-- Trees and octets that meet the premises of the laws.
use Rattle.std.proofs.Common.{◌≡◌, ℕ, ◌<◌, ◌≤◌, Bool, true, false, List, [], ◌∷◌, length, inl, inr, refl, arith, ℤ, pos, Option, Some, None}
use Rattle.asn1_core.specs.Octets.{Octets, signed}
use Rattle.oer_spec.specs.Encoding.{IsTree, IsEncoding, AreElements, canonical_octets, canonical_elements, levels, fails, list_fails}
use Rattle.oer_spec.specs.Examples.{IsSpelled, slot, integer, context, first_version, second_version, first_held, second_held, elements, set_of, mixed}
use Rattle.oer_spec.specs.Leaves.{Failure, leaf_fails}
use Rattle.oer_spec.specs.Lengths.{IsQuantity, IsBitmap}
use Rattle.oer_spec.specs.Mode.{Lenient, Canonical, OwnSized}
use Rattle.oer_spec.specs.Orders.{Reorders}
use Rattle.oer_spec.specs.Places.{needed, present}
use Rattle.oer_spec.specs.Premises.{one_order, other_order, mixed_octets, lenient_octets, UnambiguousPremises, WithinPremises, CanonicalPremises, SkipsPremises, LiftsPremises}
use Rattle.oer_spec.specs.Same.{Same, Alike}
use Rattle.oer_spec.specs.Tree.{Int, NoTrees, More}
use Rattle.oer_spec.specs.Versions.{Drops, Lacks}
use Rattle.oer_spec.proofs.Canonical.{own_is_canonical}
use Rattle.oer_spec.proofs.ExampleParts.{are_octets, behind, any_failure, none_fails, spelled}
use Rattle.oer_spec.proofs.ExampleStructs.{truth, six_unset, opened, plain_bitmap, skipping, first_is, second_is, no_default_spelled_out}
use Rattle.oer_spec.proofs.Lists.{Reorders-refl}
use Rattle.oer_spec.proofs.Skips.{skips_lenient}
use Rattle.oer_spec.proofs.Within.{own_sized_within_canonical}
use Rattle.oer_spec.proofs.WrittenTrees.{spelt}

-- ---- an unordered list in two orders, a default and an addition

mixed_is : (a b : ℤ) → IsTree (mixed (a ∷ b ∷ [], None, Some true))
unfolding IsTree Same
mixed_is a b = (((tt, (tt, tt)), (tt, tt, (λ e. e), tt)), (tt, tt), (λ e. absurd (cc e)), (λ e. absurd (cc e)))

mixed_alike : Alike one_order other_order
unfolding Alike
mixed_alike = (refl, refl, (refl, (refl, ((refl, (refl, tt)), ((refl, (refl, tt)), tt))), (refl, refl, refl, tt, tt, tt, tt)), (refl, tt, tt))

mixed_same : Same one_order other_order
unfolding Same
mixed_same = (
  refl,
  refl,
  (refl, (integer (pos 2), More (integer (pos 1)) NoTrees, inr (NoTrees, refl, inl (refl, refl)), refl, (integer (pos 1), NoTrees, inl (refl, refl), refl, refl)), (refl, refl, tt, tt)),
  (refl, refl, tt),
)

-- with the list descending and the default spelled out
descending : (v : List ℤ) (own : List Octets) → ((k : Failure) → list_fails (canonical_elements (elements integer v)) k ≡ false) → AreElements Lenient 126 own (elements integer v)
    → IsQuantity Lenient (0x01 ∷ 0x02 ∷ []) (length own) → Reorders ((0x01 ∷ 0x02 ∷ []) ∷ (0x01 ∷ 0x01 ∷ []) ∷ []) own → IsEncoding Lenient 128 lenient_octets (mixed (v, None, Some true))
unfolding IsEncoding
descending v own fine each n order = (
  omega arith,
  needed (context 0) (0x01 ∷ 0x02 ∷ 0x01 ∷ 0x02 ∷ 0x01 ∷ 0x01 ∷ []) ∷ present (context 1) (0x01 ∷ 0x00 ∷ []) ∷ [],
  present (context 2) (0xFF ∷ []) ∷ [],
  (refl, (omega arith, fine, own, each, (0x01 ∷ 0x02 ∷ [], (0x01 ∷ 0x02 ∷ []) ∷ (0x01 ∷ 0x01 ∷ []) ∷ [], refl, n, (order, tt))), (inr (tt, refl, refl, zero), refl)),
  ((refl, truth Lenient), refl),
  record {
    extended = true;
    preamble = 0xC0 ∷ [];
    extension = 0x02 ∷ 0x07 ∷ 0x80 ∷ 0x01 ∷ 0xFF ∷ [];
    whole = refl;
    bits = (are_octets (0xC0 ∷ []) refl, six_unset, omega arith, refl, (refl, (refl, (refl, (refl, (refl, (refl, tt)))))));
    rest = (0x02 ∷ 0x07 ∷ 0x80 ∷ [], 0x01 ∷ 0xFF ∷ [], true ∷ [], refl, unused, (refl, [], (0x01 ∷ 0xFF ∷ [], refl, opened Lenient), refl), tt);
    only = λ z. refl;
  },
)
  where
    zero : IsEncoding Lenient 127 (0x01 ∷ 0x00 ∷ []) (integer (pos 0))
    zero = (none_fails (leaf_fails (Int None (pos 0))) refl, (0x00 ∷ [], behind Lenient (0x00 ∷ []) (omega arith) (are_octets (0x00 ∷ []) refl), omega arith, refl, tt))

    unused : IsBitmap Lenient (0x02 ∷ 0x07 ∷ 0x80 ∷ []) (true ∷ [])
    unused = plain_bitmap Lenient (0x80 ∷ []) (true ∷ []) (false ∷ six_unset) (omega arith) (are_octets (0x07 ∷ 0x80 ∷ []) refl) (omega arith) refl tt (refl, (refl, (refl, (refl, (refl, (refl, (refl, tt)))))))

element : (n : ℤ) (x : ℕ) → any_failure (leaf_fails (Int None n)) ≡ false → x < 256 → n ≡ signed (x ∷ []) → IsEncoding Lenient 126 (0x01 ∷ x ∷ []) (integer n)
unfolding IsEncoding
element n x f l e = (none_fails (leaf_fails (Int None n)) f, (x ∷ [], behind Lenient (x ∷ []) (omega arith) (l, tt), omega arith, e, tt))

two : IsQuantity Lenient (0x01 ∷ 0x02 ∷ []) 2
two = (0x02 ∷ [], behind Lenient (0x02 ∷ []) (omega arith) (are_octets (0x02 ∷ []) refl), omega arith, refl, omega arith, tt)

one_descending : IsEncoding Lenient 128 lenient_octets one_order
unfolding IsEncoding canonical_octets
one_descending =
    descending (pos 2 ∷ pos 1 ∷ []) ((0x01 ∷ 0x02 ∷ []) ∷ (0x01 ∷ 0x01 ∷ []) ∷ []) (none_fails (list_fails ((0x01 ∷ 0x02 ∷ []) ∷ (0x01 ∷ 0x01 ∷ []) ∷ [])) refl)
    (element (pos 2) 2 refl (omega arith) refl, (element (pos 1) 1 refl (omega arith) refl, refl)) two (Reorders-refl ((0x01 ∷ 0x02 ∷ []) ∷ (0x01 ∷ 0x01 ∷ []) ∷ []))

other_descending : IsEncoding Lenient 128 lenient_octets other_order
unfolding IsEncoding canonical_octets
other_descending =
    descending (pos 1 ∷ pos 2 ∷ []) ((0x01 ∷ 0x01 ∷ []) ∷ (0x01 ∷ 0x02 ∷ []) ∷ []) (none_fails (list_fails ((0x01 ∷ 0x01 ∷ []) ∷ (0x01 ∷ 0x02 ∷ []) ∷ [])) refl)
    (element (pos 1) 1 refl (omega arith) refl, (element (pos 2) 2 refl (omega arith) refl, refl)) two
    ((0x01 ∷ 0x01 ∷ []) ∷ [], inr ([], refl, inl (refl, refl)), Reorders-refl ((0x01 ∷ 0x01 ∷ []) ∷ []))

one_written : (d : ℕ) → 2 ≤ d → IsEncoding OwnSized d mixed_octets one_order
unfolding canonical_octets levels fails
one_written d l = (spelt one_order d (mixed_is (pos 2) (pos 1)) (none_fails (fails one_order) refl) l).0

other_written : (d : ℕ) → 2 ≤ d → IsEncoding OwnSized d mixed_octets other_order
unfolding canonical_octets levels fails
other_written d l = (spelt other_order d (mixed_is (pos 1) (pos 2)) (none_fails (fails other_order) refl) l).0

pub unambiguous_premises : UnambiguousPremises
unfolding IsTree Same Alike
unambiguous_premises = record {
  one = mixed_is (pos 2) (pos 1);
  other = mixed_is (pos 1) (pos 2);
  alike = mixed_alike;
  one_leniently = one_descending;
  other_leniently = other_descending;
  one_canonically = own_sized_within_canonical one_order 128 mixed_octets (one_written 128 (omega arith));
  other_canonically = own_sized_within_canonical other_order 128 mixed_octets (other_written 128 (omega arith));
  one_own_sized = one_written 128 (omega arith);
  other_own_sized = other_written 128 (omega arith);
  different = ((tt, (tt, tt, (λ e. absurd (cc e)), tt)), (tt, tt), (λ e. absurd (cc e)), (λ e. absurd (cc e)));
  alike_to_a_different_one = (refl, refl, (refl, (refl, (tt, (tt, tt))), (refl, refl, refl, refl, tt, tt, tt)), (refl, tt, tt));
}

-- ---- bitmaps of the own size and of another

pub within_premises : WithinPremises
unfolding canonical_octets levels fails
within_premises = record {
  second = second_is true (Some true) (Some true);
  own_sized = (spelt (second_version (true, Some true, Some true)) 128 (second_is true (Some true) (Some true)) (none_fails (fails (second_version (true, Some true, Some true))) refl) (omega arith)).0;
  first = first_is true;
  canonical = skipping Canonical (λ P. tt);
  not_own_sized = λ d f. absurd (cc (own_is_canonical (first_version true) d (0x80 ∷ 0xFF ∷ 0x02 ∷ 0x06 ∷ 0xC0 ∷ 0x01 ∷ 0xFF ∷ 0x01 ∷ 0xFF ∷ []) f));
}

pub canonical_premises : CanonicalPremises
unfolding canonical_octets levels fails
canonical_premises = record {
  one = mixed_is (pos 2) (pos 1);
  other = mixed_is (pos 1) (pos 2);
  one_encodable = none_fails (fails one_order) refl;
  other_encodable = none_fails (fails other_order) refl;
  enough_levels = omega arith;
  own_sized = one_written 2 (omega arith);
  same = mixed_same;
  not_equal = λ e. absurd (cc e);
  alike = mixed_alike;
  front = refl;
}

-- ---- versions

held_alike : (v : Option Bool) → Alike (first_held None) (first_held v)
unfolding Alike
held_alike None = (refl, refl, (refl, refl, (refl, refl, (refl, tt, tt), tt), tt, tt, tt, tt), tt)
held_alike (Some b) = (refl, refl, (refl, refl, (refl, refl, (refl, tt, tt), tt), (refl, refl, (refl, tt, tt), tt), tt, tt, tt), tt)

first_held_is : IsTree (first_held None)
unfolding IsTree Same
first_held_is = ((first_is true, tt, (λ e. e), tt), tt, (λ e. refl), (λ e. absurd (cc e)))

second_held_is : IsTree (second_held (Some (true, Some true, None)))
unfolding IsTree Same
second_held_is = ((second_is true None None, second_is true (Some true) None, (λ e. e.3.1), tt), tt, (λ e. refl), (λ e. absurd (cc e)))

second_held_spelled : IsSpelled (0x80 ∷ 0x80 ∷ 0xFF ∷ 0x02 ∷ 0x06 ∷ 0x80 ∷ 0x01 ∷ 0xFF ∷ []) (second_held (Some (true, Some true, None)))
unfolding canonical_octets levels fails
second_held_spelled = spelled (second_held (Some (true, Some true, None))) second_held_is refl refl

held_drops : Drops false (second_held (Some (true, Some true, None))) (first_held None)
unfolding Drops
held_drops = (refl, refl, (refl, (refl, refl, (refl, refl, tt), refl), inr (refl, refl, (refl, refl, (refl, refl, tt), refl)), tt), tt)

not_settled : Drops true (second_held (Some (true, Some true, None))) (first_held None) → ⊥
unfolding Drops
not_settled (_, _, (_, _, inl f, _), _) = absurd f
not_settled (_, _, (_, _, inr (e, _, _), _), _) = absurd (cc e)

-- the older type reads what the newer wrote as its default
read_as_default : IsEncoding Lenient 128 (0x80 ∷ 0x80 ∷ 0xFF ∷ 0x02 ∷ 0x06 ∷ 0x80 ∷ 0x01 ∷ 0xFF ∷ []) (first_held None)
read_as_default = skips_lenient (second_held (Some (true, Some true, None))) (first_held None) 128 (0x80 ∷ 0x80 ∷ 0xFF ∷ 0x02 ∷ 0x06 ∷ 0x80 ∷ 0x01 ∷ 0xFF ∷ []) second_held_is first_held_is held_drops second_held_spelled.leniently

pub skips_premises : SkipsPremises
unfolding IsTree canonical_octets levels fails Drops
skips_premises = record {
  newer = spelled (second_version (true, Some true, Some true)) (second_is true (Some true) (Some true)) refl refl;
  older = first_is true;
  drops = (refl, refl, (refl, refl, tt), refl);
  settled = (refl, refl, (refl, refl, tt), refl);
  newer_set = spelled (set_of second_version ((true, None, None) ∷ (false, Some true, None) ∷ [])) (second_is true None None, (second_is false (Some true) None, tt)) refl refl;
  older_set = (first_is false, (first_is true, tt));
  settled_set = (
    first_version true,
    More (first_version false) NoTrees,
    inr (NoTrees, refl, inl (refl, refl)),
    (refl, refl, (refl, refl, tt), refl),
    (first_version false, NoTrees, inl (refl, refl), (refl, refl, (refl, refl, tt), refl), refl),
  );
  newer_held = second_held_spelled;
  drops_held = held_drops;
  not_settled = not_settled;
  older_held = record {
    is_tree = first_held_is;
    leniently = read_as_default;
    canonically = λ d v i f.
        no_default_spelled_out (first_version true) 0x80 (0x80 ∷ 0xFF ∷ 0x02 ∷ 0x06 ∷ 0x80 ∷ 0x01 ∷ 0xFF ∷ []) (slot first_version v) (λ e. absurd (omega (arith, e))) read_as_default first_held_is (held_alike v) d i f;
  };
}

pub lifts_premises : LiftsPremises
unfolding IsTree canonical_octets levels fails Lacks
lifts_premises = record {
  older = first_is true;
  newer = second_is true None None;
  lacks = (refl, refl, (refl, refl, refl), (refl, (refl, tt)));
  older_encodable = none_fails (fails (first_version true)) refl;
  newer_encodable = none_fails (fails (second_version (true, None, None))) refl;
  enough_levels = omega arith;
  older_set = (first_is true, (first_is false, tt));
  newer_set = (second_is false None None, (second_is true None None, tt));
  lacks_in_a_set = (
    second_version (true, None, None),
    More (second_version (false, None, None)) NoTrees,
    inr (NoTrees, refl, inl (refl, refl)),
    (refl, refl, (refl, refl, refl), (refl, (refl, tt))),
    (second_version (false, None, None), NoTrees, inl (refl, refl), (refl, refl, (refl, refl, refl), (refl, (refl, tt))), refl),
  );
  older_set_encodable = none_fails (fails (set_of first_version (true ∷ false ∷ []))) refl;
  newer_set_encodable = none_fails (fails (set_of second_version ((false, None, None) ∷ (true, None, None) ∷ []))) refl;
  enough_levels_for_a_set = omega arith;
}
