-- For each law trees and octets that meet all of its premises.
use Rattle.std.specs.Prelude.{◌≡◌, ◌++◌, ◌≤◌, ℕ, true, false, [], ◌∷◌, pos, Some, None}
use Rattle.asn1_core.specs.Octets.{Octets}
use Rattle.oer_spec.specs.Encoding.{IsTree, IsEncodable, IsEncoding, canonical_octets, levels}
use Rattle.oer_spec.specs.Examples.{IsSpelled, IsSpelledLeniently, first_version, second_version, first_held, second_held, set_of, mixed}
use Rattle.oer_spec.specs.Mode.{Lenient, Canonical, OwnSized}
use Rattle.oer_spec.specs.Same.{Same, Alike}
use Rattle.oer_spec.specs.Tree.{Tree}
use Rattle.oer_spec.specs.Versions.{Drops, Lacks}

-- An unordered list, a default row and an addition: the list in two orders.
abbrev pub one_order : Tree
one_order = mixed (pos 2 ∷ pos 1 ∷ [], None, Some true)

abbrev pub other_order : Tree
other_order = mixed (pos 1 ∷ pos 2 ∷ [], None, Some true)

-- their canonical octets; and the same with the list descending and the default spelled out
abbrev pub mixed_octets : Octets
mixed_octets = 0x80 ∷ 0x01 ∷ 0x02 ∷ 0x01 ∷ 0x01 ∷ 0x01 ∷ 0x02 ∷ 0x02 ∷ 0x07 ∷ 0x80 ∷ 0x01 ∷ 0xFF ∷ []

abbrev pub lenient_octets : Octets
lenient_octets = 0xC0 ∷ 0x01 ∷ 0x02 ∷ 0x01 ∷ 0x02 ∷ 0x01 ∷ 0x01 ∷ 0x01 ∷ 0x00 ∷ 0x02 ∷ 0x07 ∷ 0x80 ∷ 0x01 ∷ 0xFF ∷ []

-- Octets that spell two trees, in each mode; and trees that are alike in nothing but their type.
pub record UnambiguousPremises : Type 0 where
  pub one : IsTree one_order
  pub other : IsTree other_order
  pub alike : Alike one_order other_order
  pub one_leniently : IsEncoding Lenient 128 lenient_octets one_order
  pub other_leniently : IsEncoding Lenient 128 lenient_octets other_order
  pub one_canonically : IsEncoding Canonical 128 mixed_octets one_order
  pub other_canonically : IsEncoding Canonical 128 mixed_octets other_order
  pub one_own_sized : IsEncoding OwnSized 128 mixed_octets one_order
  pub other_own_sized : IsEncoding OwnSized 128 mixed_octets other_order
  pub different : IsTree (mixed ([], Some (pos 5), None))
  pub alike_to_a_different_one : Alike one_order (mixed ([], Some (pos 5), None))

-- A bitmap of the own size; and one that is canonical with another size.
pub record WithinPremises : Type 0 where
  pub second : IsTree (second_version (true, Some true, Some true))
  pub own_sized : IsEncoding OwnSized 128 (0x80 ∷ 0xFF ∷ 0x02 ∷ 0x06 ∷ 0xC0 ∷ 0x01 ∷ 0xFF ∷ 0x01 ∷ 0xFF ∷ []) (second_version (true, Some true, Some true))
  pub first : IsTree (first_version true)
  pub canonical : IsEncoding Canonical 128 (0x80 ∷ 0xFF ∷ 0x02 ∷ 0x06 ∷ 0xC0 ∷ 0x01 ∷ 0xFF ∷ 0x01 ∷ 0xFF ∷ []) (first_version true)
  pub not_own_sized : (d : ℕ) → IsEncoding OwnSized d (0x80 ∷ 0xFF ∷ 0x02 ∷ 0x06 ∷ 0xC0 ∷ 0x01 ∷ 0xFF ∷ 0x01 ∷ 0xFF ∷ []) (first_version true) → ⊥

-- Same trees that are not equal; and of alike trees one's canonical octets begin with the other's.
pub record CanonicalPremises : Type 0 where
  pub one : IsTree one_order
  pub other : IsTree other_order
  pub one_encodable : IsEncodable one_order
  pub other_encodable : IsEncodable other_order
  pub enough_levels : levels one_order ≤ 2
  pub own_sized : IsEncoding OwnSized 2 mixed_octets one_order
  pub same : Same one_order other_order
  pub not_equal : one_order ≡ other_order → ⊥
  pub alike : Alike one_order other_order
  pub front : canonical_octets other_order ≡ canonical_octets one_order ++ []

-- A settled pair, and one in an unordered list, whose order goes by what the older type can't see; a pair that drops and isn't
-- settled: less what the older type can't see, the value is the older default.
pub record SkipsPremises : Type 0 where
  pub newer : IsSpelled (0x80 ∷ 0xFF ∷ 0x02 ∷ 0x06 ∷ 0xC0 ∷ 0x01 ∷ 0xFF ∷ 0x01 ∷ 0xFF ∷ []) (second_version (true, Some true, Some true))
  pub older : IsTree (first_version true)
  pub drops : Drops false (second_version (true, Some true, Some true)) (first_version true)
  pub settled : Drops true (second_version (true, Some true, Some true)) (first_version true)
  pub newer_set : IsSpelled (0x01 ∷ 0x02 ∷ 0x00 ∷ 0xFF ∷ 0x80 ∷ 0x00 ∷ 0x02 ∷ 0x06 ∷ 0x80 ∷ 0x01 ∷ 0xFF ∷ []) (set_of second_version ((true, None, None) ∷ (false, Some true, None) ∷ []))
  pub older_set : IsTree (set_of first_version (false ∷ true ∷ []))
  pub settled_set : Drops true (set_of second_version ((true, None, None) ∷ (false, Some true, None) ∷ [])) (set_of first_version (false ∷ true ∷ []))
  pub newer_held : IsSpelled (0x80 ∷ 0x80 ∷ 0xFF ∷ 0x02 ∷ 0x06 ∷ 0x80 ∷ 0x01 ∷ 0xFF ∷ []) (second_held (Some (true, Some true, None)))
  pub drops_held : Drops false (second_held (Some (true, Some true, None))) (first_held None)
  pub not_settled : Drops true (second_held (Some (true, Some true, None))) (first_held None) → ⊥
  pub older_held : IsSpelledLeniently first_held (0x80 ∷ 0x80 ∷ 0xFF ∷ 0x02 ∷ 0x06 ∷ 0x80 ∷ 0x01 ∷ 0xFF ∷ []) None

-- A newer type has further additions, also in an unordered list.
pub record LiftsPremises : Type 0 where
  pub older : IsTree (first_version true)
  pub newer : IsTree (second_version (true, None, None))
  pub lacks : Lacks (first_version true) (second_version (true, None, None))
  pub older_encodable : IsEncodable (first_version true)
  pub newer_encodable : IsEncodable (second_version (true, None, None))
  pub enough_levels : levels (first_version true) ≤ 1
  pub older_set : IsTree (set_of first_version (true ∷ false ∷ []))
  pub newer_set : IsTree (set_of second_version ((false, None, None) ∷ (true, None, None) ∷ []))
  pub lacks_in_a_set : Lacks (set_of first_version (true ∷ false ∷ [])) (set_of second_version ((false, None, None) ∷ (true, None, None) ∷ []))
  pub older_set_encodable : IsEncodable (set_of first_version (true ∷ false ∷ []))
  pub newer_set_encodable : IsEncodable (set_of second_version ((false, None, None) ∷ (true, None, None) ∷ []))
  pub enough_levels_for_a_set : levels (set_of first_version (true ∷ false ∷ [])) ≤ 2
