-- For every sort of node octets that spell a value, and near misses: octets that spell it leniently alone, or nothing.
use Rattle.std.specs.Prelude.{true, false, [], ◌∷◌, pos, negsuc, Some, None, codes}
use Rattle.asn1_core.specs.Texts.{AnyOctets, Utf8, Numeric, Printable, Visible, Ia5, Bmp, Universal, Identifier, Utc, Generalized, Date}
use Rattle.oer_spec.specs.Encoding.{IsEncoding}
use Rattle.oer_spec.specs.Examples.{IsSpelled, IsSpelledLeniently, SpellNone, boolean, null, enumerated, integer, integer_from, integer_in, bit_string, bit_string_of, named, named_within, text, text_of, context, with_default, first_version, second_version, required_addition, with_group, set_of_two, list_of, set_of, choice, long_tags}
use Rattle.oer_spec.specs.Mode.{Mode, Canonical}

-- BOOLEAN, NULL, ENUMERATED and INTEGER (X.696, 9 to 11, 15).
pub record PlainMisses : Type 0 where
  pub truth : IsSpelled (0xFF ∷ []) (boolean true)
  pub truth_by_another_octet : IsSpelledLeniently boolean (0x33 ∷ []) true
  pub nothing : IsSpelled [] (null tt)
  pub nothing_with_an_octet : SpellNone null (0x00 ∷ [])
  pub enumerated_number : IsSpelled (0x82 ∷ 0xFC ∷ 0x18 ∷ []) (enumerated (negsuc 999))
  pub enumerated_below_128_in_long_form : IsSpelledLeniently enumerated (0x81 ∷ 0x05 ∷ []) (pos 5)
  pub enumerated_with_a_superfluous_octet : IsSpelledLeniently enumerated (0x83 ∷ 0x00 ∷ 0x03 ∷ 0xE8 ∷ []) (pos 1000)
  pub enumerated_without_octets : SpellNone enumerated (0x80 ∷ [])
  pub number : IsSpelled (0x02 ∷ 0xFF ∷ 0x01 ∷ []) (integer (negsuc 254))
  pub number_with_a_superfluous_octet : IsSpelledLeniently integer (0x02 ∷ 0x00 ∷ 0x00 ∷ []) (pos 0)
  pub number_with_a_superfluous_sign : IsSpelledLeniently integer (0x02 ∷ 0xFF ∷ 0xFF ∷ []) (negsuc 0)
  pub number_without_octets : SpellNone integer (0x00 ∷ [])
  pub unsigned : IsSpelled (0x01 ∷ 0xFF ∷ []) (integer_from (pos 0) (pos 255))
  pub unsigned_with_a_superfluous_octet : IsSpelledLeniently (integer_from (pos 0)) (0x02 ∷ 0x00 ∷ 0xFF ∷ []) (pos 255)
  pub in_two_octets : IsSpelled (0x00 ∷ 0xFF ∷ []) (integer_in (pos 0) (pos 65535) (pos 255))
  pub one_octet_in_place_of_two : SpellNone (integer_in (pos 0) (pos 65535)) (0xFF ∷ [])
  pub in_range : IsSpelled (0x05 ∷ []) (integer_in (pos 0) (pos 5) (pos 5))
  pub past_the_range : SpellNone (integer_in (pos 0) (pos 5)) (0x06 ∷ [])

-- Strings, identifiers and times (X.696, 13, 14, 21, 27, 29).
pub record StringMisses : Type 0 where
  pub bits : IsSpelled (0x02 ∷ 0x04 ∷ 0x10 ∷ []) (bit_string (false ∷ false ∷ false ∷ true ∷ []))
  pub bits_with_fill_bits_set : IsSpelledLeniently bit_string (0x02 ∷ 0x04 ∷ 0x1F ∷ []) (false ∷ false ∷ false ∷ true ∷ [])
  pub no_bits_by_a_length_of_zero : IsSpelledLeniently bit_string (0x00 ∷ []) []
  pub eight_unused_bits : SpellNone bit_string (0x02 ∷ 0x08 ∷ 0x00 ∷ [])
  pub four_bits : IsSpelled (0x10 ∷ []) (bit_string_of 4 (false ∷ false ∷ false ∷ true ∷ []))
  pub four_bits_with_fill_bits_set : IsSpelledLeniently (bit_string_of 4) (0x13 ∷ []) (false ∷ false ∷ false ∷ true ∷ [])
  pub one_named_bit : IsSpelled (0x02 ∷ 0x07 ∷ 0x80 ∷ []) (named (true ∷ []))
  pub named_with_zeros_behind : IsSpelledLeniently named (0x02 ∷ 0x00 ∷ 0x80 ∷ []) (true ∷ [])
  pub named_below_the_least_size : SpellNone (named_within 4 8) (0x02 ∷ 0x07 ∷ 0x80 ∷ [])
  pub octets : IsSpelled (0x02 ∷ 0xAA ∷ 0xBB ∷ []) (text AnyOctets (0xAA ∷ 0xBB ∷ []))
  pub octets_with_a_length_in_long_form : IsSpelledLeniently (text AnyOctets) (0x81 ∷ 0x02 ∷ 0xAA ∷ 0xBB ∷ []) (0xAA ∷ 0xBB ∷ [])
  pub octets_with_a_superfluous_octet_in_the_length : IsSpelledLeniently (text AnyOctets) (0x82 ∷ 0x00 ∷ 0x02 ∷ 0xAA ∷ 0xBB ∷ []) (0xAA ∷ 0xBB ∷ [])
  pub octets_without_a_length : SpellNone (text AnyOctets) (0x80 ∷ 0xAA ∷ [])
  pub two_octets : IsSpelled (0xAA ∷ 0xBB ∷ []) (text_of AnyOctets 2 (0xAA ∷ 0xBB ∷ []))
  pub one_octet_in_place_of_two : SpellNone (text_of AnyOctets 2) (0xAA ∷ [])
  pub utf8 : IsSpelled (0x02 ∷ 0xC3 ∷ 0x84 ∷ []) (text Utf8 (0xC3 ∷ 0x84 ∷ []))
  pub no_utf8 : SpellNone (text Utf8) (0x01 ∷ 0xFF ∷ [])
  pub bmp : IsSpelled (0x02 ∷ 0x00 ∷ 0x41 ∷ []) (text Bmp (0x00 ∷ 0x41 ∷ []))
  pub half_a_bmp_character : SpellNone (text Bmp) (0x03 ∷ 0x00 ∷ 0x41 ∷ 0x00 ∷ [])
  pub universal : IsSpelled (0x04 ∷ 0x00 ∷ 0x01 ∷ 0xF6 ∷ 0x00 ∷ []) (text Universal (0x00 ∷ 0x01 ∷ 0xF6 ∷ 0x00 ∷ []))
  pub half_a_universal_character : SpellNone (text Universal) (0x02 ∷ 0x00 ∷ 0x41 ∷ [])
  pub numeric : IsSpelled (0x02 ∷ codes "31") (text Numeric (codes "31"))
  pub a_letter_in_a_numeric_string : SpellNone (text Numeric) (0x02 ∷ codes "3A")
  pub printable : IsSpelled (0x02 ∷ codes "A?") (text Printable (codes "A?"))
  pub an_asterisk_in_a_printable_string : SpellNone (text Printable) (0x02 ∷ codes "A*")
  pub visible : IsSpelled (0x02 ∷ codes "A*") (text Visible (codes "A*"))
  pub a_delete_in_a_visible_string : SpellNone (text Visible) (0x02 ∷ 0x41 ∷ 0x7F ∷ [])
  pub ia5 : IsSpelled (0x02 ∷ 0x41 ∷ 0x7F ∷ []) (text Ia5 (0x41 ∷ 0x7F ∷ []))
  pub a_high_octet_in_an_ia5_string : SpellNone (text Ia5) (0x02 ∷ 0x41 ∷ 0x80 ∷ [])
  pub identifier : IsSpelled (0x03 ∷ 0x2A ∷ 0x99 ∷ 0x79 ∷ []) (text Identifier (0x2A ∷ 0x99 ∷ 0x79 ∷ []))
  pub identifier_with_a_superfluous_group : SpellNone (text Identifier) (0x02 ∷ 0x80 ∷ 0x01 ∷ [])
  pub identifier_with_an_unfinished_arc : SpellNone (text Identifier) (0x02 ∷ 0x2A ∷ 0x99 ∷ [])
  -- 2.4294967295, and one more
  pub greatest_arc : IsSpelled (0x05 ∷ 0x90 ∷ 0x80 ∷ 0x80 ∷ 0x80 ∷ 0x4F ∷ []) (text Identifier (0x90 ∷ 0x80 ∷ 0x80 ∷ 0x80 ∷ 0x4F ∷ []))
  pub arc_past_the_greatest : SpellNone (text Identifier) (0x05 ∷ 0x90 ∷ 0x80 ∷ 0x80 ∷ 0x80 ∷ 0x50 ∷ [])
  pub utc_time : IsSpelled (0x0D ∷ codes "191009130005Z") (text Utc (codes "191009130005Z"))
  pub utc_time_of_a_25th_hour : SpellNone (text Utc) (0x0D ∷ codes "191009240005Z")
  pub generalized_time : IsSpelled (0x12 ∷ codes "20240229120000.05Z") (text Generalized (codes "20240229120000.05Z"))
  pub generalized_time_with_a_superfluous_digit : SpellNone (text Generalized) (0x12 ∷ codes "20240229120000.50Z")
  pub date : IsSpelled (0x08 ∷ codes "20240229") (text Date (codes "20240229"))
  pub date_of_no_leap_year : SpellNone (text Date) (0x08 ∷ codes "20230229")

-- SEQUENCE and SET (X.696, 16, 18).
pub record StructMisses : Type 0 where
  pub default_absent : IsSpelled (0x00 ∷ []) (with_default None)
  pub default_spelled_out : IsSpelledLeniently with_default (0x80 ∷ 0x01 ∷ 0x00 ∷ []) None
  pub preamble_with_a_fill_bit_set : SpellNone with_default (0x81 ∷ 0x01 ∷ 0x01 ∷ [])
  pub additions : IsSpelled (0x80 ∷ 0xFF ∷ 0x02 ∷ 0x06 ∷ 0x80 ∷ 0x01 ∷ 0xFF ∷ []) (second_version (true, Some true, None))
  pub bitmap_without_a_bit_set : IsSpelledLeniently second_version (0x80 ∷ 0xFF ∷ 0x02 ∷ 0x06 ∷ 0x00 ∷ []) (true, None, None)
  pub bitmap_with_an_unused_bit_set : IsSpelledLeniently second_version (0x80 ∷ 0xFF ∷ 0x02 ∷ 0x06 ∷ 0xA0 ∷ 0x01 ∷ 0xFF ∷ []) (true, Some true, None)
  pub bitmap_of_length_zero : SpellNone second_version (0x80 ∷ 0xFF ∷ 0x00 ∷ [])
  pub octets_left_over_in_an_addition : IsSpelledLeniently second_version (0x80 ∷ 0xFF ∷ 0x02 ∷ 0x06 ∷ 0x80 ∷ 0x02 ∷ 0xFF ∷ 0x00 ∷ []) (true, Some true, None)
  -- an older type reads what a newer sender wrote, and a newer type what an older sender wrote
  pub skipped_additions : IsSpelled (0x80 ∷ 0xFF ∷ 0x02 ∷ 0x06 ∷ 0xC0 ∷ 0x01 ∷ 0xFF ∷ 0x01 ∷ 0xFF ∷ []) (first_version true)
  pub skipped_addition_with_a_length_in_long_form : IsSpelledLeniently first_version (0x80 ∷ 0xFF ∷ 0x02 ∷ 0x07 ∷ 0x80 ∷ 0x81 ∷ 0x01 ∷ 0xFF ∷ []) true
  pub lacking_additions : IsSpelled (0x80 ∷ 0xFF ∷ 0x02 ∷ 0x07 ∷ 0x80 ∷ 0x01 ∷ 0xFF ∷ []) (second_version (true, Some true, None))
  pub with_the_required_addition : IsSpelled (0x80 ∷ 0xFF ∷ 0x02 ∷ 0x07 ∷ 0x80 ∷ 0x02 ∷ 0x01 ∷ 0x07 ∷ []) (required_addition (true, pos 7))
  pub without_the_required_addition : SpellNone required_addition (0x00 ∷ 0xFF ∷ [])
  pub group_with_nothing_in_it : IsSpelled (0x80 ∷ 0xFF ∷ 0x02 ∷ 0x07 ∷ 0x80 ∷ 0x01 ∷ 0x00 ∷ []) (with_group (true, Some None))
  pub group_with_a_fill_bit_set : SpellNone with_group (0x80 ∷ 0xFF ∷ 0x02 ∷ 0x07 ∷ 0x80 ∷ 0x01 ∷ 0x01 ∷ [])
  pub set_in_tag_order : IsSpelled (0x01 ∷ 0x05 ∷ 0xFF ∷ []) (set_of_two (true, pos 5))
  pub set_in_table_order : SpellNone set_of_two (0xFF ∷ 0x01 ∷ 0x05 ∷ [])

-- SEQUENCE OF, SET OF and CHOICE (X.696, 17, 19, 20), and levels (the project's own choice).
pub record ListAndChoiceMisses : Type 0 where
  pub integers : IsSpelled (0x01 ∷ 0x01 ∷ 0x01 ∷ 0x05 ∷ []) (list_of integer (pos 5 ∷ []))
  pub quantity_with_a_superfluous_octet : IsSpelledLeniently (list_of integer) (0x02 ∷ 0x00 ∷ 0x01 ∷ 0x01 ∷ 0x05 ∷ []) (pos 5 ∷ [])
  pub quantity_without_octets : SpellNone (list_of integer) (0x00 ∷ [])
  pub ascending_set : IsSpelled (0x01 ∷ 0x02 ∷ 0x01 ∷ 0x01 ∷ 0x01 ∷ 0x02 ∷ []) (set_of integer (pos 2 ∷ pos 1 ∷ []))
  pub descending_set : IsSpelledLeniently (set_of integer) (0x01 ∷ 0x02 ∷ 0x01 ∷ 0x02 ∷ 0x01 ∷ 0x01 ∷ []) (pos 2 ∷ pos 1 ∷ [])
  pub two_levels : IsEncoding Canonical 2 (0x01 ∷ 0x01 ∷ 0x01 ∷ 0x00 ∷ []) (list_of (list_of integer) ([] ∷ []))
  pub a_level_too_few : (m : Mode) → IsEncoding m 1 (0x01 ∷ 0x01 ∷ 0x01 ∷ 0x00 ∷ []) (list_of (list_of integer) ([] ∷ [])) → ⊥
  pub root_alternative : IsSpelled (0x81 ∷ 0x02 ∷ 0x01 ∷ 0x4D ∷ []) (choice (context 1, pos 333))
  pub tag_below_63_in_groups : IsSpelledLeniently choice (0xBF ∷ 0x01 ∷ 0x02 ∷ 0x01 ∷ 0x4D ∷ []) (context 1, pos 333)
  pub addition_alternative : IsSpelled (0x82 ∷ 0x03 ∷ 0x02 ∷ 0x01 ∷ 0x4D ∷ []) (choice (context 2, pos 333))
  pub octets_left_over_in_an_alternative : IsSpelledLeniently choice (0x82 ∷ 0x04 ∷ 0x02 ∷ 0x01 ∷ 0x4D ∷ 0x00 ∷ []) (context 2, pos 333)
  pub tag_of_no_alternative : SpellNone choice (0x83 ∷ 0x02 ∷ 0x01 ∷ 0x4D ∷ [])
  pub long_tag : IsSpelled (0xBF ∷ 0x81 ∷ 0x02 ∷ 0xFF ∷ []) (long_tags (context 130, true))
  pub long_tag_with_its_groups_lowest_first : SpellNone long_tags (0xBF ∷ 0x82 ∷ 0x01 ∷ 0xFF ∷ [])
  pub long_tag_with_a_superfluous_group : SpellNone long_tags (0xBF ∷ 0x80 ∷ 0x81 ∷ 0x02 ∷ 0xFF ∷ [])
