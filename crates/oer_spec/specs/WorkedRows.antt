-- Worked rows: a value's tree and its canonical octets.
use Rattle.std.specs.Prelude.{◌≡◌, ◌^◌, true, false, [], ◌∷◌, pos, negsuc, Some, None, codes, replicate}
use Rattle.asn1_core.specs.Texts.{AnyOctets, Utf8, Numeric, Printable, Bmp, Universal, Identifier, Utc, Generalized, Date}
use Rattle.oer_spec.specs.Encoding.{canonical_octets}
use Rattle.oer_spec.specs.Examples.{boolean, null, enumerated, integer, integer_from, integer_to, integer_in, bit_string, bit_string_of, named, named_within, text, text_of, context, pair, two_optional, with_default, first_version, second_version, required_addition, nested_addition, with_group, additions_alone, second_held, set, set_of_two, list_of, set_of, choice, long_tags}

-- BOOLEAN, NULL, ENUMERATED and INTEGER (X.696, 9 to 11, 15).
pub record PlainRows : Type 0 where
  pub truth : canonical_octets (boolean true) ≡ 0xFF ∷ []
  pub nothing : canonical_octets (null tt) ≡ []
  pub enumerated_below_128 : canonical_octets (enumerated (pos 127)) ≡ 0x7F ∷ []
  pub enumerated_from_128 : canonical_octets (enumerated (pos 128)) ≡ 0x82 ∷ 0x00 ∷ 0x80 ∷ []
  pub enumerated_negative : canonical_octets (enumerated (negsuc 999)) ≡ 0x82 ∷ 0xFC ∷ 0x18 ∷ []
  pub integer_zero : canonical_octets (integer (pos 0)) ≡ 0x01 ∷ 0x00 ∷ []
  pub integer_255 : canonical_octets (integer (pos 255)) ≡ 0x02 ∷ 0x00 ∷ 0xFF ∷ []
  pub integer_minus_255 : canonical_octets (integer (negsuc 254)) ≡ 0x02 ∷ 0xFF ∷ 0x01 ∷ []
  pub integer_minus_32769 : canonical_octets (integer (negsuc 32768)) ≡ 0x03 ∷ 0xFF ∷ 0x7F ∷ 0xFF ∷ []
  -- a lower bound of 0 alone: a length and no sign; an upper bound alone: a length and a sign
  pub from_zero : canonical_octets (integer_from (pos 0) (pos 255)) ≡ 0x01 ∷ 0xFF ∷ []
  pub from_minus_one : canonical_octets (integer_from (negsuc 0) (pos 255)) ≡ 0x02 ∷ 0x00 ∷ 0xFF ∷ []
  pub to_zero : canonical_octets (integer_to (pos 0) (negsuc 0)) ≡ 0x01 ∷ 0xFF ∷ []
  -- the width of a range
  pub in_one_octet : canonical_octets (integer_in (pos 0) (pos 255) (pos 255)) ≡ 0xFF ∷ []
  pub in_two_octets : canonical_octets (integer_in (pos 2) (pos 65535) (pos 2)) ≡ 0x00 ∷ 0x02 ∷ []
  pub in_four_octets : canonical_octets (integer_in (pos 0) (pos 65536) (pos 65536)) ≡ 0x00 ∷ 0x01 ∷ 0x00 ∷ 0x00 ∷ []
  pub in_eight_octets : canonical_octets (integer_in (pos 0) (pos (2 ^ 32)) (pos (2 ^ 32))) ≡ 0x00 ∷ 0x00 ∷ 0x00 ∷ 0x01 ∷ 0x00 ∷ 0x00 ∷ 0x00 ∷ 0x00 ∷ []
  pub past_eight_octets : canonical_octets (integer_in (pos 0) (pos (2 ^ 64)) (pos (2 ^ 64))) ≡ 0x09 ∷ 0x01 ∷ replicate 8 0x00
  pub in_one_signed : canonical_octets (integer_in (negsuc 4) (pos 5) (negsuc 3)) ≡ 0xFC ∷ []
  pub in_two_signed : canonical_octets (integer_in (negsuc 128) (pos 0) (negsuc 128)) ≡ 0xFF ∷ 0x7F ∷ []
  pub in_four_signed : canonical_octets (integer_in (negsuc 0) (pos 65535) (negsuc 0)) ≡ 0xFF ∷ 0xFF ∷ 0xFF ∷ 0xFF ∷ []
  pub in_eight_signed : canonical_octets (integer_in (negsuc 0) (pos (2 ^ 32)) (pos 1)) ≡ 0x00 ∷ 0x00 ∷ 0x00 ∷ 0x00 ∷ 0x00 ∷ 0x00 ∷ 0x00 ∷ 0x01 ∷ []
  pub past_eight_signed : canonical_octets (integer_in (negsuc 0) (pos (2 ^ 64)) (negsuc 0)) ≡ 0x01 ∷ 0xFF ∷ []

-- Strings, identifiers and times (X.696, 13, 14, 21, 27, 29).
pub record StringRows : Type 0 where
  pub bits : canonical_octets (bit_string (true ∷ true ∷ true ∷ true ∷ true ∷ true ∷ true ∷ true ∷ false ∷ true ∷ [])) ≡ 0x03 ∷ 0x06 ∷ 0xFF ∷ 0x40 ∷ []
  pub no_bits : canonical_octets (bit_string []) ≡ 0x01 ∷ 0x00 ∷ []
  pub ten_bits : canonical_octets (bit_string_of 10 (true ∷ true ∷ true ∷ true ∷ true ∷ true ∷ true ∷ true ∷ false ∷ true ∷ [])) ≡ 0xFF ∷ 0x40 ∷ []
  pub one_named_bit : canonical_octets (named (true ∷ [])) ≡ 0x02 ∷ 0x07 ∷ 0x80 ∷ []
  pub no_named_bit : canonical_octets (named []) ≡ 0x01 ∷ 0x00 ∷ []
  -- with 0 bits up to the least size
  pub one_named_bit_of_four : canonical_octets (named_within 4 8 (true ∷ [])) ≡ 0x02 ∷ 0x04 ∷ 0x80 ∷ []
  pub octets : canonical_octets (text AnyOctets (0xAA ∷ 0xBB ∷ [])) ≡ 0x02 ∷ 0xAA ∷ 0xBB ∷ []
  pub two_octets : canonical_octets (text_of AnyOctets 2 (0xAA ∷ 0xBB ∷ [])) ≡ 0xAA ∷ 0xBB ∷ []
  -- a length of 128 and more in the long form
  pub many_octets : canonical_octets (text AnyOctets (replicate 128 0x32)) ≡ 0x81 ∷ 0x80 ∷ replicate 128 0x32
  pub more_octets : canonical_octets (text AnyOctets (replicate 300 0x32)) ≡ 0x82 ∷ 0x01 ∷ 0x2C ∷ replicate 300 0x32
  pub utf8 : canonical_octets (text Utf8 (0xC3 ∷ 0x84 ∷ [])) ≡ 0x02 ∷ 0xC3 ∷ 0x84 ∷ []
  pub numeric : canonical_octets (text Numeric (codes "31")) ≡ 0x02 ∷ 0x33 ∷ 0x31 ∷ []
  pub printable_of_three : canonical_octets (text_of Printable 3 (codes "foo")) ≡ 0x66 ∷ 0x6F ∷ 0x6F ∷ []
  -- two characters of two octets each
  pub bmp_of_two : canonical_octets (text_of Bmp 2 (0x00 ∷ 0x41 ∷ 0x00 ∷ 0x42 ∷ [])) ≡ 0x00 ∷ 0x41 ∷ 0x00 ∷ 0x42 ∷ []
  -- two characters of four octets each
  pub universal_of_two : canonical_octets (text_of Universal 2 (0x00 ∷ 0x00 ∷ 0x00 ∷ 0x41 ∷ 0x00 ∷ 0x01 ∷ 0xF6 ∷ 0x00 ∷ [])) ≡ 0x00 ∷ 0x00 ∷ 0x00 ∷ 0x41 ∷ 0x00 ∷ 0x01 ∷ 0xF6 ∷ 0x00 ∷ []
  -- 1.2.3321
  pub identifier : canonical_octets (text Identifier (0x2A ∷ 0x99 ∷ 0x79 ∷ [])) ≡ 0x03 ∷ 0x2A ∷ 0x99 ∷ 0x79 ∷ []
  pub utc_time : canonical_octets (text Utc (codes "191009130005Z")) ≡ 0x0D ∷ codes "191009130005Z"
  pub generalized_time : canonical_octets (text Generalized (codes "20801009130005.342Z")) ≡ 0x13 ∷ codes "20801009130005.342Z"
  pub date : canonical_octets (text Date (codes "20240229")) ≡ 0x08 ∷ codes "20240229"

-- SEQUENCE and SET (X.696, 16, 18).
pub record StructRows : Type 0 where
  -- no bits, no preamble
  pub required_alone : canonical_octets (pair (pos 1, pos 2)) ≡ 0x01 ∷ 0x01 ∷ 0x01 ∷ 0x02 ∷ []
  pub one_optional_present : canonical_octets (two_optional (None, Some (pos 5))) ≡ 0x40 ∷ 0x01 ∷ 0x05 ∷ []
  pub default_absent : canonical_octets (with_default None) ≡ 0x00 ∷ []
  pub default_present : canonical_octets (with_default (Some (pos 5))) ≡ 0x80 ∷ 0x01 ∷ 0x05 ∷ []
  -- no addition: the extension bit is 0, and no bitmap follows
  pub extensible : canonical_octets (first_version true) ≡ 0x00 ∷ 0xFF ∷ []
  pub no_addition : canonical_octets (second_version (true, None, None)) ≡ 0x00 ∷ 0xFF ∷ []
  pub one_addition : canonical_octets (second_version (true, None, Some false)) ≡ 0x80 ∷ 0xFF ∷ 0x02 ∷ 0x06 ∷ 0x40 ∷ 0x01 ∷ 0x00 ∷ []
  pub both_additions : canonical_octets (second_version (true, Some true, Some true)) ≡ 0x80 ∷ 0xFF ∷ 0x02 ∷ 0x06 ∷ 0xC0 ∷ 0x01 ∷ 0xFF ∷ 0x01 ∷ 0xFF ∷ []
  pub with_the_required_addition : canonical_octets (required_addition (true, pos 7)) ≡ 0x80 ∷ 0xFF ∷ 0x02 ∷ 0x07 ∷ 0x80 ∷ 0x02 ∷ 0x01 ∷ 0x07 ∷ []
  pub addition_in_an_addition : canonical_octets (nested_addition (true, Some (true, Some true, None))) ≡ 0x80 ∷ 0xFF ∷ 0x02 ∷ 0x07 ∷ 0x80 ∷ 0x07 ∷ 0x80 ∷ 0xFF ∷ 0x02 ∷ 0x06 ∷ 0x80 ∷ 0x01 ∷ 0xFF ∷ []
  pub addition_in_a_default_row : canonical_octets (second_held (Some (true, Some true, None))) ≡ 0x80 ∷ 0x80 ∷ 0xFF ∷ 0x02 ∷ 0x06 ∷ 0x80 ∷ 0x01 ∷ 0xFF ∷ []
  -- a group with nothing in it, and no group
  pub empty_group : canonical_octets (with_group (true, Some None)) ≡ 0x80 ∷ 0xFF ∷ 0x02 ∷ 0x07 ∷ 0x80 ∷ 0x01 ∷ 0x00 ∷ []
  pub no_group : canonical_octets (with_group (true, None)) ≡ 0x00 ∷ 0xFF ∷ []
  pub without_root : canonical_octets (additions_alone None) ≡ 0x00 ∷ []
  pub without_root_extended : canonical_octets (additions_alone (Some true)) ≡ 0x80 ∷ 0x02 ∷ 0x07 ∷ 0x80 ∷ 0x01 ∷ 0xFF ∷ []
  -- in tag order: application 9, context 5, context 444
  pub set_by_tag : canonical_octets (set (Some (pos 5), Some (pos 6), Some (pos 7))) ≡ 0xE0 ∷ 0x01 ∷ 0x07 ∷ 0x01 ∷ 0x06 ∷ 0x01 ∷ 0x05 ∷ []
  pub set_with_one : canonical_octets (set (None, None, Some (pos 1))) ≡ 0x80 ∷ 0x01 ∷ 0x01 ∷ []
  pub set_without_bits : canonical_octets (set_of_two (true, pos 5)) ≡ 0x01 ∷ 0x05 ∷ 0xFF ∷ []

-- SEQUENCE OF, SET OF and CHOICE (X.696, 17, 19, 20).
pub record ListAndChoiceRows : Type 0 where
  pub no_elements : canonical_octets (list_of integer []) ≡ 0x01 ∷ 0x00 ∷ []
  pub integers : canonical_octets (list_of integer (pos 2 ∷ pos 1 ∷ [])) ≡ 0x01 ∷ 0x02 ∷ 0x01 ∷ 0x02 ∷ 0x01 ∷ 0x01 ∷ []
  pub nulls : canonical_octets (list_of null (replicate 256 tt)) ≡ 0x02 ∷ 0x01 ∷ 0x00 ∷ []
  -- ascending as octets: -1 has the greatest
  pub set_of_integers : canonical_octets (set_of integer (pos 2 ∷ pos 1 ∷ negsuc 0 ∷ [])) ≡ 0x01 ∷ 0x03 ∷ 0x01 ∷ 0x01 ∷ 0x01 ∷ 0x02 ∷ 0x01 ∷ 0xFF ∷ []
  pub equal_elements : canonical_octets (set_of integer (pos 1 ∷ pos 1 ∷ [])) ≡ 0x01 ∷ 0x02 ∷ 0x01 ∷ 0x01 ∷ 0x01 ∷ 0x01 ∷ []
  -- octets of a fixed size: no lengths
  pub set_of_strings : canonical_octets (set_of (text_of AnyOctets 1) ((0x02 ∷ []) ∷ (0x01 ∷ []) ∷ [])) ≡ 0x01 ∷ 0x02 ∷ 0x01 ∷ 0x02 ∷ []
  pub set_of_sequences : canonical_octets (set_of second_version ((true, None, None) ∷ (false, Some true, None) ∷ []))
      ≡ 0x01 ∷ 0x02 ∷ 0x00 ∷ 0xFF ∷ 0x80 ∷ 0x00 ∷ 0x02 ∷ 0x06 ∷ 0x80 ∷ 0x01 ∷ 0xFF ∷ []
  pub root_alternative : canonical_octets (choice (context 1, pos 333)) ≡ 0x81 ∷ 0x02 ∷ 0x01 ∷ 0x4D ∷ []
  -- an addition alternative is an open type
  pub addition_alternative : canonical_octets (choice (context 2, pos 333)) ≡ 0x82 ∷ 0x03 ∷ 0x02 ∷ 0x01 ∷ 0x4D ∷ []
  pub long_tag : canonical_octets (long_tags (context 130, true)) ≡ 0xBF ∷ 0x81 ∷ 0x02 ∷ 0xFF ∷ []
  pub longest_tag : canonical_octets (long_tags (context 4294967295, true)) ≡ 0xBF ∷ 0x8F ∷ 0xFF ∷ 0xFF ∷ 0xFF ∷ 0x7F ∷ 0xFF ∷ []
