-- The worked rows: the canonical octets compute. The digits of a number take as many turns as the number has units, so two
-- rows of large numbers go by what spells them instead.
use Rattle.std.proofs.Common.{◌≡◌, ◌^◌, true, cond, List, [], ◌∷◌, ◌++◌, inr, refl, sym, ap, ap₂, ◌∙◌, arith, ℤ, pos, replicate, Some, inl}
use Rattle.asn1_core.specs.Bounds.{Range}
use Rattle.asn1_core.specs.Octets.{Octets}
use Rattle.asn1_core.specs.Tags.{holds}
use Rattle.asn1_core.specs.declared.tag.Tag.{Tag}
use Rattle.oer_spec.specs.Encoding.{canonical_octets}
use Rattle.oer_spec.specs.Examples.{context, boolean}
use Rattle.oer_spec.specs.Leaves.{IsInteger, width_of}
use Rattle.oer_spec.specs.Lengths.{IsTag, behind_length, tag_octets}
use Rattle.oer_spec.specs.Mode.{OwnSized}
use Rattle.oer_spec.specs.Tree.{Int, Tree, Primitive, Choice}
use Rattle.oer_spec.specs.WorkedRows.{PlainRows, StringRows, StructRows, ListAndChoiceRows}
use Rattle.oer_spec.proofs.Canonical.{int_canonical, tag_canonical}
use Rattle.oer_spec.proofs.ExampleParts.{are_octets}

integer_row : (r : Range) (n : ℤ) (o : Octets) → IsInteger OwnSized o (width_of r) n → canonical_octets (Primitive (Int r n)) ≡ o
unfolding canonical_octets
integer_row r n o f = sym (int_canonical o (width_of r) n f)

root_row : (roots additions : List Tag) (g : Tag) (t : Tree) (o p : Octets) → holds roots g ≡ true → IsTag OwnSized o g → canonical_octets t ≡ p → canonical_octets (Choice roots additions g t) ≡ o ++ p
unfolding canonical_octets
root_row roots additions g t o p h f e =
    ap (λ b. tag_octets g ++ cond b (canonical_octets t) (behind_length (canonical_octets t))) h ∙ ap₂ ◌++◌ (sym (tag_canonical o g f)) e

pub plain_rows : PlainRows
unfolding canonical_octets
plain_rows = record {
  truth = refl;
  nothing = refl;
  enumerated_below_128 = refl;
  enumerated_from_128 = refl;
  enumerated_negative = refl;
  integer_zero = refl;
  integer_255 = refl;
  integer_minus_255 = refl;
  integer_minus_32769 = refl;
  from_zero = refl;
  from_minus_one = refl;
  to_zero = refl;
  in_one_octet = refl;
  in_two_octets = refl;
  in_four_octets = refl;
  in_eight_octets = refl;
  past_eight_octets = integer_row (Some (Some (pos 0), Some (pos (2 ^ 64)))) (pos (2 ^ 64)) (0x09 ∷ 0x01 ∷ replicate 8 0x00)
      (0x01 ∷ replicate 8 0x00, (0x09 ∷ [], refl, inl (omega arith, refl, refl), are_octets (0x01 ∷ replicate 8 0x00) refl), omega arith, refl, λ e. absurd (cc e));
  in_one_signed = refl;
  in_two_signed = refl;
  in_four_signed = refl;
  in_eight_signed = refl;
  past_eight_signed = refl;
}

pub string_rows : StringRows
unfolding canonical_octets
string_rows = record {
  bits = refl;
  no_bits = refl;
  ten_bits = refl;
  one_named_bit = refl;
  no_named_bit = refl;
  one_named_bit_of_four = refl;
  octets = refl;
  two_octets = refl;
  many_octets = refl;
  more_octets = refl;
  utf8 = refl;
  numeric = refl;
  printable_of_three = refl;
  bmp_of_two = refl;
  universal_of_two = refl;
  identifier = refl;
  utc_time = refl;
  generalized_time = refl;
  date = refl;
}

pub struct_rows : StructRows
unfolding canonical_octets
struct_rows = record {
  required_alone = refl;
  one_optional_present = refl;
  default_absent = refl;
  default_present = refl;
  extensible = refl;
  no_addition = refl;
  one_addition = refl;
  both_additions = refl;
  with_the_required_addition = refl;
  addition_in_an_addition = refl;
  addition_in_a_default_row = refl;
  empty_group = refl;
  no_group = refl;
  without_root = refl;
  without_root_extended = refl;
  set_by_tag = refl;
  set_with_one = refl;
  set_without_bits = refl;
}

pub list_and_choice_rows : ListAndChoiceRows
unfolding canonical_octets
list_and_choice_rows = record {
  no_elements = refl;
  integers = refl;
  nulls = refl;
  set_of_integers = refl;
  equal_elements = refl;
  set_of_strings = refl;
  set_of_sequences = refl;
  root_alternative = refl;
  addition_alternative = refl;
  long_tag = refl;
  longest_tag = root_row (context 130 ∷ context 4294967295 ∷ []) [] (context 4294967295) (boolean true)
      (0xBF ∷ 0x8F ∷ 0xFF ∷ 0xFF ∷ 0xFF ∷ 0x7F ∷ []) (0xFF ∷ []) refl
      (inr (refl, (omega arith, omega arith, (omega arith, omega arith, (omega arith, omega arith, (omega arith, omega arith, omega arith)))), (λ e. absurd (omega (arith, e))), refl, omega arith))
      refl;
}
