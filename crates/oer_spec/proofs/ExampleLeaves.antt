-- Near misses of leaves.
use Rattle.std.proofs.Common.{◌≡◌, ℕ, ◌<◌, Bool, true, false, not, List, [], ◌∷◌, ◌++◌, length, inl, inr, refl, sym, ap, subst, arith, ℤ, pos, negsuc, Some, None, append-nil, length-append, ◌/◌}
use Rattle.std.specs.Prelude.{codes}
use Rattle.std.specs.Str.{chars, is_utf8}
use Rattle.std.proofs.lemmas.Bool.{not-false}
use Rattle.std.proofs.lemmas.Str.{IsUtf8-from_is_utf8, is_utf8-from_IsUtf8}
use Rattle.asn1_core.specs.Octets.{Octets, AreOctets, AllFalse}
use Rattle.asn1_core.specs.Texts.{Rule, AnyOctets, Utf8, Numeric, Printable, Visible, Ia5, Bmp, Universal, Identifier, Utc, Generalized, Date, Obeys}
use Rattle.asn1_core.specs.Bounds.{size_fits}
use Rattle.asn1_strings.specs.NamedBits.{significant}
use Rattle.asn1_strings.proofs.NamedLists.{significant_zeros}
use Rattle.oer_spec.specs.Encoding.{IsTree, IsEncoding, canonical_octets, levels, fails}
use Rattle.oer_spec.specs.Examples.{SpellNone, boolean, null, enumerated, integer, integer_from, integer_in, bit_string, bit_string_of, named, named_within, text, text_of}
use Rattle.oer_spec.specs.Leaves.{BadValue, BadSize, Counted, IsInteger, IsShort, is_small, leaf_fails}
use Rattle.oer_spec.specs.Lengths.{IsLength}
use Rattle.oer_spec.specs.Mode.{Lenient, Canonical}
use Rattle.oer_spec.specs.NearMisses.{PlainMisses, StringMisses}
use Rattle.oer_spec.specs.Tree.{Boolean, Enum, Int, Bits, Named, Text, InOctets}
use Rattle.oer_spec.proofs.ExampleParts.{are_octets, behind, content, padded, counted_parts, none_fails, spelled}
use Rattle.oer_spec.proofs.Named.{length_named_bits}
use Rattle.oer_spec.proofs.Lists.{head_same, not_nil, split_same}
use Rattle.oer_spec.proofs.UniqueLeaves.{fixed_count}

-- ---- BOOLEAN, NULL, ENUMERATED, INTEGER

another_octet : (d : ℕ) (w : Bool) → IsEncoding Canonical d (0x33 ∷ []) (boolean w) → ⊥
unfolding IsEncoding
another_octet d w (_, (x, e, _, _, inl z)) = absurd (omega (arith, head_same 0x33 x [] [] e, z))
another_octet d w (_, (x, e, _, _, inr z)) = absurd (omega (arith, head_same 0x33 x [] [] e, z))

small_in_long_form : (d : ℕ) (n : ℤ) → IsEncoding Canonical d (0x81 ∷ 0x05 ∷ []) (enumerated n) → ⊥
unfolding IsEncoding
small_in_long_form d n (_, inl (l, _, _)) = absurd (omega (arith, l))
small_in_long_form d n (_, inr (_, _, _, _, v, (s, _))) = let small : is_small n ≡ true = ap is_small v in absurd (cc (s, small))

superfluous_octet : (d : ℕ) (n : ℤ) → IsEncoding Canonical d (0x83 ∷ 0x00 ∷ 0x03 ∷ 0xE8 ∷ []) (enumerated n) → ⊥
unfolding IsEncoding
superfluous_octet d n (_, inl (l, _, _)) = absurd (omega (arith, l))
superfluous_octet d n (_, inr (_, _, _, _, _, (_, short))) = short refl

no_count : SpellNone enumerated (0x80 ∷ [])
unfolding IsEncoding
no_count m d n i (_, inl (l, _, _)) = absurd (omega (arith, l))
no_count m d n i (_, inr (l, _, _, _, _, _)) = absurd (omega (arith, l))

padded_integer : (sign : Bool) (c : Octets) → length c < 128 → AreOctets c → (IsShort sign c → ⊥) → (n : ℤ) → IsInteger Canonical (length c ∷ c) (Counted sign) n → ⊥
padded_integer sign c l a not_short n (k, b, _, _, s) = not_short (subst (IsShort sign) (content Canonical c l a (length c ∷ c) k [] [] b refl).0 s)

no_integer : SpellNone integer (0x00 ∷ [])
unfolding IsEncoding
no_integer m d n i (_, (k, b, l, _, _)) =
    let none : length k ≡ 0 = ap length (content m [] (omega arith) tt (0x00 ∷ []) k [] [] b refl).0 in absurd (omega (arith, l, none))

one_octet : SpellNone (integer_in (pos 0) (pos 65535)) (0xFF ∷ [])
unfolding IsEncoding
one_octet m d n i (_, (l, _, _)) = absurd (omega (arith, l))

past_the_range : SpellNone (integer_in (pos 0) (pos 5)) (0x06 ∷ [])
unfolding IsEncoding
past_the_range m d n i (f, (_, _, v)) =
    let outside : leaf_fails (Int (Some (Some (pos 0), Some (pos 5))) n) BadValue ≡ true = ap (λ z. leaf_fails (Int (Some (Some (pos 0), Some (pos 5))) z) BadValue) v in
    absurd (cc (f BadValue, outside))

pub plain_misses : PlainMisses
unfolding IsEncoding canonical_octets levels fails IsTree
plain_misses = record {
  truth = spelled (boolean true) tt refl refl;
  truth_by_another_octet = record {
    is_tree = tt;
    leniently = (none_fails (leaf_fails (Boolean true)) refl, (0x33, refl, omega arith, refl, tt));
    canonically = λ d w i f. another_octet d w f;
  };
  nothing = spelled (null tt) tt refl refl;
  nothing_with_an_octet = λ m d v i f. not_nil 0x00 [] f.1;
  enumerated_number = spelled (enumerated (negsuc 999)) refl refl refl;
  enumerated_below_128_in_long_form = record {
    is_tree = refl;
    leniently = (none_fails (leaf_fails (Enum (pos 5))) refl, inr (omega arith, omega arith, refl, are_octets (0x05 ∷ []) refl, refl, tt));
    canonically = λ d w i f. small_in_long_form d w f;
  };
  enumerated_with_a_superfluous_octet = record {
    is_tree = refl;
    leniently = (none_fails (leaf_fails (Enum (pos 1000))) refl, inr (omega arith, omega arith, refl, are_octets (0x00 ∷ 0x03 ∷ 0xE8 ∷ []) refl, refl, tt));
    canonically = λ d w i f. superfluous_octet d w f;
  };
  enumerated_without_octets = no_count;
  number = spelled (integer (negsuc 254)) tt refl refl;
  number_with_a_superfluous_octet = record {
    is_tree = tt;
    leniently = (none_fails (leaf_fails (Int None (pos 0))) refl, (0x00 ∷ 0x00 ∷ [], behind Lenient (0x00 ∷ 0x00 ∷ []) (omega arith) (are_octets (0x00 ∷ 0x00 ∷ []) refl), omega arith, refl, tt));
    canonically = λ d w i f. padded_integer true (0x00 ∷ 0x00 ∷ []) (omega arith) (are_octets (0x00 ∷ 0x00 ∷ []) refl) (λ short. short refl) w f.1;
  };
  number_with_a_superfluous_sign = record {
    is_tree = tt;
    leniently = (none_fails (leaf_fails (Int None (negsuc 0))) refl, (0xFF ∷ 0xFF ∷ [], behind Lenient (0xFF ∷ 0xFF ∷ []) (omega arith) (are_octets (0xFF ∷ 0xFF ∷ []) refl), omega arith, refl, tt));
    canonically = λ d w i f. padded_integer true (0xFF ∷ 0xFF ∷ []) (omega arith) (are_octets (0xFF ∷ 0xFF ∷ []) refl) (λ short. short refl) w f.1;
  };
  number_without_octets = no_integer;
  unsigned = spelled (integer_from (pos 0) (pos 255)) tt refl refl;
  unsigned_with_a_superfluous_octet = record {
    is_tree = tt;
    leniently = (none_fails (leaf_fails (Int (Some (Some (pos 0), None)) (pos 255))) refl, (0x00 ∷ 0xFF ∷ [], behind Lenient (0x00 ∷ 0xFF ∷ []) (omega arith) (are_octets (0x00 ∷ 0xFF ∷ []) refl), omega arith, refl, tt));
    canonically = λ d w i f. padded_integer false (0x00 ∷ 0xFF ∷ []) (omega arith) (are_octets (0x00 ∷ 0xFF ∷ []) refl) (λ short. short refl) w f.1;
  };
  in_two_octets = spelled (integer_in (pos 0) (pos 65535) (pos 255)) tt refl refl;
  one_octet_in_place_of_two = one_octet;
  in_range = spelled (integer_in (pos 0) (pos 5) (pos 5)) tt refl refl;
  past_the_range = past_the_range;
}

-- ---- strings, identifiers, times

fill_bits : (d : ℕ) (w : List Bool) → IsEncoding Canonical d (0x02 ∷ 0x04 ∷ 0x1F ∷ []) (bit_string w) → ⊥
unfolding IsEncoding
fill_bits d w (_, inl (u, f, s)) =
    let p = counted_parts Canonical (0x1F ∷ []) (false ∷ false ∷ false ∷ true ∷ []) (true ∷ true ∷ true ∷ true ∷ []) (omega arith) (are_octets (0x04 ∷ 0x1F ∷ []) refl) refl (0x02 ∷ 0x04 ∷ 0x1F ∷ []) [] [] w u f refl in
    absurd (cc (subst AllFalse p.1 s).0)
fill_bits d w (_, inr (never, _, _)) = absurd never

length_of_zero : (d : ℕ) (w : List Bool) → IsEncoding Canonical d (0x00 ∷ []) (bit_string w) → ⊥
unfolding IsEncoding
length_of_zero d w (_, inl (u, (k, b, _, _), _)) = not_nil (length u) k (content Canonical [] (omega arith) tt (0x00 ∷ []) (length u ∷ k) [] [] b refl).0
length_of_zero d w (_, inr (never, _, _)) = absurd never

eight_unused : SpellNone bit_string (0x02 ∷ 0x08 ∷ 0x00 ∷ [])
unfolding IsEncoding
eight_unused m d w i (_, inl (u, (k, b, l, _), _)) =
    let e : length u ≡ 8 = head_same (length u) 8 k (0x00 ∷ []) (content m (0x08 ∷ 0x00 ∷ []) (omega arith) (are_octets (0x08 ∷ 0x00 ∷ []) refl) (0x02 ∷ 0x08 ∷ 0x00 ∷ []) (length u ∷ k) [] [] b refl).0 in
    absurd (omega (arith, l, e))
eight_unused m d w i (_, inr (_, b, _)) =
    not_nil 0x08 (0x00 ∷ []) (sym (content m (0x08 ∷ 0x00 ∷ []) (omega arith) (are_octets (0x08 ∷ 0x00 ∷ []) refl) (0x02 ∷ 0x08 ∷ 0x00 ∷ []) [] [] [] b refl).0)

fixed_fill_bits : (d : ℕ) (w : List Bool) → IsEncoding Canonical d (0x13 ∷ []) (bit_string_of 4 w) → ⊥
unfolding IsEncoding
fixed_fill_bits d w (f, (_, u, _, e, s)) =
    let four : length w ≡ 4 = fixed_count (Some (4, 4)) 4 (length w) (not-false (size_fits (Some (4, 4)) (length w)) (f BadSize)) refl in
    absurd (cc (subst AllFalse (split_same w (false ∷ false ∷ false ∷ true ∷ []) u (false ∷ false ∷ true ∷ true ∷ []) four (sym e)).1 s).1.1.0)

-- eight bits, of which the first alone is set
zeros_behind : (d : ℕ) (w : List Bool) → IsTree (named w) → IsEncoding Canonical d (0x02 ∷ 0x00 ∷ 0x80 ∷ []) (named w) → ⊥
unfolding IsEncoding IsTree
zeros_behind d w i (_, (zeros, f, _, inl (u, g, s), least)) =
    let p =
    counted_parts Canonical (0x80 ∷ []) (true ∷ false ∷ false ∷ false ∷ false ∷ false ∷ false ∷ false ∷ []) [] (omega arith) (are_octets (0x00 ∷ 0x80 ∷ []) refl) refl (0x02 ∷ 0x00 ∷ 0x80 ∷ []) [] [] (w ++ zeros) u g refl in
    let eight : length (w ++ zeros) ≡ 8 = ap length p.0 in
    let one : significant (w ++ zeros) ≡ 1 = ap significant p.0 in
    absurd (omega (arith, i, eight, one, significant_zeros w zeros f, ap length least, length_named_bits None w, length-append w zeros))
zeros_behind d w i (_, (_, _, _, inr (never, _, _), _)) = absurd never

too_few : SpellNone (named_within 4 8) (0x02 ∷ 0x07 ∷ 0x80 ∷ [])
unfolding IsEncoding
too_few m d w i (_, (zeros, _, fine, inl (u, g, _), _)) =
    let p =
    counted_parts m (0x80 ∷ []) (true ∷ []) (false ∷ false ∷ false ∷ false ∷ false ∷ false ∷ false ∷ []) (omega arith) (are_octets (0x07 ∷ 0x80 ∷ []) refl) refl (0x02 ∷ 0x07 ∷ 0x80 ∷ []) [] [] (w ++ zeros) u g refl in
    let small : not (size_fits (Some (4, 8)) (length (w ++ zeros))) ≡ true = ap (λ z. not (size_fits (Some (4, 8)) (length z))) p.0 in
    absurd (cc (fine BadSize, small))
too_few m d w i (_, (_, _, _, inr (_, b, _), _)) =
    not_nil 0x07 (0x80 ∷ []) (sym (content m (0x07 ∷ 0x80 ∷ []) (omega arith) (are_octets (0x07 ∷ 0x80 ∷ []) refl) (0x02 ∷ 0x07 ∷ 0x80 ∷ []) [] [] [] b refl).0)

long_length : (l : Octets) → IsLength Lenient l 2 → (IsLength Canonical l 2 → ⊥) → (d : ℕ) (c : Octets) → IsEncoding Canonical d (l ++ (0xAA ∷ 0xBB ∷ [])) (text AnyOctets c) → ⊥
unfolding IsEncoding
long_length l f never d c (_, b) = padded l 2 f never (l ++ (0xAA ∷ 0xBB ∷ [])) c [] (0xAA ∷ 0xBB ∷ []) b (append-nil (l ++ (0xAA ∷ 0xBB ∷ [])))

no_length : SpellNone (text AnyOctets) (0x80 ∷ 0xAA ∷ [])
unfolding IsEncoding
no_length m d c i (_, ([], _, l, _)) = absurd l
no_length m d c i (_, ((x ∷ k), e, inl l, _)) = absurd (omega (arith, head_same 0x80 x (0xAA ∷ []) (k ++ c) e, l.0))
no_length m d c i (_, ((x ∷ k), e, inr l, _)) = absurd (omega (arith, head_same 0x80 x (0xAA ∷ []) (k ++ c) e, l.0))

one_octet_of_two : SpellNone (text_of AnyOctets 2) (0xAA ∷ [])
unfolding IsEncoding
one_octet_of_two m d c i (f, (e, _)) =
    let two : length c / 1 ≡ 2 = fixed_count (Some (2, 2)) 2 (length c / 1) (not-false (size_fits (Some (2, 2)) (length c / 1)) (f BadSize)) refl in
    let one : 1 ≡ length c = ap length e in
    absurd (omega (arith, two, one))

-- what is behind the length breaks the rule
disobeyed : (r : Rule) (e : Octets) → length e < 128 → AreOctets e → (Obeys r e → ⊥) → SpellNone (text r) (length e ∷ e)
unfolding IsEncoding IsTree
disobeyed r e l a never m d c i f = never (subst (Obeys r) (content m e l a (length e ∷ e) c [] [] f.1 refl).0 i.1)

no_utf8 : Obeys Utf8 (0xFF ∷ []) → ⊥
unfolding chars is_utf8
no_utf8 f = let e : false ≡ true = is_utf8-from_IsUtf8 (0xFF ∷ []) f in absurd (cc e)

a_umlaut : Obeys Utf8 (0xC3 ∷ 0x84 ∷ [])
unfolding chars is_utf8 lib.Utf8.encode
a_umlaut = IsUtf8-from_is_utf8 (0xC3 ∷ 0x84 ∷ []) refl

no_bmp : Obeys Bmp (0x00 ∷ 0x41 ∷ 0x00 ∷ []) → ⊥
no_bmp (n, e) = absurd (omega (arith, e))

no_universal : Obeys Universal (0x00 ∷ 0x41 ∷ []) → ⊥
no_universal (n, e) = absurd (omega (arith, e))

pub string_misses : StringMisses
unfolding IsEncoding canonical_octets levels fails IsTree
string_misses = record {
  bits = spelled (bit_string (false ∷ false ∷ false ∷ true ∷ [])) tt refl refl;
  bits_with_fill_bits_set = record {
    is_tree = tt;
    leniently = (
      none_fails (leaf_fails (Bits None (false ∷ false ∷ false ∷ true ∷ []))) refl,
      inl (true ∷ true ∷ true ∷ true ∷ [], (0x1F ∷ [], behind Lenient (0x04 ∷ 0x1F ∷ []) (omega arith) (are_octets (0x04 ∷ 0x1F ∷ []) refl), omega arith, refl), tt),
    );
    canonically = λ d w i f. fill_bits d w f;
  };
  no_bits_by_a_length_of_zero = record {
    is_tree = tt;
    leniently = (none_fails (leaf_fails (Bits None [])) refl, inr (tt, behind Lenient [] (omega arith) tt, refl));
    canonically = λ d w i f. length_of_zero d w f;
  };
  eight_unused_bits = eight_unused;
  four_bits = spelled (bit_string_of 4 (false ∷ false ∷ false ∷ true ∷ [])) tt refl refl;
  four_bits_with_fill_bits_set = record {
    is_tree = tt;
    leniently = (none_fails (leaf_fails (Bits (Some (4, 4)) (false ∷ false ∷ false ∷ true ∷ []))) refl, (are_octets (0x13 ∷ []) refl, false ∷ false ∷ true ∷ true ∷ [], omega arith, refl, tt));
    canonically = λ d w i f. fixed_fill_bits d w f;
  };
  one_named_bit = spelled (named (true ∷ [])) refl refl refl;
  named_with_zeros_behind = record {
    is_tree = refl;
    leniently = (
      none_fails (leaf_fails (Named None (true ∷ []))) refl,
      (
        false ∷ false ∷ false ∷ false ∷ false ∷ false ∷ false ∷ [],
        (refl, (refl, (refl, (refl, (refl, (refl, (refl, tt))))))),
        none_fails (leaf_fails (Bits None (true ∷ false ∷ false ∷ false ∷ false ∷ false ∷ false ∷ false ∷ []))) refl,
        inl ([], (0x80 ∷ [], behind Lenient (0x00 ∷ 0x80 ∷ []) (omega arith) (are_octets (0x00 ∷ 0x80 ∷ []) refl), omega arith, refl), tt),
        tt,
      ),
    );
    canonically = λ d w i f. zeros_behind d w i f;
  };
  named_below_the_least_size = too_few;
  octets = spelled (text AnyOctets (0xAA ∷ 0xBB ∷ [])) (are_octets (0xAA ∷ 0xBB ∷ []) refl, tt) refl refl;
  octets_with_a_length_in_long_form = record {
    is_tree = (are_octets (0xAA ∷ 0xBB ∷ []) refl, tt);
    leniently = (none_fails (leaf_fails (Text AnyOctets None (InOctets (0xAA ∷ 0xBB ∷ [])))) refl, (0x81 ∷ 0x02 ∷ [], refl, long_two, are_octets (0xAA ∷ 0xBB ∷ []) refl));
    canonically = λ d w i f. long_length (0x81 ∷ 0x02 ∷ []) long_two not_long_two d w f;
  };
  octets_with_a_superfluous_octet_in_the_length = record {
    is_tree = (are_octets (0xAA ∷ 0xBB ∷ []) refl, tt);
    leniently = (none_fails (leaf_fails (Text AnyOctets None (InOctets (0xAA ∷ 0xBB ∷ [])))) refl, (0x82 ∷ 0x00 ∷ 0x02 ∷ [], refl, longer_two, are_octets (0xAA ∷ 0xBB ∷ []) refl));
    canonically = λ d w i f. long_length (0x82 ∷ 0x00 ∷ 0x02 ∷ []) longer_two not_longer_two d w f;
  };
  octets_without_a_length = no_length;
  two_octets = spelled (text_of AnyOctets 2 (0xAA ∷ 0xBB ∷ [])) (are_octets (0xAA ∷ 0xBB ∷ []) refl, tt) refl refl;
  one_octet_in_place_of_two = one_octet_of_two;
  utf8 = spelled (text Utf8 (0xC3 ∷ 0x84 ∷ [])) (are_octets (0xC3 ∷ 0x84 ∷ []) refl, a_umlaut) refl refl;
  no_utf8 = disobeyed Utf8 (0xFF ∷ []) (omega arith) (are_octets (0xFF ∷ []) refl) no_utf8;
  bmp = spelled (text Bmp (0x00 ∷ 0x41 ∷ [])) (are_octets (0x00 ∷ 0x41 ∷ []) refl, (1, refl)) refl refl;
  half_a_bmp_character = disobeyed Bmp (0x00 ∷ 0x41 ∷ 0x00 ∷ []) (omega arith) (are_octets (0x00 ∷ 0x41 ∷ 0x00 ∷ []) refl) no_bmp;
  universal = spelled (text Universal (0x00 ∷ 0x01 ∷ 0xF6 ∷ 0x00 ∷ [])) (are_octets (0x00 ∷ 0x01 ∷ 0xF6 ∷ 0x00 ∷ []) refl, (1, refl)) refl refl;
  half_a_universal_character = disobeyed Universal (0x00 ∷ 0x41 ∷ []) (omega arith) (are_octets (0x00 ∷ 0x41 ∷ []) refl) no_universal;
  numeric = spelled (text Numeric (codes "31")) (are_octets (codes "31") refl, refl) refl refl;
  a_letter_in_a_numeric_string = disobeyed Numeric (codes "3A") (omega arith) (are_octets (codes "3A") refl) (λ e. absurd (cc e));
  printable = spelled (text Printable (codes "A?")) (are_octets (codes "A?") refl, refl) refl refl;
  an_asterisk_in_a_printable_string = disobeyed Printable (codes "A*") (omega arith) (are_octets (codes "A*") refl) (λ e. absurd (cc e));
  visible = spelled (text Visible (codes "A*")) (are_octets (codes "A*") refl, refl) refl refl;
  a_delete_in_a_visible_string = disobeyed Visible (0x41 ∷ 0x7F ∷ []) (omega arith) (are_octets (0x41 ∷ 0x7F ∷ []) refl) (λ e. absurd (cc e));
  ia5 = spelled (text Ia5 (0x41 ∷ 0x7F ∷ [])) (are_octets (0x41 ∷ 0x7F ∷ []) refl, refl) refl refl;
  a_high_octet_in_an_ia5_string = disobeyed Ia5 (0x41 ∷ 0x80 ∷ []) (omega arith) (are_octets (0x41 ∷ 0x80 ∷ []) refl) (λ e. absurd (cc e));
  identifier = spelled (text Identifier (0x2A ∷ 0x99 ∷ 0x79 ∷ [])) (are_octets (0x2A ∷ 0x99 ∷ 0x79 ∷ []) refl, refl) refl refl;
  identifier_with_a_superfluous_group = disobeyed Identifier (0x80 ∷ 0x01 ∷ []) (omega arith) (are_octets (0x80 ∷ 0x01 ∷ []) refl) (λ e. absurd (cc e));
  identifier_with_an_unfinished_arc = disobeyed Identifier (0x2A ∷ 0x99 ∷ []) (omega arith) (are_octets (0x2A ∷ 0x99 ∷ []) refl) (λ e. absurd (cc e));
  greatest_arc = spelled (text Identifier (0x90 ∷ 0x80 ∷ 0x80 ∷ 0x80 ∷ 0x4F ∷ [])) (are_octets (0x90 ∷ 0x80 ∷ 0x80 ∷ 0x80 ∷ 0x4F ∷ []) refl, refl) refl refl;
  arc_past_the_greatest = disobeyed Identifier (0x90 ∷ 0x80 ∷ 0x80 ∷ 0x80 ∷ 0x50 ∷ []) (omega arith) (are_octets (0x90 ∷ 0x80 ∷ 0x80 ∷ 0x80 ∷ 0x50 ∷ []) refl) (λ e. absurd (cc e));
  utc_time = spelled (text Utc (codes "191009130005Z")) (are_octets (codes "191009130005Z") refl, refl) refl refl;
  utc_time_of_a_25th_hour = disobeyed Utc (codes "191009240005Z") (omega arith) (are_octets (codes "191009240005Z") refl) (λ e. absurd (cc e));
  generalized_time = spelled (text Generalized (codes "20240229120000.05Z")) (are_octets (codes "20240229120000.05Z") refl, refl) refl refl;
  generalized_time_with_a_superfluous_digit = disobeyed Generalized (codes "20240229120000.50Z") (omega arith) (are_octets (codes "20240229120000.50Z") refl) (λ e. absurd (cc e));
  date = spelled (text Date (codes "20240229")) (are_octets (codes "20240229") refl, refl) refl refl;
  date_of_no_leap_year = disobeyed Date (codes "20230229") (omega arith) (are_octets (codes "20230229") refl) (λ e. absurd (cc e));
}
  where
    long_two : IsLength Lenient (0x81 ∷ 0x02 ∷ []) 2
    long_two = inr (omega arith, omega arith, refl, are_octets (0x02 ∷ []) refl, refl, omega arith, tt)

    not_long_two : IsLength Canonical (0x81 ∷ 0x02 ∷ []) 2 → ⊥
    not_long_two (inl (l, _, _)) = absurd (omega (arith, l))
    not_long_two (inr (_, _, _, _, _, _, (l, _))) = absurd (omega (arith, l))

    longer_two : IsLength Lenient (0x82 ∷ 0x00 ∷ 0x02 ∷ []) 2
    longer_two = inr (omega arith, omega arith, refl, are_octets (0x00 ∷ 0x02 ∷ []) refl, refl, omega arith, tt)

    not_longer_two : IsLength Canonical (0x82 ∷ 0x00 ∷ 0x02 ∷ []) 2 → ⊥
    not_longer_two (inl (l, _, _)) = absurd (omega (arith, l))
    not_longer_two (inr (_, _, _, _, _, _, (l, _))) = absurd (omega (arith, l))
