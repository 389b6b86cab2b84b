-- Named bits are read exactly where a front of the octets spells them.
use Rattle.std.proofs.Common.{◌≡◌, ◌-◌, ◌≤◌, max, Bool, true, false, ltb, List, ◌++◌, length, drop, Ok, ap, subst, ◌∙◌, arith, length-append, length-drop}
use Rattle.std.proofs.lemmas.Bool.{ltb-false, le-ltb}
use Rattle.asn1_core.specs.Bounds.{Size, fixed_size}
use Rattle.asn1_core.specs.Octets.{Octets, AreOctets}
use Rattle.asn1_core.specs.declared.codec.Codec.{Codec}
use Rattle.asn1_strings.specs.NamedBits.{significant, without_zeros, IsNamed}
use Rattle.asn1_strings.proofs.NamedLists.{significant_le, significant_zeros, rest_is_zeros, parts_of_named, length_named, without_zeros_is_named}
use Rattle.oer_spec.specs.Leaves.{Failure, bits_fail, least_size, named_bits, IsBitString, IsLeafEncoding}
use Rattle.oer_spec.specs.Mode.{mode_of}
use Rattle.oer_spec.specs.Reading.{◌>>◌, canonical, is_coer}
use Rattle.oer_spec.specs.ReadingBits.{bit_string_at, named_bits_at}
use Rattle.oer_spec.specs.Tree.{Bits, Named}
use Rattle.oer_leaf_read.proofs.ReadBitStrings.{bit_string_reads}
use Rattle.oer_spec.proofs.Named.{padded, length_named_bits, named_again, least_size_le, least_fine}
use Rattle.oer_spec.proofs.Steps.{Reads, bind_ok, then_ok, pair_is, canonical_ok, canonical_again, strict_is, strict_has}

module _ (s : Size) (codec : Codec) where
  -- more bits than the least size, and more than there are up to the last that is set
  abbrev superfluous : List Bool → Bool
  superfluous w = ltb (max (significant w) (least_size s)) (length w)

  abbrev Spells : Octets → List Bool → Type 0
  Spells o b = IsLeafEncoding (mode_of codec) o (Named s b) × IsNamed b

  fewest_zeros : (w : List Bool) → least_size s ≤ length w → superfluous w ≡ false → length (drop (significant w) w) ≡ least_size s - length (without_zeros w)
  fewest_zeros w least e =
      let most : length w ≤ max (significant w) (least_size s) = ltb-false (max (significant w) (least_size s)) (length w) e in
      omega (arith, most, least, significant_le w, length_named w, length-drop (significant w) w)

  spelled : (o : Octets) (w : List Bool) → IsLeafEncoding (mode_of codec) o (Bits s w) → (is_coer codec ≡ true → superfluous w ≡ false) → Spells o (without_zeros w)
  spelled o w (fine, spells) strict =
      let b = without_zeros w in
      let zeros = drop (significant w) w in
      let whole : w ≡ b ++ zeros = parts_of_named w in
      let whole_fine : (k : Failure) → bits_fail s (b ++ zeros) k ≡ false = subst (λ z. (k : Failure) → bits_fail s z k ≡ false) whole fine in
      let least : least_size s ≤ length w = omega (arith, least_size_le s b zeros whole_fine, ap length whole, length-append b zeros) in (
        (
          least_fine s b zeros whole_fine,
          (
            zeros,
            rest_is_zeros w,
            whole_fine,
            subst (λ z. IsBitString (mode_of codec) o (fixed_size s) z) whole spells,
            strict_is codec (λ z. padded s b zeros (rest_is_zeros w) (fewest_zeros w least (strict z))),
          ),
        ),
        without_zeros_is_named w,
      )

  found : (input rest : Octets) (b : List Bool) → AreOctets input → named_bits_at s codec input ≡ Ok (b, rest) → (o : Octets) × (input ≡ o ++ rest) × Spells o b
  unfolding named_bits_at
  found input rest b fits e =
      let a = bind_ok (bit_string_at s codec input) (λ bits. canonical codec (superfluous bits.0) >> Ok (without_zeros bits.0, bits.1)) (b, rest) e in
      let t = then_ok (canonical codec (superfluous a.0.0)) (Ok (without_zeros a.0.0, a.0.1)) (b, rest) a.2 in
      let same = pair_is (without_zeros a.0.0) b a.0.1 rest t.2 in
      let f = (bit_string_reads s codec).found input a.0.1 a.0.0 fits a.1 in
      (f.0, f.1 ∙ ap (λ z. f.0 ++ z) same.1, subst (Spells f.0) same.0 (spelled f.0 a.0.0 f.2 (canonical_ok codec (superfluous a.0.0) t.0 t.1)))

  enough : (b zeros : List Bool) → IsNamed b → significant (b ++ zeros) ≡ significant b → b ++ zeros ≡ named_bits s b → superfluous (b ++ zeros) ≡ false
  enough b zeros i e least =
      le-ltb (max (significant (b ++ zeros)) (least_size s)) (length (b ++ zeros)) (omega (arith, i, e, ap length least, length_named_bits s b))

  again : (o rest : Octets) (b : List Bool) → Spells o b → named_bits_at s codec (o ++ rest) ≡ Ok (b, rest)
  unfolding named_bits_at
  again o rest b ((_, (zeros, f, fine, spells, strict)), i) =
      let test : is_coer codec ≡ true → superfluous (b ++ zeros) ≡ false = λ z. enough b zeros i (significant_zeros b zeros f) (strict_has codec strict z) in
      rw ((bit_string_reads s codec).again o rest (b ++ zeros) (fine, spells), canonical_again codec (superfluous (b ++ zeros)) test) (ap (λ z. Ok (z, rest)) (named_again b zeros i f))

  pub named_bits_reads : Reads (named_bits_at s codec) Spells
  named_bits_reads = record { found = found; again = again }
