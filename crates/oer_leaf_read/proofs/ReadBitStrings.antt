-- Bit strings are read exactly where a front of the octets spells them.
use Rattle.std.proofs.Common.{◌≡◌, ℕ, zero, suc, ◌+◌, ◌-◌, ◌*◌, ◌/◌, ◌<◌, ◌≤◌, Bool, true, false, cond, ltb, eqb, List, [], ◌∷◌, ◌++◌, length, take, Result, Ok, Option, Some, None, refl, sym, ap, subst, ◌∙◌, arith, append_assoc, append-nil, length-append, inl, inr}
use Rattle.std.specs.Prelude.{not}
use Rattle.std.proofs.lemmas.Bool.{ltb-false, le-ltb, ne_eqb}
use Rattle.std.proofs.lemmas.List.{length-take-le}
use Rattle.asn1_core.specs.Bounds.{Size, fixed_size, size_fits}
use Rattle.asn1_core.specs.Octets.{Octets, AreOctets, usize_max, bits_of, octets_for, AllFalse}
use Rattle.asn1_core.specs.declared.codec.Codec.{Codec}
use Rattle.asn1_core.specs.declared.codec.Codec.TheVariants.{Oer, Coer}
use Rattle.asn1_core.specs.declared.error.DecodeErrorKind.{DecodeErrorKind}
use Rattle.asn1_core.specs.declared.error.DecodeErrorKind.TheVariants.{InvalidBitString, LengthExceedsPlatformWidth, SizeConstraintNotSatisfied}
use Rattle.oer_spec.specs.Bits.{front_bits, has_set_fill}
use Rattle.oer_spec.specs.Leaves.{Failure, BadValue, BadSize, BadIdentifier, BadTime, TooManyEmpty, TooLong, leaf_fails, string_too_long, IsBitString, IsLeafEncoding}
use Rattle.oer_spec.specs.Lengths.{IsLength}
use Rattle.oer_spec.specs.Mode.{mode_of, InStrict}
use Rattle.oer_spec.specs.Reading.{◌>>=◌, ◌>>◌, octets_at, canonical, is_coer, length_at}
use Rattle.oer_spec.specs.ReadingBits.{refuse_if, size_test, unused_for, is_overfull, fixed_bits_at, counted_from, counted_bits_at, sized_bits_at, bit_string_at}
use Rattle.oer_spec.specs.Tree.{Bits}
use Rattle.oer_leaf_read.proofs.Fill.{unused_bits, all_unset, parts_of_bits, length-unused, front_is, unused_enough, unset_again}
use Rattle.oer_leaf_read.proofs.ReadLengths.{length_reads}
use Rattle.oer_leaf_read.proofs.ReadPlaces.{refuse_ok, octets_found, fewest_octets, IsCounted, counted_is, overfull_not, not_overfull}
use Rattle.oer_leaf_read.proofs.ReadTexts.{not_not, fixed_only, fixed_fits}
use Rattle.oer_spec.proofs.Steps.{Reads, bind_ok, then_ok, pair_is, octets_again, canonical_ok, canonical_again, strict_is, strict_has, front_octets, rear_octets}
use Rattle.oer_spec.proofs.Unique.{length-bits_of}

pub fixed_front : (n : ℕ) (o : Octets) → length o ≡ octets_for n → take n (bits_of o) ≡ front_bits (unused_for n) o
fixed_front n o e = let k : n ≡ 8 * length o - unused_for n = omega arith in ap (λ z. take z (bits_of o)) k

pub whole_count : (n : ℕ) (o : Octets) → length o ≡ octets_for n → length (take n (bits_of o)) ≡ n
whole_count n o e = length-take-le n (bits_of o) (omega (arith, length-bits_of o))

-- ---- what fails of a bit string
module _ (s : Size) (b : List Bool) where
  pub bits_fine : size_fits s (length b) ≡ true → string_too_long (fixed_size s) (octets_for (length b)) ≡ false → (k : Failure) → leaf_fails (Bits s b) k ≡ false
  bits_fine size long BadValue = refl
  bits_fine size long BadSize = ap not size
  bits_fine size long BadIdentifier = refl
  bits_fine size long BadTime = refl
  bits_fine size long TooManyEmpty = refl
  bits_fine size long TooLong = long

  pub bits_size : ((k : Failure) → leaf_fails (Bits s b) k ≡ false) → size_fits s (length b) ≡ true
  bits_size fine = not_not (size_fits s (length b)) (fine BadSize)

-- ---- of a fixed size
few_unused : (n : ℕ) → unused_for n < 8
few_unused n = omega arith

-- octets that hold bits, and less than eight more
pub record Hold (codec : Codec) (o : Octets) (b : List Bool) : Type 0 where
  pub octets : AreOctets o
  pub unused : List Bool
  pub few : length unused < 8
  pub split : bits_of o ≡ b ++ unused
  pub strict : InStrict (mode_of codec) (AllFalse unused)

fixed_found : (codec : Codec) (n : ℕ) (input rest : Octets) (b : List Bool) → AreOctets input → fixed_bits_at n codec input ≡ Ok (b, rest) → (o : Octets) × (input ≡ o ++ rest) × Hold codec o b × (length b ≡ n)
unfolding fixed_bits_at
fixed_found codec n input rest b fits e =
    let a = bind_ok (octets_at (octets_for n) input) (λ octets. canonical codec (has_set_fill (unused_for n) octets.0) >> Ok (front_bits (unused_for n) octets.0, octets.1)) (b, rest) e in
    let t = then_ok (canonical codec (has_set_fill (unused_for n) a.0.0)) (Ok (front_bits (unused_for n) a.0.0, a.0.1)) (b, rest) a.2 in
    let same = pair_is (front_bits (unused_for n) a.0.0) b a.0.1 rest t.2 in
    let p = octets_found (octets_for n) input a.0 a.1 in
    let whole : input ≡ a.0.0 ++ rest = p.1 ∙ ap (λ z. a.0.0 ++ z) same.1 in
    let octets : AreOctets a.0.0 = front_octets a.0.0 rest (subst AreOctets whole fits) in
    let enough : unused_for n ≤ 8 * length a.0.0 = omega (arith, p.0) in
    let size : length (unused_bits (unused_for n) a.0.0) ≡ unused_for n = length-unused (unused_for n) a.0.0 enough in
    let split : bits_of a.0.0 ≡ b ++ unused_bits (unused_for n) a.0.0 = parts_of_bits (unused_for n) a.0.0 ∙ ap (λ z. z ++ unused_bits (unused_for n) a.0.0) same.0 in
    let count : length b ≡ n = omega (arith, length-bits_of a.0.0, ap length split, length-append b (unused_bits (unused_for n) a.0.0), size, p.0) in
    let strict : is_coer codec ≡ true → AllFalse (unused_bits (unused_for n) a.0.0) = λ z. all_unset (unused_for n) a.0.0 (few_unused n) enough octets (canonical_ok codec (has_set_fill (unused_for n) a.0.0) t.0 t.1 z) in
    (a.0.0, whole, record { octets = octets; unused = unused_bits (unused_for n) a.0.0; few = subst (λ z. z < 8) (sym size) (few_unused n); split = split; strict = strict_is codec strict }, count)

fixed_again : (codec : Codec) (n : ℕ) (o rest : Octets) (b : List Bool) → Hold codec o b → length b ≡ n → fixed_bits_at n codec (o ++ rest) ≡ Ok (b, rest)
unfolding fixed_bits_at
fixed_again codec n o rest b h count =
    let sizes = fewest_octets o b h.unused h.few h.split in
    let size : length o ≡ octets_for n = sizes.0 ∙ ap octets_for count in
    let unused : unused_for n ≡ length h.unused = sym (sizes.1 ∙ ap unused_for count) in
    let fill : is_coer codec ≡ true → has_set_fill (length h.unused) o ≡ false = λ z. unset_again o b h.unused h.octets h.few h.split (strict_has codec h.strict z) in
    rw (octets_again o rest (octets_for n) size, unused, canonical_again codec (has_set_fill (length h.unused) o) fill, front_is o b h.unused h.split) refl

-- ---- behind a length
-- the octets behind a length that isn't 0
pub record IsContent (codec : Codec) (c : Octets) (b : List Bool) : Type 0 where
  pub unused : List Bool
  pub counted : IsCounted c b unused
  pub strict : InStrict (mode_of codec) (AllFalse unused)
  pub short : length c ≤ usize_max / 8 + 1

counted_found : (codec : Codec) (count : ℕ) (input rest : Octets) (b : List Bool) → AreOctets input → counted_from codec count input ≡ Ok (b, rest) → (c : Octets) × (length c ≡ suc count) × (input ≡ c ++ rest) × IsContent codec c b
unfolding counted_from
counted_found codec count [] rest b fits e = absurd cc
counted_found codec count (u ∷ input) rest b (f, fits) e =
    let g = then_ok (refuse_if (is_overfull u count) InvalidBitString) (refuse_if (ltb (usize_max / 8) count) LengthExceedsPlatformWidth >> (octets_at count input >>= λ octets. canonical codec (has_set_fill u octets.0) >> Ok (front_bits u octets.0, octets.1))) (b, rest) e in
    let h = then_ok (refuse_if (ltb (usize_max / 8) count) LengthExceedsPlatformWidth) (octets_at count input >>= λ octets. canonical codec (has_set_fill u octets.0) >> Ok (front_bits u octets.0, octets.1)) (b, rest) g.2 in
    let a = bind_ok (octets_at count input) (λ octets. canonical codec (has_set_fill u octets.0) >> Ok (front_bits u octets.0, octets.1)) (b, rest) h.2 in
    let t = then_ok (canonical codec (has_set_fill u a.0.0)) (Ok (front_bits u a.0.0, a.0.1)) (b, rest) a.2 in
    let same = pair_is (front_bits u a.0.0) b a.0.1 rest t.2 in
    let p = octets_found count input a.0 a.1 in
    let n = overfull_not u count (refuse_ok (is_overfull u count) InvalidBitString g.0 g.1) in
    let short : count ≤ usize_max / 8 = ltb-false (usize_max / 8) count (refuse_ok (ltb (usize_max / 8) count) LengthExceedsPlatformWidth h.0 h.1) in
    let whole : input ≡ a.0.0 ++ rest = p.1 ∙ ap (λ z. a.0.0 ++ z) same.1 in
    let octets : AreOctets a.0.0 = front_octets a.0.0 rest (subst AreOctets whole fits) in
    let enough : u ≤ 8 * length a.0.0 = subst (λ z. u ≤ 8 * z) (sym p.0) n.1 in
    let strict : is_coer codec ≡ true → AllFalse (unused_bits u a.0.0) = λ z. all_unset u a.0.0 n.0 enough octets (canonical_ok codec (has_set_fill u a.0.0) t.0 t.1 z) in
    let content : IsContent codec (u ∷ a.0.0) (front_bits u a.0.0) = record { unused = unused_bits u a.0.0; counted = counted_is u a.0.0 n.0 enough; strict = strict_is codec strict; short = omega (arith, p.0, short) } in
    (u ∷ a.0.0, ap suc p.0, ap (λ z. u ∷ z) whole, subst (IsContent codec (u ∷ a.0.0)) same.0 content)

counted_one : (codec : Codec) (o rest : Octets) (b v : List Bool) → length v < 8 → AreOctets o → bits_of o ≡ b ++ v → InStrict (mode_of codec) (AllFalse v) → length o ≤ usize_max / 8 → (n : ℕ) → n ≡ length o
    → counted_from codec n (length v ∷ (o ++ rest)) ≡ Ok (b, rest)
unfolding counted_from
counted_one codec o rest b v few octets split strict short n size =
    let fill : is_coer codec ≡ true → has_set_fill (length v) o ≡ false = λ z. unset_again o b v octets few split (strict_has codec strict z) in
    rw (size, not_overfull (length v) (length o) few (unused_enough o b v split), le-ltb (usize_max / 8) (length o) short, octets_again o rest (length o) refl, canonical_again codec (has_set_fill (length v) o) fill, front_is o b v split) refl

abbrev none_at : Octets → Result (List Bool × Octets) DecodeErrorKind
none_at o = Ok ([], o)

-- the same with the length
after_length : (codec : Codec) (n : ℕ) (l input rest : Octets) (b : List Bool) → IsLength (mode_of codec) l n → AreOctets input → cond (eqb n 0) (canonical codec true >> none_at input) (counted_from codec (n - 1) input) ≡ Ok (b, rest)
    → (o : Octets) × (l ++ input ≡ o ++ rest) × IsBitString (mode_of codec) o None b × (octets_for (length b) ≤ usize_max / 8)
after_length Oer zero l input rest b len fits e =
    let same = pair_is [] b input rest e in
    (l, ap (λ z. l ++ z) same.1, inr (tt, (l, sym (append-nil l), len, tt), sym same.0), subst (λ z. octets_for (length z) ≤ usize_max / 8) same.0 (omega arith))
after_length Coer zero l input rest b len fits e = absurd cc
after_length codec (suc n) l input rest b len fits e =
    let some : eqb (suc n) 0 ≡ false = ne_eqb (suc n) 0 (λ h. omega arith) in
    let f = counted_found codec (suc n - 1) input rest b fits (rw some at e) in
    let k : IsContent codec f.0 b = f.3 in
    let count : suc n ≡ length (length k.unused ∷ k.counted.octets) = omega (arith, f.1, ap length k.counted.whole) in
    let whole : input ≡ (length k.unused ∷ k.counted.octets) ++ rest = f.2 ∙ ap (λ z. z ++ rest) k.counted.whole in
    let octets : AreOctets (length k.unused ∷ k.counted.octets) = front_octets (length k.unused ∷ k.counted.octets) rest (subst AreOctets whole fits) in
    let size = fewest_octets k.counted.octets b k.unused k.counted.few k.counted.split in (
      l ++ (length k.unused ∷ k.counted.octets),
      ap (λ z. l ++ z) whole ∙ sym (append_assoc l (length k.unused ∷ k.counted.octets) rest),
      inl (k.unused, (k.counted.octets, (l, refl, subst (IsLength (mode_of codec) l) count len, octets), k.counted.few, k.counted.split), k.strict),
      omega (arith, size.0, k.short, ap length k.counted.whole),
    )

bits_found : (codec : Codec) (input rest : Octets) (b : List Bool) → AreOctets input → counted_bits_at codec input ≡ Ok (b, rest) → (o : Octets) × (input ≡ o ++ rest) × IsBitString (mode_of codec) o None b × (octets_for (length b) ≤ usize_max / 8)
unfolding counted_bits_at
bits_found codec input rest b fits e =
    let a = bind_ok (length_at codec input) (λ count. cond (eqb count.0 0) (canonical codec true >> none_at count.1) (counted_from codec (count.0 - 1) count.1)) (b, rest) e in
    let l = (length_reads codec).found input a.0.1 a.0.0 fits a.1 in
    let f = after_length codec a.0.0 l.0 a.0.1 rest b l.2 (rear_octets l.0 a.0.1 (subst AreOctets l.1 fits)) a.2 in
    (f.0, l.1 ∙ f.1, f.2, f.3)

bits_again : (codec : Codec) (o rest : Octets) (b : List Bool) → IsBitString (mode_of codec) o None b → octets_for (length b) ≤ usize_max / 8 → counted_bits_at codec (o ++ rest) ≡ Ok (b, rest)
unfolding counted_bits_at
bits_again codec o rest b (inl (v, (k, (l, whole, len, octets), few, split), strict)) short =
    let regrouped : o ++ rest ≡ l ++ (length v ∷ (k ++ rest)) = ap (λ z. z ++ rest) whole ∙ append_assoc l (length v ∷ k) rest in
    let some : eqb (suc (length k)) 0 ≡ false = ne_eqb (suc (length k)) 0 (λ h. omega arith) in
    let count : suc (length k) - 1 ≡ length k = omega arith in
    let size = fewest_octets k b v few split in
    let fits : length k ≤ usize_max / 8 = omega (arith, size.0, short) in
    ap (counted_bits_at codec) regrouped
    ∙ rw ((length_reads codec).again l (length v ∷ (k ++ rest)) (suc (length k)) len, some) (counted_one codec k rest b v few (rear_octets (length v ∷ []) k octets) split strict fits (suc (length k) - 1) count)
bits_again Oer o rest b (inr (lenient, (l, whole, len, octets), none)) short =
    let regrouped : o ++ rest ≡ l ++ rest = ap (λ z. z ++ rest) (whole ∙ append-nil l) in
    ap (counted_bits_at Oer) regrouped ∙ rw ((length_reads Oer).again l rest 0 len) (ap (λ z. Ok (z, rest)) (sym none))
bits_again Coer o rest b (inr (lenient, behind, none)) short = absurd lenient

-- ---- under constraints
module _ (s : Size) (codec : Codec) where
  sized_found : (f : Option ℕ) → fixed_size s ≡ f → (input rest : Octets) (b : List Bool) → AreOctets input → sized_bits_at f s codec input ≡ Ok (b, rest) → (o : Octets) × (input ≡ o ++ rest) × IsLeafEncoding (mode_of codec) o (Bits s b)
  sized_found (Some n) f input rest b fits e =
      let r = fixed_found codec n input rest b fits e in
      let h : Hold codec r.0 b = r.2 in
      let size : size_fits s (length b) ≡ true = ap (size_fits s) r.3 ∙ fixed_fits s n f in
      (r.0, r.1, (bits_fine s b size (ap (λ z. string_too_long z (octets_for (length b))) f), subst (λ z. IsBitString (mode_of codec) r.0 z b) (sym f) (h.octets, h.unused, h.few, h.split, h.strict)))
  sized_found None f input rest b fits e =
      let a = bind_ok (counted_bits_at codec input) (λ bits. size_test s (length bits.0) >> Ok bits) (b, rest) e in
      let t = then_ok (size_test s (length a.0.0)) (Ok a.0) (b, rest) a.2 in
      let same = pair_is a.0.0 b a.0.1 rest t.2 in
      let r = bits_found codec input rest b fits (a.1 ∙ t.2) in
      let plain : size_fits s (length a.0.0) ≡ true = not_not (size_fits s (length a.0.0)) (refuse_ok (not (size_fits s (length a.0.0))) (SizeConstraintNotSatisfied (length a.0.0)) t.0 t.1) in
      let size : size_fits s (length b) ≡ true = subst (λ z. size_fits s (length z) ≡ true) same.0 plain in
      (r.0, r.1, (bits_fine s b size (ap (λ z. string_too_long z (octets_for (length b))) f ∙ le-ltb (usize_max / 8) (octets_for (length b)) r.3), subst (λ z. IsBitString (mode_of codec) r.0 z b) (sym f) r.2))

  sized_again : (f : Option ℕ) → fixed_size s ≡ f → (o rest : Octets) (b : List Bool) → IsLeafEncoding (mode_of codec) o (Bits s b) → sized_bits_at f s codec (o ++ rest) ≡ Ok (b, rest)
  sized_again (Some n) f o rest b (fine, spells) =
      let h : IsBitString (mode_of codec) o (Some n) b = subst (λ z. IsBitString (mode_of codec) o z b) f spells in
      fixed_again codec n o rest b (record { octets = h.0; unused = h.1; few = h.2; split = h.3; strict = h.4 }) (fixed_only s n (length b) f (bits_size s b fine))
  sized_again None f o rest b (fine, spells) =
      let h : IsBitString (mode_of codec) o None b = subst (λ z. IsBitString (mode_of codec) o z b) f spells in
      let long : ltb (usize_max / 8) (octets_for (length b)) ≡ false = ap (λ z. string_too_long z (octets_for (length b))) (sym f) ∙ fine TooLong in
      rw (bits_again codec o rest b h (ltb-false (usize_max / 8) (octets_for (length b)) long), bits_size s b fine) refl

  pub bit_string_reads : Reads (bit_string_at s codec) (λ o b. IsLeafEncoding (mode_of codec) o (Bits s b))
  unfolding bit_string_at
  bit_string_reads = record { found = sized_found (fixed_size s) refl; again = sized_again (fixed_size s) refl }
