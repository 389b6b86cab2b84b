-- An enumerated value's number is read exactly where a front of the octets spells it.
use Rattle.std.proofs.Common.{◌≡◌, ℕ, ◌+◌, ◌-◌, ◌^◌, ◌<◌, ◌≤◌, Bool, true, false, cond, ltb, [], ◌∷◌, ◌++◌, length, take, drop, Ok, refl, sym, ap, subst, ◌∙◌, arith, inl, inr, ℤ, pos}
use Rattle.std.specs.Prelude.{Some, None}
use Rattle.std.specs.Option.{ok_or}
use Rattle.std.proofs.lemmas.Bool.{cases_lt, lt-ltb, le-ltb, ne_eqb}
use Rattle.std.proofs.lemmas.List.{take-append-drop, length-take-le}
use Rattle.asn1_core.specs.Numbers.{in_isize}
use Rattle.asn1_core.specs.Octets.{Octets, AreOctets, signed}
use Rattle.asn1_core.specs.declared.codec.Codec.{Codec}
use Rattle.asn1_core.specs.declared.error.DecodeErrorKind.{DecodeErrorKind}
use Rattle.asn1_core.specs.declared.error.DecodeErrorKind.TheVariants.{LengthExceedsPlatformWidth}
use Rattle.oer_spec.specs.Leaves.{is_small, IsShort}
use Rattle.oer_spec.specs.Mode.{Mode, mode_of, InStrict}
use Rattle.oer_spec.specs.Reading.{◌>>=◌, ◌>>◌, octets_at, canonical}
use Rattle.oer_leaf_read.specs.ReadingEnumerated.{if_isize, long_enumerated_at, enumerated_at, IsEnumeratedNumber}
use Rattle.oer_spec.specs.ReadingIntegers.{is_superfluous, number_content_in}
use Rattle.oer_leaf_read.proofs.ReadIntegers.{IsNumberIn, number_decodes, short_only}
use Rattle.oer_spec.proofs.Steps.{Reads, bind_ok, then_ok, ok_is, pair_is, octets_ok, octets_again, canonical_ok, canonical_again, strict_is, strict_has, front_octets}

isize_ok : (n v : ℤ) (d : DecodeErrorKind) → ok_or (if_isize n) d ≡ Ok v → (n ≡ v) × (in_isize v ≡ true)
isize_ok n v d e = go (in_isize n) refl e
  where
    go : (b : Bool) → in_isize n ≡ b → ok_or (cond b (Some n) None) d ≡ Ok v → (n ≡ v) × (in_isize v ≡ true)
    go true h g = let s : n ≡ v = ok_is n v g in (s, ap in_isize (sym s) ∙ h)
    go false h g = absurd cc

-- what the octets behind the first spell
IsLong : Mode → ℕ → Octets → ℤ → Type 0
IsLong m x xs n = (128 < x) × (x < 256) × (length xs + 128 ≡ x) × AreOctets xs × (n ≡ signed xs) × InStrict m ((is_small n ≡ false) × IsShort true xs)

long_found : (codec : Codec) (count : ℕ) (input : Octets) (n : ℤ) (rest : Octets) → count < 128 → AreOctets input → long_enumerated_at codec count input ≡ Ok (n, rest)
    → IsLong (mode_of codec) (128 + count) (take count input) n × (in_isize n ≡ true) × (input ≡ take count input ++ rest)
unfolding long_enumerated_at IsLong IsNumberIn
long_found codec count input n rest few fits e =
    let a = bind_ok (octets_at count input) (λ octets. number_content_in true codec octets.0 >>= λ content. ok_or (if_isize (signed content)) LengthExceedsPlatformWidth >>= λ n. canonical codec (is_small n) >> Ok (n, octets.1)) (n, rest) e in
    let b = bind_ok (number_content_in true codec a.0.0) (λ content. ok_or (if_isize (signed content)) LengthExceedsPlatformWidth >>= λ n. canonical codec (is_small n) >> Ok (n, a.0.1)) (n, rest) a.2 in
    let c = bind_ok (ok_or (if_isize (signed b.0)) LengthExceedsPlatformWidth) (λ n. canonical codec (is_small n) >> Ok (n, a.0.1)) (n, rest) b.2 in
    let d = then_ok (canonical codec (is_small c.0)) (Ok (c.0, a.0.1)) (n, rest) c.2 in
    let parts = octets_ok count input a.0 a.1 in
    let same = pair_is c.0 n a.0.1 rest d.2 in
    let value = isize_ok (signed b.0) c.0 LengthExceedsPlatformWidth c.1 in
    let octets : AreOctets (take count input) = front_octets (take count input) (drop count input) (subst AreOctets (sym (take-append-drop count input)) fits) in
    let number = (number_decodes true codec).found a.0.0 b.0 (subst AreOctets (sym parts.1) octets) b.1 in
    let taken : b.0 ≡ take count input = number.0 ∙ parts.1 in
    let len : length (take count input) ≡ count = length-take-le count input parts.0 in
    let some : 1 ≤ length (take count input) = subst (λ z. 1 ≤ length z) parts.1 number.1 in
    let short : InStrict (mode_of codec) (IsShort true (take count input)) = subst (λ z. InStrict (mode_of codec) (IsShort true z)) parts.1 number.2 in (
      (
        omega arith,
        omega arith,
        omega arith,
        octets,
        sym same.0 ∙ sym value.0 ∙ ap signed taken,
        strict_is codec (λ strict. (ap is_small (sym same.0) ∙ canonical_ok codec (is_small c.0) d.0 d.1 strict, strict_has codec short strict)),
      ),
      ap in_isize (sym same.0) ∙ value.1,
      sym (take-append-drop count input) ∙ ap (λ z. take count input ++ z) (sym parts.2 ∙ same.1),
    )

enumerated_found : (codec : Codec) (input rest : Octets) (n : ℤ) → AreOctets input → enumerated_at codec input ≡ Ok (n, rest) → (o : Octets) × (input ≡ o ++ rest) × IsEnumeratedNumber (mode_of codec) o n
unfolding enumerated_at IsLong
enumerated_found codec [] rest n f e = absurd cc
enumerated_found codec (x ∷ xs) rest n (f, fs) e =
    elim (cases_lt x 128) [
      | inl lt ↦
          let t = lt-ltb x 128 lt in
          let e' = rw t at e in
          let same = pair_is (pos x) n xs rest e' in
          (x ∷ [], ap (λ z. x ∷ z) same.1, subst (λ z. IsEnumeratedNumber (mode_of codec) (x ∷ []) z) same.0 (lt-ltb x (2 ^ 63) (omega arith), (λ k. refl, inl (lt, refl, refl))))
      | inr le ↦
          let t = le-ltb x 128 le in
          let e' = rw t at e in
          let found = long_found codec (x - 128) xs n rest (omega arith) fs e' in
          let whole : 128 + (x - 128) ≡ x = omega arith in
          (x ∷ take (x - 128) xs, ap (λ z. x ∷ z) found.2, (found.1, (λ k. refl, inr (subst (λ (k : ℕ). IsLong (mode_of codec) k (take (x - 128) xs) n) whole found.0))))
    ]

enumerated_again : (codec : Codec) (o rest : Octets) (n : ℤ) → IsEnumeratedNumber (mode_of codec) o n → enumerated_at codec (o ++ rest) ≡ Ok (n, rest)
unfolding enumerated_at long_enumerated_at
enumerated_again codec [] rest n (fits, (_, form)) = absurd form
enumerated_again codec (x ∷ xs) rest n (fits, (_, inl (below, alone, value))) = rw (lt-ltb x 128 below, alone, value) refl
enumerated_again codec (x ∷ xs) rest n (fits, (_, inr (above, _, count, octets, value, strict))) =
    let ge : ltb x 128 ≡ false = le-ltb x 128 (omega arith) in
    let len : length xs ≡ x - 128 = omega arith in
    let back = sym value in
    rw (ge, octets_again xs rest (x - 128) len, ne_eqb (length xs) 0 (λ h. omega (arith, h)), canonical_again codec (is_superfluous true xs) (λ s. short_only true xs octets (strict_has codec strict s).1), back, fits, canonical_again codec (is_small n) (λ s. (strict_has codec strict s).0)) refl

pub enumerated_reads : (codec : Codec) → Reads (enumerated_at codec) (IsEnumeratedNumber (mode_of codec))
enumerated_reads codec = record { found = enumerated_found codec; again = enumerated_again codec }
