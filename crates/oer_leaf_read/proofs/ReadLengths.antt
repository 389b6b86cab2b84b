-- A length is read exactly where a front of the octets spells it, and so is what stands behind one.
use Rattle.std.proofs.Common.{◌≡◌, ◌≢◌, ℕ, zero, suc, ◌+◌, ◌*◌, ◌-◌, ◌^◌, ◌<◌, ◌≤◌, false, ltb, eqb, [], ◌∷◌, ◌++◌, length, get_or, take, drop, Result, Ok, refl, sym, ap, subst, ◌∙◌, append_assoc, arith, inl, inr}
use Rattle.std.specs.Option.{ok_or}
use Rattle.std.proofs.lemmas.Bool.{cases_lt, cases_eq, ltb-false, lt-ltb, le-ltb, eqb-false, ne_eqb}
use Rattle.std.proofs.lemmas.List.{take-append-drop, take_all, length-take-le}
use Rattle.asn1_core.specs.Octets.{Octets, AreOctets, unsigned, usize_max}
use Rattle.asn1_core.specs.declared.codec.Codec.{Codec}
use Rattle.asn1_core.specs.declared.error.DecodeErrorKind.{DecodeErrorKind}
use Rattle.asn1_core.specs.declared.error.DecodeErrorKind.TheVariants.{LengthExceedsPlatformWidth}
use Rattle.oer_spec.specs.Lengths.{IsLength, IsBehindLength}
use Rattle.oer_spec.specs.Mode.{Mode, mode_of, InStrict}
use Rattle.oer_spec.specs.Reading.{◌>>=◌, ◌>>◌, octets_at, canonical, begins_with_zero, if_below, long_length_at, length_at, content_at}
use Rattle.oer_spec.proofs.Steps.{Reads, bind_ok, then_ok, pair_is, octets_ok, octets_again, canonical_ok, canonical_again, strict_is, strict_has, if_below_ok, if_below_again, front_octets, rear_octets}

-- what the octets behind the first spell
IsLong : Mode → ℕ → Octets → ℕ → Type 0
IsLong m x xs n = (128 < x) × (x < 256) × (length xs + 128 ≡ x) × AreOctets xs × (n ≡ unsigned xs) × (n ≤ usize_max) × InStrict m ((128 ≤ n) × (get_or xs 0 0 ≢ 0))

long_found : (codec : Codec) (count : ℕ) (input : Octets) (n : ℕ) (rest : Octets) → 0 < count → count < 128 → AreOctets input → long_length_at codec count input ≡ Ok (n, rest)
    → IsLong (mode_of codec) (128 + count) (take count input) n × (input ≡ take count input ++ rest)
unfolding long_length_at IsLong
long_found codec count input n rest some few fits e =
    let a = bind_ok (octets_at count input) (λ octets. canonical codec (begins_with_zero octets.0) >> (ok_or (if_below (2 ^ 64) (unsigned octets.0)) LengthExceedsPlatformWidth >>= λ n. canonical codec (ltb n 128) >> Ok (n, octets.1))) (n, rest) e in
    let b = then_ok (canonical codec (begins_with_zero a.0.0)) (ok_or (if_below (2 ^ 64) (unsigned a.0.0)) LengthExceedsPlatformWidth >>= λ n. canonical codec (ltb n 128) >> Ok (n, a.0.1)) (n, rest) a.2 in
    let c = bind_ok (ok_or (if_below (2 ^ 64) (unsigned a.0.0)) LengthExceedsPlatformWidth) (λ n. canonical codec (ltb n 128) >> Ok (n, a.0.1)) (n, rest) b.2 in
    let d = then_ok (canonical codec (ltb c.0 128)) (Ok (c.0, a.0.1)) (n, rest) c.2 in
    let parts = octets_ok count input a.0 a.1 in
    let value = if_below_ok (2 ^ 64) (unsigned a.0.0) c.0 LengthExceedsPlatformWidth c.1 in
    let same = pair_is c.0 n a.0.1 rest d.2 in
    let len : length (take count input) ≡ count = length-take-le count input parts.0 in
    let taken : unsigned (take count input) ≡ n = rw (← parts.1) (value.1 ∙ same.0) in
    let below : n < 2 ^ 64 = subst (λ z. z < 2 ^ 64) (value.1 ∙ same.0) value.0 in (
      (
        omega arith,
        omega arith,
        omega arith,
        front_octets (take count input) (drop count input) (subst AreOctets (sym (take-append-drop count input)) fits),
        sym taken,
        omega arith,
        strict_is codec (λ strict. (ltb-false n 128 (rw (← same.0) (canonical_ok codec (ltb c.0 128) d.0 d.1 strict)), eqb-false (get_or (take count input) 0 0) 0 (rw (← parts.1) (canonical_ok codec (begins_with_zero a.0.0) b.0 b.1 strict)))),
      ),
      rw (← same.1, parts.2) (sym (take-append-drop count input)),
    )

nonzero : (n : ℕ) → n ≢ 0 → 0 < n
nonzero zero h = absurd (h refl)
nonzero (suc n) h = omega arith

-- two octets, of which the first isn't zero, are a number of 256 and more
long_of_two : (codec : Codec) (high low : ℕ) (rest : Octets) → high ≢ 0 → high < 256 → low < 256 → long_length_at codec 2 (high ∷ low ∷ rest) ≡ Ok (high * 256 + low, rest)
unfolding long_length_at
long_of_two codec high low rest h a b =
    let some : eqb high 0 ≡ false = ne_eqb high 0 h in
    let value : unsigned (high ∷ low ∷ []) ≡ high * 256 + low = omega arith in
    let below : high * 256 + low < 2 ^ 64 = omega (arith, a, b) in
    let many : ltb (high * 256 + low) 128 ≡ false = le-ltb (high * 256 + low) 128 (let p : 0 < high = nonzero high h in omega (arith, p)) in
    rw (octets_again (high ∷ low ∷ []) rest 2 refl, some, canonical_again codec false (λ s. refl), value, if_below_again (2 ^ 64) (high * 256 + low) LengthExceedsPlatformWidth below, many, canonical_again codec false (λ s. refl)) refl

pub long_from_two : (codec : Codec) (count : ℕ) (input : Octets) → count ≡ 2 → 2 ≤ length input → AreOctets input → get_or input 0 0 ≢ 0 → long_length_at codec count input ≡ Ok (get_or input 0 0 * 256 + get_or input 1 0, take (length input - 2) (drop 2 input))
long_from_two codec count [] e l a h = absurd (omega (arith, l))
long_from_two codec count (x ∷ []) e l a h = absurd (omega (arith, l))
long_from_two codec count (x ∷ y ∷ rest) e l (p, (q, r)) h =
    let t : take (length (x ∷ y ∷ rest) - 2) rest ≡ rest = take_all (length (x ∷ y ∷ rest) - 2) rest (omega arith) in
    ap (λ (n : ℕ). long_length_at codec n (x ∷ y ∷ rest)) e ∙ long_of_two codec x y rest h p q ∙ ap (λ (o : Octets). Ok (x * 256 + y, o)) (sym t)

length_found : (codec : Codec) (input rest : Octets) (n : ℕ) → AreOctets input → length_at codec input ≡ Ok (n, rest) → (o : Octets) × (input ≡ o ++ rest) × IsLength (mode_of codec) o n
unfolding length_at IsLong
length_found codec [] rest n fits e = absurd cc
length_found codec (x ∷ xs) rest n (octet, octets) e =
    elim (cases_lt x 128) [
      | inl lt ↦
          let t = lt-ltb x 128 lt in
          let e' = rw t at e in
          let same = pair_is x n xs rest e' in
          (x ∷ [], ap (λ z. x ∷ z) same.1, inl (lt, refl, sym same.0))
      | inr le ↦
          let t = le-ltb x 128 le in
          let e' = rw t at e in
          elim (cases_eq x 128) [
            | inl same ↦ let u = rw same at e' in absurd cc
            | inr other ↦
                let u = ne_eqb x 128 other in
                let e'' = rw u at e' in
                let found = long_found codec (x - 128) xs n rest (omega arith) (omega arith) octets e'' in
                let whole : 128 + (x - 128) ≡ x = omega arith in
                (x ∷ take (x - 128) xs, ap (λ z. x ∷ z) found.1, inr (subst (λ (k : ℕ). IsLong (mode_of codec) k (take (x - 128) xs) n) whole found.0))
          ]
    ]

length_again : (codec : Codec) (o rest : Octets) (n : ℕ) → IsLength (mode_of codec) o n → length_at codec (o ++ rest) ≡ Ok (n, rest)
unfolding length_at long_length_at
length_again codec [] rest n form = absurd form
length_again codec (x ∷ xs) rest n (inl (below, alone, value)) = rw (lt-ltb x 128 below, alone, value) refl
length_again codec (x ∷ xs) rest n (inr (above, _, count, _, value, fits, strict)) =
    let ge : ltb x 128 ≡ false = le-ltb x 128 (omega arith) in
    let ne : eqb x 128 ≡ false = ne_eqb x 128 (λ h. omega (arith, h)) in
    let len : length xs ≡ x - 128 = omega arith in
    let low : n < 2 ^ 64 = omega arith in
    let below : unsigned xs < 2 ^ 64 = subst (λ z. z < 2 ^ 64) value low in
    let back = sym value in
    rw (ge, ne, octets_again xs rest (x - 128) len, canonical_again codec (begins_with_zero xs) (λ s. ne_eqb _ _ (strict_has codec strict s).1), if_below_again (2 ^ 64) (unsigned xs) LengthExceedsPlatformWidth below, back, canonical_again codec (ltb n 128) (λ s. le-ltb n 128 (strict_has codec strict s).0)) refl

pub length_reads : (codec : Codec) → Reads (length_at codec) (IsLength (mode_of codec))
length_reads codec = record { found = length_found codec; again = length_again codec }

-- ---- what stands behind a length
content_found : (codec : Codec) (input rest content : Octets) → AreOctets input → content_at codec input ≡ Ok (content, rest) → (o : Octets) × (input ≡ o ++ rest) × IsBehindLength (mode_of codec) o content
unfolding content_at
content_found codec input rest content fits e =
    let a = bind_ok (length_at codec input) (λ count. octets_at count.0 count.1) (content, rest) e in
    let l = (length_reads codec).found input a.0.1 a.0.0 fits a.1 in
    let parts = octets_ok a.0.0 a.0.1 (content, rest) a.2 in
    let len : length content ≡ a.0.0 = ap length parts.1 ∙ length-take-le a.0.0 a.0.1 parts.0 in
    let back : a.0.1 ≡ content ++ rest = sym (take-append-drop a.0.0 a.0.1) ∙ ap (λ (l : Octets). l ++ drop a.0.0 a.0.1) (sym parts.1) ∙ ap (λ (r : Octets). content ++ r) (sym parts.2) in
    let octets : AreOctets content = front_octets content rest (subst AreOctets back (rear_octets l.0 a.0.1 (subst AreOctets l.1 fits))) in
    (l.0 ++ content, l.1 ∙ ap (λ (r : Octets). l.0 ++ r) back ∙ sym (append_assoc l.0 content rest), (l.0, refl, subst (λ (k : ℕ). IsLength (mode_of codec) l.0 k) (sym len) l.2, octets))

content_again : (codec : Codec) (o rest content : Octets) → IsBehindLength (mode_of codec) o content → content_at codec (o ++ rest) ≡ Ok (content, rest)
unfolding content_at
content_again codec o rest content (l, whole, len, octets) =
    let regrouped : o ++ rest ≡ l ++ (content ++ rest) = ap (λ (z : Octets). z ++ rest) whole ∙ append_assoc l content rest in
    ap (content_at codec) regrouped ∙ rw ((length_reads codec).again l (content ++ rest) (length content) len) (octets_again content rest (length content) refl)

pub content_reads : (codec : Codec) → Reads (content_at codec) (IsBehindLength (mode_of codec))
content_reads codec = record { found = content_found codec; again = content_again codec }

-- ---- one lemma for every leaf behind a length

-- a function of the octets behind a length that answers exactly what they spell
pub record Decodes {V : Type 0} (decode : Octets → Result V DecodeErrorKind) (IsSpelled : Octets → V → Type 0) : Type 0 where
  pub found : (content : Octets) (v : V) → AreOctets content → decode content ≡ Ok v → IsSpelled content v
  pub again : (content : Octets) (v : V) → AreOctets content → IsSpelled content v → decode content ≡ Ok v

abbrev pub decoded_at : {V : Type 0} → Codec → (Octets → Result V DecodeErrorKind) → Octets → Result (V × Octets) DecodeErrorKind
decoded_at codec decode input = content_at codec input >>= λ content. decode content.0 >>= λ v. Ok (v, content.1)

pub behind_reads : {V : Type 0} (codec : Codec) (decode : Octets → Result V DecodeErrorKind) (IsSpelled : Octets → V → Type 0) → Decodes decode IsSpelled
    → Reads (decoded_at codec decode) (λ o v. (c : Octets) × IsBehindLength (mode_of codec) o c × IsSpelled c v)
behind_reads {V} codec decode IsSpelled decodes = record {
  found = λ input rest v fits e.
      let a = bind_ok (content_at codec input) (λ content. decode content.0 >>= λ v. Ok (v, content.1)) (v, rest) e in
      let b = bind_ok (decode a.0.0) (λ v. Ok (v, a.0.1)) (v, rest) a.2 in
      let same = pair_is b.0 v a.0.1 rest b.2 in
      let c = content_found codec input a.0.1 a.0.0 fits a.1 in
      (c.0, c.1 ∙ ap (λ (r : Octets). c.0 ++ r) same.1, (a.0.0, c.2, subst (λ (y : V). IsSpelled a.0.0 y) same.0 (decodes.found a.0.0 b.0 c.2.3 b.1)));
  again = λ o rest v form. rw (content_again codec o rest form.0 form.1, decodes.again form.0 v form.1.3 form.2) refl;
}
