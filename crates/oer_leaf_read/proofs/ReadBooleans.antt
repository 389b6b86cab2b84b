-- A boolean is read exactly where a front of the octets spells it.
use Rattle.std.proofs.Common.{◌≡◌, ℕ, Bool, true, false, eqb, [], ◌∷◌, ◌++◌, Ok, refl, sym, ap, ◌∙◌, inl, inr}
use Rattle.std.specs.Prelude.{not, ◌&&◌, ◌⊎◌}
use Rattle.std.proofs.lemmas.Bool.{cases_eq, eq-eqb, eqb-true, ne_eqb, not-false}
use Rattle.asn1_core.specs.Octets.{Octets, AreOctets}
use Rattle.asn1_core.specs.declared.codec.Codec.{Codec}
use Rattle.asn1_core.specs.declared.codec.Codec.TheVariants.{Oer, Coer}
use Rattle.asn1_core.specs.declared.error.DecodeErrorKind.TheVariants.{InvalidBool}
use Rattle.oer_spec.specs.Leaves.{IsLeafEncoding}
use Rattle.oer_spec.specs.Mode.{mode_of, InStrict}
use Rattle.oer_spec.specs.Reading.{is_coer, bool_at}
use Rattle.oer_spec.specs.Tree.{Boolean}
use Rattle.oer_spec.proofs.Steps.{Reads, pair_is, guard_ok, strict_is}

-- the octet of true that canonical reading takes
full_octet : (codec : Codec) (x : ℕ) → (is_coer codec && not (eqb x 255)) ≡ false → InStrict (mode_of codec) ((x ≡ 0) ⊎ (x ≡ 255))
full_octet Oer x h = tt
full_octet Coer x h = inr (eqb-true x 255 (not-false (eqb x 255) h))

is_full : (codec : Codec) (x : ℕ) → (x ≡ 0 → ⊥) → InStrict (mode_of codec) ((x ≡ 0) ⊎ (x ≡ 255)) → (is_coer codec && not (eqb x 255)) ≡ false
is_full Oer x n h = refl
is_full Coer x n (inl h) = absurd (n h)
is_full Coer x n (inr h) = ap not (eq-eqb x 255 h)

bool_found : (codec : Codec) (input rest : Octets) (b : Bool) → AreOctets input → bool_at codec input ≡ Ok (b, rest) → (o : Octets) × (input ≡ o ++ rest) × IsLeafEncoding (mode_of codec) o (Boolean b)
unfolding bool_at
bool_found codec [] rest b f e = absurd cc
bool_found codec (x ∷ xs) rest b (f, fs) e =
    elim (cases_eq x 0) [
      | inl none ↦
          let t = eq-eqb x 0 none in
          let e' = rw t at e in
          let same = pair_is false b xs rest e' in
          (x ∷ [], ap (λ z. x ∷ z) same.1, (λ k. refl, (x, refl, f, sym same.0 ∙ sym (ap not t), strict_is codec (λ s. inl none))))
      | inr some ↦
          let t = ne_eqb x 0 some in
          let e' = rw t at e in
          let g = guard_ok (is_coer codec && not (eqb x 255)) (InvalidBool x) (Ok (true, xs)) (b, rest) e' in
          let same = pair_is true b xs rest g.1 in
          (x ∷ [], ap (λ z. x ∷ z) same.1, (λ k. refl, (x, refl, f, sym same.0 ∙ sym (ap not t), full_octet codec x g.0)))
    ]

bool_again : (codec : Codec) (o rest : Octets) (b : Bool) → IsLeafEncoding (mode_of codec) o (Boolean b) → bool_at codec (o ++ rest) ≡ Ok (b, rest)
unfolding bool_at
bool_again codec o rest b (_, (x, alone, small, value, strict)) =
    elim (cases_eq x 0) [
      | inl none ↦ let t = eq-eqb x 0 none in rw (alone, value, t) refl
      | inr some ↦ let t = ne_eqb x 0 some in rw (alone, value, t, is_full codec x some strict) refl
    ]

pub bool_reads : (codec : Codec) → Reads (bool_at codec) (λ o b. IsLeafEncoding (mode_of codec) o (Boolean b))
bool_reads codec = record { found = bool_found codec; again = bool_again codec }
