-- A quantity is read exactly where a front of the octets spells it.
use Rattle.std.proofs.Common.{◌≡◌, ◌≢◌, ℕ, ◌^◌, ◌<◌, ◌≤◌, false, eqb, [], ◌∷◌, length, refl, sym, subst, arith}
use Rattle.std.specs.Option.{ok_or}
use Rattle.std.proofs.lemmas.Bool.{eqb-false, ne_eqb, lt-ltb}
use Rattle.asn1_core.specs.Numbers.{has_superfluous_zero}
use Rattle.asn1_core.specs.Octets.{Octets, unsigned, usize_max}
use Rattle.asn1_core.specs.declared.codec.Codec.{Codec}
use Rattle.asn1_core.specs.declared.error.DecodeErrorKind.TheVariants.{EmptyInteger, LengthExceedsPlatformWidth}
use Rattle.oer_spec.specs.Lengths.{NoLeadingZero, IsQuantity}
use Rattle.oer_spec.specs.Mode.{mode_of, InStrict}
use Rattle.oer_spec.specs.Reading.{◌>>◌, canonical, if_below, quantity_in, quantity_at}
use Rattle.oer_leaf_read.proofs.ReadLengths.{Decodes, behind_reads}
use Rattle.oer_spec.proofs.Steps.{Reads, then_ok, guard_ok, canonical_ok, canonical_again, strict_is, strict_has, if_below_ok, if_below_again}

-- what the octets behind the length spell
IsQuantityIn : Codec → Octets → ℕ → Type 0
IsQuantityIn codec c n = (1 ≤ length c) × (n ≡ unsigned c) × (n ≤ usize_max) × InStrict (mode_of codec) (NoLeadingZero c)

pub no_leading_zero : (c : Octets) → 1 ≤ length c → has_superfluous_zero c ≡ false → NoLeadingZero c
no_leading_zero [] some h = absurd (omega arith)
no_leading_zero (x ∷ []) some h = tt
no_leading_zero (x ∷ y ∷ ys) some h = let t = lt-ltb 1 (length (x ∷ y ∷ ys)) (omega arith) in let h' = rw t at h in eqb-false x 0 h'

pub no_superfluous_zero : (c : Octets) → NoLeadingZero c → has_superfluous_zero c ≡ false
no_superfluous_zero [] h = absurd h
no_superfluous_zero (x ∷ []) h = refl
no_superfluous_zero (x ∷ y ∷ ys) h = let t = lt-ltb 1 (length (x ∷ y ∷ ys)) (omega arith) in rw (t, ne_eqb x 0 h) refl

quantity_decodes : (codec : Codec) → Decodes (quantity_in codec) (IsQuantityIn codec)
unfolding quantity_in IsQuantityIn
quantity_decodes codec = record {
  found = λ content n fits e.
      let rest = ok_or (if_below (2 ^ 64) (unsigned content)) LengthExceedsPlatformWidth in
      let g = guard_ok (eqb (length content) 0) EmptyInteger (canonical codec (has_superfluous_zero content) >> rest) n e in
      let t = then_ok (canonical codec (has_superfluous_zero content)) rest n g.1 in
      let v = if_below_ok (2 ^ 64) (unsigned content) n LengthExceedsPlatformWidth t.2 in
      let none : length content ≢ 0 = eqb-false (length content) 0 g.0 in
      let some : 1 ≤ length content = omega (arith, none) in
      (some, sym v.1, omega (arith, v), strict_is codec (λ strict. no_leading_zero content some (canonical_ok codec (has_superfluous_zero content) t.0 t.1 strict)));
  again = λ content n fits (some, value, below, strict).
      let low : n < 2 ^ 64 = omega (arith, below) in
      let under : unsigned content < 2 ^ 64 = subst (λ z. z < 2 ^ 64) value low in
      let back = sym value in
      rw (ne_eqb (length content) 0 (λ h. omega (arith, some, h)), canonical_again codec (has_superfluous_zero content) (λ s. no_superfluous_zero content (strict_has codec strict s)), if_below_again (2 ^ 64) (unsigned content) LengthExceedsPlatformWidth under, back) refl;
}

pub quantity_reads : (codec : Codec) → Reads (quantity_at codec) (IsQuantity (mode_of codec))
unfolding quantity_at IsQuantityIn
quantity_reads codec =
    let reads = behind_reads codec (quantity_in codec) (IsQuantityIn codec) (quantity_decodes codec) in
    record {
      found = λ input rest n fits e. let (o, split, (c, behind, s)) = reads.found input rest n fits e in (o, split, (c, behind, s.0, s.1, s.2, s.3));
      again = λ o rest n (c, behind, some, value, below, strict). reads.again o rest n (c, behind, (some, value, below, strict));
    }
