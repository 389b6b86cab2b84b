-- An integer is read exactly where a front of the octets spells it.
use Rattle.std.proofs.Common.{◌≡◌, ◌≢◌, ℕ, ◌^◌, ◌≤◌, Bool, true, false, cond, eqb, [], ◌∷◌, ◌++◌, length, get_or, drop, Result, Ok, Err, refl, sym, ap, ◌∙◌, subst, arith, inl, inr, ℤ, pos, Fits, w8}
use Rattle.std.specs.Prelude.{⊤, int_lt, not, Some, None}
use Rattle.std.proofs.lemmas.Bool.{cases_lt, eqb-false, ne_eqb, lt-ltb, le-ltb, not-false}
use Rattle.std.proofs.lemmas.List.{length-take-le, take-append-drop}
use Rattle.asn1_core.proofs.Shortest.{IsTight, tight_from_test}
use Rattle.asn1_core.specs.Bounds.{Range, in_range}
use Rattle.asn1_core.specs.Numbers.{has_superfluous_sign}
use Rattle.asn1_core.specs.Octets.{Octets, AreOctets}
use Rattle.asn1_core.specs.declared.codec.Codec.{Codec}
use Rattle.asn1_core.specs.declared.error.DecodeErrorKind.{DecodeErrorKind}
use Rattle.asn1_core.specs.declared.error.DecodeErrorKind.TheVariants.{EmptyInteger, IntegerOverflow, ValueConstraintNotSatisfied, OutOfMemory}
use Rattle.asn1_ints.specs.Reading.{number_in}
use Rattle.oer_spec.specs.Leaves.{Failure, BadValue, BadSize, BadIdentifier, BadTime, TooManyEmpty, TooLong, Width, Fixed, Counted, signed_width, unsigned_width, width_of, value_of, IsShort, IsInteger, leaf_fails, count_too_long, holds_signed}
use Rattle.oer_spec.specs.Mode.{mode_of, InStrict}
use Rattle.oer_spec.specs.Reading.{◌>>=◌, ◌>>◌, seen, ReadsFront, canonical}
use Rattle.oer_spec.specs.ReadingIntegers.{GivesBy, is_superfluous, is_signed, number_content_in, number_content_at, number_octets_at, IsNumberContent, in_range_only, integer_at, IsIntegerOf}
use Rattle.oer_spec.specs.Tree.{Int}
use Rattle.oer_spec.proofs.Canonical.{tight, plain}
use Rattle.oer_leaf_read.proofs.ReadLengths.{Decodes, behind_reads}
use Rattle.oer_leaf_read.proofs.ReadQuantities.{no_leading_zero, no_superfluous_zero}
use Rattle.oer_leaf_read.proofs.Short.{not_too_long}
use Rattle.oer_spec.proofs.Steps.{Reads, are_octets, front_is, front_octets, bind_ok, then_ok, ok_is, pair_is, guard_ok, octets_ok, octets_again, canonical_ok, canonical_again, strict_is, strict_has}
use Rattle.oer_spec.proofs.WrittenLeaves.{short_from_tight, plain_short}

-- ---- readers that may ask for memory
pub front_or_memory : {V X : Type 0} {read : Octets → Result (V × Octets) DecodeErrorKind} {Spells : Octets → V → Type 0} → Reads read Spells → (takes_memory : Bool) (view : X → V × Octets) (input : Octets) (r : Result X DecodeErrorKind) → ((k : ℕ) → Fits w8 (get_or input k 0))
    → GivesBy takes_memory view r (read input) → ReadsFront Spells input (seen view r)
front_or_memory reads t view input (Ok x) f e = front_is reads input (Ok (view x)) (are_octets input f) e
front_or_memory reads t view input (Err OutOfMemory) f e = λ m. absurd (m refl)
front_or_memory reads t view input (Err kind) f e = front_is reads input (Err kind) (are_octets input f) e

-- ---- the octets of a number

-- a first octet that can't be left out
tight_test : (c : Octets) → IsTight c → has_superfluous_sign c ≡ false
tight_test [] h = refl
tight_test (x ∷ []) h = refl
tight_test (x ∷ y ∷ ys) (low, high) =
    let t = lt-ltb 1 (length (x ∷ y ∷ ys)) (omega arith) in
    elim (cases_lt y 128) [
      | inl small ↦ let u = lt-ltb y 128 small in rw (t, u) (ne_eqb x 0 (λ e. absurd (omega (arith, low e))))
      | inr large ↦ let u = le-ltb y 128 large in rw (t, u) (ne_eqb x 255 (λ e. absurd (omega (arith, high e))))
    ]

test_tight : (c : Octets) → 1 ≤ length c → has_superfluous_sign c ≡ false → IsTight c
test_tight [] some h = absurd (omega arith)
test_tight (x ∷ []) some h = tt
test_tight (x ∷ y ∷ ys) some h = tight_from_test (x ∷ y ∷ ys) (omega arith) h

pub short_if : (signed : Bool) (c : Octets) → AreOctets c → 1 ≤ length c → is_superfluous signed c ≡ false → IsShort signed c
short_if false c f some h = plain_short c f (no_leading_zero c some h)
short_if true c f some h = short_from_tight c f (test_tight c some h)

pub short_only : (signed : Bool) (c : Octets) → AreOctets c → IsShort signed c → is_superfluous signed c ≡ false
short_only false c f h = no_superfluous_zero c (plain c h)
short_only true c f h = tight_test c (tight c f h)

unfoldable pub IsNumberIn : Bool → Codec → Octets → Octets → Type 0
IsNumberIn signed codec content c = (c ≡ content) × (1 ≤ length content) × InStrict (mode_of codec) (IsShort signed content)

pub number_decodes : (signed : Bool) (codec : Codec) → Decodes (number_content_in signed codec) (IsNumberIn signed codec)
unfolding IsNumberIn
number_decodes signed codec = record {
  found = λ content c fits e.
      let g = guard_ok (eqb (length content) 0) EmptyInteger (canonical codec (is_superfluous signed content) >> Ok content) c e in
      let t = then_ok (canonical codec (is_superfluous signed content)) (Ok content) c g.1 in
      let none : length content ≢ 0 = eqb-false (length content) 0 g.0 in
      let some : 1 ≤ length content = omega (arith, none) in
      (sym (ok_is content c t.2), some, strict_is codec (λ strict. short_if signed content fits some (canonical_ok codec (is_superfluous signed content) t.0 t.1 strict)));
  again = λ content c fits (same, some, strict).
      rw (ne_eqb (length content) 0 (λ h. omega (arith, some, h)), canonical_again codec (is_superfluous signed content) (λ s. short_only signed content fits (strict_has codec strict s)), same) refl;
}

pub number_content_reads : (signed : Bool) (codec : Codec) → Reads (number_content_at signed codec) (IsNumberContent signed (mode_of codec))
unfolding number_content_at IsNumberIn
number_content_reads signed codec =
    let reads = behind_reads codec (number_content_in signed codec) (IsNumberIn signed codec) (number_decodes signed codec) in
    record {
      found = λ input rest c fits e.
          let (o, split, (content, behind, s)) = reads.found input rest c fits e in
          (o, split, subst (λ z. IsNumberContent signed (mode_of codec) o z) (sym s.0) (behind, s.1, s.2));
      again = λ o rest c (behind, some, short). reads.again o rest c (c, behind, (refl, some, short));
    }

-- ---- the number
abbrev IsSome : Width → Type 0
IsSome (Fixed signed k) = 1 ≤ k
IsSome (Counted signed) = ⊤

either : (b : Bool) (v w : Width) → IsSome v → IsSome w → IsSome (cond b v w)
either true v w f g = f
either false v w f g = g

some_width : (r : Range) → IsSome (width_of r)
some_width None = tt
some_width (Some (None, high)) = tt
some_width (Some (Some low, None)) = either (int_lt low (pos 0)) (Counted true) (Counted false) tt tt
some_width (Some (Some low, Some high)) = either (int_lt low (pos 0)) (signed_width low high) (unsigned_width high) signed_some unsigned_some
  where
    -- 1, 2, 4 or 8 octets, or a length
    one_of : (signed a b c d : Bool) → IsSome (cond a (Fixed signed 1) (cond b (Fixed signed 2) (cond c (Fixed signed 4) (cond d (Fixed signed 8) (Counted signed)))))
    one_of signed true b c d = omega arith
    one_of signed false true c d = omega arith
    one_of signed false false true d = omega arith
    one_of signed false false false true = omega arith
    one_of signed false false false false = tt

    signed_some : IsSome (signed_width low high)
    signed_some = one_of true (holds_signed 1 low high) (holds_signed 2 low high) (holds_signed 4 low high) (holds_signed 8 low high)

    unsigned_some : IsSome (unsigned_width high)
    unsigned_some = one_of false (int_lt high (pos (2 ^ 8))) (int_lt high (pos (2 ^ 16))) (int_lt high (pos (2 ^ 32))) (int_lt high (pos (2 ^ 64)))

nothing_fails : (r : Range) (n : ℤ) → in_range r n ≡ true → count_too_long (width_of r) n ≡ false → (k : Failure) → leaf_fails (Int r n) k ≡ false
nothing_fails r n h l BadValue = ap not h
nothing_fails r n h l BadSize = refl
nothing_fails r n h l BadIdentifier = refl
nothing_fails r n h l BadTime = refl
nothing_fails r n h l TooManyEmpty = refl
nothing_fails r n h l TooLong = l

octets_found : (w : Width) (codec : Codec) (input rest c : Octets) → AreOctets input → number_octets_at w codec input ≡ Ok (c, rest)
    → (o : Octets) × (input ≡ o ++ rest) × IsInteger (mode_of codec) o w (value_of (is_signed w) c) × (count_too_long w (value_of (is_signed w) c) ≡ false)
unfolding number_octets_at
octets_found (Fixed signed k) codec input rest c f e =
    let parts = octets_ok k input (c, rest) e in
    let split : input ≡ c ++ rest = sym (take-append-drop k input) ∙ ap (λ z. z ++ drop k input) (sym parts.1) ∙ ap (λ z. c ++ z) (sym parts.2) in
    (c, split, (ap length parts.1 ∙ length-take-le k input parts.0, front_octets c rest (subst AreOctets split f), refl), refl)
octets_found (Counted signed) codec input rest c f e =
    let (o, split, (behind, some, short)) = (number_content_reads signed codec).found input rest c f e in
    (o, split, (c, behind, some, refl, short), not_too_long (mode_of codec) o c signed (value_of signed c) behind some refl)

number_octets_again : (w : Width) (codec : Codec) (o rest : Octets) (n : ℤ) → IsSome w → IsInteger (mode_of codec) o w n
    → (c : Octets) × (number_octets_at w codec (o ++ rest) ≡ Ok (c, rest)) × (n ≡ value_of (is_signed w) c) × (1 ≤ length c)
unfolding number_octets_at
number_octets_again (Fixed signed k) codec o rest n s (count, octets, value) = (o, octets_again o rest k count, value, omega arith)
number_octets_again (Counted signed) codec o rest n s (c, behind, some, value, short) = (c, (number_content_reads signed codec).again o rest c (behind, some, short), value, some)

number_ok : (admits : ℤ → Bool) (c : Octets) (v n : ℤ) → number_in admits c v ≡ Ok n → (v ≡ n) × (admits n ≡ true)
number_ok admits c v n e = go (admits v) refl (guard_ok (eqb (length c) 0) EmptyInteger (cond (admits v) (Ok v) (Err IntegerOverflow)) n e).1
  where
    go : (b : Bool) → admits v ≡ b → cond b (Ok v) (Err IntegerOverflow) ≡ Ok n → (v ≡ n) × (admits n ≡ true)
    go true h g = let s : v ≡ n = ok_is v n g in (s, ap admits (sym s) ∙ h)
    go false h g = absurd cc

range_ok : (r : Range) (n : ℤ) (u : Unit {0}) → in_range_only r n ≡ Ok u → in_range r n ≡ true
range_ok r n u e = go (in_range r n) refl e
  where
    go : (b : Bool) → in_range r n ≡ b → cond b (Ok tt) (Err ValueConstraintNotSatisfied) ≡ Ok u → in_range r n ≡ true
    go true h g = h
    go false h g = absurd cc

pub integer_reads : (admits : ℤ → Bool) (range : Range) (codec : Codec) → Reads (integer_at admits range codec) (IsIntegerOf admits range (mode_of codec))
unfolding integer_at
integer_reads admits range codec =
    let w = width_of range in
    record {
      found = λ input rest n fits e.
          let a = bind_ok (number_octets_at w codec input) (λ octets. number_in admits octets.0 (value_of (is_signed w) octets.0) >>= λ n. in_range_only range n >> Ok (n, octets.1)) (n, rest) e in
          let b = bind_ok (number_in admits a.0.0 (value_of (is_signed w) a.0.0)) (λ n. in_range_only range n >> Ok (n, a.0.1)) (n, rest) a.2 in
          let c = then_ok (in_range_only range b.0) (Ok (b.0, a.0.1)) (n, rest) b.2 in
          let same = pair_is b.0 n a.0.1 rest c.2 in
          let number = number_ok admits a.0.0 (value_of (is_signed w) a.0.0) b.0 b.1 in
          let value : value_of (is_signed w) a.0.0 ≡ n = number.0 ∙ same.0 in
          let (o, split, form, long) = octets_found w codec input a.0.1 a.0.0 fits a.1 in
          let within : in_range range n ≡ true = ap (in_range range) (sym same.0) ∙ range_ok range b.0 c.0 c.1 in
          (o, split ∙ ap (λ z. o ++ z) same.1, (ap admits (sym same.0) ∙ number.1, (nothing_fails range n within (subst (λ z. count_too_long w z ≡ false) value long), subst (λ z. IsInteger (mode_of codec) o w z) value form)));
      again = λ o rest n (admitted, (fine, form)).
          let (c, read, value, some) = number_octets_again w codec o rest n (some_width range) form in
          let within : in_range range n ≡ true = not-false (in_range range n) (fine BadValue) in
          let back = sym value in
          rw (read, ne_eqb (length c) 0 (λ h. omega (arith, some, h)), back, admitted, within) refl;
    }
