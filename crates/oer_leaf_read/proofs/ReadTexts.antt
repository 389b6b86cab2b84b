-- Octet strings, character strings, object identifiers and times are read exactly where a front of the octets spells them.
use Rattle.std.proofs.Common.{◌≡◌, ℕ, zero, suc, ◌+◌, ◌-◌, ◌*◌, ◌/◌, ◌%◌, ◌<◌, ◌≤◌, Bool, true, false, cond, ltb, eqb, leb, List, [], ◌∷◌, ◌++◌, length, take, drop, Result, Ok, Err, Option, Some, None, refl, sym, ap, ap₂, subst, ◌∙◌, arith, append_assoc, length-append, get_or, Fits, w8, inl, inr, ◌⊎◌}
use Rattle.std.specs.Prelude.{not, ◌&&◌, ◌↔◌, ◌==◌, nat_le}
use Rattle.std.proofs.Math.Nat.{mul-div_cancel}
use Rattle.std.proofs.lemmas.Bool.{ltb-false, le-ltb, and_parts, and_from, leb-true, le-leb, eqb-true, eq-eqb, not-false}
use Rattle.asn1_core.specs.Bounds.{Size, fixed_size, size_fits}
use Rattle.asn1_core.specs.Octets.{Octets, AreOctets, usize_max}
use Rattle.asn1_core.specs.Texts.{Rule, AnyOctets, Utf8, Numeric, Printable, Visible, Ia5, General, Graphic, Teletex, Bmp, Universal, Identifier, Utc, Generalized, Date, Obeys, unit_of}
use Rattle.asn1_core.specs.declared.codec.Codec.{Codec}
use Rattle.asn1_core.specs.declared.error.DecodeErrorKind.{DecodeErrorKind}
use Rattle.asn1_core.specs.declared.error.DecodeErrorKind.TheVariants.{LengthExceedsPlatformWidth, SizeConstraintNotSatisfied, PermittedAlphabetError}
use Rattle.oer_spec.specs.Leaves.{Failure, BadValue, BadSize, BadIdentifier, BadTime, TooManyEmpty, TooLong, leaf_fails, string_too_long, IsText, IsLeafEncoding}
use Rattle.oer_spec.specs.Lengths.{IsLength, IsBehindLength}
use Rattle.oer_spec.specs.Mode.{mode_of}
use Rattle.oer_spec.specs.Reading.{◌>>=◌, ◌>>◌, Gives, seen, ReadsFront, octets_at, length_at}
use Rattle.oer_spec.specs.ReadingBits.{refuse_if, size_test}
use Rattle.oer_spec.specs.ReadingTexts.{string_at, sized_octets_at, octet_string_at, text_at, sized_units_at, units_at, characters_at}
use Rattle.oer_spec.specs.Tree.{Leaf, Text, InOctets}
use Rattle.oer_leaf_read.proofs.ReadLengths.{length_reads}
use Rattle.oer_leaf_read.proofs.ReadPlaces.{refuse_ok, octets_found, reads_like}
use Rattle.oer_spec.proofs.Steps.{Reads, are_octets, bind_ok, then_ok, ok_is, pair_is, octets_again, front_octets, rear_octets}

-- ---- sizes
pub not_not : (b : Bool) → not b ≡ false → b ≡ true
not_not true e = refl
not_not false e = absurd cc

-- a fixed size allows itself alone
pub fixed_only : (s : Size) (n k : ℕ) → fixed_size s ≡ Some n → size_fits s k ≡ true → k ≡ n
fixed_only None n k f g = absurd (cc f)
fixed_only (Some (low, high)) n k f g = go (low == high) refl f
  where
    go : (t : Bool) → (low == high) ≡ t → cond t (Some low) None ≡ Some n → k ≡ n
    go true e h =
        let same : low ≡ high = eqb-true low high e in
        let is : low ≡ n = cc h in
        let parts = and_parts (nat_le low k) (nat_le k high) g in
        let from : low ≤ k = leb-true low k parts.0 in
        let to : k ≤ high = leb-true k high parts.1 in
        omega arith
    go false e h = absurd (cc h)

pub fixed_fits : (s : Size) (n : ℕ) → fixed_size s ≡ Some n → size_fits s n ≡ true
fixed_fits None n f = absurd (cc f)
fixed_fits (Some (low, high)) n f = go (low == high) refl f
  where
    go : (t : Bool) → (low == high) ≡ t → cond t (Some low) None ≡ Some n → size_fits (Some (low, high)) n ≡ true
    go true e h =
        let same : low ≡ high = eqb-true low high e in
        let is : low ≡ n = cc h in
        and_from (nat_le low n) (nat_le n high) (le-leb low n (omega arith)) (le-leb n high (omega arith))
    go false e h = absurd (cc h)

-- ---- a length and octets
string_found : (codec : Codec) (input rest c : Octets) → AreOctets input → string_at codec input ≡ Ok (c, rest) → (o : Octets) × (input ≡ o ++ rest) × IsBehindLength (mode_of codec) o c × (length c ≤ usize_max / 8)
unfolding string_at
string_found codec input rest c fits e =
    let a = bind_ok (length_at codec input) (λ count. refuse_if (ltb (usize_max / 8) count.0) LengthExceedsPlatformWidth >> octets_at count.0 count.1) (c, rest) e in
    let t = then_ok (refuse_if (ltb (usize_max / 8) a.0.0) LengthExceedsPlatformWidth) (octets_at a.0.0 a.0.1) (c, rest) a.2 in
    let l = (length_reads codec).found input a.0.1 a.0.0 fits a.1 in
    let p = octets_found a.0.0 a.0.1 (c, rest) t.2 in
    let octets : AreOctets c = front_octets c rest (subst AreOctets p.1 (rear_octets l.0 a.0.1 (subst AreOctets l.1 fits))) in
    let few : a.0.0 ≤ usize_max / 8 = ltb-false (usize_max / 8) a.0.0 (refuse_ok (ltb (usize_max / 8) a.0.0) LengthExceedsPlatformWidth t.0 t.1) in
    (l.0 ++ c, l.1 ∙ ap (λ z. l.0 ++ z) p.1 ∙ sym (append_assoc l.0 c rest), (l.0, refl, subst (λ k. IsLength (mode_of codec) l.0 k) (sym p.0) l.2, octets), subst (λ k. k ≤ usize_max / 8) (sym p.0) few)

string_again : (codec : Codec) (o rest c : Octets) → IsBehindLength (mode_of codec) o c → length c ≤ usize_max / 8 → string_at codec (o ++ rest) ≡ Ok (c, rest)
unfolding string_at
string_again codec o rest c (l, whole, len, octets) few =
    let regrouped : o ++ rest ≡ l ++ (c ++ rest) = ap (λ z. z ++ rest) whole ∙ append_assoc l c rest in
    ap (string_at codec) regrouped ∙ rw ((length_reads codec).again l (c ++ rest) (length c) len, le-ltb (usize_max / 8) (length c) few) (octets_again c rest (length c) refl)

-- ---- what fails of a text
module _ (r : Rule) (s : Size) (c : Octets) where
  pub text_fine : size_fits s (length c / unit_of r) ≡ true → string_too_long (fixed_size s) (length c) ≡ false → (k : Failure) → leaf_fails (Text r s (InOctets c)) k ≡ false
  text_fine size long BadValue = refl
  text_fine size long BadSize = ap not size
  text_fine size long BadIdentifier = refl
  text_fine size long BadTime = refl
  text_fine size long TooManyEmpty = refl
  text_fine size long TooLong = long

  pub text_size : ((k : Failure) → leaf_fails (Text r s (InOctets c)) k ≡ false) → size_fits s (length c / unit_of r) ≡ true
  text_size fine = not_not (size_fits s (length c / unit_of r)) (fine BadSize)

-- ---- octet strings
by_ones : (n u : ℕ) → u ≡ 1 → n / u ≡ n
by_ones n u e = rw e (omega arith)

module _ (r : Rule) (one : unit_of r ≡ 1) (s : Size) (codec : Codec) where
  sized_found : (f : Option ℕ) → fixed_size s ≡ f → (input rest c : Octets) → AreOctets input → sized_octets_at f s codec input ≡ Ok (c, rest) → (o : Octets) × (input ≡ o ++ rest) × IsLeafEncoding (mode_of codec) o (Text r s (InOctets c))
  sized_found (Some n) f input rest c fits e =
      let p = octets_found n input (c, rest) e in
      let size : size_fits s (length c / unit_of r) ≡ true = ap (size_fits s) (by_ones (length c) (unit_of r) one ∙ p.0) ∙ fixed_fits s n f in
      (c, p.1, (text_fine r s c size (ap (λ z. string_too_long z (length c)) f), subst (λ z. IsText (mode_of codec) c z (InOctets c)) (sym f) (refl, front_octets c rest (subst AreOctets p.1 fits))))
  sized_found None f input rest c fits e =
      let a = bind_ok (string_at codec input) (λ octets. size_test s (length octets.0) >> Ok octets) (c, rest) e in
      let t = then_ok (size_test s (length a.0.0)) (Ok a.0) (c, rest) a.2 in
      let same = pair_is a.0.0 c a.0.1 rest t.2 in
      let k = string_found codec input rest c fits (a.1 ∙ t.2) in
      let plain : size_fits s (length a.0.0) ≡ true = not_not (size_fits s (length a.0.0)) (refuse_ok (not (size_fits s (length a.0.0))) (SizeConstraintNotSatisfied (length a.0.0)) t.0 t.1) in
      let size : size_fits s (length c / unit_of r) ≡ true = ap (size_fits s) (by_ones (length c) (unit_of r) one) ∙ subst (λ z. size_fits s (length z) ≡ true) same.0 plain in
      (k.0, k.1, (text_fine r s c size (ap (λ z. string_too_long z (length c)) f ∙ le-ltb (usize_max / 8) (length c) k.3), subst (λ z. IsText (mode_of codec) k.0 z (InOctets c)) (sym f) k.2))

  sized_again : (f : Option ℕ) → fixed_size s ≡ f → (o rest c : Octets) → IsLeafEncoding (mode_of codec) o (Text r s (InOctets c)) → sized_octets_at f s codec (o ++ rest) ≡ Ok (c, rest)
  sized_again (Some n) f o rest c (fine, spells) =
      let text : (o ≡ c) × AreOctets c = subst (λ z. IsText (mode_of codec) o z (InOctets c)) f spells in
      let size : size_fits s (length c) ≡ true = ap (size_fits s) (sym (by_ones (length c) (unit_of r) one)) ∙ text_size r s c fine in
      let count : length o ≡ n = ap length text.0 ∙ fixed_only s n (length c) f size in
      octets_again o rest n count ∙ ap (λ z. Ok (z, rest)) text.0
  sized_again None f o rest c (fine, spells) =
      let text : IsBehindLength (mode_of codec) o c = subst (λ z. IsText (mode_of codec) o z (InOctets c)) f spells in
      let size : size_fits s (length c) ≡ true = ap (size_fits s) (sym (by_ones (length c) (unit_of r) one)) ∙ text_size r s c fine in
      let long : ltb (usize_max / 8) (length c) ≡ false = ap (λ z. string_too_long z (length c)) (sym f) ∙ fine TooLong in
      rw (string_again codec o rest c text (ltb-false (usize_max / 8) (length c) long), size) refl

  pub octet_string_reads : Reads (octet_string_at s codec) (λ o c. IsLeafEncoding (mode_of codec) o (Text r s (InOctets c)))
  unfolding octet_string_at
  octet_string_reads = record { found = sized_found (fixed_size s) refl; again = sized_again (fixed_size s) refl }

-- ---- texts
-- a test that tells the octets that obey a rule
abbrev pub Tells : (Octets → Bool) → Rule → Type 0
Tells is_text r = (c : Octets) → (is_text c ≡ true) ↔ Obeys r c

module _ (is_text : Octets → Bool) (kind : DecodeErrorKind) (r : Rule) (one : unit_of r ≡ 1) (tells : Tells is_text r) (s : Size) (codec : Codec) where
  text_found : (input rest c : Octets) → AreOctets input → text_at is_text kind s codec input ≡ Ok (c, rest) → (o : Octets) × (input ≡ o ++ rest) × (IsLeafEncoding (mode_of codec) o (Text r s (InOctets c)) × Obeys r c)
  unfolding text_at
  text_found input rest c fits e =
      let a = bind_ok (octet_string_at s codec input) (λ octets. refuse_if (not (is_text octets.0)) kind >> Ok octets) (c, rest) e in
      let t = then_ok (refuse_if (not (is_text a.0.0)) kind) (Ok a.0) (c, rest) a.2 in
      let same = pair_is a.0.0 c a.0.1 rest t.2 in
      let f = (octet_string_reads r one s codec).found input rest c fits (a.1 ∙ t.2) in
      let passes : is_text a.0.0 ≡ true = not_not (is_text a.0.0) (refuse_ok (not (is_text a.0.0)) kind t.0 t.1) in
      (f.0, f.1, (f.2, (tells c).0 (subst (λ z. is_text z ≡ true) same.0 passes)))

  text_again : (o rest c : Octets) → (IsLeafEncoding (mode_of codec) o (Text r s (InOctets c)) × Obeys r c) → text_at is_text kind s codec (o ++ rest) ≡ Ok (c, rest)
  unfolding text_at
  text_again o rest c (spells, obeys) = rw ((octet_string_reads r one s codec).again o rest c spells, (tells c).1 obeys) refl

  pub text_reads : Reads (text_at is_text kind s codec) (λ o c. IsLeafEncoding (mode_of codec) o (Text r s (InOctets c)) × Obeys r c)
  text_reads = record { found = text_found; again = text_again }

-- ---- several octets a character

-- A reading answers exactly what a front of the octets spells, where these are no more than so many.
pub record ReadsWithin {V : Type 0} (limit : ℕ) (read : Octets → Result (V × Octets) DecodeErrorKind) (Spells : Octets → V → Type 0) : Type 0 where
  pub found : (input rest : Octets) (v : V) → AreOctets input → read input ≡ Ok (v, rest) → (o : Octets) × (input ≡ o ++ rest) × Spells o v
  pub again : (o rest : Octets) (v : V) → length (o ++ rest) ≤ limit → Spells o v → read (o ++ rest) ≡ Ok (v, rest)

pub front_within : {V X : Type 0} {limit : ℕ} {read : Octets → Result (V × Octets) DecodeErrorKind} {Spells : Octets → V → Type 0} → ReadsWithin limit read Spells → (view : X → V × Octets) (input : Octets) (r : Result X DecodeErrorKind)
    → ((k : ℕ) → Fits w8 (get_or input k 0)) → length input ≤ limit → Gives view r (read input) → ReadsFront Spells input (seen view r)
front_within reads view input (Ok x) f l e = reads.found input (view x).1 (view x).0 (are_octets input f) e
front_within {V} {X} {limit} {read} {Spells} reads view input (Err d) f l e = λ m o rest v split s. contra v rest (sym e ∙ ap read split ∙ reads.again o rest v (subst (λ z. length z ≤ limit) split l) s)
  where
    contra : (v : V) (rest : Octets) → ◌≡◌ {A = Result (V × Octets) DecodeErrorKind} (Err d) (Ok (v, rest)) → ⊥
    contra v rest h = cc

-- texts of the rule are whole characters, of more than one octet each
record IsWide (r : Rule) : Type 0 where
  pub several : zero < unit_of r
  pub wide : (unit_of r == 1) ≡ false
  pub whole : (c : Octets) → Obeys r c ↔ ((n : ℕ) × (length c ≡ n * unit_of r))

module _ (is_text : Octets → Bool) (r : Rule) (is : IsWide r) (tells : Tells is_text r) (s : Size) (codec : Codec) where
  count_is : (n k : ℕ) → n ≡ k * unit_of r → n / unit_of r ≡ k
  count_is n k e = ap (λ z. z / unit_of r) e ∙ mul-div_cancel k is.several

  units_found : (f : Option ℕ) → fixed_size s ≡ f → (input rest c : Octets) → AreOctets input → sized_units_at (unit_of r) is_text f s codec input ≡ Ok (c, rest) → (o : Octets) × (input ≡ o ++ rest) × (IsLeafEncoding (mode_of codec) o (Text r s (InOctets c)) × Obeys r c)
  units_found (Some n) f input rest c fits e =
      let t = then_ok (refuse_if (ltb usize_max (n * unit_of r)) LengthExceedsPlatformWidth) (octets_at (n * unit_of r) input) (c, rest) e in
      let p = octets_found (n * unit_of r) input (c, rest) t.2 in
      let size : size_fits s (length c / unit_of r) ≡ true = ap (size_fits s) (count_is (length c) n p.0) ∙ fixed_fits s n f in
      (c, p.1, ((text_fine r s c size (ap (λ z. string_too_long z (length c)) f), subst (λ z. IsText (mode_of codec) c z (InOctets c)) (sym f) (refl, front_octets c rest (subst AreOctets p.1 fits))), (is.whole c).1 (n, p.0)))
  units_found None f input rest c fits e =
      let a = bind_ok (string_at codec input) (λ octets. refuse_if (not (is_text octets.0)) PermittedAlphabetError >> (size_test s (length octets.0 / unit_of r) >> Ok octets)) (c, rest) e in
      let t = then_ok (refuse_if (not (is_text a.0.0)) PermittedAlphabetError) (size_test s (length a.0.0 / unit_of r) >> Ok a.0) (c, rest) a.2 in
      let w = then_ok (size_test s (length a.0.0 / unit_of r)) (Ok a.0) (c, rest) t.2 in
      let same = pair_is a.0.0 c a.0.1 rest w.2 in
      let k = string_found codec input rest c fits (a.1 ∙ w.2) in
      let passes : is_text a.0.0 ≡ true = not_not (is_text a.0.0) (refuse_ok (not (is_text a.0.0)) PermittedAlphabetError t.0 t.1) in
      let plain : size_fits s (length a.0.0 / unit_of r) ≡ true = not_not (size_fits s (length a.0.0 / unit_of r)) (refuse_ok (not (size_fits s (length a.0.0 / unit_of r))) (SizeConstraintNotSatisfied (length a.0.0 / unit_of r)) w.0 w.1) in
      let size : size_fits s (length c / unit_of r) ≡ true = subst (λ z. size_fits s (length z / unit_of r) ≡ true) same.0 plain in (
        k.0,
        k.1,
        ((text_fine r s c size (ap (λ z. string_too_long z (length c)) f ∙ le-ltb (usize_max / 8) (length c) k.3), subst (λ z. IsText (mode_of codec) k.0 z (InOctets c)) (sym f) k.2), (tells c).0 (subst (λ z. is_text z ≡ true) same.0 passes)),
      )

  units_again : (f : Option ℕ) → fixed_size s ≡ f → (o rest c : Octets) → length (o ++ rest) ≤ usize_max → (IsLeafEncoding (mode_of codec) o (Text r s (InOctets c)) × Obeys r c) → sized_units_at (unit_of r) is_text f s codec (o ++ rest) ≡ Ok (c, rest)
  units_again (Some n) f o rest c small ((fine, spells), obeys) =
      let text : (o ≡ c) × AreOctets c = subst (λ z. IsText (mode_of codec) o z (InOctets c)) f spells in
      let all = (is.whole c).0 obeys in
      let same : all.0 ≡ n = sym (count_is (length c) all.0 all.1) ∙ fixed_only s n (length c / unit_of r) f (text_size r s c fine) in
      let count : length o ≡ n * unit_of r = ap length text.0 ∙ all.1 ∙ ap (λ z. z * unit_of r) same in
      let few : length o ≤ usize_max = omega (arith, length-append o rest, small) in
      let fits : n * unit_of r ≤ usize_max = subst (λ z. z ≤ usize_max) count few in
      rw (le-ltb usize_max (n * unit_of r) fits) (octets_again o rest (n * unit_of r) count ∙ ap (λ z. Ok (z, rest)) text.0)
  units_again None f o rest c small ((fine, spells), obeys) =
      let text : IsBehindLength (mode_of codec) o c = subst (λ z. IsText (mode_of codec) o z (InOctets c)) f spells in
      let long : ltb (usize_max / 8) (length c) ≡ false = ap (λ z. string_too_long z (length c)) (sym f) ∙ fine TooLong in
      rw (string_again codec o rest c text (ltb-false (usize_max / 8) (length c) long), (tells c).1 obeys, text_size r s c fine) refl

  units_reads : ReadsWithin usize_max (units_at (unit_of r) is_text s codec) (λ o c. IsLeafEncoding (mode_of codec) o (Text r s (InOctets c)) × Obeys r c)
  unfolding units_at
  units_reads = record { found = units_found (fixed_size s) refl; again = units_again (fixed_size s) refl }

-- ---- both
unit_cases : (r : Rule) → (unit_of r ≡ 1) ⊎ IsWide r
unit_cases Bmp = inr (record { several = omega arith; wide = refl; whole = λ c. (λ (n, e). (n, omega (arith, e)), λ (n, e). (n, omega (arith, e))) })
unit_cases Universal = inr (record { several = omega arith; wide = refl; whole = λ c. (λ (n, e). (n, omega (arith, e)), λ (n, e). (n, omega (arith, e))) })
unit_cases AnyOctets = inl refl
unit_cases Utf8 = inl refl
unit_cases Numeric = inl refl
unit_cases Printable = inl refl
unit_cases Visible = inl refl
unit_cases Ia5 = inl refl
unit_cases General = inl refl
unit_cases Graphic = inl refl
unit_cases Teletex = inl refl
unit_cases Identifier = inl refl
unit_cases Utc = inl refl
unit_cases Generalized = inl refl
unit_cases Date = inl refl

pub characters_reads : (is_text : Octets → Bool) (r : Rule) → Tells is_text r → (s : Size) (codec : Codec) → ReadsWithin usize_max (characters_at (unit_of r) is_text s codec) (λ o c. IsLeafEncoding (mode_of codec) o (Text r s (InOctets c)) × Obeys r c)
unfolding characters_at
characters_reads is_text r tells s codec = go (unit_cases r)
  where
    both : Bool → Octets → Result (Octets × Octets) DecodeErrorKind
    both b input = cond b (text_at is_text PermittedAlphabetError s codec input) (units_at (unit_of r) is_text s codec input)

    Reads_by : Bool → Type 0
    Reads_by b = ReadsWithin usize_max (both b) (λ o c. IsLeafEncoding (mode_of codec) o (Text r s (InOctets c)) × Obeys r c)

    go : (unit_of r ≡ 1) ⊎ IsWide r → Reads_by (unit_of r == 1)
    go (inl one) =
        let reads = text_reads is_text PermittedAlphabetError r one tells s codec in
        subst Reads_by (sym (eq-eqb (unit_of r) 1 one)) (record { found = reads.found; again = λ o rest v small spells. reads.again o rest v spells })
    go (inr is) = subst Reads_by (sym is.wide) (units_reads is_text r is tells s codec)
