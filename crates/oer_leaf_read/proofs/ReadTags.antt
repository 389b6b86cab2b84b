-- A tag is read exactly where a front of the octets spells it.
use Rattle.std.proofs.Common.{◌≡◌, ◌≢◌, ℕ, zero, suc, ◌+◌, ◌*◌, ◌/◌, ◌%◌, ◌^◌, ◌<◌, ◌≤◌, ltb, eqb, [], ◌∷◌, ◌++◌, get_or, Ok, refl, sym, ap, subst, ◌∙◌, arith, inl, inr}
use Rattle.std.proofs.lemmas.Bool.{cases_lt, ltb-false, lt-ltb, le-ltb, eqb-false, ne_eqb}
use Rattle.asn1_core.specs.Octets.{Octets, AreOctets}
use Rattle.asn1_core.specs.Tags.{class_number}
use Rattle.asn1_core.specs.declared.codec.Codec.{Codec}
use Rattle.asn1_core.specs.declared.error.DecodeErrorKind.TheVariants.{InvalidTagNumberOnChoice}
use Rattle.asn1_core.specs.declared.tag.Class.{Class}
use Rattle.asn1_core.specs.declared.tag.Class.TheVariants.{Universal, Application, Context, Private}
use Rattle.asn1_core.specs.declared.tag.Tag.{Tag}
use Rattle.oer_spec.specs.Lengths.{AreGroups, groups_number}
use Rattle.oer_spec.specs.Mode.{mode_of}
use Rattle.oer_spec.specs.Reading.{◌>>◌, canonical, class_of, with_group, more_groups_at, groups_at, long_tag_at, tag_at, IsTag32}
use Rattle.oer_spec.proofs.Steps.{Reads, bind_ok, then_ok, pair_is, guard_ok, canonical_ok, canonical_again, strict_is, strict_has}

-- ---- groups
more_found : (n : ℕ) (input rest : Octets) (m : ℕ) → AreOctets input → more_groups_at n input ≡ Ok (m, rest)
    → (o : Octets) × (input ≡ o ++ rest) × AreGroups o × (groups_number n o ≡ m) × (m < 2 ^ 32)
unfolding more_groups_at
more_found n [] rest m f e = absurd cc
more_found n (x ∷ xs) rest m (f, fs) e =
    elim (cases_lt (with_group n x) (2 ^ 32)) [
      | inr le ↦ let t = le-ltb (with_group n x) (2 ^ 32) le in let e' = rw t at e in absurd cc
      | inl lt ↦
          let t = lt-ltb (with_group n x) (2 ^ 32) lt in
          let e' = rw t at e in
          elim (cases_lt x 128) [
            | inl last ↦
                let u = lt-ltb x 128 last in
                let e'' = rw u at e' in
                let same = pair_is (with_group n x) m xs rest e'' in
                (x ∷ [], ap (λ z. x ∷ z) same.1, last, same.0, subst (λ z. z < 2 ^ 32) same.0 lt)
            | inr goes_on ↦
                let u = le-ltb x 128 goes_on in
                let e'' = rw u at e' in
                let found = more_found (with_group n x) xs rest m fs e'' in
                (x ∷ found.0, ap (λ z. x ∷ z) found.1, more_groups x found.0 goes_on f found.2, found.3, found.4)
          ]
    ]
  where
    more_groups : (x : ℕ) (o : Octets) → 128 ≤ x → x < 256 → AreGroups o → AreGroups (x ∷ o)
    more_groups x [] le lt h = absurd h
    more_groups x (y ∷ o) le lt h = (le, lt, h)

group_grows : (n : ℕ) (o : Octets) → n ≤ groups_number n o
group_grows n [] = omega arith
group_grows n (x ∷ o) = omega (arith, group_grows (with_group n x) o)

more_again : (n : ℕ) (o rest : Octets) → AreGroups o → groups_number n o < 2 ^ 32 → more_groups_at n (o ++ rest) ≡ Ok (groups_number n o, rest)
unfolding more_groups_at
more_again n [] rest h fits = absurd h
more_again n (x ∷ []) rest h fits = rw (lt-ltb (with_group n x) (2 ^ 32) fits, lt-ltb x 128 h) refl
more_again n (x ∷ y ∷ o) rest h fits =
    let front : with_group n x < 2 ^ 32 = omega (arith, fits, group_grows (with_group n x) (y ∷ o)) in
    rw (lt-ltb (with_group n x) (2 ^ 32) front, le-ltb x 128 h.0) (more_again (with_group n x) (y ∷ o) rest h.2 fits)

groups_found : (input rest : Octets) (n : ℕ) → AreOctets input → groups_at input ≡ Ok (n, rest)
    → (o : Octets) × (input ≡ o ++ rest) × AreGroups o × (get_or o 0 0 % 128 ≢ 0) × (groups_number 0 o ≡ n) × (n < 2 ^ 32)
unfolding groups_at
groups_found [] rest n f e = absurd cc
groups_found (x ∷ xs) rest n f e =
    let g = guard_ok (eqb (x % 128) 0) InvalidTagNumberOnChoice (more_groups_at 0 (x ∷ xs)) (n, rest) e in
    let found = more_found 0 (x ∷ xs) rest n f g.1 in
    (found.0, found.1, found.2, λ h. eqb-false (x % 128) 0 g.0 (ap (λ k. k % 128) (first_is x xs found.0 rest found.2 found.1) ∙ h), found.3, found.4)
  where
    first_is : (x : ℕ) (xs o rest : Octets) → AreGroups o → x ∷ xs ≡ o ++ rest → x ≡ get_or o 0 0
    first_is x xs [] rest h e = absurd h
    first_is x xs (y ∷ o) rest h e = ap (λ z. get_or z 0 0) e

groups_again : (o rest : Octets) → AreGroups o → get_or o 0 0 % 128 ≢ 0 → groups_number 0 o < 2 ^ 32 → groups_at (o ++ rest) ≡ Ok (groups_number 0 o, rest)
unfolding groups_at
groups_again [] rest h some fits = absurd h
groups_again (x ∷ o) rest h some fits = rw (ne_eqb (x % 128) 0 some) (more_again 0 (x ∷ o) rest h fits)

-- ---- the class
class_is : (x : ℕ) → x < 256 → x / 64 ≡ class_number (class_of (x / 64))
class_is x f = at (x / 64) (omega arith)
  where
    at : (c : ℕ) → c < 4 → c ≡ class_number (class_of c)
    at zero f = refl
    at (suc zero) f = refl
    at (suc (suc zero)) f = refl
    at (suc (suc (suc zero))) f = refl
    at (suc (suc (suc (suc c)))) f = absurd (omega arith)

class_again : (c : Class) (n : ℕ) → n < 64 → class_of ((class_number c * 64 + n) / 64) ≡ c
class_again c n f = ap class_of (quotient (class_number c) n f) ∙ back c
  where
    quotient : (k n : ℕ) → n < 64 → (k * 64 + n) / 64 ≡ k
    quotient k n f = omega arith

    back : (c : Class) → class_of (class_number c) ≡ c
    back Universal = refl
    back Application = refl
    back Context = refl
    back Private = refl

-- ---- tags
tag_found : (codec : Codec) (input rest : Octets) (t : Tag) → AreOctets input → tag_at codec input ≡ Ok (t, rest) → (o : Octets) × (input ≡ o ++ rest) × IsTag32 (mode_of codec) o t
unfolding tag_at long_tag_at
tag_found codec [] rest t f e = absurd cc
tag_found codec (x ∷ xs) rest t (f, fs) e =
    elim (cases_lt (x % 64) 63) [
      | inl lt ↦
          let u = lt-ltb (x % 64) 63 lt in
          let e' = rw u at e in
          let short : Tag = record { class = class_of (x / 64); value = x % 64 } in
          let same = pair_is short t xs rest e' in
          let whole : x ≡ x / 64 * 64 + x % 64 = omega arith in
          (x ∷ [], ap (λ z. x ∷ z) same.1, subst (λ z. IsTag32 (mode_of codec) (x ∷ []) z) same.0 (omega arith, inl (lt, whole ∙ ap (λ c. c * 64 + x % 64) (class_is x f), refl)))
      | inr le ↦
          let u = le-ltb (x % 64) 63 le in
          let e' = rw u at e in
          let a = bind_ok (groups_at xs) (λ number. canonical codec (ltb number.0 63) >> Ok (record { class = class_of (x / 64); value = number.0 }, number.1)) (t, rest) e' in
          let long : Tag = record { class = class_of (x / 64); value = a.0.0 } in
          let c = then_ok (canonical codec (ltb a.0.0 63)) (Ok (long, a.0.1)) (t, rest) a.2 in
          let same = pair_is long t a.0.1 rest c.2 in
          let found = groups_found xs a.0.1 a.0.0 fs a.1 in
          let whole : x ≡ x / 64 * 64 + 63 = omega arith in (
            x ∷ found.0,
            ap (λ z. x ∷ z) (found.1 ∙ ap (λ r. found.0 ++ r) same.1),
            subst (λ z. IsTag32 (mode_of codec) (x ∷ found.0) z) same.0
                (found.5, inr (whole ∙ ap (λ c. c * 64 + 63) (class_is x f), found.2, found.3, sym found.4, strict_is codec (λ strict. ltb-false a.0.0 63 (canonical_ok codec (ltb a.0.0 63) c.0 c.1 strict)))),
          )
    ]

tag_again : (codec : Codec) (o rest : Octets) (t : Tag) → IsTag32 (mode_of codec) o t → tag_at codec (o ++ rest) ≡ Ok (t, rest)
unfolding tag_at long_tag_at
tag_again codec [] rest t (fits, form) = absurd form
tag_again codec (x ∷ xs) rest t (fits, inl (below, whole, alone)) =
    let low : (class_number t.class * 64 + t.value) % 64 ≡ t.value = omega arith in
    rw (whole, low, lt-ltb t.value 63 below, class_again t.class t.value (omega arith), alone) refl
tag_again codec (x ∷ xs) rest t (fits, inr (whole, groups, some, value, strict)) =
    let low : (class_number t.class * 64 + 63) % 64 ≡ 63 = omega arith in
    let back = sym value in
    rw (whole, low, groups_again xs rest groups some (subst (λ z. z < 2 ^ 32) value fits), back, canonical_again codec (ltb t.value 63) (λ s. le-ltb t.value 63 (strict_has codec strict s)), class_again t.class 63 (omega arith)) refl

pub tag_reads : (codec : Codec) → Reads (tag_at codec) (IsTag32 (mode_of codec))
tag_reads codec = record { found = tag_found codec; again = tag_again codec }
