-- The shortest octets in two's complement: those whose first nine bits aren't all alike.
use Rattle.std.proofs.Common.{◌≡◌, ℕ, ◌-◌, ◌<◌, ◌≤◌, false, cond, ltb, eqb, nat_lt, ◌==◌, [], ◌∷◌, length, get_or, ◌⊎◌, inl, inr, refl, sym, ap, ◌∙◌, subst, arith, ℤ, pos, negsuc}
use Rattle.std.specs.Prelude.{⊤}
use Rattle.std.specs.Int.Digits.{digits_of}
use Rattle.std.proofs.lemmas.Int.Digits.{number_digits_of, first_digits_of}
use Rattle.std.proofs.lemmas.Bool.{lt-ltb, le-ltb, eq-eqb, ne_eqb, cases_lt, cases_eq, cond-true, cond-false}
use Rattle.asn1_core.specs.Octets.{Octets, AreOctets, unsigned, signed}
use Rattle.asn1_core.specs.Numbers.{complement, number_octets, with_sign, signed_octets, has_superfluous_sign}
use Rattle.asn1_core.proofs.Digits.{digits_unsigned, digits_octets}
use Rattle.asn1_core.proofs.Complement.{signed_low, signed_complement, complement_octets, complement_twice}

-- the first nine bits aren't all alike
abbrev pub IsTight : Octets → Type 0
IsTight [] = ⊥
IsTight (x ∷ []) = ⊤
IsTight (x ∷ y ∷ ys) = (x ≡ 0 → 128 ≤ y) × (x ≡ 255 → y < 128)

pub tight_some : (o : Octets) → IsTight o → 0 < length o
tight_some [] t = absurd t
tight_some (x ∷ xs) t = omega arith

pub tight_complement : (o : Octets) → AreOctets o → IsTight o → IsTight (complement o)
tight_complement [] f t = t
tight_complement (x ∷ []) f t = tt
tight_complement (x ∷ y ∷ ys) (f, (g, fs)) (t, s) =
    (λ e. zero_side x y f g s e, λ e. top_side x y f g t e)
  where
    zero_side : (x y : ℕ) → x < 256 → y < 256 → (x ≡ 255 → y < 128) → 255 - x ≡ 0 → 128 ≤ 255 - y
    zero_side x y f g s e = let h : y < 128 = s (omega arith) in omega arith

    top_side : (x y : ℕ) → x < 256 → y < 256 → (x ≡ 0 → 128 ≤ y) → 255 - x ≡ 255 → 255 - y < 128
    top_side x y f g s e = let h : 128 ≤ y = s (omega arith) in omega arith

-- octets without a superfluous first one
pub tight_from_test : (o : Octets) → 0 < length o → has_superfluous_sign o ≡ false → IsTight o
tight_from_test [] s h = absurd (omega arith)
tight_from_test (x ∷ []) s h = tt
tight_from_test (x ∷ y ∷ ys) s h = (λ e. low e (cases_lt y 128), λ e. high e (cases_lt y 128))
  where
    test : cond (ltb y 128) (eqb x 0) (eqb x 255) ≡ false
    test = let long = lt-ltb 1 (length (x ∷ y ∷ ys)) (omega arith) in rw long at h

    low : x ≡ 0 → (y < 128) ⊎ (128 ≤ y) → 128 ≤ y
    low e (inr k) = k
    low e (inl k) = let t = rw (lt-ltb y 128 k, eq-eqb x 0 e) at test in absurd cc

    high : x ≡ 255 → (y < 128) ⊎ (128 ≤ y) → y < 128
    high e (inl k) = k
    high e (inr k) = let t = rw (le-ltb y 128 k, eq-eqb x 255 e) at test in absurd cc

pub with_sign_low : (x : ℕ) (xs : Octets) → x < 128 → with_sign (x ∷ xs) ≡ x ∷ xs
with_sign_low x xs h = cond-true (nat_lt x 128) (x ∷ xs) (0 ∷ x ∷ xs) (lt-ltb x 128 h)

pub with_sign_high : (x : ℕ) (xs : Octets) → 128 ≤ x → with_sign (x ∷ xs) ≡ 0 ∷ x ∷ xs
with_sign_high x xs h = cond-false (nat_lt x 128) (x ∷ xs) (0 ∷ x ∷ xs) (le-ltb x 128 h)

tight_digits : (x : ℕ) (xs : Octets) → AreOctets (x ∷ xs) → x < 128 → IsTight (x ∷ xs) → with_sign (digits_of 256 (unsigned (x ∷ xs))) ≡ x ∷ xs
tight_digits x xs f h t = go xs f t (cases_eq x 0)
  where
    zero_first : (y : ℕ) (ys : Octets) → AreOctets (y ∷ ys) → 128 ≤ y → with_sign (digits_of 256 (unsigned (0 ∷ y ∷ ys))) ≡ 0 ∷ y ∷ ys
    zero_first y ys g k = ap with_sign (digits_unsigned y ys g (λ e. absurd (omega (arith, e, k)))) ∙ with_sign_high y ys k

    go : (xs : Octets) → AreOctets (x ∷ xs) → IsTight (x ∷ xs) → (x ≡ 0) ⊎ (x ≡ 0 → ⊥) → with_sign (digits_of 256 (unsigned (x ∷ xs))) ≡ x ∷ xs
    go xs g t (inr e) = ap with_sign (digits_unsigned x xs g e) ∙ with_sign_low x xs h
    go [] g t (inl e) = subst (λ z. with_sign (digits_of 256 (unsigned (z ∷ []))) ≡ z ∷ []) (sym e) refl
    go (y ∷ ys) g t (inl e) = subst (λ z. with_sign (digits_of 256 (unsigned (z ∷ y ∷ ys))) ≡ z ∷ y ∷ ys) (sym e) (zero_first y ys g.1 (t.0 e))

-- they are the shortest octets of their number
pub signed_octets_signed : (c : Octets) → AreOctets c → IsTight c → signed_octets (signed c) ≡ c
signed_octets_signed [] f t = absurd t
signed_octets_signed (x ∷ xs) f t = go (cases_lt x 128)
  where
    go : (x < 128) ⊎ (128 ≤ x) → signed_octets (signed (x ∷ xs)) ≡ x ∷ xs
    go (inl h) = ap signed_octets (signed_low x xs h) ∙ tight_digits x xs f h t
    go (inr h) =
        ap signed_octets (signed_complement x xs f h)
        ∙ ap complement (tight_digits (255 - x) (complement xs) (complement_octets (x ∷ xs)) (omega (arith, f.0, h)) (tight_complement (x ∷ xs) f t))
        ∙ complement_twice (x ∷ xs) f

-- ---- the shortest octets of a number write it

-- the octets of a number that isn't negative, with room for the sign
pub record IsRoomy (n : ℕ) (c : Octets) : Type 0 where
  pub octets : AreOctets c
  pub tight : IsTight c
  pub value : unsigned c ≡ n
  pub first : get_or c 0 255 < 128

pub roomy : (n : ℕ) → IsRoomy n (with_sign (digits_of 256 n))
roomy n = top (cases_eq n 0)
  where
    go : (ds : Octets) → AreOctets ds → unsigned ds ≡ n → 0 < get_or ds 0 0 → IsRoomy n (with_sign ds)
    go [] f e p = absurd (omega arith)
    go (d ∷ ds) f e p = at (cases_lt d 128)
      where
        low_tight : (ds : Octets) → d < 128 → IsTight (d ∷ ds)
        low_tight [] l = tt
        low_tight (x ∷ xs) l = (λ z. absurd (omega (arith, z, p)), λ z. absurd (omega (arith, z, l)))

        at : (d < 128) ⊎ (128 ≤ d) → IsRoomy n (with_sign (d ∷ ds))
        at (inl l) = subst (IsRoomy n) (sym (with_sign_low d ds l)) (record { octets = f; tight = low_tight ds l; value = e; first = l })
        at (inr l) = subst (IsRoomy n) (sym (with_sign_high d ds l)) (record { octets = (omega arith, f); tight = (λ _. l, λ z. absurd (omega (arith, z))); value = e; first = omega arith })

    top : (n ≡ 0) ⊎ (n ≡ 0 → ⊥) → IsRoomy n (with_sign (digits_of 256 n))
    top (inl e) = subst (λ z. IsRoomy z (with_sign (digits_of 256 z))) (sym e) (record { octets = (omega arith, tt); tight = tt; value = refl; first = omega arith })
    top (inr e) = let p : 0 < n = omega (arith, e) in go (digits_of 256 n) (digits_octets n) (number_digits_of 256 n (omega arith)) (first_digits_of 256 n (omega arith) p)

-- octets whose first bit isn't set, and their complement
pub signed_of_low : (c : Octets) → get_or c 0 255 < 128 → signed c ≡ pos (unsigned c)
signed_of_low [] l = absurd (omega arith)
signed_of_low (x ∷ xs) l = signed_low x xs l

pub signed_of_complement : (c : Octets) → AreOctets c → get_or c 0 255 < 128 → signed (complement c) ≡ negsuc (unsigned c)
signed_of_complement [] f l = absurd (omega arith)
signed_of_complement (x ∷ xs) f l =
    signed_complement (255 - x) (complement xs) (complement_octets (x ∷ xs)) (omega (arith, l)) ∙ ap (λ z. negsuc (unsigned z)) (complement_twice (x ∷ xs) f)

pub record AreShortest (z : ℤ) (c : Octets) : Type 0 where
  pub octets : AreOctets c
  pub tight : IsTight c
  pub value : signed c ≡ z

pub signed_octets_are : (z : ℤ) → AreShortest z (signed_octets z)
signed_octets_are (pos n) =
    let r = roomy n in
    record { octets = r.octets; tight = r.tight; value = signed_of_low (with_sign (digits_of 256 n)) r.first ∙ ap pos r.value }
signed_octets_are (negsuc n) =
    let r = roomy n in
    let c : Octets = with_sign (digits_of 256 n) in
    record { octets = complement_octets c; tight = tight_complement c r.octets r.tight; value = signed_of_complement c r.octets r.first ∙ ap negsuc r.value }

pub signed_octets_value : (z : ℤ) → signed (signed_octets z) ≡ z
signed_octets_value z = (signed_octets_are z).value

-- a sign octet stands before the shortest unsigned octets where their first bit is set
pub signed_octets_of_number : (n : ℕ) → signed_octets (pos n) ≡ with_sign (number_octets n)
signed_octets_of_number n = go (cases_eq n 0)
  where
    go : (n ≡ 0) ⊎ (n ≡ 0 → ⊥) → with_sign (digits_of 256 n) ≡ with_sign (number_octets n)
    go (inl e) = subst (λ z. with_sign (digits_of 256 z) ≡ with_sign (number_octets z)) (sym e) refl
    go (inr e) = sym (ap with_sign (cond-false (n == 0) (0 ∷ []) (digits_of 256 n) (ne_eqb n 0 e)))
