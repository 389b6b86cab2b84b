-- A superfluous first octet can be left out.
use Rattle.std.proofs.Common.{◌≡◌, ℕ, ◌+◌, ◌-◌, ◌*◌, ◌^◌, ◌<◌, ◌≤◌, true, false, cond, ltb, eqb, [], ◌∷◌, length, ◌⊎◌, inl, inr, refl, sym, ap, ◌∙◌, subst, arith, pos, negsuc}
use Rattle.std.proofs.lemmas.Bool.{lt-ltb, le-ltb, eqb-true, eqb-false, cases_lt, and_parts}
use Rattle.asn1_core.specs.Octets.{Octets, AreOctets, unsigned, signed}
use Rattle.asn1_core.specs.Numbers.{number_octets, has_superfluous_zero, has_superfluous_sign}
use Rattle.asn1_core.proofs.Digits.{powers, unsigned_cons, number_octets_after, number_octets_one}
use Rattle.asn1_core.proofs.Complement.{signed_low, signed_high}

pub zero_left_out : (x y : ℕ) (ys : Octets) → has_superfluous_zero (x ∷ y ∷ ys) ≡ true → unsigned (y ∷ ys) ≡ unsigned (x ∷ y ∷ ys)
zero_left_out x y ys h =
    let tests = and_parts (ltb 1 (length (x ∷ y ∷ ys))) (eqb x 0) h in
    subst (λ z. unsigned (y ∷ ys) ≡ unsigned (z ∷ y ∷ ys)) (sym (eqb-true x 0 tests.1)) refl

-- octets without a superfluous first one are the shortest of their number
pub number_octets_unsigned : (c : Octets) → AreOctets c → 0 < length c → has_superfluous_zero c ≡ false → number_octets (unsigned c) ≡ c
number_octets_unsigned [] f s h = absurd (omega arith)
number_octets_unsigned (x ∷ []) f s h = number_octets_one x f.0
number_octets_unsigned (x ∷ y ∷ ys) f s h = number_octets_after x (y ∷ ys) f (eqb-false x 0 test)
  where
    test : eqb x 0 ≡ false
    test = let long = lt-ltb 1 (length (x ∷ y ∷ ys)) (omega arith) in rw long at h

pub sign_left_out : (x y : ℕ) (ys : Octets) → has_superfluous_sign (x ∷ y ∷ ys) ≡ true → signed (y ∷ ys) ≡ signed (x ∷ y ∷ ys)
sign_left_out x y ys h = go (cases_lt y 128)
  where
    test : cond (ltb y 128) (eqb x 0) (eqb x 255) ≡ true
    test = (and_parts (ltb 1 (length (x ∷ y ∷ ys))) (cond (ltb y 128) (eqb x 0) (eqb x 255)) h).1

    equal : (p u q v : ℕ) → q ≡ 256 * p → v ≡ 255 * p + u → p - 1 - u ≡ q - 1 - v
    equal p u q v a b = omega arith

    go : (y < 128) ⊎ (128 ≤ y) → signed (y ∷ ys) ≡ signed (x ∷ y ∷ ys)
    go (inl k) =
        let t = rw (lt-ltb y 128 k) at test in
        let e : x ≡ 0 = eqb-true x 0 t in
        signed_low y ys k ∙ subst (λ z. pos (unsigned (y ∷ ys)) ≡ pos (unsigned (z ∷ y ∷ ys))) (sym e) refl ∙ sym (signed_low x (y ∷ ys) (omega arith))
    go (inr k) =
        let t = rw (le-ltb y 128 k) at test in
        let e : x ≡ 255 = eqb-true x 255 t in
        signed_high y ys k
        ∙ ap negsuc (equal (256 ^ length (y ∷ ys)) (unsigned (y ∷ ys)) (256 ^ length (x ∷ y ∷ ys)) (unsigned (x ∷ y ∷ ys)) (sym (powers (length (y ∷ ys)))) (unsigned_cons x (y ∷ ys) ∙ ap (λ z. z * 256 ^ length (y ∷ ys) + unsigned (y ∷ ys)) e))
        ∙ sym (signed_high x (y ∷ ys) (omega arith))
