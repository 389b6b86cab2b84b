-- Numbers in two's complement.
use Rattle.std.proofs.Common.{◌≡◌, ℕ, suc, ◌+◌, ◌-◌, ◌*◌, ◌^◌, ◌<◌, ◌≤◌, nat_lt, [], ◌∷◌, length, refl, sym, ap, ap₂, ◌∙◌, arith, pos, negsuc}
use Rattle.std.proofs.lemmas.Bool.{lt-ltb, le-ltb, cond-true, cond-false}
use native.Mathlib.Nat.{add-mul}
use Rattle.asn1_core.specs.Octets.{Octets, AreOctets, unsigned, signed}
use Rattle.asn1_core.specs.Numbers.{complement}
use Rattle.asn1_core.proofs.Digits.{powers, unsigned_cons}

pub length-complement : (o : Octets) → length (complement o) ≡ length o
length-complement [] = refl
length-complement (x ∷ o) = ap suc (length-complement o)

mul_255 : (w x p : ℕ) → w + x ≡ 255 → w * p + x * p ≡ 255 * p
mul_255 w x p e = sym (add-mul w x p) ∙ ap (λ z. z * p) e

-- a number and its complement
pub complement_sum : (o : Octets) → AreOctets o → unsigned (complement o) + unsigned o + 1 ≡ 256 ^ length o
complement_sum [] f = refl
complement_sum (x ∷ o) (f, fs) =
    let a : unsigned (x ∷ o) ≡ x * 256 ^ length o + unsigned o = unsigned_cons x o in
    let b : unsigned (complement (x ∷ o)) ≡ (255 - x) * 256 ^ length o + unsigned (complement o) =
    unsigned_cons (255 - x) (complement o) ∙ ap (λ z. (255 - x) * 256 ^ z + unsigned (complement o)) (length-complement o) in
    let c : (255 - x) * 256 ^ length o + x * 256 ^ length o ≡ 255 * 256 ^ length o = mul_255 (255 - x) x (256 ^ length o) (omega arith) in
    sums (unsigned (x ∷ o)) (unsigned (complement (x ∷ o))) ((255 - x) * 256 ^ length o) (x * 256 ^ length o) (256 ^ length o) (unsigned o) (unsigned (complement o)) a b c (complement_sum o fs) ∙ powers (length o)
  where
    sums : (a b wp xp p u v : ℕ) → a ≡ xp + u → b ≡ wp + v → wp + xp ≡ 255 * p → v + u + 1 ≡ p → b + a + 1 ≡ 256 * p
    sums a b wp xp p u v e f g h = omega arith

pub complement_octets : (o : Octets) → AreOctets (complement o)
complement_octets [] = tt
complement_octets (x ∷ o) = (omega arith, complement_octets o)

pub complement_twice : (o : Octets) → AreOctets o → complement (complement o) ≡ o
complement_twice [] f = refl
complement_twice (x ∷ o) (f, fs) = ap₂ ◌∷◌ (omega arith) (complement_twice o fs)

pub signed_low : (x : ℕ) (xs : Octets) → x < 128 → signed (x ∷ xs) ≡ pos (unsigned (x ∷ xs))
signed_low x xs h = cond-true (nat_lt x 128) (pos (unsigned (x ∷ xs))) (negsuc (256 ^ length (x ∷ xs) - 1 - unsigned (x ∷ xs))) (lt-ltb x 128 h)

pub signed_high : (x : ℕ) (xs : Octets) → 128 ≤ x → signed (x ∷ xs) ≡ negsuc (256 ^ length (x ∷ xs) - 1 - unsigned (x ∷ xs))
signed_high x xs h = cond-false (nat_lt x 128) (pos (unsigned (x ∷ xs))) (negsuc (256 ^ length (x ∷ xs) - 1 - unsigned (x ∷ xs))) (le-ltb x 128 h)

-- -(n + 1) where n is the complement's number
pub signed_complement : (x : ℕ) (xs : Octets) → AreOctets (x ∷ xs) → 128 ≤ x → signed (x ∷ xs) ≡ negsuc (unsigned (complement (x ∷ xs)))
signed_complement x xs f h = signed_high x xs h ∙ ap negsuc (taken (256 ^ length (x ∷ xs)) (unsigned (x ∷ xs)) (unsigned (complement (x ∷ xs))) (complement_sum (x ∷ xs) f))
  where
    taken : (p u v : ℕ) → v + u + 1 ≡ p → p - 1 - u ≡ v
    taken p u v e = omega arith
