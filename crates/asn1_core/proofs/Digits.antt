-- Octets and the digits of their number.
use Rattle.std.proofs.Common.{◌≡◌, ◌≢◌, ℕ, zero, suc, ◌+◌, ◌*◌, ◌/◌, ◌%◌, ◌^◌, ◌<◌, ◌==◌, [], ◌∷◌, ◌++◌, length, get_or, ◌⊎◌, inl, inr, refl, sym, ap, ap₂, ◌∙◌, subst, arith, append_assoc, append-nil}
use Rattle.std.specs.Int.Digits.{number_from_digits_after, digits_of}
use Rattle.std.proofs.lemmas.Int.Digits.{digits_of_step, number_lt, all_below_base_digits_of, length-digits_of_step}
use Rattle.std.proofs.lemmas.Nat.{div-mul-add, mod-mul-add}
use Rattle.std.proofs.lemmas.Bool.{ne_eqb, cases_eq, cond-false}
use Rattle.asn1_core.specs.Octets.{Octets, AreOctets, unsigned}
use Rattle.asn1_core.specs.Numbers.{number_octets}

-- ---- each below 256

pub octets_from_each : (o : Octets) → ((i : ℕ) → get_or o i 0 < 256) → AreOctets o
octets_from_each [] f = tt
octets_from_each (x ∷ o) f = (f 0, octets_from_each o (λ i. f (suc i)))

pub append_octets : (o p : Octets) → AreOctets o → AreOctets p → AreOctets (o ++ p)
append_octets [] p f g = g
append_octets (x ∷ o) p (f, fs) g = (f, append_octets o p fs g)

pub digits_octets : (n : ℕ) → AreOctets (digits_of 256 n)
digits_octets n = all_below_base_digits_of 256 n (omega arith)

-- ---- digits

-- a number that isn't 0, and more digits
digits_after : (n : ℕ) (ds : Octets) → 0 < n → AreOctets ds → digits_of 256 (number_from_digits_after 256 n ds) ≡ digits_of 256 n ++ ds
digits_after n [] p f = sym (append-nil (digits_of 256 n))
digits_after n (d ∷ ds) p (f, fs) =
    digits_after (n * 256 + d) ds (omega arith) fs
    ∙ ap (λ z. z ++ ds) (digits_of_step 256 (n * 256 + d) (omega arith) (omega arith) ∙ ap₂ (λ a b. digits_of 256 a ++ b ∷ []) (div-mul-add n 256 d f) (mod-mul-add n 256 d f))
    ∙ append_assoc (digits_of 256 n) (d ∷ []) ds

two_parts : (x : ℕ) → x < 256 → (x / 256 ≡ 0) × (x % 256 ≡ x)
two_parts x f = (omega arith, omega arith)

one_digit : (x : ℕ) → 0 < x → x < 256 → digits_of 256 x ≡ x ∷ []
one_digit x p f =
    let q : (x / 256 ≡ 0) × (x % 256 ≡ x) = two_parts x f in
    digits_of_step 256 x (omega arith) p ∙ ap₂ (λ a b. digits_of 256 a ++ b ∷ []) q.0 q.1

-- octets without a leading 0 are the digits of their number
pub digits_unsigned : (x : ℕ) (xs : Octets) → AreOctets (x ∷ xs) → x ≢ 0 → digits_of 256 (unsigned (x ∷ xs)) ≡ x ∷ xs
digits_unsigned x xs (f, fs) p =
    let h : 0 < x = omega (arith, p) in
    let z : 0 * 256 + x ≡ x = omega arith in
    ap (λ k. digits_of 256 (number_from_digits_after 256 k xs)) z ∙ digits_after x xs h fs ∙ ap (λ k. k ++ xs) (one_digit x h f)

not_nil : (x : ℕ) (xs : Octets) → x ∷ xs ≡ [] → ⊥
not_nil x xs e = absurd cc

not_zero : (x : ℕ) (xs : Octets) → AreOctets (x ∷ xs) → x ≢ 0 → unsigned (x ∷ xs) ≡ 0 → ⊥
not_zero x xs f p e = not_nil x xs (sym (digits_unsigned x xs f p) ∙ ap (digits_of 256) e)

-- a leading octet that isn't 0
pub number_octets_after : (x : ℕ) (xs : Octets) → AreOctets (x ∷ xs) → x ≢ 0 → number_octets (unsigned (x ∷ xs)) ≡ x ∷ xs
number_octets_after x xs f p =
    cond-false (unsigned (x ∷ xs) == 0) (0 ∷ []) (digits_of 256 (unsigned (x ∷ xs))) (ne_eqb (unsigned (x ∷ xs)) 0 (not_zero x xs f p)) ∙ digits_unsigned x xs f p

pub number_octets_one : (x : ℕ) → x < 256 → number_octets (unsigned (x ∷ [])) ≡ x ∷ []
number_octets_one x f = go (cases_eq x 0)
  where
    go : (x ≡ 0) ⊎ (x ≡ 0 → ⊥) → number_octets (unsigned (x ∷ [])) ≡ x ∷ []
    go (inl e) = subst (λ z. number_octets (unsigned (z ∷ [])) ≡ z ∷ []) (sym e) refl
    go (inr e) = number_octets_after x [] (f, tt) e

pub number_octets_some : (n : ℕ) → 0 < length (number_octets n)
number_octets_some n = go (cases_eq n 0)
  where
    go : (n ≡ 0) ⊎ (n ≡ 0 → ⊥) → 0 < length (number_octets n)
    go (inl e) = subst (λ z. 0 < length (number_octets z)) (sym e) (omega arith)
    go (inr e) =
        let h : 0 < n = omega (arith, e) in
        subst (λ z. 0 < length z) (sym (cond-false (n == 0) (0 ∷ []) (digits_of 256 n) (ne_eqb n 0 e))) (omega (arith, length-digits_of_step 256 n (omega arith) h))

-- ---- places

pub powers : (k : ℕ) → 256 * 256 ^ k ≡ 256 ^ suc k
powers k = omega arith

pub power_pos : (k : ℕ) → 0 < 256 ^ k
power_pos zero = omega arith
power_pos (suc k) = omega (arith, power_pos k, powers k)

after_is : (n : ℕ) (ds : Octets) → number_from_digits_after 256 n ds ≡ n * 256 ^ length ds + unsigned ds
after_is n [] = omega arith
after_is n (d ∷ ds) =
    step n d (256 ^ length ds) (number_from_digits_after 256 (n * 256 + d) ds) (unsigned ds) (number_from_digits_after 256 (0 * 256 + d) ds) (after_is (n * 256 + d) ds) (after_is (0 * 256 + d) ds)
    ∙ ap (λ z. n * z + unsigned (d ∷ ds)) (powers (length ds))
  where
    step : (n d p a u v : ℕ) → a ≡ (n * 256 + d) * p + u → v ≡ (0 * 256 + d) * p + u → a ≡ n * (256 * p) + v
    step n d p a u v e f = omega arith

pub unsigned_cons : (x : ℕ) (xs : Octets) → unsigned (x ∷ xs) ≡ x * 256 ^ length xs + unsigned xs
unsigned_cons x xs = ap (λ z. number_from_digits_after 256 z xs) (omega arith) ∙ after_is x xs

pub unsigned_below : (o : Octets) → AreOctets o → unsigned o < 256 ^ length o
unsigned_below o f = number_lt 256 o f
