-- A second's fraction and its digits.
use Rattle.std.proofs.Common.{◌≡◌, ℕ, zero, suc, ◌+◌, ◌-◌, ◌*◌, ◌/◌, ◌%◌, ◌^◌, ◌<◌, ◌≤◌, true, false, cond, eqb, leb, not, [], ◌∷◌, ◌++◌, length, take, get_or, refl, sym, ap, ap₂, subst, ◌∙◌, arith, add-one, length-append, inl, inr}
use Rattle.std.specs.Prelude.{◌&&◌, ◌⊎◌}
use Rattle.std.specs.List.{list_all}
use Rattle.std.proofs.Math.Nat.{pow-succ', mul_comm, mul_assoc, one-le-pow, mul-lt-mul_of_pos_right}
use Rattle.std.proofs.Math.Seq.{get_or-append_seam, take-append_seam}
use Rattle.std.proofs.Math.Bool.{and-true}
use Rattle.std.proofs.lemmas.List.Folds.{list_all-append}
use Rattle.std.proofs.lemmas.Bool.{eq-eqb, ne_eqb, and_from, le-leb, cases_eq}
use Rattle.std.proofs.lemmas.Nat.{pow-add}
use Rattle.std.proofs.lemmas.List.{take_more}
use Rattle.asn1_core.specs.Octets.{Octets}
use Rattle.asn1_core.specs.Texts.{is_digit, is_fraction, is_ending}
use Rattle.asn1_times.specs.Times.{decimal, without_zeros, fraction}
use Rattle.asn1_times.proofs.Decimals.{value, value_more, digit_parts, digit_at, length-decimal}

-- ---- digits and their number

front_back : (c : Octets) (i : ℕ) → list_all is_digit c ≡ true → i ≤ length c → decimal i (value (take i c)) ≡ take i c
front_back c zero h le = refl
front_back c (suc i) h le =
    let lt : i < length c = omega arith in
    let d = get_or c i 0 in
    let parts = digit_parts d (digit_at c i h lt) in
    let v = value (take i c) in
    let more : value (take (suc i) c) ≡ v * 10 + (d - 0x30) = ap (λ k. value (take k c)) (sym (add-one i)) ∙ value_more c i lt in
    let high : value (take (suc i) c) / 10 ≡ v = omega (arith, more) in
    let low : 0x30 + value (take (suc i) c) % 10 ≡ d = omega (arith, more) in
    ap₂ (λ x y. decimal i x ++ (y ∷ [])) high low ∙ ap (λ l. l ++ (d ∷ [])) (front_back c i h (omega arith)) ∙ sym (take_more c i 0 lt) ∙ ap (λ k. take k c) (add-one i)

pub take_all : (c : Octets) → take (length c) c ≡ c
take_all [] = refl
take_all (x ∷ c) = ap (λ l. x ∷ l) (take_all c)

pub digits_back : (c : Octets) → list_all is_digit c ≡ true → decimal (length c) (value c) ≡ c
digits_back c h = ap (λ l. decimal (length c) (value l)) (sym (take_all c)) ∙ front_back c (length c) h (omega arith) ∙ take_all c

-- ---- zeros at the end

zeros_left : (k j m : ℕ) → without_zeros (k + j) (m * 10 ^ j) ≡ without_zeros k m
zeros_left k zero m =
    let a : k + 0 ≡ k = omega arith in
    let b : m * 1 ≡ m = omega arith in
    ap₂ without_zeros a b
zeros_left k (suc j) m =
    let p = 10 ^ j in
    let whole : m * 10 ^ suc j ≡ 10 * (m * p) = ap (λ z. m * z) (pow-succ' 10 j) ∙ sym (mul_assoc m 10 p) ∙ ap (λ z. z * p) (mul_comm m 10) ∙ mul_assoc 10 m p in
    let count : k + suc j ≡ suc (k + j) = omega arith in
    let low : (m * 10 ^ suc j) % 10 ≡ 0 = omega (arith, whole) in
    let high : m * 10 ^ suc j / 10 ≡ m * p = omega (arith, whole) in
    ap (λ z. without_zeros z (m * 10 ^ suc j)) count
    ∙ ap (λ t. cond t (without_zeros (k + j) (m * 10 ^ suc j / 10)) (decimal (suc (k + j)) (m * 10 ^ suc j))) (eq-eqb ((m * 10 ^ suc j) % 10) 0 low)
    ∙ ap (without_zeros (k + j)) high ∙ zeros_left k j m

pub no_zeros : (k m : ℕ) → (m % 10 ≡ 0 → ⊥) → without_zeros (suc k) m ≡ decimal (suc k) m
no_zeros k m some = ap (λ t. cond t (without_zeros k (m / 10)) (decimal (suc k) m)) (ne_eqb (m % 10) 0 some)

-- the last digit is the number's lowest
last_digit : (c : Octets) → list_all is_digit c ≡ true → 1 ≤ length c → (get_or c (length c - 1) 0 ≡ 0x30 → ⊥) → value c % 10 ≡ 0 → ⊥
last_digit c h some last low =
    let n : length c - 1 + 1 ≡ length c = omega arith in
    let lt : length c - 1 < length c = omega arith in
    let parts = digit_parts (get_or c (length c - 1) 0) (digit_at c (length c - 1) h lt) in
    let more : value c ≡ value (take (length c - 1) c) * 10 + (get_or c (length c - 1) 0 - 0x30) = ap value (sym (take_all c)) ∙ ap (λ k. value (take k c)) (sym n) ∙ value_more c (length c - 1) lt in
    last (omega (arith, more))

scaled_is : (c : Octets) (k : ℕ) → length c ≡ suc k → suc k ≤ 9 → list_all is_digit c ≡ true → (get_or c (length c - 1) 0 ≡ 0x30 → ⊥) → without_zeros 9 (value c * 10 ^ (9 - length c)) ≡ c
scaled_is c k long few h last =
    let nine : 9 ≡ length c + (9 - length c) = omega arith in
    let apart = last_digit c h (omega arith) last in
    ap (λ z. without_zeros z (value c * 10 ^ (9 - length c))) nine ∙ zeros_left (length c) (9 - length c) (value c)
    ∙ ap (λ z. without_zeros z (value c)) long ∙ no_zeros k (value c) apart ∙ ap (λ z. decimal z (value c)) (sym long) ∙ digits_back c h

pub scaled_small : (n k : ℕ) → n < 10 ^ k → k ≤ 9 → n * 10 ^ (9 - k) < 1_000_000_000
scaled_small n k lt le =
    let power : 0 < 10 ^ (9 - k) = one-le-pow (9 - k) 10 (omega arith) in
    let nine : k + (9 - k) ≡ 9 = omega arith in
    let whole : 10 ^ k * 10 ^ (9 - k) ≡ 10 ^ 9 = sym (pow-add 10 k (9 - k)) ∙ ap (λ z. 10 ^ z) nine in
    let below : n * 10 ^ (9 - k) < 10 ^ k * 10 ^ (9 - k) = mul-lt-mul_of_pos_right lt power in
    omega (arith, below, whole)

pub fraction_is : (c : Octets) → length c ≤ 9 → 1 ≤ length c → list_all is_digit c ≡ true → (get_or c (length c - 1) 0 ≡ 0x30 → ⊥) → fraction (value c * 10 ^ (9 - length c)) ≡ 0x2E ∷ c
fraction_is c few some h last =
    let n = value c * 10 ^ (9 - length c) in
    let long : length c ≡ suc (length c - 1) = omega arith in
    let digits : without_zeros 9 n ≡ c = scaled_is c (length c - 1) long (omega arith) h last in
    let positive : 0 < value c = at_least (value c) (last_digit c h some last) in
    let power : 0 < 10 ^ (9 - length c) = one-le-pow (9 - length c) 10 (omega arith) in
    let apart : n ≡ 0 → ⊥ = λ e. let more : 0 * 10 ^ (9 - length c) < value c * 10 ^ (9 - length c) = mul-lt-mul_of_pos_right positive power in omega (arith, e) in
    ap (λ t. cond t [] (0x2E ∷ without_zeros 9 n)) (ne_eqb n 0 apart) ∙ ap (λ l. 0x2E ∷ l) digits
  where
    at_least : (v : ℕ) → (v % 10 ≡ 0 → ⊥) → 0 < v
    at_least zero h = absurd (h refl)
    at_least (suc v) h = omega arith

-- ---- a fraction's digits obey their rule

pub digits_are : (k n : ℕ) → list_all is_digit (decimal k n) ≡ true
digits_are zero n = refl
digits_are (suc k) n =
    list_all-append is_digit (decimal k (n / 10)) ((0x30 + n % 10) ∷ [])
    ∙ and_from (list_all is_digit (decimal k (n / 10))) (list_all is_digit ((0x30 + n % 10) ∷ [])) (digits_are k (n / 10)) (and_from (is_digit (0x30 + n % 10)) true (digit_is n) refl)
  where
    digit_is : (n : ℕ) → is_digit (0x30 + n % 10) ≡ true
    digit_is n = and_from (leb 0x30 (0x30 + n % 10)) (leb (0x30 + n % 10) 0x39) (le-leb 0x30 (0x30 + n % 10) (omega arith)) (le-leb (0x30 + n % 10) 0x39 (omega arith))

last_of : (c : Octets) (x : ℕ) → get_or (c ++ (x ∷ [])) (length (c ++ (x ∷ [])) - 1) 0 ≡ x
last_of c x = let n : length (c ++ (x ∷ [])) - 1 ≡ length c = omega (arith, length-append c (x ∷ [])) in ap (λ k. get_or (c ++ (x ∷ [])) k 0) n ∙ get_or-append_seam c x [] 0

pub record AreFraction (k : ℕ) (c : Octets) : Type 0 where
  pub some : 1 ≤ length c
  pub few : length c ≤ k
  pub digits : list_all is_digit c ≡ true
  pub last : get_or c (length c - 1) 0 ≡ 0x30 → ⊥

pub without_zeros_are : (k n : ℕ) → 0 < n → n < 10 ^ k → AreFraction k (without_zeros k n)
without_zeros_are zero n some lt = absurd (omega arith)
without_zeros_are (suc k) n some lt = by_digit (cases_eq (n % 10) 0) (λ e. let p = pow-succ' 10 k in without_zeros_are k (n / 10) (omega arith) (omega (arith, p)))
  where
    by_digit : (n % 10 ≡ 0) ⊎ (n % 10 ≡ 0 → ⊥) → (n % 10 ≡ 0 → AreFraction k (without_zeros k (n / 10))) → AreFraction (suc k) (without_zeros (suc k) n)
    by_digit (inl e) shorter =
        let is : without_zeros (suc k) n ≡ without_zeros k (n / 10) = ap (λ t. cond t (without_zeros k (n / 10)) (decimal (suc k) n)) (eq-eqb (n % 10) 0 e) in
        let h = shorter e in
        subst (AreFraction (suc k)) (sym is) (record { some = h.some; few = omega (arith, h.few); digits = h.digits; last = h.last })
    by_digit (inr apart) shorter =
        let long = length-decimal (suc k) n in
        subst (AreFraction (suc k)) (sym (no_zeros k n apart)) (record {
          some = omega (arith, long);
          few = omega (arith, long);
          digits = digits_are (suc k) n;
          last = λ e. apart (let l = last_of (decimal k (n / 10)) (0x30 + n % 10) in omega (arith, l, e));
        })

fraction_obeys : (c : Octets) → AreFraction 9 c → is_fraction c ≡ true
fraction_obeys c h =
    and_from (leb 1 (length c) && leb (length c) 9) (list_all is_digit c && not (eqb (get_or c (length c - 1) 0) 0x30))
    (and_from (leb 1 (length c)) (leb (length c) 9) (le-leb 1 (length c) h.some) (le-leb (length c) 9 h.few))
    (and_from (list_all is_digit c) (not (eqb (get_or c (length c - 1) 0) 0x30)) h.digits (ap not (ne_eqb (get_or c (length c - 1) 0) 0x30 h.last)))

-- ---- endings

pub middle : (c : Octets) (x : ℕ) → take (length (c ++ (x ∷ [])) - 1) (c ++ (x ∷ [])) ≡ c
middle c x = let n : length (c ++ (x ∷ [])) - 1 ≡ length c = omega (arith, length-append c (x ∷ [])) in ap (λ k. take k (c ++ (x ∷ []))) n ∙ take-append_seam c (x ∷ [])

pub pointed_ending : (c : Octets) → is_ending (0x2E ∷ (c ++ (0x5A ∷ []))) ≡ is_fraction c
pointed_ending c =
    let xs : Octets = c ++ (0x5A ∷ []) in
    let some : eqb (length xs) 0 ≡ false = ne_eqb (length xs) 0 (λ e. let n = length-append c (0x5A ∷ []) in omega (arith, e, n)) in
    let last : eqb (get_or xs (length xs - 1) 0) 0x5A ≡ true = eq-eqb (get_or xs (length xs - 1) 0) 0x5A (last_of c 0x5A) in
    ap (λ t. cond t false (is_fraction (take (length xs - 1) xs) && eqb (get_or xs (length xs - 1) 0) 0x5A)) some
    ∙ ap₂ (λ l t. is_fraction l && t) (middle c 0x5A) last ∙ and-true (is_fraction c)

pub ending_obeys : (n : ℕ) → n < 1_000_000_000 → is_ending (fraction n ++ (0x5A ∷ [])) ≡ true
ending_obeys zero lt = refl
ending_obeys (suc n) lt =
    let some : eqb (suc n) 0 ≡ false = ne_eqb (suc n) 0 (λ e. omega arith) in
    let digits = without_zeros_are 9 (suc n) (omega arith) (omega arith) in
    ap (λ t. is_ending (cond t [] (0x2E ∷ without_zeros 9 (suc n)) ++ (0x5A ∷ []))) some ∙ pointed_ending (without_zeros 9 (suc n)) ∙ fraction_obeys (without_zeros 9 (suc n)) digits
