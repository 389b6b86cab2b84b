-- Times and their texts.
use Rattle.std.proofs.Common.{◌≡◌, ℕ, zero, suc, ◌+◌, ◌-◌, ◌*◌, ◌/◌, ◌%◌, ◌<◌, ◌≤◌, Bool, true, false, cond, eqb, leb, ltb, not, List, [], ◌∷◌, ◌++◌, length, take, drop, get_or, Option, Some, None, refl, sym, ap, ap₂, subst, ◌∙◌, arith, length-append, length-drop, drop-cons, lit<, inl, inr}
use Rattle.std.specs.Prelude.{◌&&◌, ◌||◌, ◌⊎◌, ℤ, pos, negsuc, int_le, ◌≤ℤ◌, unsigned_abs}
use Rattle.std.specs.List.{list_all}
use Rattle.std.proofs.lemmas.Bool.{ne_eqb, and_parts, and_from, leb-true, le-leb, lt-ltb, le-ltb, cases_lt}
use Rattle.std.proofs.lemmas.List.{take-append-drop}
use Rattle.std.proofs.lemmas.Int.{ints}
use Rattle.jiff_core.specs.Calendar.{days_in_month}
use Rattle.jiff_core.specs.declared.civil.date.Date.{Date}
use Rattle.jiff_core.specs.declared.civil.time.Time.{Time}
use Rattle.jiff_core.specs.declared.civil.datetime.DateTime.{DateTime}
use Rattle.asn1_core.specs.Octets.{Octets, AreOctets}
use Rattle.asn1_core.specs.Texts.{is_digit, digits_at, days_of, is_day, is_clock, full_year, is_utc, is_ending, is_generalized, is_date, from_to}
use Rattle.asn1_times.specs.Times.{two_digits, pairs, year_pairs, day_pairs, clock_pairs, fraction, is_utc_year, utc_text, generalized_text, date_text, HasDay, HasClock, without_zeros, UtcObeys, GeneralizedObeys, DateObeys}
use Rattle.asn1_times.proofs.Decimals.{value, digit_parts}
use Rattle.asn1_times.proofs.Fractions.{take_all, ending_obeys, without_zeros_are}

-- ---- two digits

two_back : (x y : ℕ) → is_digit x ≡ true → is_digit y ≡ true → two_digits (value (x ∷ y ∷ [])) ≡ x ∷ y ∷ []
two_back x y h k =
    let a = digit_parts x h in
    let b = digit_parts y k in
    let high : 0x30 + value (x ∷ y ∷ []) / 10 % 10 ≡ x = omega arith in
    let low : 0x30 + value (x ∷ y ∷ []) % 10 ≡ y = omega arith in
    ap₂ (λ p q. p ∷ q ∷ []) high low

pub two_value : (n : ℕ) → n < 100 → value (two_digits n) ≡ n
two_value n lt = omega arith

-- the numbers of k pairs of digits from place i on
abbrev pub numbers : ℕ → ℕ → Octets → List ℕ
numbers zero i c = []
numbers (suc k) i c = digits_at c i 2 ∷ numbers k (i + 2) c

two_at : (c : Octets) (i : ℕ) → i + 2 ≤ length c → drop i c ≡ get_or c i 0 ∷ get_or c (i + 1) 0 ∷ drop (i + 2) c
two_at c i le =
    let one : suc i ≡ i + 1 = omega arith in
    let two : suc (i + 1) ≡ i + 2 = omega arith in
    drop-cons c i 0 (omega arith) ∙ ap (λ k. get_or c i 0 ∷ drop k c) one
    ∙ ap (λ l. get_or c i 0 ∷ l) (drop-cons c (i + 1) 0 (omega arith) ∙ ap (λ k. get_or c (i + 1) 0 ∷ drop k c) two)

pub pairs_back : (k i : ℕ) (c : Octets) → i + 2 * k ≤ length c → list_all is_digit (take (2 * k) (drop i c)) ≡ true → pairs (numbers k i c) ≡ take (2 * k) (drop i c)
pairs_back zero i c le h = refl
pairs_back (suc k) i c le h =
    let x = get_or c i 0 in
    let y = get_or c (i + 1) 0 in
    let rest = drop (i + 2) c in
    let first : drop i c ≡ x ∷ y ∷ rest = two_at c i (omega arith) in
    let count : 2 * suc k ≡ suc (suc (2 * k)) = omega arith in
    let front : take (2 * suc k) (drop i c) ≡ x ∷ y ∷ take (2 * k) rest = ap₂ take count first in
    let each : list_all is_digit (x ∷ y ∷ take (2 * k) rest) ≡ true = ap (list_all is_digit) (sym front) ∙ h in
    let one = and_parts (is_digit x) (is_digit y && list_all is_digit (take (2 * k) rest)) each in
    let two = and_parts (is_digit y) (list_all is_digit (take (2 * k) rest)) one.1 in
    let number : digits_at c i 2 ≡ value (x ∷ y ∷ []) = ap (λ l. value (take 2 l)) first in
    ap (λ n. two_digits n ++ pairs (numbers k (i + 2) c)) number ∙ ap₂ ◌++◌ (two_back x y one.0 two.0) (pairs_back k (i + 2) c (omega arith) two.1) ∙ sym front

pub pairs_digits : (ns : List ℕ) → list_all is_digit (pairs ns) ≡ true
pairs_digits [] = refl
pairs_digits (n ∷ ns) = and_from (is_digit (0x30 + n / 10 % 10)) (is_digit (0x30 + n % 10) && list_all is_digit (pairs ns)) (digit_is (n / 10)) (and_from (is_digit (0x30 + n % 10)) (list_all is_digit (pairs ns)) (digit_is n) (pairs_digits ns))
  where
    digit_is : (n : ℕ) → is_digit (0x30 + n % 10) ≡ true
    digit_is n = and_from (leb 0x30 (0x30 + n % 10)) (leb (0x30 + n % 10) 0x39) (le-leb 0x30 (0x30 + n % 10) (omega arith)) (le-leb (0x30 + n % 10) 0x39 (omega arith))

-- two digits write a number below 100
pub two_small : (k i : ℕ) (c : Octets) → i + 2 * suc k ≤ length c → list_all is_digit (take (2 * suc k) (drop i c)) ≡ true → digits_at c i 2 < 100
two_small k i c le h =
    let x = get_or c i 0 in
    let y = get_or c (i + 1) 0 in
    let rest = drop (i + 2) c in
    let first : drop i c ≡ x ∷ y ∷ rest = two_at c i (omega arith) in
    let count : 2 * suc k ≡ suc (suc (2 * k)) = omega arith in
    let each : list_all is_digit (x ∷ y ∷ take (2 * k) rest) ≡ true = ap (list_all is_digit) (sym (ap₂ take count first)) ∙ h in
    let one = and_parts (is_digit x) (is_digit y && list_all is_digit (take (2 * k) rest)) each in
    let two = and_parts (is_digit y) (list_all is_digit (take (2 * k) rest)) one.1 in
    let a = digit_parts x one.0 in
    let b = digit_parts y two.0 in
    let number : digits_at c i 2 ≡ value (x ∷ y ∷ []) = ap (λ l. value (take 2 l)) first in
    omega (arith, number)

-- ---- years

pub utc_year : (two : ℕ) → two < 100 → (is_utc_year (pos (full_year two)) ≡ true) × (full_year two % 100 ≡ two)
utc_year two small = by_half (cases_lt two 50)
  where
    by_half : (two < 50) ⊎ (50 ≤ two) → (is_utc_year (pos (full_year two)) ≡ true) × (full_year two % 100 ≡ two)
    by_half (inl lt) =
        let year : full_year two ≡ 2000 + two = ap (λ t. cond t (2000 + two) (1900 + two)) (lt-ltb two 50 lt) in
        (ap (λ y. is_utc_year (pos y)) year ∙ and_from (leb 1950 (2000 + two)) (leb (2000 + two) 2049) (le-leb 1950 (2000 + two) (omega arith)) (le-leb (2000 + two) 2049 (omega arith)), ap (λ y. y % 100) year ∙ low 2000 (omega arith))
      where
        low : (n : ℕ) → n ≡ 2000 → (2000 + two) % 100 ≡ two
        low n e = omega arith
    by_half (inr ge) =
        let year : full_year two ≡ 1900 + two = ap (λ t. cond t (2000 + two) (1900 + two)) (le-ltb two 50 ge) in
        (ap (λ y. is_utc_year (pos y)) year ∙ and_from (leb 1950 (1900 + two)) (leb (1900 + two) 2049) (le-leb 1950 (1900 + two) (omega arith)) (le-leb (1900 + two) 2049 (omega arith)), ap (λ y. y % 100) year ∙ low (omega arith))
      where
        low : two < 100 → (1900 + two) % 100 ≡ two
        low s = omega arith

pub four_is : (c : Octets) → 4 ≤ length c → digits_at c 0 4 ≡ digits_at c 0 2 * 100 + digits_at c 2 2
four_is c le =
    let first : c ≡ get_or c 0 0 ∷ get_or c 1 0 ∷ drop 2 c = two_at c 0 (omega arith) in
    let second : drop 2 c ≡ get_or c 2 0 ∷ get_or c 3 0 ∷ drop 4 c = two_at c 2 (omega arith) in
    let four = ap (λ l. value (take 4 l)) first ∙ ap (λ l. value (get_or c 0 0 ∷ get_or c 1 0 ∷ take 2 l)) second in
    let one = ap (λ l. value (take 2 l)) first in
    let two = ap (λ l. value (take 2 l)) second in
    omega (arith, four, one, two)

-- ---- what is read has the text that was read

from_zero : (y : ℕ) → int_le (pos 0) (pos y) ≡ true
from_zero y = le-leb 0 y (omega arith)

pub whole_year : (c : Octets) (k : ℕ) → 2 * suc (suc k) ≤ length c → list_all is_digit (take (2 * suc (suc k)) c) ≡ true
    → (digits_at c 0 4 / 100 ≡ digits_at c 0 2) × (digits_at c 0 4 % 100 ≡ digits_at c 2 2) × (digits_at c 0 4 < 10000)
whole_year c k le h =
    let four = four_is c (omega arith) in
    let first : c ≡ get_or c 0 0 ∷ get_or c 1 0 ∷ drop 2 c = two_at c 0 (omega arith) in
    let count : 2 * suc (suc k) ≡ suc (suc (2 * suc k)) = omega arith in
    let rest : list_all is_digit (take (2 * suc k) (drop 2 c)) ≡ true =
    (and_parts (is_digit (get_or c 1 0)) (list_all is_digit (take (2 * suc k) (drop 2 c))) (and_parts (is_digit (get_or c 0 0)) (is_digit (get_or c 1 0) && list_all is_digit (take (2 * suc k) (drop 2 c))) (ap (list_all is_digit) (sym (ap₂ take count first)) ∙ h)).1).1 in
    let high = two_small (suc k) 0 c (omega arith) h in
    let low = two_small k 2 c (omega arith) rest in
    (omega (arith, four, low), omega (arith, four, low), omega (arith, four, high, low))

take_front : (n : ℕ) (c : Octets) → length c ≡ n → take n c ≡ c
take_front n c e = ap (λ k. take k c) (sym e) ∙ take_all c

abbrev date_text_of : ℤ → List ℕ → Option Octets
date_text_of year after = cond (int_le (pos 0) year) (Some (pairs (year_pairs (unsigned_abs year) ++ after))) None

pub date_written : (d : Date) (c : Octets) → length c ≡ 8 → list_all is_digit c ≡ true → HasDay d (digits_at c 0 4) (digits_at c 4 2) (digits_at c 6 2) → date_text d ≡ Some c
date_written d c long each h =
    let front : take 8 c ≡ c = take_front 8 c long in
    let digits : list_all is_digit (take 8 c) ≡ true = ap (list_all is_digit) front ∙ each in
    let year = whole_year c 2 (omega arith) digits in
    (λ k. date_text_of (h.year_is k) (h.month_is k ∷ h.day_is k ∷ []))
    ∙ ap (λ t. cond t (Some (pairs (year_pairs (digits_at c 0 4) ++ (digits_at c 4 2 ∷ digits_at c 6 2 ∷ [])))) None) (from_zero (digits_at c 0 4))
    ∙ ap₂ (λ a b. Some (pairs (a ∷ b ∷ digits_at c 4 2 ∷ digits_at c 6 2 ∷ []))) year.0 year.1
    ∙ ap Some (pairs_back 4 0 c (omega arith) digits ∙ front)

abbrev generalized_text_of : ℤ → List ℕ → ℕ → Option Octets
generalized_text_of year after nanosecond = cond (int_le (pos 0) year) (Some (pairs (year_pairs (unsigned_abs year) ++ after) ++ (fraction nanosecond ++ (0x5A ∷ [])))) None

pub generalized_written : (t : DateTime) (c : Octets) (n : ℕ) → 15 ≤ length c → list_all is_digit (take 14 c) ≡ true → fraction n ++ (0x5A ∷ []) ≡ drop 14 c
    → HasDay t.date (digits_at c 0 4) (digits_at c 4 2) (digits_at c 6 2) → HasClock t.time (digits_at c 8 2) (digits_at c 10 2) (digits_at c 12 2) n → generalized_text t ≡ Some c
generalized_written t c n long digits ending d h =
    let year = whole_year c 5 (omega arith) digits in
    let after : List ℕ = digits_at c 4 2 ∷ digits_at c 6 2 ∷ digits_at c 8 2 ∷ digits_at c 10 2 ∷ digits_at c 12 2 ∷ [] in
    (λ k. generalized_text_of (d.year_is k) (d.month_is k ∷ d.day_is k ∷ h.hour_is k ∷ h.minute_is k ∷ h.second_is k ∷ []) (h.nanosecond_is k))
    ∙ ap (λ t. cond t (Some (pairs (year_pairs (digits_at c 0 4) ++ after) ++ (fraction n ++ (0x5A ∷ [])))) None) (from_zero (digits_at c 0 4))
    ∙ ap₂ (λ a b. Some (pairs (a ∷ b ∷ after) ++ (fraction n ++ (0x5A ∷ [])))) year.0 year.1
    ∙ ap Some (ap₂ ◌++◌ (pairs_back 7 0 c (omega arith) digits) ending ∙ take-append-drop 14 c)

abbrev utc_text_of : ℤ → List ℕ → ℕ → Option Octets
utc_text_of year after nanosecond = cond (is_utc_year year && eqb nanosecond 0) (Some (pairs ((unsigned_abs year % 100) ∷ after) ++ (0x5A ∷ []))) None

pub utc_written : (t : DateTime) (c : Octets) → length c ≡ 13 → list_all is_digit (take 12 c) ≡ true → get_or c 12 0 ≡ 0x5A
    → HasDay t.date (full_year (digits_at c 0 2)) (digits_at c 2 2) (digits_at c 4 2) → HasClock t.time (digits_at c 6 2) (digits_at c 8 2) (digits_at c 10 2) 0 → utc_text t ≡ Some c
utc_written t c long digits zone d h =
    let two = digits_at c 0 2 in
    let year = utc_year two (two_small 5 0 c (omega arith) digits) in
    let after : List ℕ = digits_at c 2 2 ∷ digits_at c 4 2 ∷ digits_at c 6 2 ∷ digits_at c 8 2 ∷ digits_at c 10 2 ∷ [] in
    let ending : 0x5A ∷ [] ≡ drop 12 c = sym (drop-cons c 12 0 (omega arith) ∙ ap₂ ◌∷◌ zone (nothing (drop 13 c) (omega (arith, length-drop 13 c)))) in
    (λ k. utc_text_of (d.year_is k) (d.month_is k ∷ d.day_is k ∷ h.hour_is k ∷ h.minute_is k ∷ h.second_is k ∷ []) (h.nanosecond_is k))
    ∙ ap (λ t. cond (t && true) (Some (pairs ((full_year two % 100) ∷ after) ++ (0x5A ∷ []))) None) year.0
    ∙ ap (λ z. Some (pairs (z ∷ after) ++ (0x5A ∷ []))) year.1
    ∙ ap Some (ap₂ ◌++◌ (pairs_back 6 0 c (omega arith) digits) ending ∙ take-append-drop 12 c)
  where
    nothing : (l : Octets) → length l ≡ 0 → l ≡ []
    nothing [] e = refl
    nothing (x ∷ l) e = absurd (omega arith)

-- ---- where a text is one

pub generalized_rest : (c : Octets) → 15 ≤ length c → list_all is_digit (take 14 c) ≡ true
    → is_generalized c ≡ (is_ending (drop 14 c) && (is_day (digits_at c 0 4) (digits_at c 4 2) (digits_at c 6 2) && is_clock (digits_at c 8 2) (digits_at c 10 2) (digits_at c 12 2)))
generalized_rest c long digits =
    let rest : Bool = is_ending (drop 14 c) && (is_day (digits_at c 0 4) (digits_at c 4 2) (digits_at c 6 2) && is_clock (digits_at c 8 2) (digits_at c 10 2) (digits_at c 12 2)) in
    ap₂ (λ a b. a && (b && rest)) (le-leb 15 (length c) long) digits

-- the octets from place n to the end
pub tail_is : (n : ℕ) (c : Octets) → take (length c - n) (drop n c) ≡ drop n c
tail_is n c = take_front (length c - n) (drop n c) (length-drop n c)

-- ---- a value's text obeys its rule

day_obeys : (d : Date) (y : ℕ) → d.year ≡ pos y → is_day y d.month d.day ≡ true
day_obeys d y e =
    let last : days_in_month d.year d.month ≡ days_of y d.month = ap (λ z. days_in_month z d.month) e in
    and_from (from_to 1 12 d.month) (from_to 1 (days_of y d.month) d.day)
    (and_from (leb 1 d.month) (leb d.month 12) (le-leb 1 d.month d.month_in.0) (le-leb d.month 12 d.month_in.1))
    (and_from (leb 1 d.day) (leb d.day (days_of y d.month)) (le-leb 1 d.day d.day_in.0) (le-leb d.day (days_of y d.month) (omega (arith, last, d.day_in.1))))

clock_obeys : (t : Time) → is_clock t.hour t.minute t.second ≡ true
clock_obeys t =
    and_from (ltb t.hour 24) (ltb t.minute 60 && ltb t.second 60) (lt-ltb t.hour 24 t.hour_in) (and_from (ltb t.minute 60) (ltb t.second 60) (lt-ltb t.minute 60 t.minute_in) (lt-ltb t.second 60 t.second_in))

days_small : (y m : ℕ) → days_of y m ≤ 31
days_small y m = cases (eqb m 2) (eqb m 4 || eqb m 6 || eqb m 9 || eqb m 11)
  where
    leap : (b : Bool) → cond b 29 28 ≤ 31
    leap true = omega arith
    leap false = omega arith

    cases : (a b : Bool) → cond a (cond ((eqb (y % 4) 0) && (not (eqb (y % 100) 0) || eqb (y % 400) 0)) 29 28) (cond b 30 31) ≤ 31
    cases true b = leap ((eqb (y % 4) 0) && (not (eqb (y % 100) 0) || eqb (y % 400) 0))
    cases false true = omega arith
    cases false false = omega arith

pub day_small : (d : Date) (y : ℕ) → d.year ≡ pos y → d.day < 100
day_small d y e =
    let last : days_in_month d.year d.month ≡ days_of y d.month = ap (λ z. days_in_month z d.month) e in
    omega (arith, last, d.day_in.1, days_small y d.month)

-- a year from 0 on
abbrev pub IsYear : ℤ → Type 0
IsYear z = (y : ℕ) × (z ≡ pos y)

pub year_of : (z : ℤ) → int_le (pos 0) z ≡ true → IsYear z
year_of (pos y) h = (y, refl)
year_of (negsuc y) h = absurd cc

pub utc_year_of : (z : ℤ) → is_utc_year z ≡ true → (y : ℕ) × (z ≡ pos y) × (1950 ≤ y) × (y ≤ 2049)
utc_year_of (pos y) h = let both = and_parts (leb 1950 y) (leb y 2049) h in (y, refl, leb-true 1950 y both.0, leb-true y 2049 both.1)
utc_year_of (negsuc y) h = absurd cc

full_year_of : (y : ℕ) → 1950 ≤ y → y ≤ 2049 → full_year (y % 100) ≡ y
full_year_of y low high = by_half (cases_lt y 2000)
  where
    by_half : (y < 2000) ⊎ (2000 ≤ y) → full_year (y % 100) ≡ y
    by_half (inl lt) =
        let two : y % 100 ≡ y - 1900 = omega arith in
        let year : 1900 + y % 100 ≡ y = omega arith in
        ap (λ t. cond t (2000 + y % 100) (1900 + y % 100)) (le-ltb (y % 100) 50 (omega arith)) ∙ year
    by_half (inr ge) =
        let two : y % 100 ≡ y - 2000 = omega arith in
        let year : 2000 + y % 100 ≡ y = omega arith in
        ap (λ t. cond t (2000 + y % 100) (1900 + y % 100)) (lt-ltb (y % 100) 50 (omega arith)) ∙ year

pub text_of : (t : Bool) (x c : Octets) → ◌≡◌ {A = Option Octets} (cond t (Some x) None) (Some c) → (t ≡ true) × (x ≡ c)
text_of true x c e = (refl, cc)
text_of false x c e = absurd cc

pub utc_obeys : (t : DateTime) (c : Octets) → utc_text t ≡ Some c → is_utc c ≡ true
utc_obeys t c e =
    let (test, is) = text_of (is_utc_year t.date.year && eqb t.time.subsec_nanosecond 0) (pairs ((unsigned_abs t.date.year % 100) ∷ (day_pairs t.date ++ clock_pairs t.time)) ++ (0x5A ∷ [])) c e in
    let (y, year, low, high) = utc_year_of t.date.year (and_parts (is_utc_year t.date.year) (eqb t.time.subsec_nanosecond 0) test).0 in
    let two : ℕ = unsigned_abs t.date.year % 100 in
    let two_is : two ≡ y % 100 = ap (λ z. unsigned_abs z % 100) year in
    let full : full_year (value (two_digits two)) ≡ y = ap full_year (two_value two (omega (arith, two_is)) ∙ two_is) ∙ full_year_of y low high in
    let month = two_value t.date.month (omega (arith, t.date.month_in)) in
    let day = two_value t.date.day (day_small t.date y year) in
    let hour = two_value t.time.hour (omega (arith, t.time.hour_in)) in
    let minute = two_value t.time.minute (omega (arith, t.time.minute_in)) in
    let second = two_value t.time.second (omega (arith, t.time.second_in)) in
    let on_day : is_day (full_year (value (two_digits two))) (value (two_digits t.date.month)) (value (two_digits t.date.day)) ≡ true = (λ k. is_day (full k) (month k) (day k)) ∙ day_obeys t.date y year in
    let at_clock : is_clock (value (two_digits t.time.hour)) (value (two_digits t.time.minute)) (value (two_digits t.time.second)) ≡ true = (λ k. is_clock (hour k) (minute k) (second k)) ∙ clock_obeys t.time in
    let digits = pairs_digits (two ∷ (day_pairs t.date ++ clock_pairs t.time)) in
    let numbers : (is_day (full_year (value (two_digits two))) (value (two_digits t.date.month)) (value (two_digits t.date.day)) && is_clock (value (two_digits t.time.hour)) (value (two_digits t.time.minute)) (value (two_digits t.time.second))) ≡ true = and_from _ _ on_day at_clock in
    ap is_utc (sym is) ∙ and_from (list_all is_digit (pairs (two ∷ (day_pairs t.date ++ clock_pairs t.time)))) _ digits numbers

four_value : (a b : ℕ) → a < 100 → b < 100 → value (two_digits a ++ two_digits b) ≡ a * 100 + b
four_value a b s t = omega arith

year_value : (d : Date) (y : ℕ) → d.year ≡ pos y → (value (two_digits (unsigned_abs d.year / 100) ++ two_digits (unsigned_abs d.year % 100)) ≡ y)
year_value d y e =
    let small : y ≤ 9999 = bound d.year y e d.year_in.1 in
    let abs : unsigned_abs d.year ≡ y = ap unsigned_abs e in
    let whole : y / 100 * 100 + y % 100 ≡ y = omega arith in
    ap (λ z. value (two_digits (z / 100) ++ two_digits (z % 100))) abs ∙ four_value (y / 100) (y % 100) (omega arith) (omega arith) ∙ whole
  where
    bound : (z : ℤ) (y : ℕ) → z ≡ pos y → z ≤ℤ pos 9999 → y ≤ 9999
    bound z y e h = omega (arith, ints, e, h)

pub date_obeys : (d : Date) (c : Octets) → date_text d ≡ Some c → is_date c ≡ true
date_obeys d c e =
    let (test, is) = text_of (int_le (pos 0) d.year) (pairs (year_pairs (unsigned_abs d.year) ++ day_pairs d)) c e in
    let (y, year) = year_of d.year test in
    let four = year_value d y year in
    let month = two_value d.month (omega (arith, d.month_in)) in
    let day = two_value d.day (day_small d y year) in
    let on_day : is_day (value (two_digits (unsigned_abs d.year / 100) ++ two_digits (unsigned_abs d.year % 100))) (value (two_digits d.month)) (value (two_digits d.day)) ≡ true = (λ k. is_day (four k) (month k) (day k)) ∙ day_obeys d y year in
    ap is_date (sym is) ∙ and_from (list_all is_digit (pairs (year_pairs (unsigned_abs d.year) ++ day_pairs d))) _ (pairs_digits (year_pairs (unsigned_abs d.year) ++ day_pairs d)) on_day

pub generalized_obeys : (t : DateTime) (c : Octets) → generalized_text t ≡ Some c → is_generalized c ≡ true
generalized_obeys t c e =
    let ending : Octets = fraction t.time.subsec_nanosecond ++ (0x5A ∷ []) in
    let front : List ℕ = year_pairs (unsigned_abs t.date.year) ++ (day_pairs t.date ++ clock_pairs t.time) in
    let (test, is) = text_of (int_le (pos 0) t.date.year) (pairs front ++ ending) c e in
    let (y, year) = year_of t.date.year test in
    let four = year_value t.date y year in
    let month = two_value t.date.month (omega (arith, t.date.month_in)) in
    let day = two_value t.date.day (day_small t.date y year) in
    let hour = two_value t.time.hour (omega (arith, t.time.hour_in)) in
    let minute = two_value t.time.minute (omega (arith, t.time.minute_in)) in
    let second = two_value t.time.second (omega (arith, t.time.second_in)) in
    let on_day : is_day (value (two_digits (unsigned_abs t.date.year / 100) ++ two_digits (unsigned_abs t.date.year % 100))) (value (two_digits t.date.month)) (value (two_digits t.date.day)) ≡ true = (λ k. is_day (four k) (month k) (day k)) ∙ day_obeys t.date y year in
    let at_clock : is_clock (value (two_digits t.time.hour)) (value (two_digits t.time.minute)) (value (two_digits t.time.second)) ≡ true = (λ k. is_clock (hour k) (minute k) (second k)) ∙ clock_obeys t.time in
    let numbers : (is_day (value (two_digits (unsigned_abs t.date.year / 100) ++ two_digits (unsigned_abs t.date.year % 100))) (value (two_digits t.date.month)) (value (two_digits t.date.day)) && is_clock (value (two_digits t.time.hour)) (value (two_digits t.time.minute)) (value (two_digits t.time.second))) ≡ true = and_from _ _ on_day at_clock in
    let rest : (is_ending ending && (is_day (value (two_digits (unsigned_abs t.date.year / 100) ++ two_digits (unsigned_abs t.date.year % 100))) (value (two_digits t.date.month)) (value (two_digits t.date.day)) && is_clock (value (two_digits t.time.hour)) (value (two_digits t.time.minute)) (value (two_digits t.time.second)))) ≡ true = and_from _ _ (ending_obeys t.time.subsec_nanosecond t.time.subsec_in) numbers in
    let some : 1 ≤ length ending = omega (arith, length-append (fraction t.time.subsec_nanosecond) (0x5A ∷ [])) in
    let long : 15 ≤ length (pairs front ++ ending) = omega (arith, length-append (pairs front) ending) in
    ap is_generalized (sym is) ∙ generalized_rest (pairs front ++ ending) long (pairs_digits front) ∙ rest

-- ---- octets

digits_octets : (c : Octets) → list_all is_digit c ≡ true → AreOctets c
digits_octets [] h = tt
digits_octets (x ∷ c) h =
    let both = and_parts (is_digit x) (list_all is_digit c) h in
    let digit = digit_parts x both.0 in
    (omega arith, digits_octets c both.1)

octets_joined : (o p : Octets) → AreOctets o → AreOctets p → AreOctets (o ++ p)
octets_joined [] p f g = g
octets_joined (x ∷ o) p f g = (f.0, octets_joined o p f.1 g)

zone : AreOctets (0x5A ∷ [])
zone = (lit< tt, tt)

fraction_octets : (n : ℕ) → n < 1_000_000_000 → AreOctets (fraction n)
fraction_octets zero lt = tt
fraction_octets (suc n) lt =
    let some : eqb (suc n) 0 ≡ false = ne_eqb (suc n) 0 (λ e. omega arith) in
    subst (λ t. AreOctets (cond t [] (0x2E ∷ without_zeros 9 (suc n)))) (sym some) (lit< tt, digits_octets (without_zeros 9 (suc n)) (without_zeros_are 9 (suc n) (omega arith) (omega arith)).digits)

pub utc_law : (t : DateTime) (c : Octets) → UtcObeys t c
utc_law t c e =
    let (test, is) = text_of (is_utc_year t.date.year && eqb t.time.subsec_nanosecond 0) (pairs ((unsigned_abs t.date.year % 100) ∷ (day_pairs t.date ++ clock_pairs t.time)) ++ (0x5A ∷ [])) c e in
    let front : List ℕ = (unsigned_abs t.date.year % 100) ∷ (day_pairs t.date ++ clock_pairs t.time) in
    (subst AreOctets is (octets_joined (pairs front) (0x5A ∷ []) (digits_octets (pairs front) (pairs_digits front)) zone), utc_obeys t c e)

pub generalized_law : (t : DateTime) (c : Octets) → GeneralizedObeys t c
generalized_law t c e =
    let front : List ℕ = year_pairs (unsigned_abs t.date.year) ++ (day_pairs t.date ++ clock_pairs t.time) in
    let ending : Octets = fraction t.time.subsec_nanosecond ++ (0x5A ∷ []) in
    let (test, is) = text_of (int_le (pos 0) t.date.year) (pairs front ++ ending) c e in
    (subst AreOctets is (octets_joined (pairs front) ending (digits_octets (pairs front) (pairs_digits front)) (octets_joined (fraction t.time.subsec_nanosecond) (0x5A ∷ []) (fraction_octets t.time.subsec_nanosecond t.time.subsec_in) zone)), generalized_obeys t c e)

pub date_law : (d : Date) (c : Octets) → DateObeys d c
date_law d c e =
    let front : List ℕ = year_pairs (unsigned_abs d.year) ++ day_pairs d in
    let (test, is) = text_of (int_le (pos 0) d.year) (pairs front) c e in
    (subst AreOctets is (digits_octets (pairs front) (pairs_digits front)), date_obeys d c e)
