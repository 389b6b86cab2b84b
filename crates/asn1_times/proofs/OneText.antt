-- No two times have one text.
use Rattle.std.proofs.Common.{◌≡◌, ℕ, zero, suc, ◌+◌, ◌-◌, ◌*◌, ◌/◌, ◌%◌, ◌^◌, ◌<◌, ◌≤◌, cond, eqb, List, [], ◌∷◌, ◌++◌, length, take, drop, get_or, map, refl, sym, ap, ap₂, subst, ◌∙◌, arith, inl, inr}
use Rattle.std.specs.Prelude.{◌&&◌, ◌⊎◌, ℤ, pos, int_le, ◌≤ℤ◌, unsigned_abs}
use Rattle.std.specs.List.{AllByRecursion}
use Rattle.std.specs.Int.Digits.{number_from_digits}
use Rattle.std.proofs.Math.Nat.{pow-succ', mul_comm, mul_assoc}
use Rattle.std.proofs.lemmas.Bool.{eqb-true, ne_eqb, eq-eqb, and_parts, cases_eq}
use Rattle.std.proofs.lemmas.Int.{ints}
use Rattle.std.proofs.lemmas.Int.Digits.{number_push}
use Rattle.std.proofs.lemmas.List.{map-append}
use Rattle.jiff_core.specs.declared.civil.date.Date.{Date}
use Rattle.jiff_core.specs.declared.civil.time.Time.{Time}
use Rattle.jiff_core.specs.declared.civil.datetime.DateTime.{DateTime}
use Rattle.asn1_core.specs.Octets.{Octets}
use Rattle.asn1_times.specs.Times.{decimal, pairs, year_pairs, day_pairs, clock_pairs, without_zeros, fraction, is_utc_year, UtcOnce, GeneralizedOnce, DateOnce}
use Rattle.asn1_times.proofs.Decimals.{value, length-decimal}
use Rattle.asn1_times.proofs.Fractions.{no_zeros, middle}
use Rattle.asn1_times.proofs.TimeTexts.{day_small, year_of, utc_year_of, text_of}

-- ---- pairs of digits

abbrev AreSmall : List ℕ → Type 0
AreSmall ns = AllByRecursion (λ n. n < 100) ns

pairs_once : (ms ns : List ℕ) (r s : Octets) → length ms ≡ length ns → AreSmall ms → AreSmall ns → pairs ms ++ r ≡ pairs ns ++ s → (ms ≡ ns) × (r ≡ s)
pairs_once [] [] r s l f g e = (refl, e)
pairs_once [] (n ∷ ns) r s l f g e = absurd (omega (arith, l))
pairs_once (m ∷ ms) [] r s l f g e = absurd (omega (arith, l))
pairs_once (m ∷ ms) (n ∷ ns) r s l f g e =
    let high : 0x30 + m / 10 % 10 ≡ 0x30 + n / 10 % 10 = ap (λ z. get_or z 0 0) e in
    let low : 0x30 + m % 10 ≡ 0x30 + n % 10 = ap (λ z. get_or z 1 0) e in
    let rest : pairs ms ++ r ≡ pairs ns ++ s = ap (drop 2) e in
    let more = pairs_once ms ns r s (omega (arith, l)) f.1 g.1 rest in
    let small = f.0 in
    let other = g.0 in
    let one : m ≡ n = omega (arith, small, other, high, low) in
    (ap₂ ◌∷◌ one more.0, more.1)

-- ---- days

year_bound : (z : ℤ) (y : ℕ) → z ≡ pos y → z ≤ℤ pos 9999 → y ≤ 9999
year_bound z y e h = omega (arith, ints, e, h)

year_small : (d : Date) (y : ℕ) → d.year ≡ pos y → unsigned_abs d.year ≤ 9999
year_small d y e = let small = year_bound d.year y e d.year_in.1 in let abs : unsigned_abs d.year ≡ y = ap unsigned_abs e in omega (arith, small, abs)

years_same : (d e : Date) (y z : ℕ) → d.year ≡ pos y → e.year ≡ pos z → unsigned_abs d.year ≡ unsigned_abs e.year → d.year ≡ e.year
years_same d e y z a b same = a ∙ ap pos (sym (ap unsigned_abs a) ∙ same ∙ ap unsigned_abs b) ∙ sym b

day_smalls : (d : Date) (y : ℕ) → d.year ≡ pos y → AreSmall (day_pairs d)
day_smalls d y e = let month = d.month_in in (omega (arith, month), (day_small d y e, tt))

year_smalls : (d : Date) (y : ℕ) → d.year ≡ pos y → (unsigned_abs d.year / 100 < 100) × (unsigned_abs d.year % 100 < 100)
year_smalls d y e = let small = year_small d y e in (omega (arith, small), omega arith)

-- a year by its two pairs of digits
whole_year_once : (m n : ℕ) → m / 100 ≡ n / 100 → m % 100 ≡ n % 100 → m ≡ n
whole_year_once m n high low = omega (arith, high, low)

pub date_once : (d e : Date) (c : Octets) → DateOnce d e c
date_once d e c h k =
    let front : List ℕ = year_pairs (unsigned_abs d.year) ++ day_pairs d in
    let other : List ℕ = year_pairs (unsigned_abs e.year) ++ day_pairs e in
    let (test, is) = text_of (int_le (pos 0) d.year) (pairs front) c h in
    let (test', is') = text_of (int_le (pos 0) e.year) (pairs other) c k in
    let (y, year) = year_of d.year test in
    let (z, year') = year_of e.year test' in
    let a = year_smalls d y year in
    let b = year_smalls e z year' in
    let same = (pairs_once front other [] [] refl (a.0, (a.1, day_smalls d y year)) (b.0, (b.1, day_smalls e z year')) (ap (λ o. o ++ []) (is ∙ sym is'))).0 in
    record {
      year_is = years_same d e y z year year' (whole_year_once _ _ (ap (λ l. get_or l 0 0) same) (ap (λ l. get_or l 1 0) same));
      month_is = ap (λ l. get_or l 2 0) same;
      day_is = ap (λ l. get_or l 3 0) same;
    }

-- ---- times of day

clock_smalls : (t : Time) → AreSmall (clock_pairs t)
clock_smalls t =
    let hour = t.hour_in in
    let minute = t.minute_in in
    let second = t.second_in in
    (omega (arith, hour), (omega (arith, minute), (omega (arith, second), tt)))

short_year_once : (m n : ℕ) → 1950 ≤ m → m ≤ 2049 → 1950 ≤ n → n ≤ 2049 → m % 100 ≡ n % 100 → m ≡ n
short_year_once m n a b c d e = omega (arith, e)

pub utc_once : (t u : DateTime) (c : Octets) → UtcOnce t u c
utc_once t u c h k =
    let front : List ℕ = (unsigned_abs t.date.year % 100) ∷ (day_pairs t.date ++ clock_pairs t.time) in
    let other : List ℕ = (unsigned_abs u.date.year % 100) ∷ (day_pairs u.date ++ clock_pairs u.time) in
    let (test, is) = text_of (is_utc_year t.date.year && eqb t.time.subsec_nanosecond 0) (pairs front ++ (0x5A ∷ [])) c h in
    let (test', is') = text_of (is_utc_year u.date.year && eqb u.time.subsec_nanosecond 0) (pairs other ++ (0x5A ∷ [])) c k in
    let parts = and_parts (is_utc_year t.date.year) (eqb t.time.subsec_nanosecond 0) test in
    let parts' = and_parts (is_utc_year u.date.year) (eqb u.time.subsec_nanosecond 0) test' in
    let (y, year, low, high) = utc_year_of t.date.year parts.0 in
    let (z, year', low', high') = utc_year_of u.date.year parts'.0 in
    let days = day_smalls t.date y year in
    let days' = day_smalls u.date z year' in
    let clock = clock_smalls t.time in
    let clock' = clock_smalls u.time in
    let same = (pairs_once front other (0x5A ∷ []) (0x5A ∷ []) refl (omega arith, (days.0, (days.1.0, clock))) (omega arith, (days'.0, (days'.1.0, clock'))) (is ∙ sym is')).0 in
    let two : unsigned_abs t.date.year % 100 ≡ unsigned_abs u.date.year % 100 = ap (λ l. get_or l 0 0) same in
    let abs : unsigned_abs t.date.year ≡ y = ap unsigned_abs year in
    let abs' : unsigned_abs u.date.year ≡ z = ap unsigned_abs year' in
    let years : y ≡ z = short_year_once y z low high low' high' (sym (ap (λ n. n % 100) abs) ∙ two ∙ ap (λ n. n % 100) abs') in
    record {
      day = record {
        year_is = years_same t.date u.date y z year year' (abs ∙ years ∙ sym abs');
        month_is = ap (λ l. get_or l 1 0) same;
        day_is = ap (λ l. get_or l 2 0) same;
      };
      clock = record {
        hour_is = ap (λ l. get_or l 3 0) same;
        minute_is = ap (λ l. get_or l 4 0) same;
        second_is = ap (λ l. get_or l 5 0) same;
        nanosecond_is = eqb-true t.time.subsec_nanosecond 0 parts.1 ∙ sym (eqb-true u.time.subsec_nanosecond 0 parts'.1);
      };
    }

-- ---- a second's fraction

times_power : (m j : ℕ) → m * 10 ^ suc j ≡ 10 * (m * 10 ^ j)
times_power m j = ap (λ z. m * z) (pow-succ' 10 j) ∙ sym (mul_assoc m 10 (10 ^ j)) ∙ ap (λ z. z * 10 ^ j) (mul_comm m 10) ∙ mul_assoc 10 m (10 ^ j)

value_push : (c : Octets) (x : ℕ) → value (c ++ (x ∷ [])) ≡ value c * 10 + (x - 0x30)
value_push c x = ap (number_from_digits 10) (map-append (λ x. x - 0x30) c (x ∷ [])) ∙ number_push 10 (map (λ x. x - 0x30) c) (x - 0x30)

value_decimal : (k n : ℕ) → n < 10 ^ k → value (decimal k n) ≡ n
value_decimal zero n lt = omega arith
value_decimal (suc k) n lt =
    let p = pow-succ' 10 k in
    let front = value_decimal k (n / 10) (omega (arith, lt, p)) in
    let more = value_push (decimal k (n / 10)) (0x30 + n % 10) in
    omega (arith, front, more)

-- digits without the zeros at the end tell their number
pub record TellsNumber (k n : ℕ) (c : Octets) : Type 0 where
  pub few : length c ≤ k
  pub number : value c * 10 ^ (k - length c) ≡ n

digits_tell : (k n : ℕ) → 0 < n → n < 10 ^ k → TellsNumber k n (without_zeros k n)
digits_tell zero n some lt = absurd (omega arith)
digits_tell (suc k) n some lt = by_digit (cases_eq (n % 10) 0) (λ e. let p = pow-succ' 10 k in digits_tell k (n / 10) (omega arith) (omega (arith, p)))
  where
    by_digit : (n % 10 ≡ 0) ⊎ (n % 10 ≡ 0 → ⊥) → (n % 10 ≡ 0 → TellsNumber k (n / 10) (without_zeros k (n / 10))) → TellsNumber (suc k) n (without_zeros (suc k) n)
    by_digit (inl e) shorter =
        let is : without_zeros (suc k) n ≡ without_zeros k (n / 10) = ap (λ t. cond t (without_zeros k (n / 10)) (decimal (suc k) n)) (eq-eqb (n % 10) 0 e) in
        let h = shorter e in
        let w : Octets = without_zeros k (n / 10) in
        let few = h.few in
        let number = h.number in
        let later : suc k - length w ≡ suc (k - length w) = omega (arith, few) in
        let scaled = times_power (value w) (k - length w) in
        subst (TellsNumber (suc k) n) (sym is) (record {
          few = omega (arith, few);
          number = ap (λ j. value w * 10 ^ j) later ∙ scaled ∙ omega (arith, number, e);
        })
    by_digit (inr apart) shorter =
        let long = length-decimal (suc k) n in
        let none : suc k - length (decimal (suc k) n) ≡ 0 = omega (arith, long) in
        subst (TellsNumber (suc k) n) (sym (no_zeros k n apart)) (record {
          few = omega (arith, long);
          number = ap (λ j. value (decimal (suc k) n) * 10 ^ j) none ∙ (let v = value_decimal (suc k) n lt in omega (arith, v));
        })

some_fraction : (n : ℕ) → (n ≡ 0 → ⊥) → fraction n ≡ 0x2E ∷ without_zeros 9 n
some_fraction n some = ap (λ t. cond t [] (0x2E ∷ without_zeros 9 n)) (ne_eqb n 0 some)

no_fraction : (n : ℕ) → n ≡ 0 → fraction n ≡ []
no_fraction n none = ap (λ t. cond t [] (0x2E ∷ without_zeros 9 n)) (eq-eqb n 0 none)

-- the digits in front of the Z
front_same : (c d : Octets) (x : ℕ) → c ++ (x ∷ []) ≡ d ++ (x ∷ []) → c ≡ d
front_same c d x e = sym (middle c x) ∙ ap (λ l. take (length l - 1) l) e ∙ middle d x

fraction_once : (m n : ℕ) → m < 1_000_000_000 → n < 1_000_000_000 → fraction m ++ (0x5A ∷ []) ≡ fraction n ++ (0x5A ∷ []) → m ≡ n
fraction_once m n f g e = by_cases (cases_eq m 0) (cases_eq n 0) (front_same (fraction m) (fraction n) 0x5A e)
  where
    by_cases : (m ≡ 0) ⊎ (m ≡ 0 → ⊥) → (n ≡ 0) ⊎ (n ≡ 0 → ⊥) → fraction m ≡ fraction n → m ≡ n
    by_cases (inl a) (inl b) h = a ∙ sym b
    by_cases (inl a) (inr b) h = let lengths = ap length (sym (no_fraction m a) ∙ h ∙ some_fraction n b) in absurd (omega (arith, lengths))
    by_cases (inr a) (inl b) h = let lengths = ap length (sym (some_fraction m a) ∙ h ∙ no_fraction n b) in absurd (omega (arith, lengths))
    by_cases (inr a) (inr b) h =
        let same : without_zeros 9 m ≡ without_zeros 9 n = ap (drop 1) (sym (some_fraction m a) ∙ h ∙ some_fraction n b) in
        let left = digits_tell 9 m (omega (arith, a)) (omega (arith, f)) in
        let right = digits_tell 9 n (omega (arith, b)) (omega (arith, g)) in
        sym left.number ∙ ap (λ w. value w * 10 ^ (9 - length w)) same ∙ right.number

pub generalized_once : (t u : DateTime) (c : Octets) → GeneralizedOnce t u c
generalized_once t u c h k =
    let front : List ℕ = year_pairs (unsigned_abs t.date.year) ++ (day_pairs t.date ++ clock_pairs t.time) in
    let other : List ℕ = year_pairs (unsigned_abs u.date.year) ++ (day_pairs u.date ++ clock_pairs u.time) in
    let ending : Octets = fraction t.time.subsec_nanosecond ++ (0x5A ∷ []) in
    let ending' : Octets = fraction u.time.subsec_nanosecond ++ (0x5A ∷ []) in
    let (test, is) = text_of (int_le (pos 0) t.date.year) (pairs front ++ ending) c h in
    let (test', is') = text_of (int_le (pos 0) u.date.year) (pairs other ++ ending') c k in
    let (y, year) = year_of t.date.year test in
    let (z, year') = year_of u.date.year test' in
    let a = year_smalls t.date y year in
    let b = year_smalls u.date z year' in
    let days = day_smalls t.date y year in
    let days' = day_smalls u.date z year' in
    let both = pairs_once front other ending ending' refl (a.0, (a.1, (days.0, (days.1.0, clock_smalls t.time)))) (b.0, (b.1, (days'.0, (days'.1.0, clock_smalls u.time)))) (is ∙ sym is') in
    let same = both.0 in
    record {
      day = record {
        year_is = years_same t.date u.date y z year year' (whole_year_once _ _ (ap (λ l. get_or l 0 0) same) (ap (λ l. get_or l 1 0) same));
        month_is = ap (λ l. get_or l 2 0) same;
        day_is = ap (λ l. get_or l 3 0) same;
      };
      clock = record {
        hour_is = ap (λ l. get_or l 4 0) same;
        minute_is = ap (λ l. get_or l 5 0) same;
        second_is = ap (λ l. get_or l 6 0) same;
        nanosecond_is = fraction_once t.time.subsec_nanosecond u.time.subsec_nanosecond t.time.subsec_in u.time.subsec_in both.1;
      };
    }
