-- Times and days are equal exactly where their trees are same.
use Rattle.std.specs.Prelude.{◌≡◌, ℕ, ◌+◌, ◌*◌, ◌%◌, ◌++◌, ◌&&◌, ◌==◌, ◌*ℤ◌, ◌+ℤ◌, cond, ℤ, pos, negsuc, int_le, unsigned_abs, List, [], ◌∷◌, Option, Some, None, refl}
use Rattle.std.specs.Bool.{Decides}
use Rattle.std.specs.Cmp.{signed_Decides}
use Rattle.std.specs.Ordering.{int_eq}
use Rattle.std.proofs.Common.{ap, ap₂, sym, ◌∙◌, get_or, drop, arith}
use Rattle.std.proofs.lemmas.Bool.Decides.{Decides-like}
use Rattle.jiff_core.proofs.DateLemmas.{epoch_day_injective, epoch_day_same}
use Rattle.jiff_core.proofs.DateTimeLemmas.{civil_nanos_injective, civil_nanos-parts, time_nanos_injective}
use Rattle.jiff_core.specs.Date.{epoch_day}
use Rattle.jiff_core.specs.DateTime.{civil_nanos}
use Rattle.jiff_core.specs.Time.{time_nanos}
use Rattle.jiff_core.specs.declared.civil.date.Date.{Date}
use Rattle.jiff_core.specs.declared.civil.time.Time.{Time}
use Rattle.jiff_core.specs.declared.civil.datetime.DateTime.{DateTime}
use Rattle.asn1_core.specs.Octets.{Octets}
use Rattle.asn1_core.specs.Texts.{Rule, Utc, Generalized}
use Rattle.asn1_core.specs.Texts.{Date as DateRule}
use Rattle.asn1_times.proofs.OneText.{utc_once, generalized_once, date_once}
use Rattle.asn1_times.specs.Times.{pairs, year_pairs, fraction, is_utc_year, utc_text, generalized_text, date_text, IsSameDay, IsSameClock, IsSameTime}
use Rattle.oer_spec.specs.Same.{Same}
use Rattle.oer_spec.specs.Spelled.{time, year_fields, day_fields, moment_fields, utc_time, generalized_time, date}
use Rattle.oer_spec.specs.TimeTexts.{time_content}
use Rattle.oer_spec.specs.Tree.{Text}

-- ---- values with texts: equal ones have one text and the same fields, and each of these tells them

module _ {V : Type 0} (rule : Rule) (text : V → Option Octets) (fields : V → List ℕ) (IsSame : V → V → Type 0)
    (once : (t u : V) (o : Octets) → text t ≡ Some o → text u ≡ Some o → IsSame t u)
    (told : (t u : V) → fields t ≡ fields u → IsSame t u)
    (texts : (t u : V) → IsSame t u → text t ≡ text u)
    (all : (t u : V) → IsSame t u → fields t ≡ fields u) where
  same_times : (t u : V) → IsSame t u → Same (time rule (text t) (fields t)) (time rule (text u) (fields u))
  unfolding time Rattle.oer_spec.specs.Same.Same
  same_times t u s = ap₂ (λ (o : Option Octets) (f : List ℕ). Text rule None (time_content o f)) (texts t u s) (all t u s)

  by_content : (t u : V) (a b : Option Octets) → text t ≡ a → text u ≡ b → time_content a (fields t) ≡ time_content b (fields u) → IsSame t u
  by_content t u (Some o) (Some p) h k e = let one : p ≡ o = cc in once t u o h (k ∙ ap Some one)
  by_content t u (Some o) None h k e = absurd cc
  by_content t u None (Some p) h k e = absurd cc
  by_content t u None None h k e = let one : fields t ≡ fields u = cc in told t u one

  times_same : (t u : V) → Same (time rule (text t) (fields t)) (time rule (text u) (fields u)) → IsSame t u
  unfolding time Rattle.oer_spec.specs.Same.Same
  times_same t u s = let e : time_content (text t) (fields t) ≡ time_content (text u) (fields u) = cc in by_content t u (text t) (text u) refl refl e

-- ---- days

years_told : (y z : ℤ) (r s : List ℕ) → year_fields y ++ r ≡ year_fields z ++ s → (y ≡ z) × (r ≡ s)
years_told (pos m) (pos n) r s e = (ap pos (ap (λ l. get_or l 1 0) e), ap (drop 2) e)
years_told (pos m) (negsuc n) r s e = let apart : 0 ≡ 1 = ap (λ l. get_or l 0 0) e in absurd (omega (arith, apart))
years_told (negsuc m) (pos n) r s e = let apart : 1 ≡ 0 = ap (λ l. get_or l 0 0) e in absurd (omega (arith, apart))
years_told (negsuc m) (negsuc n) r s e = (ap negsuc (ap (λ l. get_or l 1 0) e), ap (drop 2) e)

days_told : (d e : Date) → day_fields d ≡ day_fields e → IsSameDay d e
days_told d e h =
    let parts = years_told d.year e.year (d.month ∷ d.day ∷ []) (e.month ∷ e.day ∷ []) h in
    record { year_is = parts.0; month_is = ap (λ l. get_or l 0 0) parts.1; day_is = ap (λ l. get_or l 1 0) parts.1 }

day_texts : (d e : Date) → IsSameDay d e → date_text d ≡ date_text e
day_texts d e s = λ i.
    cond (int_le (pos 0) (s.year_is i)) (Some (pairs (year_pairs (unsigned_abs (s.year_is i)) ++ (s.month_is i ∷ s.day_is i ∷ [])))) None

all_day_fields : (d e : Date) → IsSameDay d e → day_fields d ≡ day_fields e
all_day_fields d e s = λ i. year_fields (s.year_is i) ++ (s.month_is i ∷ s.day_is i ∷ [])

day_number : (d e : Date) → IsSameDay d e → epoch_day d ≡ epoch_day e
day_number d e s = epoch_day_same d e s.year_is s.month_is s.day_is

day_of_number : (d e : Date) → epoch_day d ≡ epoch_day e → IsSameDay d e
day_of_number d e h = let p = epoch_day_injective d e h in record { year_is = p.0; month_is = p.1; day_is = p.2 }

pub dates_same : (d e : Date) → Decides (int_eq (epoch_day d) (epoch_day e)) (Same (date d) (date e))
dates_same d e =
    Decides-like (int_eq (epoch_day d) (epoch_day e))
    (λ h. same_times DateRule date_text day_fields IsSameDay date_once days_told day_texts all_day_fields d e (day_of_number d e h))
    (λ s. day_number d e (times_same DateRule date_text day_fields IsSameDay date_once days_told day_texts all_day_fields d e s))
    (signed_Decides (epoch_day d) (epoch_day e))

-- ---- times

-- what stands behind the year
abbrev later_fields : DateTime → List ℕ
later_fields t = t.date.month ∷ t.date.day ∷ t.time.hour ∷ t.time.minute ∷ t.time.second ∷ t.time.subsec_nanosecond ∷ []

one_list : (y : ℤ) (d c : List ℕ) → (year_fields y ++ d) ++ c ≡ year_fields y ++ (d ++ c)
one_list (pos n) d c = refl
one_list (negsuc n) d c = refl

grouped : (t : DateTime) → moment_fields t ≡ year_fields t.date.year ++ later_fields t
grouped t = one_list t.date.year (t.date.month ∷ t.date.day ∷ []) (t.time.hour ∷ t.time.minute ∷ t.time.second ∷ t.time.subsec_nanosecond ∷ [])

moments_told : (t u : DateTime) → moment_fields t ≡ moment_fields u → IsSameTime t u
moments_told t u h =
    let parts = years_told t.date.year u.date.year (later_fields t) (later_fields u) (sym (grouped t) ∙ h ∙ grouped u) in
    let later = parts.1 in
    record {
      day = record { year_is = parts.0; month_is = ap (λ l. get_or l 0 0) later; day_is = ap (λ l. get_or l 1 0) later };
      clock = record {
        hour_is = ap (λ l. get_or l 2 0) later;
        minute_is = ap (λ l. get_or l 3 0) later;
        second_is = ap (λ l. get_or l 4 0) later;
        nanosecond_is = ap (λ l. get_or l 5 0) later;
      };
    }

all_moment_fields : (t u : DateTime) → IsSameTime t u → moment_fields t ≡ moment_fields u
all_moment_fields t u s = λ i.
    (year_fields (s.day.year_is i) ++ (s.day.month_is i ∷ s.day.day_is i ∷ [])) ++ (s.clock.hour_is i ∷ s.clock.minute_is i ∷ s.clock.second_is i ∷ s.clock.nanosecond_is i ∷ [])

utc_texts : (t u : DateTime) → IsSameTime t u → utc_text t ≡ utc_text u
utc_texts t u s = λ i.
    cond (is_utc_year (s.day.year_is i) && (s.clock.nanosecond_is i == 0))
    (Some (pairs ((unsigned_abs (s.day.year_is i) % 100) ∷ ((s.day.month_is i ∷ s.day.day_is i ∷ []) ++ (s.clock.hour_is i ∷ s.clock.minute_is i ∷ s.clock.second_is i ∷ []))) ++ (0x5A ∷ []))) None

generalized_texts : (t u : DateTime) → IsSameTime t u → generalized_text t ≡ generalized_text u
generalized_texts t u s = λ i.
    cond (int_le (pos 0) (s.day.year_is i))
    (Some (pairs (year_pairs (unsigned_abs (s.day.year_is i)) ++ ((s.day.month_is i ∷ s.day.day_is i ∷ []) ++ (s.clock.hour_is i ∷ s.clock.minute_is i ∷ s.clock.second_is i ∷ []))) ++ (fraction (s.clock.nanosecond_is i) ++ (0x5A ∷ [])))) None

clock_number : (t u : Time) → IsSameClock t u → time_nanos t ≡ time_nanos u
clock_number t u s = λ i. (s.hour_is i * 3600 + s.minute_is i * 60 + s.second_is i) * 1_000_000_000 + s.nanosecond_is i

moment_number : (t u : DateTime) → IsSameTime t u → civil_nanos t ≡ civil_nanos u
moment_number t u s =
    civil_nanos-parts t
    ∙ ap₂ (λ (d : ℤ) (n : ℕ). d *ℤ pos 86_400_000_000_000 +ℤ pos n) (day_number t.date u.date s.day) (clock_number t.time u.time s.clock)
    ∙ sym (civil_nanos-parts u)

moment_of_number : (t u : DateTime) → civil_nanos t ≡ civil_nanos u → IsSameTime t u
moment_of_number t u h =
    let parts = civil_nanos_injective t u h in
    let c = time_nanos_injective t.time u.time parts.1 in
    record {
      day = day_of_number t.date u.date parts.0;
      clock = record { hour_is = c.0; minute_is = c.1; second_is = c.2; nanosecond_is = c.3 };
    }

pub utc_times_same : (t u : DateTime) → Decides (int_eq (civil_nanos t) (civil_nanos u)) (Same (utc_time t) (utc_time u))
utc_times_same t u =
    Decides-like (int_eq (civil_nanos t) (civil_nanos u))
    (λ h. same_times Utc utc_text moment_fields IsSameTime utc_once moments_told utc_texts all_moment_fields t u (moment_of_number t u h))
    (λ s. moment_number t u (times_same Utc utc_text moment_fields IsSameTime utc_once moments_told utc_texts all_moment_fields t u s))
    (signed_Decides (civil_nanos t) (civil_nanos u))

pub generalized_times_same : (t u : DateTime) → Decides (int_eq (civil_nanos t) (civil_nanos u)) (Same (generalized_time t) (generalized_time u))
generalized_times_same t u =
    Decides-like (int_eq (civil_nanos t) (civil_nanos u))
    (λ h. same_times Generalized generalized_text moment_fields IsSameTime generalized_once moments_told generalized_texts all_moment_fields t u (moment_of_number t u h))
    (λ s. moment_number t u (times_same Generalized generalized_text moment_fields IsSameTime generalized_once moments_told generalized_texts all_moment_fields t u s))
    (signed_Decides (civil_nanos t) (civil_nanos u))
