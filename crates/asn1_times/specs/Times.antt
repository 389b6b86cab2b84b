-- The texts of times and dates (the project's own choice of one text each).
use Rattle.std.specs.Prelude.{◌≡◌, ℕ, zero, suc, ◌+◌, ◌/◌, ◌%◌, Bool, cond, ◌&&◌, ◌==◌, List, [], ◌∷◌, ◌++◌, Option, Some, None, ℤ, pos, int_le, unsigned_abs}
use Rattle.std.specs.List.{flat_map}
use Rattle.jiff_core.specs.declared.civil.date.Date.{Date}
use Rattle.jiff_core.specs.declared.civil.time.Time.{Time}
use Rattle.jiff_core.specs.declared.civil.datetime.DateTime.{DateTime}
use Rattle.asn1_core.specs.Octets.{Octets, AreOctets}
use Rattle.asn1_core.specs.Texts.{Obeys, Utc, Generalized, digits_at, is_day, is_clock}
use Rattle.asn1_core.specs.Texts.{Date as DateRule}

-- that many of a number's lowest decimal digits, the highest first
abbrev pub decimal : ℕ → ℕ → Octets
decimal zero n = []
decimal (suc k) n = decimal k (n / 10) ++ ((0x30 + n % 10) ∷ [])

-- two digits of each number
abbrev pub two_digits : ℕ → Octets
two_digits n = (0x30 + n / 10 % 10) ∷ (0x30 + n % 10) ∷ []

abbrev pub pairs : List ℕ → Octets
pairs numbers = flat_map two_digits numbers

-- the four digits of a year
abbrev pub year_pairs : ℕ → List ℕ
year_pairs year = (year / 100) ∷ (year % 100) ∷ []

abbrev pub day_pairs : Date → List ℕ
day_pairs d = d.month ∷ d.day ∷ []

abbrev pub clock_pairs : Time → List ℕ
clock_pairs t = t.hour ∷ t.minute ∷ t.second ∷ []

-- the digits of a number that has so many, without the zeros at the end
abbrev pub without_zeros : ℕ → ℕ → Octets
without_zeros zero n = []
without_zeros (suc k) n = cond ((n % 10) == 0) (without_zeros k (n / 10)) (decimal (suc k) n)

-- a point and the digits of the second's fraction, of its nanoseconds
abbrev pub fraction : ℕ → Octets
fraction nanosecond = cond (nanosecond == 0) [] (0x2E ∷ without_zeros 9 nanosecond)

abbrev pub is_utc_year : ℤ → Bool
is_utc_year year = int_le (pos 1950) year && int_le year (pos 2049)

-- YYMMDDhhmmssZ
abbrev pub utc_text : DateTime → Option Octets
utc_text t =
    cond (is_utc_year t.date.year && (t.time.subsec_nanosecond == 0))
    (Some (pairs ((unsigned_abs t.date.year % 100) ∷ (day_pairs t.date ++ clock_pairs t.time)) ++ (0x5A ∷ []))) None

-- YYYYMMDDhhmmss, the fraction and Z
abbrev pub generalized_text : DateTime → Option Octets
generalized_text t =
    cond (int_le (pos 0) t.date.year)
    (Some (pairs (year_pairs (unsigned_abs t.date.year) ++ (day_pairs t.date ++ clock_pairs t.time)) ++ (fraction t.time.subsec_nanosecond ++ (0x5A ∷ [])))) None

-- YYYYMMDD
abbrev pub date_text : Date → Option Octets
date_text d = cond (int_le (pos 0) d.year) (Some (pairs (year_pairs (unsigned_abs d.year) ++ day_pairs d))) None

-- ---- reading

-- the pairs of digits of a day and of a clock from place i on
abbrev pub is_day_at : ℕ → Octets → ℕ → Bool
is_day_at year c i = is_day year (digits_at c i 2) (digits_at c (i + 2) 2)

abbrev pub is_clock_at : Octets → ℕ → Bool
is_clock_at c i = is_clock (digits_at c i 2) (digits_at c (i + 2) 2) (digits_at c (i + 4) 2)

-- the day and the time of these numbers
pub record HasDay (d : Date) (year month day : ℕ) : Type 0 where
  pub year_is : d.year ≡ pos year
  pub month_is : d.month ≡ month
  pub day_is : d.day ≡ day

pub record HasClock (t : Time) (hour minute second nanosecond : ℕ) : Type 0 where
  pub hour_is : t.hour ≡ hour
  pub minute_is : t.minute ≡ minute
  pub second_is : t.second ≡ second
  pub nanosecond_is : t.subsec_nanosecond ≡ nanosecond

-- a text of a time obeys the rule of its type
abbrev pub UtcObeys : DateTime → Octets → Type 0
UtcObeys t c = utc_text t ≡ Some c → AreOctets c × Obeys Utc c

abbrev pub GeneralizedObeys : DateTime → Octets → Type 0
GeneralizedObeys t c = generalized_text t ≡ Some c → AreOctets c × Obeys Generalized c

abbrev pub DateObeys : Date → Octets → Type 0
DateObeys d c = date_text d ≡ Some c → AreOctets c × Obeys DateRule c

-- two with one text are the same, field by field
pub record IsSameDay (d e : Date) : Type 0 where
  pub year_is : d.year ≡ e.year
  pub month_is : d.month ≡ e.month
  pub day_is : d.day ≡ e.day

pub record IsSameClock (t u : Time) : Type 0 where
  pub hour_is : t.hour ≡ u.hour
  pub minute_is : t.minute ≡ u.minute
  pub second_is : t.second ≡ u.second
  pub nanosecond_is : t.subsec_nanosecond ≡ u.subsec_nanosecond

pub record IsSameTime (t u : DateTime) : Type 0 where
  pub day : IsSameDay t.date u.date
  pub clock : IsSameClock t.time u.time

abbrev pub UtcOnce : DateTime → DateTime → Octets → Type 0
UtcOnce t u c = utc_text t ≡ Some c → utc_text u ≡ Some c → IsSameTime t u

abbrev pub GeneralizedOnce : DateTime → DateTime → Octets → Type 0
GeneralizedOnce t u c = generalized_text t ≡ Some c → generalized_text u ≡ Some c → IsSameTime t u

abbrev pub DateOnce : Date → Date → Octets → Type 0
DateOnce d e c = date_text d ≡ Some c → date_text e ≡ Some c → IsSameDay d e
