-- The rules that the octets of texts obey.
use Rattle.std.specs.Prelude.{◌≡◌, ℕ, ◌+◌, ◌-◌, ◌*◌, ◌%◌, ◌^◌, Bool, true, false, cond, not, ◌&&◌, ◌||◌, List, [], ◌∷◌, length, get_or, take, drop, map, nat_lt, nat_le, ◌==◌, Option, Some, None, IsUtf8, ⊤}
use Rattle.std.specs.List.{list_all}
use Rattle.std.specs.Int.Digits.{number_from_digits}
use Rattle.asn1_core.specs.Octets.{Octets}

-- what octets are: an octet string or an open type's content, a character string, an object identifier, a time
pub data Rule : Type 0 where
  AnyOctets Utf8 Numeric Printable Visible Ia5 General Graphic Teletex Bmp Universal Identifier Utc Generalized Date : Rule

abbrev pub from_to : ℕ → ℕ → ℕ → Bool
from_to low high x = nat_le low x && nat_le x high

abbrev pub is_one_of : Octets → ℕ → Bool
is_one_of [] x = false
is_one_of (y ∷ ys) x = (y == x) || is_one_of ys x

abbrev pub is_digit : ℕ → Bool
is_digit x = from_to 0x30 0x39 x

-- ---- alphabets (X.680, clause 41)

-- digits and space
abbrev pub is_numeric : ℕ → Bool
is_numeric x = is_digit x || (x == 0x20)

-- letters, digits, space and ' ( ) + , - . / : = ? (X.680, 41.4)
abbrev pub is_printable : ℕ → Bool
is_printable x =
    from_to 0x41 0x5A x || (from_to 0x61 0x7A x || (is_digit x || is_one_of (0x20 ∷ 0x27 ∷ 0x28 ∷ 0x29 ∷ 0x2B ∷ 0x2C ∷ 0x2D ∷ 0x2E ∷ 0x2F ∷ 0x3A ∷ 0x3D ∷ 0x3F ∷ []) x))

abbrev pub is_visible : ℕ → Bool
is_visible x = from_to 0x20 0x7E x

abbrev pub is_ia5 : ℕ → Bool
is_ia5 x = nat_lt x 128

-- how many octets a text's size counts as one: a BMPString's characters are two octets each, a UniversalString's four, and other sizes count octets
abbrev pub unit_of : Rule → ℕ
unit_of Bmp = 2
unit_of Universal = 4
unit_of _ = 1

-- ---- object identifiers (X.690, 8.19): the parts in base 128, highest group first

abbrev pub one_more : ℕ → Option (List ℕ) → Option (List ℕ)
one_more n None = None
one_more n (Some parts) = Some (n ∷ parts)

-- the parts, where so much of one is read already; none begins with 80, and none is left unfinished
abbrev pub parts_from : Bool → ℕ → Octets → Option (List ℕ)
parts_from inside n [] = cond inside None (Some [])
parts_from inside n (x ∷ xs) =
    cond (not inside && (x == 0x80)) None
    (cond (nat_lt x 128) (one_more (n * 128 + x) (parts_from false 0 xs)) (parts_from true (n * 128 + (x - 128)) xs))

-- the first part is 40 times the first arc, 0 to 2, and the second
abbrev pub are_parts : Option (List ℕ) → Bool
are_parts None = false
are_parts (Some []) = false
are_parts (Some (n ∷ parts)) = nat_lt n (80 + 2 ^ 32) && list_all (λ k. nat_lt k (2 ^ 32)) parts

-- ---- times

-- the number of the n digits from place i on
abbrev pub digits_at : Octets → ℕ → ℕ → ℕ
digits_at c i n = number_from_digits 10 (map (λ x. x - 0x30) (take n (drop i c)))

-- in the proleptic Gregorian calendar
abbrev pub is_leap : ℕ → Bool
is_leap year = ((year % 4) == 0) && (not ((year % 100) == 0) || ((year % 400) == 0))

abbrev pub days_of : ℕ → ℕ → ℕ
days_of year month = cond (month == 2) (cond (is_leap year) 29 28) (cond ((month == 4) || (month == 6) || (month == 9) || (month == 11)) 30 31)

abbrev pub is_day : ℕ → ℕ → ℕ → Bool
is_day year month day = from_to 1 12 month && from_to 1 (days_of year month) day

abbrev pub is_clock : ℕ → ℕ → ℕ → Bool
is_clock hour minute second = nat_lt hour 24 && (nat_lt minute 60 && nat_lt second 60)

-- 00 to 49 are 2000 to 2049, 50 to 99 are 1950 to 1999
abbrev pub full_year : ℕ → ℕ
full_year yy = cond (nat_lt yy 50) (2000 + yy) (1900 + yy)

-- YYMMDDhhmmssZ
abbrev pub is_utc : Octets → Bool
is_utc c =
    (length c == 13) && (list_all is_digit (take 12 c) && ((get_or c 12 0 == 0x5A)
    && (is_day (full_year (digits_at c 0 2)) (digits_at c 2 2) (digits_at c 4 2) && is_clock (digits_at c 6 2) (digits_at c 8 2) (digits_at c 10 2))))

-- 1 to 9 digits, the last of which is no 0
abbrev pub is_fraction : Octets → Bool
is_fraction c = from_to 1 9 (length c) && (list_all is_digit c && not (get_or c (length c - 1) 0 == 0x30))

-- Z; or a point, a fraction and Z
abbrev pub is_ending : Octets → Bool
is_ending [] = false
is_ending (x ∷ xs) = cond (length xs == 0) (x == 0x5A) ((x == 0x2E) && (is_fraction (take (length xs - 1) xs) && (get_or xs (length xs - 1) 0 == 0x5A)))

-- YYYYMMDDhhmmss and an ending
abbrev pub is_generalized : Octets → Bool
is_generalized c =
    nat_le 15 (length c) && (list_all is_digit (take 14 c) && (is_ending (drop 14 c)
    && (is_day (digits_at c 0 4) (digits_at c 4 2) (digits_at c 6 2) && is_clock (digits_at c 8 2) (digits_at c 10 2) (digits_at c 12 2))))

-- YYYYMMDD
abbrev pub is_date : Octets → Bool
is_date c = (length c == 8) && (list_all is_digit c && is_day (digits_at c 0 4) (digits_at c 4 2) (digits_at c 6 2))

-- ---- each rule (X.696, 14, 21, 27, 29; X.680, clause 41; times and dates: the project's own choice of one text each)
abbrev pub Obeys : Rule → Octets → Type 0
Obeys AnyOctets c = ⊤
Obeys Utf8 c = IsUtf8 c
Obeys Numeric c = list_all is_numeric c ≡ true
Obeys Printable c = list_all is_printable c ≡ true
Obeys Visible c = list_all is_visible c ≡ true
Obeys Ia5 c = list_all is_ia5 c ≡ true
Obeys General c = ⊤
Obeys Graphic c = ⊤
Obeys Teletex c = ⊤
Obeys Bmp c = (n : ℕ) × (length c ≡ 2 * n)
Obeys Universal c = (n : ℕ) × (length c ≡ 4 * n)
Obeys Identifier c = are_parts (parts_from false 0 c) ≡ true
Obeys Utc c = is_utc c ≡ true
Obeys Generalized c = is_generalized c ≡ true
Obeys Date c = is_date c ≡ true
