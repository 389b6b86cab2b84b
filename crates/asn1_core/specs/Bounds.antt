-- Bounds and constraints (X.680, clauses 49 to 51): the numbers and the sizes that they allow.
use Rattle.std.specs.Prelude.{ℕ, Bool, true, false, cond, ◌&&◌, ◌==◌, nat_le, ℤ, int_le, Option, Some, None, unwrap_or}
use Rattle.asn1_core.specs.declared.constraints.Bounded.{Bounded}
use Rattle.asn1_core.specs.declared.constraints.Bounded.TheVariants as bounded
use Rattle.asn1_core.specs.declared.constraints.Constraints.{Constraints}
use Rattle.asn1_core.specs.Numbers.{in_i128}
use Rattle.asn1_core.specs.Octets.{usize_max}

-- ---- bounds, by any order le of their numbers

abbrev pub start_of : {T : Type 0} → Bounded T → Option T
start_of bounded.None = None
start_of (bounded.Single n) = Some n
start_of (bounded.Range start end) = start

abbrev pub end_of : {T : Type 0} → Bounded T → Option T
end_of bounded.None = None
end_of (bounded.Single n) = Some n
end_of (bounded.Range start end) = end

-- an absent bound bounds nothing
abbrev pub is_from : {T : Type 0} → (T → T → Bool) → Option T → T → Bool
is_from le None n = true
is_from le (Some start) n = le start n

abbrev pub is_to : {T : Type 0} → (T → T → Bool) → Option T → T → Bool
is_to le None n = true
is_to le (Some end) n = le n end

abbrev pub allows_by : {T : Type 0} → (T → T → Bool) → Bounded T → T → Bool
allows_by le b n = is_from le (start_of b) n && is_to le (end_of b) n

-- some number lies between the two
abbrev pub is_between : {T : Type 0} → (T → T → Bool) → Option T → Option T → Bool
is_between le None end = true
is_between le (Some start) end = is_to le end start

abbrev pub holds_number_by : {T : Type 0} → (T → T → Bool) → Bounded T → Bool
holds_number_by le b = is_between le (start_of b) (end_of b)

-- the later of two starts, and the earlier of two ends
abbrev pub later : {T : Type 0} → (T → T → Bool) → Option T → Option T → Option T
later le None b = b
later le (Some a) None = Some a
later le (Some a) (Some b) = cond (le a b) (Some b) (Some a)

abbrev pub earlier : {T : Type 0} → (T → T → Bool) → Option T → Option T → Option T
earlier le None b = b
earlier le (Some a) None = Some a
earlier le (Some a) (Some b) = cond (le a b) (Some a) (Some b)

-- the numbers that both allow
abbrev pub common_by : {T : Type 0} → (T → T → Bool) → Bounded T → Bounded T → Bounded T
common_by le a b = bounded.Range (later le (start_of a) (start_of b)) (earlier le (end_of a) (end_of b))

-- these, and those of the first where there are none
abbrev pub narrowed_bounds_by : {T : Type 0} → (T → T → Bool) → Bounded T → Bounded T → Bounded T
narrowed_bounds_by le a b = cond (holds_number_by le (common_by le a b)) (common_by le a b) a

-- of one that is extensible and one that isn't, the one that isn't
abbrev pub narrowed_part_by : {T : Type 0} → (T → T → Bool) → Option (Bounded T × Bool) → Option (Bounded T × Bool) → Option (Bounded T × Bool)
narrowed_part_by le None other = other
narrowed_part_by le (Some own) None = Some own
narrowed_part_by le (Some (a, true)) (Some (b, true)) = Some (narrowed_bounds_by le a b, true)
narrowed_part_by le (Some (a, true)) (Some (b, false)) = Some (b, false)
narrowed_part_by le (Some (a, false)) (Some (b, true)) = Some (a, false)
narrowed_part_by le (Some (a, false)) (Some (b, false)) = Some (narrowed_bounds_by le a b, false)

abbrev pub is_consistent_part_by : {T : Type 0} → (T → T → Bool) → Option (Bounded T × Bool) → Bool
is_consistent_part_by le None = true
is_consistent_part_by le (Some (b, extensible)) = holds_number_by le b

-- the only number from least to greatest that is allowed is one
abbrev pub is_fixed_by : {T : Type 0} → (T → T → Bool) → T → T → Bounded T → Bool
is_fixed_by le least greatest b =
    le (unwrap_or (start_of b) least) (unwrap_or (end_of b) greatest) && le (unwrap_or (end_of b) greatest) (unwrap_or (start_of b) least)

-- ---- values and sizes

abbrev pub allows : Bounded ℤ → ℤ → Bool
allows = allows_by int_le

abbrev pub allows_size : Bounded ℕ → ℕ → Bool
allows_size = allows_by nat_le

-- every range holds a number
abbrev pub is_consistent : Constraints → Bool
is_consistent c = is_consistent_part_by int_le c.value && is_consistent_part_by nat_le c.size

-- what a type's own constraints become by those that are handed to it
abbrev pub narrowed : Constraints → Constraints → Constraints
narrowed own other = record { value = narrowed_part_by int_le own.value other.value; size = narrowed_part_by nat_le own.size other.size }

-- the values from low to high, both included, and no others
abbrev pub values_between : ℤ → ℤ → Constraints
values_between low high = record { value = Some (bounded.Range (Some low) (Some high), false); size = None }

-- no range, or a lower and an upper bound, each optional
abbrev pub Range : Type 0
Range = Option (Option ℤ × Option ℤ)

-- no range, or the least and the greatest size
abbrev pub Size : Type 0
Size = Option (ℕ × ℕ)

abbrev pub range_of : Option (Bounded ℤ × Bool) → Range
range_of None = None
range_of (Some (b, true)) = None
range_of (Some (b, false)) = Some (start_of b, end_of b)

abbrev pub size_of : Option (Bounded ℕ × Bool) → Size
size_of None = None
size_of (Some (b, true)) = None
size_of (Some (b, false)) = Some (unwrap_or (start_of b) 0, unwrap_or (end_of b) usize_max)

-- The range of the values, and that of the sizes: none where the constraint is absent or extensible.
abbrev pub value_bounds : Constraints → Range
value_bounds c = range_of c.value

abbrev pub size_bounds : Constraints → Size
size_bounds c = size_of c.size

-- a number in the range, and one of i128 where there is a range
abbrev pub in_range : Range → ℤ → Bool
in_range None n = true
in_range (Some (low, high)) n = is_from int_le low n && (is_to int_le high n && in_i128 n)

abbrev pub size_fits : Size → ℕ → Bool
size_fits None n = true
size_fits (Some (low, high)) n = nat_le low n && nat_le n high

-- a size is fixed where one number is allowed
abbrev pub fixed_size : Size → Option ℕ
fixed_size None = None
fixed_size (Some (low, high)) = cond (low == high) (Some low) None
