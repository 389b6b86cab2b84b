-- Whole numbers as they are kept: in an i128, or in octets.
use Rattle.std.specs.Prelude.{◌≡◌, ℕ, ℤ, pos, negsuc, ◌-◌, Bool, false, cond, ◌&&◌, int_le, int_lt, Option, Some, None, FitsSigned}
use Rattle.std.specs.Int.{w128}
use Rattle.asn1_core.specs.Octets.{Octets, signed}
use Rattle.asn1_core.specs.Numbers.{in_i128, signed_octets}
use Rattle.asn1_ints.specs.declared.number.Number.{Number}
use Rattle.asn1_ints.specs.declared.number.Number.TheVariants.{Small, Large}

-- the number, where it is one of i128
abbrev pub if_in_i128 : ℤ → Option ℤ
if_in_i128 n = cond (in_i128 n) (Some n) None

-- the numbers from 0 on, below the limit
abbrev pub is_below : ℕ → ℤ → Bool
is_below limit n = int_le (pos 0) n && int_lt n (pos limit)

abbrev pub if_below : ℕ → ℤ → Option ℤ
if_below limit n = cond (is_below limit n) (Some n) None

-- the numbers from -limit on, below the limit
abbrev pub is_within : ℕ → ℤ → Bool
is_within limit n = int_le (negsuc (limit - 1)) n && int_lt n (pos limit)

-- the shortest octets of a number outside i128
pub record AreLarge (o : Octets) : Type 0 where
  pub shortest : signed_octets (signed o) ≡ o
  pub outside : in_i128 (signed o) ≡ false

abbrev pub number_value : Number → ℤ
number_value (Small n) = n
number_value (Large o) = signed o.items

abbrev pub IsNumber : Number → Type 0
IsNumber (Small n) = FitsSigned w128 n
IsNumber (Large o) = AreLarge o.items
