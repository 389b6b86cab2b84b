-- The shortest octets of numbers, and those of a fixed count.
use Rattle.std.specs.Prelude.{ℕ, zero, suc, ◌-◌, ◌/◌, ◌%◌, ◌^◌, Bool, cond, ◌&&◌, [], ◌∷◌, ◌++◌, get_or, slice_index, length, map, ℤ, pos, negsuc, int_le, int_lt, nat_lt, ◌==◌}
use Rattle.std.specs.Int.Digits.{digits_of}
use Rattle.asn1_core.specs.Octets.{Octets}

abbrev pub in_i128 : ℤ → Bool
in_i128 n = int_le (negsuc (2 ^ 127 - 1)) n && int_lt n (pos (2 ^ 127))

abbrev pub in_isize : ℤ → Bool
in_isize n = int_le (negsuc (2 ^ 63 - 1)) n && int_lt n (pos (2 ^ 63))

-- the shortest octets of a number that isn't negative: at least one
abbrev pub number_octets : ℕ → Octets
number_octets n = cond (n == 0) (0 ∷ []) (digits_of 256 n)

abbrev pub unsigned_octets : ℤ → Octets
unsigned_octets (pos n) = number_octets n
unsigned_octets (negsuc n) = []

-- -(n + 1) has the octets of n, each taken from 255
abbrev pub complement : Octets → Octets
complement o = map (λ x. 255 - x) o

-- a zero octet in front where the first bit would be set, or where there is none
abbrev pub with_sign : Octets → Octets
with_sign o = cond (nat_lt (get_or o 0 255) 128) o (0 ∷ o)

-- the shortest octets in two's complement: at least one
abbrev pub signed_octets : ℤ → Octets
signed_octets (pos n) = with_sign (digits_of 256 n)
signed_octets (negsuc n) = complement (with_sign (digits_of 256 n))

-- the k lowest octets of a number, highest first
abbrev pub low_octets : ℕ → ℕ → Octets
low_octets zero n = []
low_octets (suc k) n = low_octets k (n / 256) ++ (n % 256 ∷ [])

-- the first octet could be left out of an unsigned number
abbrev pub has_superfluous_zero : Octets → Bool
has_superfluous_zero o = nat_lt 1 (length o) && (slice_index o 0 == 0)

-- the first octet could be left out of a number in two's complement: it only repeats the sign
abbrev pub has_superfluous_sign : Octets → Bool
has_superfluous_sign o = nat_lt 1 (length o) && cond (nat_lt (slice_index o 1) 128) (slice_index o 0 == 0) (slice_index o 0 == 255)
