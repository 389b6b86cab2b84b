-- Bits in octets: those at the front, and the unused ones after them.
use Rattle.std.specs.Prelude.{ℕ, ◌-◌, ◌*◌, ◌%◌, ◌^◌, Bool, true, false, List, [], ◌∷◌, length, take, nat_lt, Option, Some, None, slice_index}
use Rattle.asn1_core.specs.Octets.{Octets, bits_of}

-- the bits of octets, but for so many at their end
abbrev pub front_bits : ℕ → Octets → List Bool
front_bits unused o = take (8 * length o - unused) (bits_of o)

-- some of so many low bits of the last octet is set
unfoldable pub has_set_fill : ℕ → Octets → Bool
has_set_fill unused o = nat_lt 0 (slice_index o (length o - 1) % 2 ^ unused)

-- the first bit and those after it, where there is one
abbrev pub first_bit : List Bool → Option (Bool × List Bool)
first_bit [] = None
first_bit (x ∷ b) = Some (x, b)

abbrev pub has_no_bit : List Bool → Bool
has_no_bit [] = true
has_no_bit (x ∷ b) = false

-- some bit is set
abbrev pub any_set : List Bool → Bool
any_set [] = false
any_set (true ∷ b) = true
any_set (false ∷ b) = any_set b
