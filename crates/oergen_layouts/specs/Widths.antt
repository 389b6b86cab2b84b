-- How many octets an INTEGER has by its bounds, and whether they are signed (X.696, 10.2 to 10.4), and a unit that a size counts.
use Rattle.std.specs.Prelude.{ℕ, ◌-◌, ◌*◌, ◌^◌, ℤ, pos, negsuc, int_le, int_lt, Bool, true, false, cond, ◌&&◌, Option, Some, None}
use Rattle.oergen_parse.specs.declared.ast.Simple.{Simple}
use Rattle.oergen_parse.specs.declared.ast.Simple.TheVariants.{BmpString, UniversalString, NumericString, PrintableString, VisibleString, Ia5String, OctetString}

-- the first of 1, 2, 4 and 8 octets that hold the numbers
abbrev pub first_width : (ℕ → Bool) → Option ℕ
first_width holds = cond (holds 1) (Some 1) (cond (holds 2) (Some 2) (cond (holds 4) (Some 4) (cond (holds 8) (Some 8) None)))

-- up to a number, from 0 or more
abbrev pub unsigned_octets : ℤ → Option ℕ
unsigned_octets high = first_width (λ n. int_le high (pos (2 ^ (8 * n) - 1)))

-- between two numbers, in two's complement
abbrev pub signed_octets : ℤ → ℤ → Option ℕ
signed_octets low high = first_width (λ n. int_le (negsuc (2 ^ (8 * n - 1) - 1)) low && int_le high (pos (2 ^ (8 * n - 1) - 1)))

-- By the bounds, and whether an extension mark takes them away: none are behind a length.
abbrev pub width_of : Option ℤ → Option ℤ → Bool → Option ℕ × Bool
width_of low high true = (None, true)
width_of None high false = (None, true)
width_of (Some l) None false = (None, int_lt l (pos 0))
width_of (Some l) (Some h) false = cond (int_le (pos 0) l) (unsigned_octets h, false) (signed_octets l h, true)

-- How many octets each character of a string has, where all have as many, or what else a size counts (X.696, 27): two in the basic
-- multilingual plane of ISO/IEC 10646, four in all of it, one in a character set of ASCII's, and of an OCTET STRING. No size is seen of others.
abbrev pub unit_of : Simple → Option ℤ
unit_of BmpString = Some (pos 2)
unit_of UniversalString = Some (pos 4)
unit_of NumericString = Some (pos 1)
unit_of PrintableString = Some (pos 1)
unit_of VisibleString = Some (pos 1)
unit_of Ia5String = Some (pos 1)
unit_of OctetString = Some (pos 1)
unit_of _ = None
