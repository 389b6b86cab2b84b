-- Reading enumerated values (X.696, 11): the number and what is left, or the first refusal.
use Rattle.std.specs.Prelude.{◌≡◌, ℕ, ◌-◌, ℤ, pos, true, cond, nat_lt, Option, Some, None, Result, Ok}
use Rattle.std.specs.Option.{ok_or}
use Rattle.asn1_core.specs.Numbers.{in_isize}
use Rattle.asn1_core.specs.Octets.{Octets, signed}
use Rattle.asn1_core.specs.declared.codec.Codec.{Codec}
use Rattle.asn1_core.specs.declared.error.DecodeErrorKind.{DecodeErrorKind}
use Rattle.asn1_core.specs.declared.error.DecodeErrorKind.TheVariants.{LengthExceedsPlatformWidth}
use Rattle.oer_spec.specs.Leaves.{is_small, IsLeafEncoding}
use Rattle.oer_spec.specs.Mode.{Mode}
use Rattle.oer_spec.specs.Reading.{◌>>=◌, ◌>>◌, octet_at, octets_at, canonical}
use Rattle.oer_spec.specs.ReadingIntegers.{number_content_in}
use Rattle.oer_spec.specs.Tree.{Enum}

-- the number, where it is one of isize
abbrev pub if_isize : ℤ → Option ℤ
if_isize n = cond (in_isize n) (Some n) None

-- the number of so many octets
unfoldable pub long_enumerated_at : Codec → ℕ → Octets → Result (ℤ × Octets) DecodeErrorKind
long_enumerated_at codec count input = do
  octets ← octets_at count input
  content ← number_content_in true codec octets.0
  n ← ok_or (if_isize (signed content)) LengthExceedsPlatformWidth
  canonical codec (is_small n)
  Ok (n, octets.1)

unfoldable pub enumerated_at : Codec → Octets → Result (ℤ × Octets) DecodeErrorKind
enumerated_at codec input = do
  first ← octet_at input
  cond (nat_lt first.0 128) (Ok (pos first.0, first.1)) (long_enumerated_at codec (first.0 - 128) first.1)

-- an encoding of a number of isize
abbrev pub IsEnumeratedNumber : Mode → Octets → ℤ → Type 0
IsEnumeratedNumber m o n = (in_isize n ≡ true) × IsLeafEncoding m o (Enum n)
