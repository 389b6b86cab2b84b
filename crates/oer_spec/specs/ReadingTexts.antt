-- Reading octet strings, character strings, object identifiers and times.
use Rattle.std.specs.Prelude.{ℕ, ◌*◌, ◌/◌, ◌==◌, Bool, false, cond, not, nat_lt, length, Option, Some, None, Result, Ok, Err}
use Rattle.asn1_core.specs.Bounds.{Size, fixed_size}
use Rattle.asn1_core.specs.Octets.{Octets, usize_max}
use Rattle.asn1_core.specs.Texts.{are_parts, parts_from}
use Rattle.asn1_core.specs.declared.codec.Codec.{Codec}
use Rattle.asn1_core.specs.declared.error.DecodeErrorKind.{DecodeErrorKind}
use Rattle.asn1_core.specs.declared.error.DecodeErrorKind.TheVariants.{LengthExceedsPlatformWidth, PermittedAlphabetError}
use Rattle.oer_spec.specs.Reading.{◌>>=◌, ◌>>◌, octets_at, length_at}
use Rattle.oer_spec.specs.ReadingBits.{refuse_if, size_test}

-- a length, not above usize::MAX / 8, and that many octets
unfoldable pub string_at : Codec → Octets → Result (Octets × Octets) DecodeErrorKind
string_at codec input = do
  count ← length_at codec input
  refuse_if (nat_lt (usize_max / 8) count.0) LengthExceedsPlatformWidth
  octets_at count.0 count.1

-- as many octets as the size has, where it is fixed; else octets behind a length, of a size that is allowed
abbrev pub sized_octets_at : Option ℕ → Size → Codec → Octets → Result (Octets × Octets) DecodeErrorKind
sized_octets_at (Some n) s codec input = octets_at n input
sized_octets_at None s codec input = do
  octets ← string_at codec input
  size_test s (length octets.0)
  Ok octets

-- OCTET STRING (X.696, 14).
unfoldable pub octet_string_at : Size → Codec → Octets → Result (Octets × Octets) DecodeErrorKind
octet_string_at s codec input = sized_octets_at (fixed_size s) s codec input

-- Texts whose size counts octets (21, 27, 29): octets that pass a test.
unfoldable pub text_at : (Octets → Bool) → DecodeErrorKind → Size → Codec → Octets → Result (Octets × Octets) DecodeErrorKind
text_at is_text kind s codec input = do
  octets ← octet_string_at s codec input
  refuse_if (not (is_text octets.0)) kind
  Ok octets

-- as many octets as a character has for each of so many characters
abbrev pub many_units_at : ℕ → ℕ → Octets → Result (Octets × Octets) DecodeErrorKind
many_units_at unit n input = refuse_if (nat_lt usize_max (n * unit)) LengthExceedsPlatformWidth >> octets_at (n * unit) input

-- so many, where the size is fixed; else octets behind a length, those of whole characters, of a size that is allowed
abbrev pub sized_units_at : ℕ → (Octets → Bool) → Option ℕ → Size → Codec → Octets → Result (Octets × Octets) DecodeErrorKind
sized_units_at unit is_text (Some n) s codec input = many_units_at unit n input
sized_units_at unit is_text None s codec input = do
  octets ← string_at codec input
  refuse_if (not (is_text octets.0)) PermittedAlphabetError
  size_test s (length octets.0 / unit)
  Ok octets

-- BMPString and UniversalString (27), whose sizes count characters of so many octets.
unfoldable pub units_at : ℕ → (Octets → Bool) → Size → Codec → Octets → Result (Octets × Octets) DecodeErrorKind
units_at unit is_text s codec input = sized_units_at unit is_text (fixed_size s) s codec input

-- A text of characters of one octet or of more.
unfoldable pub characters_at : ℕ → (Octets → Bool) → Size → Codec → Octets → Result (Octets × Octets) DecodeErrorKind
characters_at unit is_text s codec input = cond (unit == 1) (text_at is_text PermittedAlphabetError s codec input) (units_at unit is_text s codec input)

-- octets that pass a test
abbrev pub tested : (Octets → Bool) → DecodeErrorKind → Octets → Result Octets DecodeErrorKind
tested is_text kind octets = refuse_if (not (is_text octets)) kind >> Ok octets

-- the contents octets of an object identifier (X.690, 8.19)
abbrev pub are_contents : Octets → Bool
are_contents o = are_parts (parts_from false 0 o)
