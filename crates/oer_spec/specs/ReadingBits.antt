-- Reading preambles, extension bitmaps, skipped additions and bit strings.
use Rattle.std.specs.Prelude.{ℕ, ◌-◌, ◌*◌, ◌/◌, ◌==◌, max, Option, Some, None, Bool, true, false, cond, not, ◌||◌, nat_lt, List, [], ◌∷◌, length, Result, Ok, Err}
use Rattle.asn1_core.specs.Bounds.{Size, fixed_size, size_fits}
use Rattle.asn1_core.specs.Octets.{Octets, octets_for, usize_max}
use Rattle.asn1_core.specs.declared.codec.Codec.{Codec}
use Rattle.asn1_core.specs.declared.error.DecodeErrorKind.{DecodeErrorKind}
use Rattle.asn1_core.specs.declared.error.DecodeErrorKind.TheVariants.{InvalidPreamble, InvalidExtensionHeader, InvalidBitString, LengthExceedsPlatformWidth, SizeConstraintNotSatisfied}
use Rattle.asn1_strings.specs.NamedBits.{significant, without_zeros}
use Rattle.oer_spec.specs.Bits.{front_bits, has_set_fill, any_set}
use Rattle.oer_spec.specs.Leaves.{least_size}
use Rattle.oer_spec.specs.Reading.{◌>>=◌, ◌>>◌, octet_at, octets_at, canonical, length_at, content_at}

-- a test that refuses by that kind
abbrev pub refuse_if : Bool → DecodeErrorKind → Result (Unit {0}) DecodeErrorKind
refuse_if test kind = cond test (Err kind) (Ok tt)

-- a size that isn't allowed
abbrev pub size_test : Size → ℕ → Result (Unit {0}) DecodeErrorKind
size_test s n = refuse_if (not (size_fits s n)) (SizeConstraintNotSatisfied n)

-- how many bits are unused in the octets of so many
abbrev pub unused_for : ℕ → ℕ
unused_for bits = 8 * octets_for bits - bits

-- A preamble of so many bits (X.696, 16.2).
unfoldable pub preamble_at : ℕ → Octets → Result (List Bool × Octets) DecodeErrorKind
preamble_at bits input = do
  octets ← octets_at (octets_for bits) input
  refuse_if (has_set_fill (unused_for bits) octets.0) InvalidPreamble
  Ok (front_bits (unused_for bits) octets.0, octets.1)

-- a count of unused bits above 7, or above the bits of so many octets
abbrev pub is_overfull : ℕ → ℕ → Bool
is_overfull unused count = nat_lt 7 unused || nat_lt (8 * count) unused

-- the bits behind a length: the count of unused ones, and the octets
unfoldable pub bitmap_of : Codec → Octets → Result (List Bool) DecodeErrorKind
bitmap_of codec [] = Err InvalidExtensionHeader
bitmap_of codec (unused ∷ octets) = do
  refuse_if (is_overfull unused (length octets)) InvalidExtensionHeader
  canonical codec (has_set_fill unused octets)
  canonical codec (not (any_set (front_bits unused octets)))
  Ok (front_bits unused octets)

-- An extension bitmap (16.4.2 and 16.4.3).
unfoldable pub bitmap_at : Codec → Octets → Result (List Bool × Octets) DecodeErrorKind
bitmap_at codec input = do
  content ← content_at codec input
  bits ← bitmap_of codec content.0
  Ok (bits, content.1)

-- Skipped additions (16.5): what is left behind a length with its octets for each set bit.
unfoldable pub skipped_at : Codec → List Bool → Octets → Result Octets DecodeErrorKind
skipped_at codec [] input = Ok input
skipped_at codec (false ∷ bits) input = skipped_at codec bits input
skipped_at codec (true ∷ bits) input = do
  content ← content_at codec input
  skipped_at codec bits content.1

-- ---- BIT STRING (13)

-- bits of a fixed size
unfoldable pub fixed_bits_at : ℕ → Codec → Octets → Result (List Bool × Octets) DecodeErrorKind
fixed_bits_at size codec input = do
  octets ← octets_at (octets_for size) input
  canonical codec (has_set_fill (unused_for size) octets.0)
  Ok (front_bits (unused_for size) octets.0, octets.1)

-- the count of unused bits, and so many octets
unfoldable pub counted_from : Codec → ℕ → Octets → Result (List Bool × Octets) DecodeErrorKind
counted_from codec count input = do
  unused ← octet_at input
  refuse_if (is_overfull unused.0 count) InvalidBitString
  refuse_if (nat_lt (usize_max / 8) count) LengthExceedsPlatformWidth
  octets ← octets_at count unused.1
  canonical codec (has_set_fill unused.0 octets.0)
  Ok (front_bits unused.0 octets.0, octets.1)

-- the same behind a length, which is 0 only leniently, for no bits
unfoldable pub counted_bits_at : Codec → Octets → Result (List Bool × Octets) DecodeErrorKind
counted_bits_at codec input = do
  count ← length_at codec input
  cond (count.0 == 0) (canonical codec true >> Ok ([], count.1)) (counted_from codec (count.0 - 1) count.1)

abbrev pub sized_bits_at : Option ℕ → Size → Codec → Octets → Result (List Bool × Octets) DecodeErrorKind
sized_bits_at (Some n) s codec input = fixed_bits_at n codec input
sized_bits_at None s codec input = do
  bits ← counted_bits_at codec input
  size_test s (length bits.0)
  Ok bits

unfoldable pub bit_string_at : Size → Codec → Octets → Result (List Bool × Octets) DecodeErrorKind
bit_string_at s codec input = sized_bits_at (fixed_size s) s codec input

-- named bits (13.3): 0 bits at the end are dropped, of which canonically there are only those that the least size wants
unfoldable pub named_bits_at : Size → Codec → Octets → Result (List Bool × Octets) DecodeErrorKind
named_bits_at s codec input = do
  bits ← bit_string_at s codec input
  canonical codec (nat_lt (max (significant bits.0) (least_size s)) (length bits.0))
  Ok (without_zeros bits.0, bits.1)
