-- Reading integers (X.696, 10): the number and what is left, or the first refusal.
use Rattle.std.specs.Prelude.{◌≡◌, ◌≤◌, ℤ, Bool, true, false, cond, ◌==◌, IsTrue, length, Result, Ok, Err}
use Rattle.asn1_core.specs.Bounds.{Range, in_range}
use Rattle.asn1_core.specs.Numbers.{has_superfluous_sign, has_superfluous_zero}
use Rattle.asn1_core.specs.Octets.{Octets}
use Rattle.asn1_core.specs.declared.codec.Codec.{Codec}
use Rattle.asn1_core.specs.declared.error.DecodeErrorKind.{DecodeErrorKind}
use Rattle.asn1_core.specs.declared.error.DecodeErrorKind.TheVariants.{EmptyInteger, ValueConstraintNotSatisfied, OutOfMemory}
use Rattle.asn1_ints.specs.Reading.{number_in, RefusesBy}
use Rattle.oer_spec.specs.Leaves.{Width, Fixed, Counted, width_of, value_of, IsShort, IsLeafEncoding}
use Rattle.oer_spec.specs.Lengths.{IsBehindLength}
use Rattle.oer_spec.specs.Mode.{Mode, InStrict}
use Rattle.oer_spec.specs.Reading.{◌>>=◌, ◌>>◌, octets_at, canonical, content_at}
use Rattle.oer_spec.specs.Tree.{Int}

-- ---- what contracts say of readers that may ask for memory

-- What a function answered, seen by view, is what the reading gives; one that takes memory may be refused it.
abbrev pub GivesBy : {X Y : Type 0} → Bool → (X → Y) → Result X DecodeErrorKind → Result Y DecodeErrorKind → Type 0
GivesBy takes_memory view (Ok x) read = read ≡ Ok (view x)
GivesBy takes_memory view (Err e) read = RefusesBy takes_memory e read

-- memory was asked for only by what takes it
abbrev pub IsForMemoryOf : Bool → DecodeErrorKind → Type 0
IsForMemoryOf takes_memory e = e ≡ OutOfMemory → IsTrue takes_memory

-- ---- the octets of a number

abbrev pub is_superfluous : Bool → Octets → Bool
is_superfluous false c = has_superfluous_zero c
is_superfluous true c = has_superfluous_sign c

-- at least one octet, and in canonical reading none that could be left out
abbrev pub number_content_in : Bool → Codec → Octets → Result Octets DecodeErrorKind
number_content_in signed codec content = cond (length content == 0) (Err EmptyInteger) (canonical codec (is_superfluous signed content) >> Ok content)

-- the octets of a number behind a length
unfoldable pub number_content_at : Bool → Codec → Octets → Result (Octets × Octets) DecodeErrorKind
number_content_at signed codec input = do
  content ← content_at codec input
  octets ← number_content_in signed codec content.0
  Ok (octets, content.1)

-- the octets of a number of that width
unfoldable pub number_octets_at : Width → Codec → Octets → Result (Octets × Octets) DecodeErrorKind
number_octets_at (Fixed signed k) codec input = octets_at k input
number_octets_at (Counted signed) codec input = number_content_at signed codec input

-- the octets behind a length that spell a number
abbrev pub IsNumberContent : Bool → Mode → Octets → Octets → Type 0
IsNumberContent signed m o c = IsBehindLength m o c × (1 ≤ length c) × InStrict m (IsShort signed c)

-- ---- the number

abbrev pub is_signed : Width → Bool
is_signed (Fixed signed k) = signed
is_signed (Counted signed) = signed

abbrev pub in_range_only : Range → ℤ → Result (Unit {0}) DecodeErrorKind
in_range_only range n = cond (in_range range n) (Ok tt) (Err ValueConstraintNotSatisfied)

-- a number that the type admits, under a range
unfoldable pub integer_at : (ℤ → Bool) → Range → Codec → Octets → Result (ℤ × Octets) DecodeErrorKind
integer_at admits range codec input = do
  octets ← number_octets_at (width_of range) codec input
  n ← number_in admits octets.0 (value_of (is_signed (width_of range)) octets.0)
  in_range_only range n
  Ok (n, octets.1)

-- an encoding of a number that the type admits
abbrev pub IsIntegerOf : (ℤ → Bool) → Range → Mode → Octets → ℤ → Type 0
IsIntegerOf admits range m o n = (admits n ≡ true) × IsLeafEncoding m o (Int range n)
