-- Reading from left to right on whole lists of octets: the value and what is left, or the first refusal.
use Rattle.std.specs.Prelude.{◌≡◌, ℕ, zero, suc, ◌+◌, ◌-◌, ◌*◌, ◌/◌, ◌%◌, ◌^◌, ◌<◌, Bool, true, false, cond, not, ◌&&◌, ◌==◌, nat_lt, [], ◌∷◌, ◌++◌, length, take, drop, Option, Some, None, Result, Ok, Err, slice_index}
use Rattle.std.specs.Option.{ok_or}
use Rattle.asn1_core.specs.Numbers.{has_superfluous_zero}
use Rattle.asn1_core.specs.Octets.{Octets, unsigned}
use Rattle.asn1_core.specs.declared.codec.Codec.{Codec}
use Rattle.asn1_core.specs.declared.codec.Codec.TheVariants.{Oer, Coer}
use Rattle.asn1_core.specs.declared.error.DecodeErrorKind.{DecodeErrorKind}
use Rattle.asn1_core.specs.declared.error.DecodeErrorKind.TheVariants.{Incomplete, ZeroLengthOfLength, LengthExceedsPlatformWidth, InvalidBool, EmptyInteger, InvalidTagNumberOnChoice, NotValidCanonicalEncoding, OutOfMemory}
use Rattle.asn1_core.specs.declared.tag.Class.{Class}
use Rattle.asn1_core.specs.declared.tag.Class.TheVariants.{Universal, Application, Context, Private}
use Rattle.asn1_core.specs.declared.tag.Tag.{Tag}
use Rattle.oer_spec.specs.Lengths.{IsTag}
use Rattle.oer_spec.specs.Mode.{Mode}

-- ---- what readers' contracts say

-- one step after another; the first refusal ends the reading
infixl 10 ◌>>=◌
abbrev pub ◌>>=◌ : {A B : Type 0} → Result A DecodeErrorKind → (A → Result B DecodeErrorKind) → Result B DecodeErrorKind
(Ok x) >>= f = f x
(Err e) >>= f = Err e

infixl 10 ◌>>◌
abbrev pub ◌>>◌ : {A B : Type 0} → Result A DecodeErrorKind → Result B DecodeErrorKind → Result B DecodeErrorKind
(Ok x) >> r = r
(Err e) >> r = Err e

-- What a function answered, seen by view, is what the reading gives: no memory was asked for.
abbrev pub Gives : {X Y : Type 0} → (X → Y) → Result X DecodeErrorKind → Result Y DecodeErrorKind → Type 0
Gives view (Ok x) read = read ≡ Ok (view x)
Gives view (Err e) read = read ≡ Err e

-- an answer, seen by view
abbrev pub seen : {X Y : Type 0} → (X → Y) → Result X DecodeErrorKind → Result Y DecodeErrorKind
seen view (Ok x) = Ok (view x)
seen view (Err e) = Err e

-- No front of the octets spells any value.
abbrev pub NoFront : {V : Type 0} → (Octets → V → Type 0) → Octets → Type 0
NoFront {V} Spells input = (o rest : Octets) (v : V) → input ≡ o ++ rest → Spells o v → ⊥

-- At Ok a front of the octets spells the value, and what is left follows it; at Err, unless memory was refused, no front
-- spells any value.
abbrev pub ReadsFront : {V : Type 0} → (Octets → V → Type 0) → Octets → Result (V × Octets) DecodeErrorKind → Type 0
ReadsFront Spells input (Ok x) = (o : Octets) × (input ≡ o ++ x.1) × Spells o x.0
ReadsFront Spells input (Err e) = (e ≡ OutOfMemory → ⊥) → NoFront Spells input

-- memory was not asked for
abbrev pub IsNotForMemory : DecodeErrorKind → Type 0
IsNotForMemory e = e ≡ OutOfMemory → ⊥

-- ---- the parts of readings

abbrev pub octet_at : Octets → Result (ℕ × Octets) DecodeErrorKind
octet_at [] = Err (Incomplete 1)
octet_at (x ∷ rest) = Ok (x, rest)

abbrev pub octets_at : ℕ → Octets → Result (Octets × Octets) DecodeErrorKind
octets_at n input = cond (nat_lt (length input) n) (Err (Incomplete (n - length input))) (Ok (take n input, drop n input))

abbrev pub is_coer : Codec → Bool
is_coer Oer = false
is_coer Coer = true

-- canonical reading refuses what is superfluous
abbrev pub canonical : Codec → Bool → Result (Unit {0}) DecodeErrorKind
canonical codec superfluous = cond (is_coer codec && superfluous) (Err NotValidCanonicalEncoding) (Ok tt)

-- the number, where it is below the limit
abbrev pub if_below : ℕ → ℕ → Option ℕ
if_below limit n = cond (nat_lt n limit) (Some n) None

abbrev pub begins_with_zero : Octets → Bool
begins_with_zero o = slice_index o 0 == 0

-- ---- lengths (X.696, 8.6)

-- the number of a length's long form, in that many octets
unfoldable pub long_length_at : Codec → ℕ → Octets → Result (ℕ × Octets) DecodeErrorKind
long_length_at codec count input = do
  octets ← octets_at count input
  canonical codec (begins_with_zero octets.0)
  n ← ok_or (if_below (2 ^ 64) (unsigned octets.0)) LengthExceedsPlatformWidth
  canonical codec (nat_lt n 128)
  Ok (n, octets.1)

unfoldable pub length_at : Codec → Octets → Result (ℕ × Octets) DecodeErrorKind
length_at codec input = do
  first ← octet_at input
  cond (nat_lt first.0 128) (Ok first) (cond (first.0 == 128) (Err ZeroLengthOfLength) (long_length_at codec (first.0 - 128) first.1))

-- a length and that many octets
unfoldable pub content_at : Codec → Octets → Result (Octets × Octets) DecodeErrorKind
content_at codec input = do
  count ← length_at codec input
  octets_at count.0 count.1

-- ---- BOOLEAN (X.696, 9)

unfoldable pub bool_at : Codec → Octets → Result (Bool × Octets) DecodeErrorKind
bool_at codec input = do
  first ← octet_at input
  cond (first.0 == 0) (Ok (false, first.1)) (cond (is_coer codec && not (first.0 == 255)) (Err (InvalidBool first.0)) (Ok (true, first.1)))

-- ---- tags (X.696, 8.7)

-- the class in the top two bits of an octet
abbrev pub class_of : ℕ → Class
class_of zero = Universal
class_of (suc zero) = Application
class_of (suc (suc zero)) = Context
class_of _ = Private

-- the number with seven bits more
abbrev pub with_group : ℕ → ℕ → ℕ
with_group n octet = n * 128 + octet % 128

-- the groups of a number of which n is read so far; refused at the octet where it passes 2^32 - 1
unfoldable pub more_groups_at : ℕ → Octets → Result (ℕ × Octets) DecodeErrorKind
more_groups_at n [] = Err (Incomplete 1)
more_groups_at n (x ∷ input) =
    cond (nat_lt (with_group n x) (2 ^ 32)) (cond (nat_lt x 128) (Ok (with_group n x, input)) (more_groups_at (with_group n x) input)) (Err InvalidTagNumberOnChoice)

unfoldable pub groups_at : Octets → Result (ℕ × Octets) DecodeErrorKind
groups_at input = do
  first ← octet_at input
  cond ((first.0 % 128) == 0) (Err InvalidTagNumberOnChoice) (more_groups_at 0 input)

-- the tag of that class, its number in groups
unfoldable pub long_tag_at : Codec → Class → Octets → Result (Tag × Octets) DecodeErrorKind
long_tag_at codec class input = do
  number ← groups_at input
  canonical codec (nat_lt number.0 63)
  Ok (record { class = class; value = number.0 }, number.1)

unfoldable pub tag_at : Codec → Octets → Result (Tag × Octets) DecodeErrorKind
tag_at codec input = do
  first ← octet_at input
  cond (nat_lt (first.0 % 64) 63) (Ok (record { class = class_of (first.0 / 64); value = first.0 % 64 }, first.1)) (long_tag_at codec (class_of (first.0 / 64)) first.1)

-- a tag whose number is one of u32
abbrev pub IsTag32 : Mode → Octets → Tag → Type 0
IsTag32 m o t = (t.value < 2 ^ 32) × IsTag m o t

-- ---- quantities (X.696, 17.2)

-- the number of a quantity's octets
unfoldable pub quantity_in : Codec → Octets → Result ℕ DecodeErrorKind
quantity_in codec content =
    cond (length content == 0) (Err EmptyInteger) (canonical codec (has_superfluous_zero content) >> ok_or (if_below (2 ^ 64) (unsigned content)) LengthExceedsPlatformWidth)

unfoldable pub quantity_at : Codec → Octets → Result (ℕ × Octets) DecodeErrorKind
quantity_at codec input = do
  content ← content_at codec input
  n ← quantity_in codec content.0
  Ok (n, content.1)
