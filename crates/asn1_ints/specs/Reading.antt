-- Reading a number into a type.
use Rattle.std.specs.Prelude.{◌≡◌, ℤ, Bool, IsTrue, cond, ◌==◌, length, Option, Some, None, Result, Ok, Err}
use Rattle.asn1_core.specs.declared.codec.Codec.{Codec}
use Rattle.asn1_core.specs.declared.error.DecodeError.{DecodeError}
use Rattle.asn1_core.specs.declared.error.DecodeErrorKind.{DecodeErrorKind}
use Rattle.asn1_core.specs.declared.error.DecodeErrorKind.TheVariants.{EmptyInteger, IntegerOverflow, OutOfMemory}
use Rattle.asn1_core.specs.Octets.{Octets}

-- the number of octets, where there are some and it is one of the type
abbrev pub number_in : (ℤ → Bool) → Octets → ℤ → Result ℤ DecodeErrorKind
number_in admits octets n = cond (length octets == 0) (Err EmptyInteger) (cond (admits n) (Ok n) (Err IntegerOverflow))

-- want of memory is an answer of types that take memory alone
abbrev pub RefusesBy : {Y : Type 0} → Bool → DecodeErrorKind → Result Y DecodeErrorKind → Type 0
RefusesBy takes_memory OutOfMemory read = IsTrue takes_memory
RefusesBy takes_memory kind read = read ≡ Err kind

-- Octets whose number is n are read as a value of that number, or refused: without octets as an empty integer, where
-- the type doesn't admit the number as an overflow; a type that takes memory may want it first.
abbrev pub ReadsNumber : {T : Type 0} → (T → ℤ) → (ℤ → Bool) → Bool → Octets → ℤ → Codec → Result T DecodeError → Type 0
ReadsNumber number admits takes_memory octets n codec (Ok v) = number_in admits octets n ≡ Ok (number v)
ReadsNumber number admits takes_memory octets n codec (Err e) = (e.codec ≡ codec) × RefusesBy takes_memory e.kind (number_in admits octets n)

-- the value of octets, where there are some and it is one of the type
abbrev pub value_or_refusal : {T : Type 0} → Octets → Codec → Option T → Result T DecodeError
value_or_refusal octets codec None = Err (record { kind = cond (length octets == 0) EmptyInteger IntegerOverflow; codec = codec })
value_or_refusal octets codec (Some v) = cond (length octets == 0) (Err (record { kind = EmptyInteger; codec = codec })) (Ok v)
