-- What C is answered.
use Rattle.std.specs.Prelude.{◌≡◌, ℕ, ◌==◌, Bool, false, cond, ℤ, pos, nat_lt, Option, Some, None, Result, Ok, Err}
use Rattle.asn1_core.specs.Octets.{Octets}
use Rattle.asn1_core.specs.Tags.{class_number}
use Rattle.asn1_core.specs.declared.codec.Codec.{Codec}
use Rattle.asn1_core.specs.declared.codec.Codec.TheVariants.{Oer, Coer}
use Rattle.asn1_core.specs.declared.tag.Tag.{Tag}
use Rattle.asn1_core.specs.declared.error.DecodeError.{DecodeError}
use Rattle.asn1_core.specs.declared.error.DecodeErrorKind.{DecodeErrorKind}
use Rattle.asn1_core.specs.declared.error.DecodeErrorKind.TheVariants as decode
use Rattle.asn1_core.specs.declared.error.EncodeErrorKind.{EncodeErrorKind}
use Rattle.asn1_core.specs.declared.error.EncodeErrorKind.TheVariants as encode
use Rattle.oer_read.specs.State.{Options, State}
use Rattle.oer_spec.specs.Tree.{Tree}
use Rattle.rasn_oer.specs.declared.codec_error.CodecError.{CodecError}
use Rattle.rasn_oer.specs.declared.codec_error.CodecError.TheVariants.{Decode, Encode}
use Rattle.oer_calls.specs.Calls.{IsCanonicalised, IsChecked, IsConverted, IsFramed}
use Rattle.oer_calls.specs.declared.answer.Answer.{Answer}
use Rattle.oer_calls.specs.declared.calls.Checked.{Checked}
use Rattle.oer_calls.specs.declared.calls.Outcome.{Outcome}
use Rattle.oer_calls.specs.declared.calls.Outcome.TheVariants.{Done, NoRoom, Refused, NotConverted}

-- a status with how many octets were taken and written
abbrev pub counted : ℕ → ℕ → ℕ → Answer
counted s c w = record { status = s; kind = 0; consumed = c; written = w; size = 0; number = pos 0; tag_class = 0; tag_number = 0; flag = 0; reserved = 0 }

-- a refusal of that status and kind: without fields; with a size; with a number; with a tag
abbrev pub refused : ℕ → ℕ → Answer
refused s k = record (counted s 0 0) { kind = k }

abbrev pub sized : ℕ → ℕ → ℕ → Answer
sized s k n = record (refused s k) { size = n }

abbrev pub numbered : ℕ → ℕ → ℤ → Answer
numbered s k z = record (refused s k) { number = z }

abbrev pub tagged : ℕ → ℕ → Tag → Bool → Answer
tagged s k t b = record (refused s k) { tag_class = class_number t.class; tag_number = t.value; flag = cond b 1 0 }

abbrev pub read_answer : ℕ → DecodeErrorKind → Answer
read_answer s (decode.Incomplete n) = sized s 1 n
read_answer s decode.ZeroLengthOfLength = refused s 2
read_answer s decode.LengthExceedsPlatformWidth = refused s 3
read_answer s (decode.InvalidBool v) = numbered s 4 (pos v)
read_answer s decode.IntegerOverflow = refused s 5
read_answer s decode.EmptyInteger = refused s 6
read_answer s decode.ValueConstraintNotSatisfied = refused s 7
read_answer s (decode.SizeConstraintNotSatisfied n) = sized s 8 n
read_answer s (decode.DiscriminantValueNotFound z) = numbered s 9 z
read_answer s decode.InvalidTagNumberOnChoice = refused s 10
read_answer s (decode.InvalidTagVariantOnChoice t b) = tagged s 11 t b
read_answer s decode.InvalidBitString = refused s 12
read_answer s decode.PermittedAlphabetError = refused s 13
read_answer s decode.StringConversionFailed = refused s 14
read_answer s decode.InvalidObjectIdentifier = refused s 15
read_answer s decode.InvalidTime = refused s 16
read_answer s decode.InvalidPreamble = refused s 17
read_answer s decode.InvalidExtensionHeader = refused s 18
read_answer s (decode.RequiredExtensionNotPresent t) = tagged s 19 t false
read_answer s decode.TypeNotExtensible = refused s 20
read_answer s (decode.MissingTagClassOrValueInSequenceOrSet c n) = tagged s 21 (record { class = c; value = n }) false
read_answer s decode.ExceedsMaxParseDepth = refused s 22
read_answer s decode.NotValidCanonicalEncoding = refused s 23
read_answer s decode.TooManyEmptyElements = refused s 24
read_answer s decode.OutOfMemory = refused s 25

abbrev pub write_answer : ℕ → EncodeErrorKind → Answer
write_answer s encode.ValueConstraintNotSatisfied = refused s 1
write_answer s (encode.SizeConstraintNotSatisfied n) = sized s 2 n
write_answer s encode.InvalidObjectIdentifier = refused s 3
write_answer s encode.TimeNotRepresentable = refused s 4
write_answer s encode.TooManyEmptyElements = refused s 5
write_answer s encode.LengthExceedsPlatformSize = refused s 6
write_answer s encode.OutOfMemory = refused s 7

abbrev pub answer_of : Outcome → Answer
answer_of (Done c w) = counted 0 c w
answer_of (NoRoom c n) = counted 3 c n
answer_of (Refused (Decode e)) = read_answer 1 e.kind
answer_of (Refused (Encode x)) = write_answer 2 x.kind
answer_of (NotConverted (Decode e)) = read_answer 6 e.kind
answer_of (NotConverted (Encode x)) = write_answer 7 x.kind

abbrev pub checked_answer : Result Checked CodecError → Answer
checked_answer (Ok k) = record (counted 0 k.consumed k.canonical) { flag = cond k.is_canonical 1 0 }
checked_answer (Err (Decode e)) = read_answer 1 e.kind
checked_answer (Err (Encode x)) = write_answer 2 x.kind

-- What a call by a word answers: of an outcome, of a check; none where no type has the word.
abbrev pub word_answer : Option Outcome → Answer
word_answer None = counted 4 0 0
word_answer (Some x) = answer_of x

abbrev pub word_checked_answer : Option (Result Checked CodecError) → Answer
word_checked_answer None = counted 4 0 0
word_checked_answer (Some x) = checked_answer x

abbrev pub IsFramedIfAny : Octets → Option Outcome → Octets → Type 0
IsFramedIfAny old None new = new ≡ old
IsFramedIfAny old (Some x) new = IsFramed old x new

-- The answer is an outcome's, by which the caller's octets are as they are; without options, or without such a type, they are
-- as before. Whose octets they are isn't said.
abbrev pub IsAnsweredByWord : Option Options → Octets → Answer → Octets → Type 0
IsAnsweredByWord None old answer new = (answer ≡ counted 5 0 0) × (new ≡ old)
IsAnsweredByWord (Some o) old answer new = (x : Option Outcome) × (answer ≡ word_answer x) × IsFramedIfAny old x new

abbrev pub IsCheckedByWord : Option Options → Answer → Type 0
IsCheckedByWord None answer = answer ≡ counted 5 0 0
IsCheckedByWord (Some o) answer = (x : Option (Result Checked CodecError)) × (answer ≡ word_checked_answer x)

-- within at most 1,024 levels
abbrev pub within : Codec → ℕ → Option Options
within m d = cond (nat_lt 1024 d) None (Some (record { codec = m; levels = d }))

-- mode 0 is lenient, 1 canonical, and there is no other
abbrev pub options_for : ℕ → ℕ → Option Options
options_for m d = cond (m == 0) (within Oer d) (cond (m == 1) (within Coer d) None)

module _ {A : Type 0} (tree : A → Tree) (IsValue : A → Type 0) (Answered : State → Result A DecodeError → State → Type 0) where
  -- the answer is the outcome's, which `canonicalise` promises; without options nothing was done
  abbrev pub IsCanonicalisedBy : Option Options → Octets → Octets → Answer → Octets → Type 0
  IsCanonicalisedBy None input old answer new = (answer ≡ counted 5 0 0) × (new ≡ old)
  IsCanonicalisedBy (Some o) input old answer new = (x : Outcome) × (answer ≡ answer_of x) × IsCanonicalised tree IsValue Answered o.codec o.levels input old x new

  abbrev pub IsCheckedBy : Option Options → Octets → Answer → Type 0
  IsCheckedBy None input answer = answer ≡ counted 5 0 0
  IsCheckedBy (Some o) input answer = (x : Result Checked CodecError) × (answer ≡ checked_answer x) × IsChecked tree IsValue Answered o.codec o.levels input x

module _ {A B : Type 0} (sent : A → Tree) (IsSent : A → Type 0) (SentAnswered : State → Result A DecodeError → State → Type 0) (wanted : B → Tree) (IsWanted : B → Type 0) (WantedAnswered : State → Result B DecodeError → State → Type 0) where
  abbrev pub IsConvertedBy : Option Options → Octets → Octets → Answer → Octets → Type 0
  IsConvertedBy None input old answer new = (answer ≡ counted 5 0 0) × (new ≡ old)
  IsConvertedBy (Some o) input old answer new = (x : Outcome) × (answer ≡ answer_of x) × IsConverted sent IsSent SentAnswered wanted IsWanted WantedAnswered o.codec o.levels input old x new
