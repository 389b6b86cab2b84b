-- The names of the kinds of refusal: each its variant's, without fields.
use Rattle.std.specs.Prelude.{ℕ, List, codes}
use Rattle.asn1_core.specs.declared.error.DecodeErrorKind.{DecodeErrorKind}
use Rattle.asn1_core.specs.declared.error.DecodeErrorKind.TheVariants as decode
use Rattle.asn1_core.specs.declared.error.EncodeErrorKind.{EncodeErrorKind}
use Rattle.asn1_core.specs.declared.error.EncodeErrorKind.TheVariants as encode

abbrev pub decode_kind_name : DecodeErrorKind → List ℕ
decode_kind_name (decode.Incomplete _) = codes "Incomplete"
decode_kind_name decode.ZeroLengthOfLength = codes "ZeroLengthOfLength"
decode_kind_name decode.LengthExceedsPlatformWidth = codes "LengthExceedsPlatformWidth"
decode_kind_name (decode.InvalidBool _) = codes "InvalidBool"
decode_kind_name decode.IntegerOverflow = codes "IntegerOverflow"
decode_kind_name decode.EmptyInteger = codes "EmptyInteger"
decode_kind_name decode.ValueConstraintNotSatisfied = codes "ValueConstraintNotSatisfied"
decode_kind_name (decode.SizeConstraintNotSatisfied _) = codes "SizeConstraintNotSatisfied"
decode_kind_name (decode.DiscriminantValueNotFound _) = codes "DiscriminantValueNotFound"
decode_kind_name decode.InvalidTagNumberOnChoice = codes "InvalidTagNumberOnChoice"
decode_kind_name (decode.InvalidTagVariantOnChoice _ _) = codes "InvalidTagVariantOnChoice"
decode_kind_name decode.InvalidBitString = codes "InvalidBitString"
decode_kind_name decode.PermittedAlphabetError = codes "PermittedAlphabetError"
decode_kind_name decode.StringConversionFailed = codes "StringConversionFailed"
decode_kind_name decode.InvalidObjectIdentifier = codes "InvalidObjectIdentifier"
decode_kind_name decode.InvalidTime = codes "InvalidTime"
decode_kind_name decode.InvalidPreamble = codes "InvalidPreamble"
decode_kind_name decode.InvalidExtensionHeader = codes "InvalidExtensionHeader"
decode_kind_name (decode.RequiredExtensionNotPresent _) = codes "RequiredExtensionNotPresent"
decode_kind_name decode.TypeNotExtensible = codes "TypeNotExtensible"
decode_kind_name (decode.MissingTagClassOrValueInSequenceOrSet _ _) = codes "MissingTagClassOrValueInSequenceOrSet"
decode_kind_name decode.ExceedsMaxParseDepth = codes "ExceedsMaxParseDepth"
decode_kind_name decode.NotValidCanonicalEncoding = codes "NotValidCanonicalEncoding"
decode_kind_name decode.TooManyEmptyElements = codes "TooManyEmptyElements"
decode_kind_name decode.OutOfMemory = codes "OutOfMemory"

abbrev pub encode_kind_name : EncodeErrorKind → List ℕ
encode_kind_name encode.ValueConstraintNotSatisfied = codes "ValueConstraintNotSatisfied"
encode_kind_name (encode.SizeConstraintNotSatisfied _) = codes "SizeConstraintNotSatisfied"
encode_kind_name encode.InvalidObjectIdentifier = codes "InvalidObjectIdentifier"
encode_kind_name encode.TimeNotRepresentable = codes "TimeNotRepresentable"
encode_kind_name encode.TooManyEmptyElements = codes "TooManyEmptyElements"
encode_kind_name encode.LengthExceedsPlatformSize = codes "LengthExceedsPlatformSize"
encode_kind_name encode.OutOfMemory = codes "OutOfMemory"
