-- The names of the kinds of refusal, by number, and how a text comes to a caller's octets.
use Rattle.std.specs.Prelude.{◌≡◌, ℕ, List, [], ◌++◌, codes, ◌==◌, cond, length, take, drop}

abbrev pub read_name : ℕ → List ℕ
read_name k =
    cond (k == 1) (codes "Incomplete") (
    cond (k == 2) (codes "ZeroLengthOfLength") (
    cond (k == 3) (codes "LengthExceedsPlatformWidth") (
    cond (k == 4) (codes "InvalidBool") (
    cond (k == 5) (codes "IntegerOverflow") (
    cond (k == 6) (codes "EmptyInteger") (
    cond (k == 7) (codes "ValueConstraintNotSatisfied") (
    cond (k == 8) (codes "SizeConstraintNotSatisfied") (
    cond (k == 9) (codes "DiscriminantValueNotFound") (
    cond (k == 10) (codes "InvalidTagNumberOnChoice") (
    cond (k == 11) (codes "InvalidTagVariantOnChoice") (
    cond (k == 12) (codes "InvalidBitString") (
    cond (k == 13) (codes "PermittedAlphabetError") (
    cond (k == 14) (codes "StringConversionFailed") (
    cond (k == 15) (codes "InvalidObjectIdentifier") (
    cond (k == 16) (codes "InvalidTime") (
    cond (k == 17) (codes "InvalidPreamble") (
    cond (k == 18) (codes "InvalidExtensionHeader") (
    cond (k == 19) (codes "RequiredExtensionNotPresent") (
    cond (k == 20) (codes "TypeNotExtensible") (
    cond (k == 21) (codes "MissingTagClassOrValueInSequenceOrSet") (
    cond (k == 22) (codes "ExceedsMaxParseDepth") (
    cond (k == 23) (codes "NotValidCanonicalEncoding") (
    cond (k == 24) (codes "TooManyEmptyElements") (
    cond (k == 25) (codes "OutOfMemory") (
    [])))))))))))))))))))))))))

abbrev pub write_name : ℕ → List ℕ
write_name k =
    cond (k == 1) (codes "ValueConstraintNotSatisfied") (
    cond (k == 2) (codes "SizeConstraintNotSatisfied") (
    cond (k == 3) (codes "InvalidObjectIdentifier") (
    cond (k == 4) (codes "TimeNotRepresentable") (
    cond (k == 5) (codes "TooManyEmptyElements") (
    cond (k == 6) (codes "LengthExceedsPlatformSize") (
    cond (k == 7) (codes "OutOfMemory") (
    [])))))))

-- beside a status: reading's at 1 and 6, writing's at 2 and 7
abbrev pub name_for : ℕ → ℕ → List ℕ
name_for s k = cond (s == 1) (read_name k) (cond (s == 6) (read_name k) (cond (s == 2) (write_name k) (cond (s == 7) (write_name k) [])))

-- As much of the text as there is room for stands at the front, what is behind it is as before, and its length is answered.
abbrev pub IsTold : List ℕ → List ℕ → ℕ → List ℕ → Type 0
IsTold text old n new = (n ≡ length text) × (new ≡ take (length old) text ++ drop (length text) old)
