-- Kinds of refusal in writing, as failures of trees.
use Rattle.std.specs.Prelude.{◌≡◌, ℕ, ◌/◌, Bool, true, cond, List, ◌⊎◌, length, Option, Some, None}
use Rattle.asn1_core.specs.declared.error.EncodeErrorKind.{EncodeErrorKind}
use Rattle.asn1_core.specs.declared.error.EncodeErrorKind.TheVariants.{ValueConstraintNotSatisfied, SizeConstraintNotSatisfied, InvalidObjectIdentifier, TimeNotRepresentable, TooManyEmptyElements, LengthExceedsPlatformSize, OutOfMemory}
use Rattle.asn1_core.specs.Bounds.{Size}
use Rattle.oer_spec.specs.Encoding.{fails}
use Rattle.oer_spec.specs.Leaves.{Failure, BadValue, BadSize, BadIdentifier, BadTime, TooManyEmpty, TooLong, bits_fail, leaf_fails, named_bits, unit_of}
use Rattle.oer_spec.specs.Tree.{InOctets, Civil, Leaf, Int, Bits, Named, Text, Tree, Primitive, Struct, ListOf, Choice, Rows, NoRows, Required, Optional, Default, Slot, Absent, Present, Trees, NoTrees, More}

-- the failure that a kind names; none where memory was refused
abbrev pub failure_of : EncodeErrorKind → Option Failure
failure_of ValueConstraintNotSatisfied = Some BadValue
failure_of (SizeConstraintNotSatisfied _) = Some BadSize
failure_of InvalidObjectIdentifier = Some BadIdentifier
failure_of TimeNotRepresentable = Some BadTime
failure_of TooManyEmptyElements = Some TooManyEmpty
failure_of LengthExceedsPlatformSize = Some TooLong
failure_of OutOfMemory = None

abbrev pub first_bits_failure : Size → List Bool → Option EncodeErrorKind
first_bits_failure s b = cond (bits_fail s b BadSize) (Some (SizeConstraintNotSatisfied (length b))) (cond (bits_fail s b TooLong) (Some LengthExceedsPlatformSize) None)

-- Why a leaf can't be written: a size before a length.
abbrev pub first_failure : Leaf → Option EncodeErrorKind
first_failure (Int r n) = cond (leaf_fails (Int r n) BadValue) (Some ValueConstraintNotSatisfied) (cond (leaf_fails (Int r n) TooLong) (Some LengthExceedsPlatformSize) None)
first_failure (Bits s b) = first_bits_failure s b
first_failure (Named s b) = first_bits_failure s (named_bits s b)
first_failure (Text r s (InOctets c)) =
    cond (leaf_fails (Text r s (InOctets c)) BadSize) (Some (SizeConstraintNotSatisfied (length c / unit_of r)))
    (cond (leaf_fails (Text r s (InOctets c)) TooLong) (Some LengthExceedsPlatformSize) None)
first_failure (Text r s (Civil fields)) = Some TimeNotRepresentable
first_failure _ = None

-- some leaf of the tree has this size, and its constraint doesn't allow it
unfoldable mutual
  pub SizeFails : Tree → ℕ → Type 0
  SizeFails (Primitive l) n = first_failure l ≡ Some (SizeConstraintNotSatisfied n)
  SizeFails (Struct set extensible r a) n = RowsSizeFails r n ⊎ RowsSizeFails a n
  SizeFails (ListOf ordered ts) n = TreesSizeFails ts n
  SizeFails (Choice roots additions g t) n = SizeFails t n

  pub RowsSizeFails : Rows → ℕ → Type 0
  RowsSizeFails NoRows n = ⊥
  RowsSizeFails (Required g t r) n = SizeFails t n ⊎ RowsSizeFails r n
  RowsSizeFails (Optional g s r) n = SlotSizeFails s n ⊎ RowsSizeFails r n
  RowsSizeFails (Default g u s r) n = SlotSizeFails s n ⊎ RowsSizeFails r n

  pub SlotSizeFails : Slot → ℕ → Type 0
  SlotSizeFails Absent n = ⊥
  SlotSizeFails (Present t) n = SizeFails t n

  pub TreesSizeFails : Trees → ℕ → Type 0
  TreesSizeFails NoTrees n = ⊥
  TreesSizeFails (More t ts) n = SizeFails t n ⊎ TreesSizeFails ts n

-- The tree can't be written, and the kind says why; a size that it names is that of a leaf whose constraint doesn't allow it.
abbrev pub Fails : Tree → EncodeErrorKind → Type 0
Fails t kind = (k : Failure) × (failure_of kind ≡ Some k) × (fails t k ≡ true) × ((n : ℕ) → kind ≡ SizeConstraintNotSatisfied n → SizeFails t n)
