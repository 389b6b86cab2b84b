-- The lemmas that proofs use.
pub mod BitSlices
pub mod Fill
pub mod Short
pub mod ReadMemory
pub mod ReadLengths
pub mod ReadBooleans
pub mod ReadTags
pub mod ReadQuantities
pub mod ReadIntegers
pub mod ReadEnumerated
pub mod ReadBitStrings
pub mod ReadNamed
pub mod ReadTexts
pub mod ReadPlaces
pub mod ReadValues
