-- The lemmas that proofs use.
pub mod Packing
pub mod WriteTags
pub mod WriteNumbers
pub mod WriteEnumerated
pub mod NamedBits
