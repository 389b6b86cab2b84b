-- The lemmas that proofs use.
pub mod Entries
pub mod Conversions
