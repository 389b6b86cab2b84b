-- The lemmas that proofs use.
pub mod Whole
pub mod Readings
