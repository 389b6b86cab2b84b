-- The lemmas that proofs use.
pub mod Recoding
