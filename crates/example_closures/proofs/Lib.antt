-- The lemmas that proofs use.
pub mod StatusLaw
pub mod CommandParts
