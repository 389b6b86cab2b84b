-- The lemmas that proofs use.
pub mod KeptNumbers
pub mod Refusals
pub mod KeptWriting
pub mod KeptReading
pub mod KeptAnswers
