-- The lemmas that proofs use.
pub mod Decimals
pub mod Fractions
pub mod TimeTexts
pub mod OneText
