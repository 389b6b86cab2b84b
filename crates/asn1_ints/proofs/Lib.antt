-- The lemmas that proofs use.
pub mod Limits
pub mod Shortening
pub mod Appending
pub mod Order
pub mod Compare
pub mod Kept
pub mod ShortNumbers
