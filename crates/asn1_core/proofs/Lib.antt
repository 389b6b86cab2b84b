-- The lemmas that proofs use.
pub mod Orders
pub mod Narrowed
pub mod Digits
pub mod Complement
pub mod Shortest
pub mod Superfluous
pub mod Fixed
pub mod TagFacts
pub mod InTagOrder
pub mod SortedByTag
