-- The lemmas that proofs use.
mod Allowed
mod Alternatives
mod Defining
mod Digits
mod Distinct
mod Giving
mod Members
mod OwnTags
pub mod Packing
mod Placeable
mod Placing
mod Refusing
mod Tagging
mod Walking
mod Writing
