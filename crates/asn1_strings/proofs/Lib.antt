-- The lemmas that proofs use.
pub mod BitLists
pub mod OctetLists
pub mod CharacterLists
pub mod IdentifierLists
pub mod IdentifierSpelling
pub mod ZeroBits
pub mod NamedLists
