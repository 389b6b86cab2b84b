-- The definitions that contracts cite: bits kept in octets, texts of whole characters, and object identifiers.
pub mod BitStrings
pub mod Characters
pub mod Identifiers
pub mod NamedBits
