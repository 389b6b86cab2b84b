-- The definitions that contracts cite: kinds of refusal, tags, tables, octets, numbers, texts, constraints, and multisets.
pub mod Kinds
pub mod Tags
pub mod Rows
pub mod Octets
pub mod Numbers
pub mod Texts
pub mod Bounds
pub mod Narrowing
pub mod TagOrder
pub mod NextRow
pub mod Tables
pub mod Multisets
pub mod MultisetLaws
pub mod formers
