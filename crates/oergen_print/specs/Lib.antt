-- The definitions that contracts cite.
pub mod Sections
pub mod SetOrder
