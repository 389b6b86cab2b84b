-- The definitions that contracts cite.
pub mod Bits
pub mod Definitions
pub mod Enumerations
pub mod Numbers
pub mod Preambles
pub mod Rows
pub mod Tags
pub mod Untagged
pub mod Widths
