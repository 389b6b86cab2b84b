-- The definitions that contracts cite: what is seen of an encoder, its insertions, and what scopes, lists and choices do.
pub mod Written
pub mod Layout
pub mod Slotted
pub mod Inserted
pub mod Held
pub mod Closed
pub mod Bits
pub mod Preambles
pub mod Seen
pub mod Kept
pub mod Rows
pub mod Scopes
pub mod Rules
pub mod Lists
pub mod ByClosure
pub mod Choices
pub mod Unordered
