-- The definitions that contracts cite: what is seen of a decoder, the law of reading, and what scopes, lists and choices do.
pub mod State
pub mod Law
pub mod Parts
pub mod Scopes
pub mod Components
pub mod Lists
pub mod Unordered
pub mod Sets
pub mod SetRows
pub mod Additions
pub mod Choices
pub mod Defaults
pub mod Seen
pub mod Answers
pub mod Enumerated
