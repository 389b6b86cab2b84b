-- The definitions that contracts cite.
pub mod Calls
pub mod Answers
pub mod Names
