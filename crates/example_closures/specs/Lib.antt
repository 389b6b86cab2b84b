-- The definitions that contracts of this crate cite: a module for each type.
pub mod Reports
pub mod Statuses
pub mod Commands
