-- Types of this crate that may hold the type that holds them, by the file of src that has them.
pub mod sets
