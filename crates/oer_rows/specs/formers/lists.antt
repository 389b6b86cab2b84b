-- The type of src/lists.rt that may hold the type that holds it: `ListOf`.
pub mod ListOf
