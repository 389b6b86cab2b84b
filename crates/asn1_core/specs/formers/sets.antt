-- The type of src/sets.rt that may hold the type that holds it: `SetOf`.
pub mod SetOf
