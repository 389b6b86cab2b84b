-- The definitions that contracts cite: values borrowed from the input, the reading of enumerated values, and want of memory.
pub mod Views
pub mod ReadingEnumerated
pub mod ReadingMemory
