-- The definitions that contracts cite: whole numbers and their octets, how they are read into a type, and ranges.
pub mod Numbers
pub mod Octets
pub mod Reading
pub mod Widths
pub mod Ranges
