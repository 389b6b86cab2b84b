-- The definitions that contracts cite: which octets a walk takes whole, what a value in JSON stands for, and how many characters a string has.
pub mod Whole
pub mod Readings
pub mod Characters
