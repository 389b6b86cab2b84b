-- The definitions that contracts cite: alternatives of choices, how they are written, why they were not read; enumerated types.
pub mod Choosing
pub mod Chosen
pub mod Both
pub mod Refusals
pub mod Numbered
pub mod Putting
