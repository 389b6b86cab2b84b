-- The definitions that contracts cite: the texts of times and dates.
pub mod Times
