-- The definitions that contracts cite: enumerated types that keep numbers of newer versions, choices that keep alternatives.
pub mod KeptNumbers
pub mod Unknown
pub mod KeptTags
pub mod KeptKnots
