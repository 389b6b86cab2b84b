-- All definitions of asn1_core, asn1_strings and asn1_times, which this crate passes on.
pub use Rattle.asn1_core.specs.Kinds
pub use Rattle.asn1_core.specs.Tags
pub use Rattle.asn1_core.specs.Rows
pub use Rattle.asn1_core.specs.Octets
pub use Rattle.asn1_core.specs.Numbers
pub use Rattle.asn1_core.specs.Texts
pub use Rattle.asn1_core.specs.Bounds
pub use Rattle.asn1_core.specs.Narrowing
pub use Rattle.asn1_core.specs.TagOrder
pub use Rattle.asn1_core.specs.NextRow
pub use Rattle.asn1_core.specs.Tables
pub use Rattle.asn1_core.specs.Multisets
pub use Rattle.asn1_core.specs.MultisetLaws
pub use Rattle.asn1_strings.specs.BitStrings
pub use Rattle.asn1_strings.specs.Characters
pub use Rattle.asn1_strings.specs.Identifiers
pub use Rattle.asn1_times.specs.Times
