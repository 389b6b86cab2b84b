-- What the calls promise, and the definitions of other crates that a type's own contracts name through this one.
pub mod Headline
pub mod Conversions
pub mod Open
-- what a type by its row names
pub use Rattle.oer_rows.specs.Values as Values
pub use Rattle.oer_rows.specs.Schema as Schema
pub use Rattle.oer_choices.specs.declared.alternatives.Either.TheVariants as Alternative
pub use Rattle.asn1_core.specs.declared.constraints.Bounded.TheVariants as Bounded
-- what a type that contains itself names
pub use Rattle.oer_knots.specs.Knots as Knots
pub use Rattle.oer_knots.specs.Answering as Answering
pub use Rattle.oer_knots.specs.Ties as Ties
pub use Rattle.oer_knots.specs.Choices as KnotChoices
-- what a default names
pub use Rattle.oer_rows.specs.Literals as Literals
pub use Rattle.oer_rows.specs.Compared as Compared
pub use Rattle.oer_rows.specs.EmptyLists as EmptyLists
pub use Rattle.oer_spec.specs.Spelled as Spelled
pub use Rattle.oer_choices.specs.Chosen as Chosen
pub use Rattle.oer_choices.specs.Numbered as Numbered
pub use Rattle.asn1_core.specs.Octets as Octets
pub use Rattle.asn1_core.specs.Texts as Texts
