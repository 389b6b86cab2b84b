-- A table that isn't in the order of its tags.
use Rattle.std.specs.Prelude.{List, [], ◌∷◌}
use Rattle.asn1_core.specs.Rows.{Row}
use Rattle.asn1_core.specs.declared.fields.FieldPresence.TheVariants.{Optional}
use Rattle.oer_rows.specs.Schema.{application, context}

abbrev pub unsorted : List Row
unsorted = record { index = 0; tag = context 444; presence = Optional } ∷ record { index = 1; tag = context 5; presence = Optional } ∷ record { index = 2; tag = application 9; presence = Optional } ∷ []
