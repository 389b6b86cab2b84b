-- Tables of one component with its type's own tag.
use Rattle.std.specs.Prelude.{List, [], ◌∷◌}
use Rattle.asn1_core.specs.Rows.{Row}
use Rattle.asn1_core.specs.declared.fields.FieldPresence.{FieldPresence}
use Rattle.asn1_core.specs.declared.tag.TheConstants.Tag.{INTEGER}

abbrev pub one_row : FieldPresence → List Row
one_row presence = record { index = 0; tag = INTEGER; presence = presence } ∷ []
