-- What the iterators over a table have left.
use Rattle.std.specs.Prelude.{List, filter}
use Rattle.asn1_core.specs.declared.fields.Field.{Field}
use Rattle.asn1_core.specs.declared.fields.Canonised.{Canonised}
use Rattle.asn1_core.specs.declared.fields.OptionalAndDefaultFields.{OptionalAndDefaultFields}
use Rattle.asn1_core.specs.NextRow.{left_after}
use Rattle.asn1_core.specs.Rows.{may_be_absent}
use Rattle.asn1_core.specs.Tags.{by_tag}

-- the rows whose components may be absent
abbrev pub optional_fields : List Field → List Field
optional_fields fields = filter (λ f. may_be_absent f.presence) fields

abbrev pub optional_rest : OptionalAndDefaultFields → List Field
optional_rest s = optional_fields s.rows.now

-- in tag order
abbrev pub canonised_rest : Canonised → List Field
canonised_rest s = by_tag (λ f. f.tag) (left_after s.last 0 s.rows.now)
