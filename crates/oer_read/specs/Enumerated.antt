-- Reading enumerated values (X.696, 11): the value of a number, where the type has one.
use Rattle.std.specs.Prelude.{ℤ, Option, Result, Ok}
use Rattle.std.specs.Option.{ok_or}
use Rattle.asn1_core.specs.Octets.{Octets}
use Rattle.asn1_core.specs.declared.codec.Codec.{Codec}
use Rattle.asn1_core.specs.declared.error.DecodeErrorKind.{DecodeErrorKind}
use Rattle.asn1_core.specs.declared.error.DecodeErrorKind.TheVariants.{DiscriminantValueNotFound}
use Rattle.oer_spec.specs.Reading.{◌>>=◌}
use Rattle.oer_leaf_read.specs.ReadingEnumerated.{enumerated_at}

-- the value and what is left; a number that no value has is refused last
unfoldable pub value_at : {E : Type 0} → (ℤ → Option E) → Codec → Octets → Result (E × Octets) DecodeErrorKind
value_at of_number codec input = do
  number ← enumerated_at codec input
  value ← ok_or (of_number number.0) (DiscriminantValueNotFound number.0)
  Ok (value, number.1)
