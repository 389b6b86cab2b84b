-- Times and days: their contents, and how they are read.
use Rattle.std.specs.Prelude.{ℕ, Bool, List, Option, Some, None, Result, Ok}
use Rattle.asn1_core.specs.Octets.{Octets}
use Rattle.asn1_core.specs.declared.codec.Codec.{Codec}
use Rattle.asn1_core.specs.declared.error.DecodeErrorKind.{DecodeErrorKind}
use Rattle.asn1_core.specs.declared.error.DecodeErrorKind.TheVariants.{InvalidTime}
use Rattle.oer_spec.specs.Reading.{◌>>=◌}
use Rattle.oer_spec.specs.ReadingTexts.{text_at}
use Rattle.oer_spec.specs.Tree.{Content, InOctets, Civil}

-- a text's octets, or for a value without a text its civil fields
abbrev pub time_content : Option Octets → List ℕ → Content
time_content (Some o) fields = InOctets o
time_content None fields = Civil fields

-- A time or a day (X.696, 29), by its text.
unfoldable pub time_at : (Octets → Bool) → Codec → Octets → Result (Option Octets × Octets) DecodeErrorKind
time_at is_text codec input = text_at is_text InvalidTime None codec input >>= λ text. Ok (Some text.0, text.1)
