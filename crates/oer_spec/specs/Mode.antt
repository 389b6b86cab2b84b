-- The ways in which octets are read.
use Rattle.std.specs.Prelude.{⊤}
use Rattle.asn1_core.specs.declared.codec.Codec.{Codec}
use Rattle.asn1_core.specs.declared.codec.Codec.TheVariants.{Oer, Coer}

-- leniently (OER), canonically (COER), and canonically with bitmaps of the type's own size; the last two are strict
pub data Mode : Type 0 where
  Lenient Canonical OwnSized : Mode

abbrev pub mode_of : Codec → Mode
mode_of Oer = Lenient
mode_of Coer = Canonical

-- only leniently
abbrev pub InLenient : Mode → Type 0
InLenient Lenient = ⊤
InLenient _ = ⊥

-- P holds in the strict modes
abbrev pub InStrict : Mode → Type 0 → Type 0
InStrict Lenient P = ⊤
InStrict _ P = P

-- P holds where bitmaps have the type's own size
abbrev pub InOwnSized : Mode → Type 0 → Type 0
InOwnSized OwnSized P = P
InOwnSized _ P = ⊤
