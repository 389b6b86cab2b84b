-- Why an alternative was not read.
use Rattle.std.specs.Prelude.{◌≡◌, Bool, true, false, List, Result, Err}
use Rattle.asn1_core.specs.Tags.{holds}
use Rattle.asn1_core.specs.declared.error.DecodeError.{DecodeError}
use Rattle.asn1_core.specs.declared.error.DecodeErrorKind.TheVariants.{InvalidTagVariantOnChoice}
use Rattle.asn1_core.specs.declared.tag.Tag.{Tag}
use Rattle.oer_read.specs.State.{State}

-- a tag of no alternative
abbrev pub NoAlternative : Tag → State → DecodeError → Type 0
NoAlternative g s e = (extensible : Bool) × (e ≡ record { kind = InvalidTagVariantOnChoice g extensible; codec = s.codec })

-- The tag is that of the first alternative, whose type refused with that very error; or it isn't, and one of the others was refused.
pub data AlternativeRefused {B : Type 0} (tag : Tag) (Answered : State → Result B DecodeError → State → Type 0) (Others : Tag → State → DecodeError → Type 0) (g : Tag) (s : State) (e : DecodeError) : Type 0 where
  First : tag ≡ g → (t : State) → Answered s (Err e) t → AlternativeRefused tag Answered Others g s e
  Other : (tag ≡ g → ⊥) → Others g s e → AlternativeRefused tag Answered Others g s e

-- The tag is one of those, and the row that has them refused; or it isn't, and the other row refused.
pub data PartRefused (tags : List Tag) (Those Others : Tag → State → DecodeError → Type 0) (g : Tag) (s : State) (e : DecodeError) : Type 0 where
  First : holds tags g ≡ true → Those g s e → PartRefused tags Those Others g s e
  Other : holds tags g ≡ false → Others g s e → PartRefused tags Those Others g s e
