-- What is promised of the octets of an open type: what reading them as a type answers, and as the one that an id stands for.
use Rattle.std.specs.Prelude.{◌≡◌, ◌≢◌, ℕ, [], ◌⊎◌, Result, Ok, Err}
use Rattle.asn1_core.specs.Octets.{Octets}
use Rattle.asn1_core.specs.declared.codec.Codec.{Codec}
use Rattle.asn1_core.specs.declared.codec.Codec.TheVariants.{Coer}
use Rattle.asn1_core.specs.declared.error.DecodeError.{DecodeError}
use Rattle.asn1_core.specs.declared.error.DecodeErrorKind.TheVariants as decode
use Rattle.oer_spec.specs.Tree.{Tree}
use Rattle.oer_read.specs.State.{State}
use Rattle.rasn_oer.specs.Headline.{started, Decoded, HasNone}

module _ {A : Type 0} (tree : A → Tree) (IsValue : A → Type 0) where
  -- An encoding of the value begins the octets and, canonically, is all of them.
  pub record OpenDecoded (m : Codec) (d : ℕ) (octets : Octets) (v : A) : Type 0 where
    pub rest : Octets
    pub read : Decoded tree IsValue m d octets v rest
    pub whole : m ≡ Coer → rest ≡ []

  -- Canonically, octets follow the encoding of a value.
  pub record LeavesOver (m : Codec) (d : ℕ) (octets : Octets) (e : DecodeError) : Type 0 where
    pub value : A
    pub rest : Octets
    pub read : Decoded tree IsValue m d octets value rest
    pub canonical : m ≡ Coer
    pub some : rest ≢ []
    pub kind : e.kind ≡ decode.NotValidCanonicalEncoding

  -- The error names the mode read in; want of memory aside, no encoding of a value begins the octets, or octets are left over.
  pub record NotReadOpen (m : Codec) (d : ℕ) (octets : Octets) (e : DecodeError) : Type 0 where
    pub mode : e.codec ≡ m
    pub none : (e.kind ≡ decode.OutOfMemory → ⊥) → HasNone tree IsValue m d octets ⊎ LeavesOver m d octets e

  abbrev pub IsReadOpen : Codec → ℕ → Octets → Result A DecodeError → Type 0
  IsReadOpen m d octets (Ok v) = OpenDecoded m d octets v
  IsReadOpen m d octets (Err e) = NotReadOpen m d octets e

  -- What the type says of its answers beside the law (`Answered`).
  abbrev pub SaysOpen : (State → Result A DecodeError → State → Type 0) → Codec → ℕ → Octets → Result A DecodeError → Type 0
  SaysOpen Answered m d octets (Ok v) = (rest : Octets) × Decoded tree IsValue m d octets v rest × Answered (started m d octets) (Ok v) (started m d rest)
  SaysOpen Answered m d octets (Err e) = Answered (started m d octets) (Err e) (started m d octets) ⊎ LeavesOver m d octets e

  module _ {B : Type 0} (wrap : A → B) (Answered : State → Result A DecodeError → State → Type 0) where
    -- The octets are read as this type, and what is read is one case of a larger type.
    abbrev pub IsObject : Codec → ℕ → Octets → Result B DecodeError → Type 0
    IsObject m d octets (Ok w) = (v : A) × (w ≡ wrap v) × IsReadOpen m d octets (Ok v) × SaysOpen Answered m d octets (Ok v)
    IsObject m d octets (Err e) = IsReadOpen m d octets (Err e) × SaysOpen Answered m d octets (Err e)

-- The octets are kept as they are; refused only for want of memory.
abbrev pub IsOther : {A B : Type 0} → (A → B) → A → Codec → Result B DecodeError → Type 0
IsOther wrap octets m (Ok w) = w ≡ wrap octets
IsOther wrap octets m (Err e) = e ≡ record { kind = decode.OutOfMemory; codec = m }
