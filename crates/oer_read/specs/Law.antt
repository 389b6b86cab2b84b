-- The law of a type that is read.
use Rattle.std.specs.Prelude.{◌≡◌, ◌++◌, Result, IfOk, IfErr}
use Rattle.asn1_core.specs.Octets.{Octets}
use Rattle.asn1_core.specs.declared.codec.Codec.{Codec}
use Rattle.asn1_core.specs.declared.error.DecodeError.{DecodeError}
use Rattle.asn1_core.specs.declared.error.DecodeErrorKind.TheVariants.{OutOfMemory}
use Rattle.oer_spec.specs.Encoding.{IsEncoding}
use Rattle.oer_spec.specs.Mode.{mode_of}
use Rattle.oer_spec.specs.Tree.{Tree}
use Rattle.oer_read.specs.State.{State}

-- an error that says that memory was refused
abbrev pub IsForMemory : DecodeError → Type 0
IsForMemory e = e.kind ≡ OutOfMemory

-- the decoder's own error for want of memory, in the mode that it reads in
abbrev pub WantsMemoryIn : Codec → DecodeError → Type 0
WantsMemoryIn codec e = (e.kind ≡ OutOfMemory) × (e.codec ≡ codec)

abbrev pub WantsMemory : State → DecodeError → Type 0
WantsMemory s e = WantsMemoryIn s.codec e

-- b is a rear part of a
pub record IsRear (a b : Octets) : Type 0 where
  pub front : Octets
  pub split : a ≡ front ++ b

-- the octets o begin what is left, and encode the tree within the levels left
pub record Fronts (s : State) (o : Octets) (t : Tree) : Type 0 where
  pub rest : Octets
  pub split : s.input ≡ o ++ rest
  pub encoding : IsEncoding (mode_of s.codec) s.levels o t

module _ {A : Type 0} (tree : A → Tree) (IsValue : A → Type 0) where
  -- The value was read from the front, as the only encoding of a value that begins it, and nothing else changed.
  pub record Reads (old : State) (v : A) (new : State) : Type 0 where
    pub taken : Octets
    pub split : old.input ≡ taken ++ new.input
    pub encoding : IsEncoding (mode_of old.codec) old.levels taken (tree v)
    pub value : IsValue v
    pub only : (w : A) (o : Octets) → IsValue w → Fronts old o (tree w) → o ≡ taken
    pub rest : new ≡ record old { input = new.input }

  -- no front of what is left is an encoding of a value
  abbrev pub NoEncoding : State → Type 0
  NoEncoding old = (w : A) (o : Octets) → IsValue w → Fronts old o (tree w) → ⊥

  -- Nothing changed, the error names the mode read in, and unless memory was refused no encoding of a value begins what is left.
  pub record RefusedBy (e : DecodeError) (old new : State) : Type 0 where
    pub same : new ≡ old
    pub mode : e.codec ≡ old.codec
    pub none : (IsForMemory e → ⊥) → NoEncoding old

  -- The law of reading: a value was read, or nothing changed and, unless for memory, no encoding of a value begins what is left.
  pub record Decodes (old : State) (result : Result A DecodeError) (new : State) : Type 0 where
    pub read : IfOk result (λ v. Reads old v new)
    pub refused : IfErr result (λ e. RefusedBy e old new)

-- What a type promises of reading: the law, and what it says of its answers beside it.
pub record Promised {A : Type 0} (tree : A → Tree) (IsValue : A → Type 0) (Answered : State → Result A DecodeError → State → Type 0) (old : State) (result : Result A DecodeError) (new : State) : Type 0 where
  pub law : Decodes tree IsValue old result new
  pub answered : Answered old result new
