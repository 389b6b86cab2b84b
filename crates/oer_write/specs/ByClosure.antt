-- A component that a closure writes, and what becomes of it.
use Rattle.std.specs.Prelude.{◌≡◌, false, [], ◌∷◌, ◌++◌, ◌⊎◌, Result, Err}
use Rattle.asn1_core.specs.Octets.{Octets}
use Rattle.asn1_core.specs.declared.error.EncodeError.{EncodeError}
use Rattle.asn1_core.specs.declared.tag.Tag.{Tag}
use Rattle.oer_spec.specs.Places.{needed}
use Rattle.oer_spec.specs.Tree.{Tree}
use Rattle.oer_write.specs.Lists.{WroteElement}
use Rattle.oer_write.specs.Scopes.{Runs}
use Rattle.oer_write.specs.Written.{Written, append, Keeps, WritesTree, WantsMemory}

-- what the closure wrote stands behind the octets of before
pub record AppendedBy (runs : Runs) (old new : Octets) : Type 0 where
  pub content : Octets
  pub wrote : WroteElement runs content
  pub appended : new ≡ old ++ content

-- the closure refused, in some encoder with no scope open
pub record RefusedInside (runs : Runs) (x : EncodeError) : Type 0 where
  pub entered : Written
  pub left : Written
  pub opened : entered.frame.is_open ≡ false
  pub ran : runs entered (Err x) left

-- In a sequence: what the closure wrote is appended, and nothing recorded.
pub record PutBy (runs : Runs) (old new : Written) : Type 0 where
  pub content : Octets
  pub wrote : WroteElement runs content
  pub appended : new ≡ append content old

-- In a set: what the closure wrote is kept apart, under the tag.
pub record KeptBy (runs : Runs) (tag : Tag) (old new : Written) : Type 0 where
  pub content : Octets
  pub wrote : WroteElement runs content
  pub kept : new ≡ record old { frame = record old.frame { components = old.frame.components ++ (needed tag content ∷ []) } }

-- The component refuses what its closure refused, or for want of memory.
pub record ComponentBroken (runs : Runs) (x : EncodeError) (old new : Written) : Type 0 where
  pub keeps : Keeps old new
  pub reason : WantsMemory x ⊎ RefusedInside runs x

-- whatever encoder with no scope open the closure is lent, it writes this tree
abbrev pub IsKnownToWriteTree : Runs → Tree → Type 0
IsKnownToWriteTree runs t = (e e' : Written) (r : Result (Unit {0}) EncodeError) → e.frame.is_open ≡ false → runs e r e' → WritesTree t e r e'
