-- What a choice asks of its closure, and what it does with what the closure wrote.
use Rattle.std.specs.Prelude.{◌≡◌, ◌^◌, ◌<◌, Bool, false, cond, ◌++◌, ◌⊎◌, length, Result, Ok, Err}
use Rattle.std.specs.Borrow.{MutBor}
use Rattle.std.specs.Fn.{Once, FnOnceReturnsAtMut}
use Rattle.asn1_core.specs.Octets.{Octets}
use Rattle.asn1_core.specs.declared.error.EncodeError.{EncodeError}
use Rattle.asn1_core.specs.declared.tag.Tag.{Tag}
use Rattle.oer_spec.specs.Lengths.{behind_length, tag_octets}
use Rattle.oer_spec.specs.Tree.{Tree}
use Rattle.oer_write.specs.Written.{Written, append, Keeps, Encodes, Refused, WantsMemory}

-- how a closure that answers a tag may leave an encoder that it was lent
abbrev pub Picks : Type 1
Picks = Written → Result Tag EncodeError → Written → Type 0

-- the promise of such a closure
abbrev pub PromisePick : {F : Type 0} → Once F (MutBor Written × Unit {0}) (Result Tag EncodeError × (MutBor Written × Unit {0})) → F → Picks
PromisePick g f e r e' = FnOnceReturnsAtMut g f e r e'

-- whatever encoder with no scope open the closure is lent, the octets before and the open scopes stay, and it answers
-- the tag
pub record PicksTag (picks : Picks) (tag : Tag) : Type 0 where
  pub keeps : (e e' : Written) (r : Result Tag EncodeError) → e.frame.is_open ≡ false → picks e r e' → Keeps e e'
  pub answers : (e e' : Written) (t : Tag) → e.frame.is_open ≡ false → picks e (Ok t) e' → t ≡ tag

-- the closure wrote this in some encoder with no scope open
pub record ContentDone (picks : Picks) (content : Octets) : Type 0 where
  pub entered : Written
  pub left : Written
  pub answer : Tag
  pub opened : entered.frame.is_open ≡ false
  pub ran : picks entered (Ok answer) left
  pub wrote : left.octets ≡ entered.octets ++ content

-- what the closure wrote stands behind the octets of before
pub record Appended (picks : Picks) (old new : Octets) : Type 0 where
  pub content : Octets
  pub done : ContentDone picks content
  pub appended : new ≡ old ++ content

-- and so it does, behind its length
pub record AppendedOpen (picks : Picks) (old new : Octets) : Type 0 where
  pub content : Octets
  pub done : ContentDone picks content
  pub short : length content < 2 ^ 64
  pub appended : new ≡ old ++ behind_length content

-- the closure refused
pub record ContentRefused (picks : Picks) (x : EncodeError) : Type 0 where
  pub entered : Written
  pub left : Written
  pub opened : entered.frame.is_open ≡ false
  pub ran : picks entered (Err x) left

-- a root alternative's octets as they are, those of an addition behind their length (X.696, 20.2 and 20.3)
abbrev pub alternative_octets : Bool → Octets → Octets
alternative_octets is_root content = cond is_root content (behind_length content)

-- a choice was written: a tag, and the alternative
pub record ChoiceDone (picks : Picks) (is_root : Bool) (tag : Tag) (old new : Written) : Type 0 where
  pub content : Octets
  pub done : ContentDone picks content
  pub short : is_root ≡ false → length content < 2 ^ 64
  pub appended : new ≡ append (tag_octets tag ++ alternative_octets is_root content) old

-- the choice refuses what its closure refused, or for want of memory
pub record ChoiceBroken (picks : Picks) (x : EncodeError) (old new : Written) : Type 0 where
  pub keeps : Keeps old new
  pub reason : WantsMemory x ⊎ ContentRefused picks x

-- what the closure of a choice promises: it writes the alternative's tree, and answers the tag
abbrev pub WritesAlternative : Tree → Tag → Written → Result Tag EncodeError → Written → Type 0
WritesAlternative t tag e (Ok u) e' = (u ≡ tag) × Encodes t e e'
WritesAlternative t tag e (Err x) e' = Refused t x e e'

-- whatever encoder with no scope open the closure is lent, it does so
abbrev pub IsKnownToPick : Picks → Tag → Tree → Type 0
IsKnownToPick picks tag t = (e e' : Written) (r : Result Tag EncodeError) → e.frame.is_open ≡ false → picks e r e' → WritesAlternative t tag e r e'
