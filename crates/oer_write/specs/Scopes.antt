-- What a scope asks of its closure, and what it does with what the closure did.
use Rattle.std.specs.Prelude.{◌≡◌, ◌^◌, ◌<◌, Bool, true, false, cond, ◌||◌, List, [], ◌∷◌, ◌++◌, ◌⊎◌, length, map, Result, Ok, Err}
use Rattle.std.specs.Borrow.{MutBor}
use Rattle.std.specs.Fn.{Once, FnOnceReturnsAtMut}
use Rattle.asn1_core.specs.Octets.{Octets, pack}
use Rattle.asn1_core.specs.declared.error.EncodeError.{EncodeError}
use Rattle.asn1_core.specs.Tags.{AreDistinct}
use Rattle.asn1_core.specs.declared.tag.Tag.{Tag}
use Rattle.oer_spec.specs.Lengths.{counted_bits}
use Rattle.oer_spec.specs.Orders.{Reorders}
use Rattle.oer_spec.specs.Places.{Item, extension_bit, presence, bodies, by_tag}
use Rattle.oer_write.specs.Written.{Written, WriteFrame, fresh, append, Keeps, WantsMemory}

-- how a closure may leave an encoder that it was lent
abbrev pub Runs : Type 1
Runs = Written → Result (Unit {0}) EncodeError → Written → Type 0

-- the promise of a closure
abbrev pub Promise : {F : Type 0} → Once F (MutBor Written × Unit {0}) (Result (Unit {0}) EncodeError × (MutBor Written × Unit {0})) → F → Runs
Promise g f e r e' = FnOnceReturnsAtMut g f e r e'

-- a new scope: what is lent to a closure
abbrev pub IsNew : Bool → Bool → Written → Type 0
IsNew is_set extensible e = e.frame ≡ fresh is_set extensible (length e.octets)

-- whatever encoder with such a new scope the closure is lent, the octets before and the open scopes stay
abbrev pub IsOrderly : Bool → Bool → Runs → Type 0
IsOrderly is_set extensible runs = (e e' : Written) (r : Result (Unit {0}) EncodeError) → IsNew is_set extensible e → runs e r e' → Keeps e e'

abbrev pub any_true : List Bool → Bool
any_true [] = false
any_true (b ∷ bs) = b || any_true bs

-- the bitmap and the open types, where some addition is present (X.696, 16.4 and 16.5)
abbrev pub extension_of : List Bool → Octets → Octets
extension_of bitmap opens = cond (any_true bitmap) (counted_bits bitmap ++ opens) []

-- the octets of a sequence whose closure left the frame, and wrote the root components
abbrev pub sequence_octets : WriteFrame → Octets → Octets
sequence_octets f components = pack (extension_bit f.extensible (any_true f.bitmap) ++ f.presence) ++ (components ++ extension_of f.bitmap f.opens)

-- the octets of a set whose closure left the frame: components and presence bits in tag order
abbrev pub set_octets : WriteFrame → Octets
set_octets f = pack (extension_bit f.extensible (any_true f.bitmap) ++ presence (by_tag f.components)) ++ (bodies (by_tag f.components) ++ extension_of f.bitmap f.opens)

abbrev pub item_tags : List Item → List Tag
item_tags is = map (λ i. i.tag) is

-- Components of distinct tags give the same octets in whatever order they are handed in.
abbrev pub IsSameInAnyOrder : Type 0
IsSameInAnyOrder = (f : WriteFrame) (handed : List Item) → AreDistinct (item_tags f.components) → Reorders f.components handed → set_octets (record f { components = handed }) ≡ set_octets f

-- a closure ran in a new scope of some encoder, wrote the components there, and left the frame
pub record RanInScope (runs : Runs) (is_set extensible : Bool) (frame : WriteFrame) (components : Octets) : Type 0 where
  pub entered : Written
  pub left : Written
  pub opened : IsNew is_set extensible entered
  pub ran : runs entered (Ok tt) left
  pub closed : left.frame ≡ frame
  pub wrote : left.octets ≡ entered.octets ++ components
  pub counted : length frame.bitmap < 2 ^ 64

-- a sequence was written
pub record Closed (runs : Runs) (extensible : Bool) (old new : Written) : Type 0 where
  pub frame : WriteFrame
  pub components : Octets
  pub ran : RanInScope runs false extensible frame components
  pub appended : new ≡ append (sequence_octets frame components) old

-- a set was written
pub record SetClosed (runs : Runs) (extensible : Bool) (old new : Written) : Type 0 where
  pub frame : WriteFrame
  pub components : Octets
  pub ran : RanInScope runs true extensible frame components
  pub appended : new ≡ append (set_octets frame) old

-- the closure refused
pub record Stopped (runs : Runs) (is_set extensible : Bool) (x : EncodeError) : Type 0 where
  pub entered : Written
  pub left : Written
  pub opened : IsNew is_set extensible entered
  pub ran : runs entered (Err x) left

-- the scope refuses what its closure refused, or for want of memory
pub record Broken (runs : Runs) (is_set extensible : Bool) (x : EncodeError) (old new : Written) : Type 0 where
  pub keeps : Keeps old new
  pub reason : WantsMemory x ⊎ Stopped runs is_set extensible x
