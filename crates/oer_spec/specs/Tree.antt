-- The tree of a value: what the value, its type and the constraints say, without the type.
use Rattle.std.specs.Prelude.{ℕ, Bool, true, false, List, ℤ, Option, Some, None}
use Rattle.asn1_core.specs.Bounds.{Range, Size}
use Rattle.asn1_core.specs.Octets.{Octets}
use Rattle.asn1_core.specs.Texts.{Rule}
use Rattle.asn1_core.specs.declared.tag.Tag.{Tag}

-- the octets of a text; a time without a text has its civil fields in their place
pub data Content : Type 0 where
  InOctets : Octets → Content
  Civil : List ℕ → Content

-- a value without parts
pub data Leaf : Type 0 where
  Boolean : Bool → Leaf
  Null : Leaf
  Enum : ℤ → Leaf
  Int : Range → ℤ → Leaf
  Bits : Size → List Bool → Leaf
  -- bits whose last one, if there is one, is set: 0 bits at the end carry no meaning
  Named : Size → List Bool → Leaf
  Text : Rule → Size → Content → Leaf

-- Boxes and explicit prefixes are no nodes.
mutual
  pub data Tree : Type 0 where
    Primitive : Leaf → Tree
    -- SEQUENCE, SET, addition group: whether a set, whether extensible, root rows, additions
    Struct : Bool → Bool → Rows → Rows → Tree
    -- SEQUENCE OF, SET OF: whether ordered, elements
    ListOf : Bool → Trees → Tree
    -- CHOICE: root tags, addition tags, the tag and the alternative
    Choice : List Tag → List Tag → Tag → Tree → Tree

  -- a component's tag, and its tree where it is present; a default row also has the default's tree
  pub data Rows : Type 0 where
    NoRows : Rows
    Required : Tag → Tree → Rows → Rows
    Optional : Tag → Slot → Rows → Rows
    Default : Tag → Tree → Slot → Rows → Rows

  pub data Slot : Type 0 where
    Absent : Slot
    Present : Tree → Slot

  pub data Trees : Type 0 where
    NoTrees : Trees
    More : Tree → Trees → Trees

-- the slot of a component that a value may have
abbrev pub slot_of : {A : Type 0} → (A → Tree) → Option A → Slot
slot_of tree None = Absent
slot_of tree (Some v) = Present (tree v)

-- the slot of a component that is left out where that is so
abbrev pub present_unless : Bool → Tree → Slot
present_unless true t = Absent
present_unless false t = Present t
