-- Which trees are of a table's type, and that a walk takes their encodings.
use Rattle.std.specs.Prelude.{◌≡◌, ℕ, Bool, zero, suc, ◌+◌, ◌^◌, ◌<◌, ◌≤◌, true, false, List, [], ◌∷◌, map, nat_lt, Some, None, ◌⊎◌, ⊤, ◌++◌, length}
use Rattle.asn1_core.specs.Octets.{Octets}
use Rattle.asn1_core.specs.Tags.{holds, by_tag}
use Rattle.asn1_core.specs.declared.error.DecodeErrorKind.TheVariants.{TooManyEmptyElements}
use Rattle.asn1_core.specs.declared.tag.Tag.{Tag}
use Rattle.oer_spec.specs.Encoding.{IsTree, IsEncoding, row_tags}
use Rattle.oer_spec.specs.Mode.{Lenient}
use Rattle.oer_spec.specs.Tree.{Tree, Primitive, Struct, ListOf, Choice as ChoiceTree, Rows, NoRows, Required, Optional, Default, Slot, Absent, Present, Trees, NoTrees, More}
use Rattle.oer_walk.specs.Forms.{leaf_form}
use Rattle.oer_walk.specs.Tables.{form_of, component_of, alternative_at, alternative_of}
use Rattle.oer_walk.specs.Walks.{most_of}
use Rattle.oer_walk.specs.declared.table.Form.TheVariants.{List as ListForm, Sequence, Choice}
use Rattle.oer_walk.specs.declared.table.Parts.{Parts}
use Rattle.oer_walk.specs.declared.walks.Walked.{Walked}

-- k numbers from i on
abbrev pub from_on : ℕ → ℕ → List ℕ
from_on i zero = []
from_on i (suc k) = i ∷ from_on (i + 1) k

-- tags, each with a place
abbrev pub with_places : List Tag → List ℕ → List (Tag × ℕ)
with_places (g ∷ gs) (i ∷ ns) = (g, i) ∷ with_places gs ns
with_places _ _ = []

-- The places in a table of root components with these tags, k of them: of a sequence they stand in their own order, of a set in that of
-- their tags.
abbrev pub AreInTurn : Bool → ℕ → List Tag → List ℕ → Type 0
AreInTurn false k gs ns = ns ≡ from_on 0 k
AreInTurn true k gs ns = map (λ (x : Tag × ℕ). x.1) (by_tag (λ (x : Tag × ℕ). x.0) (with_places gs ns)) ≡ from_on 0 k

-- The tree is one of the type with that number: each of its components is the table's, those of the root at these places.
unfoldable mutual
  pub Describes : List ℕ → ℕ → Tree → Type 0
  Describes ws n (Primitive l) = form_of ws n ≡ leaf_form l
  Describes ws n (Struct set extensible r a) =
      (ps : Parts) × (form_of ws n ≡ Sequence ps) × (ps.is_extensible ≡ extensible) × (ns : List ℕ) × AreInTurn set ps.roots (row_tags r) ns × DescribesRoots ws ps ns r × DescribesAdditions ws ps 0 ps.additions a
  Describes ws n (ListOf ordered ts) = (element : ℕ) × (form_of ws n ≡ ListForm element) × DescribesTrees ws element ts
  Describes ws n (ChoiceTree roots additions g t) =
      (ps : Parts) × (i : ℕ) × (form_of ws n ≡ Choice ps) × (g.value < 2 ^ 32) × (alternative_of ws ps g ≡ Some i) × (nat_lt i ps.roots ≡ holds roots g) × Describes ws (alternative_at ws ps i).type_number t

  -- components of the root, at these places
  pub DescribesRoots : List ℕ → Parts → List ℕ → Rows → Type 0
  DescribesRoots ws ps [] NoRows = ⊤
  DescribesRoots ws ps (i ∷ ns) NoRows = ⊥
  DescribesRoots ws ps [] (Required g t r) = ⊥
  DescribesRoots ws ps (i ∷ ns) (Required g t r) = ((component_of ws ps i).may_be_absent ≡ false) × Describes ws (component_of ws ps i).type_number t × DescribesRoots ws ps ns r
  DescribesRoots ws ps [] (Optional g s r) = ⊥
  DescribesRoots ws ps (i ∷ ns) (Optional g s r) = ((component_of ws ps i).may_be_absent ≡ true) × DescribesSlot ws (component_of ws ps i).type_number s × DescribesRoots ws ps ns r
  DescribesRoots ws ps [] (Default g u s r) = ⊥
  DescribesRoots ws ps (i ∷ ns) (Default g u s r) =
      ((component_of ws ps i).may_be_absent ≡ true) × Describes ws (component_of ws ps i).type_number u × DescribesSlot ws (component_of ws ps i).type_number s × DescribesRoots ws ps ns r

  -- k additions
  pub DescribesAdditions : List ℕ → Parts → ℕ → ℕ → Rows → Type 0
  DescribesAdditions ws ps i k NoRows = k ≡ 0
  DescribesAdditions ws ps i zero (Required g t r) = ⊥
  DescribesAdditions ws ps i (suc k) (Required g t r) = Describes ws (component_of ws ps (ps.roots + i)).type_number t × DescribesAdditions ws ps (i + 1) k r
  DescribesAdditions ws ps i zero (Optional g s r) = ⊥
  DescribesAdditions ws ps i (suc k) (Optional g s r) = DescribesSlot ws (component_of ws ps (ps.roots + i)).type_number s × DescribesAdditions ws ps (i + 1) k r
  DescribesAdditions ws ps i zero (Default g u s r) = ⊥
  DescribesAdditions ws ps i (suc k) (Default g u s r) =
      Describes ws (component_of ws ps (ps.roots + i)).type_number u × DescribesSlot ws (component_of ws ps (ps.roots + i)).type_number s × DescribesAdditions ws ps (i + 1) k r

  pub DescribesSlot : List ℕ → ℕ → Slot → Type 0
  DescribesSlot ws n Absent = ⊤
  DescribesSlot ws n (Present t) = Describes ws n t

  pub DescribesTrees : List ℕ → ℕ → Trees → Type 0
  DescribesTrees ws n NoTrees = ⊤
  DescribesTrees ws n (More t ts) = Describes ws n t × DescribesTrees ws n ts

-- a walk took so many octets, or came to as many parts as there may be at most
abbrev pub Took : ℕ → ℕ → Walked → Type 0
Took most k w = ((w.refusal ≡ None) × (w.consumed ≡ k)) ⊎ ((w.refusal ≡ Some TooManyEmptyElements) × (most ≤ w.nodes))

-- Where an encoding of a tree of the type is in front, as lenient reading takes it, the walk takes exactly that, or there were too many parts.
abbrev pub TakesEncodings : List ℕ → ℕ → ℕ → Octets → Walked → Type 0
TakesEncodings ws type_number levels input w = (t : Tree) (o rest : Octets) → input ≡ o ++ rest → IsTree t → Describes ws type_number t → IsEncoding Lenient levels o t → Took (most_of (length input)) (length o) w
