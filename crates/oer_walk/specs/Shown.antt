-- What the parts of a walk are, where an encoding is in front: encodings of what is in its tree, each in its place.
use Rattle.std.specs.Prelude.{◌≡◌, ℕ, ◌+◌, None, Some, List, [], ◌∷◌, ◌++◌, take, ◌⊎◌, ⊤, slice_range}
use Rattle.asn1_core.specs.Octets.{Octets}
use Rattle.oer_spec.specs.Encoding.{IsTree, IsEncoding, row_tags}
use Rattle.oer_spec.specs.Lengths.{IsBehindLength}
use Rattle.oer_spec.specs.Mode.{Lenient}
use Rattle.oer_spec.specs.Tree.{Tree, Primitive, Struct, ListOf, Choice as ChoiceTree, Rows, NoRows, Required, Optional, Default, Slot, Absent, Present, Trees, NoTrees, More}
use Rattle.oer_walk.specs.Described.{Describes, AreInTurn}
use Rattle.oer_walk.specs.Forms.{leaf_form}
use Rattle.oer_walk.specs.Tables.{nothing, form_of, component_of, alternative_at, alternative_of}
use Rattle.oer_walk.specs.declared.nodes.Node.{Node}
use Rattle.oer_walk.specs.declared.table.Form.{Form}
use Rattle.oer_walk.specs.declared.table.Form.TheVariants.{Counted, List as ListForm, Sequence, Choice}
use Rattle.oer_walk.specs.declared.table.Parts.{Parts}
use Rattle.oer_walk.specs.declared.walks.Walked.{Walked}

-- ---- which tree stands at a part's place

abbrev pub IsNamed : Node → ℕ → ℕ → Type 0
IsNamed x name type_number = (x.name ≡ name) × (x.type_number ≡ type_number)

abbrev pub IsIn : Slot → Tree → Type 0
IsIn Absent v = ⊥
IsIn (Present t) v = t ≡ v

-- v is the component that x names by the table, of those of the root at these places; a default may be spelled out
abbrev pub IsRoot : List ℕ → Parts → List ℕ → Rows → Node → Tree → Type 0
IsRoot ws ps [] r x v = ⊥
IsRoot ws ps (i ∷ ns) NoRows x v = ⊥
IsRoot ws ps (i ∷ ns) (Required g t r) x v = (IsNamed x (component_of ws ps i).name (component_of ws ps i).type_number × (t ≡ v)) ⊎ IsRoot ws ps ns r x v
IsRoot ws ps (i ∷ ns) (Optional g s r) x v = (IsNamed x (component_of ws ps i).name (component_of ws ps i).type_number × IsIn s v) ⊎ IsRoot ws ps ns r x v
IsRoot ws ps (i ∷ ns) (Default g u s r) x v = (IsNamed x (component_of ws ps i).name (component_of ws ps i).type_number × (IsIn s v ⊎ (u ≡ v))) ⊎ IsRoot ws ps ns r x v

-- the same of additions, from the one with that number on
abbrev pub IsAddition : List ℕ → Parts → ℕ → Rows → Node → Tree → Type 0
IsAddition ws ps i NoRows x v = ⊥
IsAddition ws ps i (Required g t r) x v = (IsNamed x (component_of ws ps (ps.roots + i)).name (component_of ws ps (ps.roots + i)).type_number × (t ≡ v)) ⊎ IsAddition ws ps (i + 1) r x v
IsAddition ws ps i (Optional g s r) x v = (IsNamed x (component_of ws ps (ps.roots + i)).name (component_of ws ps (ps.roots + i)).type_number × IsIn s v) ⊎ IsAddition ws ps (i + 1) r x v
IsAddition ws ps i (Default g u s r) x v = (IsNamed x (component_of ws ps (ps.roots + i)).name (component_of ws ps (ps.roots + i)).type_number × (IsIn s v ⊎ (u ≡ v))) ⊎ IsAddition ws ps (i + 1) r x v

abbrev pub IsElement : Trees → Tree → Type 0
IsElement NoTrees v = ⊥
IsElement (More t ts) v = (t ≡ v) ⊎ IsElement ts v

-- v is the component, the element or the alternative of a tree, of the type with that number, whose name and type by the table x has
abbrev pub IsPartOf : List ℕ → ℕ → Tree → Node → Tree → Type 0
IsPartOf ws type_number (Primitive l) x v = ⊥
IsPartOf ws type_number (Struct set extensible r a) x v =
    (ps : Parts) × (form_of ws type_number ≡ Sequence ps) × (((ns : List ℕ) × AreInTurn set ps.roots (row_tags r) ns × IsRoot ws ps ns r x v) ⊎ IsAddition ws ps 0 a x v)
IsPartOf ws type_number (ListOf ordered ts) x v = (form_of ws type_number ≡ ListForm x.type_number) × (x.name ≡ nothing) × IsElement ts v
IsPartOf ws type_number (ChoiceTree roots additions g t) x v =
    (ps : Parts) × (i : ℕ) × (form_of ws type_number ≡ Choice ps) × (alternative_of ws ps g ≡ Some i) × IsNamed x (alternative_at ws ps i).name (alternative_at ws ps i).type_number × (t ≡ v)

-- ---- the nodes of a tree

-- The part's octets are these, or in an open type (X.696, 30) these behind a length. That counts also what lenient reading passes over,
-- which is behind the part.
abbrev pub LiesAt : Octets → Node → Octets → Type 0
LiesAt input x o =
    (slice_range input x.start x.end ≡ o) ⊎ ((l left : Octets) × (slice_range input x.start x.end ≡ l ++ o) × IsBehindLength Lenient (l ++ (o ++ left)) (o ++ left))

-- The content of a leaf of that form: all its octets, or those behind their length.
abbrev pub IsContentBy : Form → Octets → Octets → Type 0
IsContentBy Counted o content = IsBehindLength Lenient o content
IsContentBy _ o content = content ≡ o

abbrev pub IsContent : Tree → Octets → Octets → Type 0
IsContent (Primitive l) o content = IsContentBy (leaf_form l) o content
IsContent (Struct set extensible r a) o content = ⊤
IsContent (ListOf ordered ts) o content = ⊤
IsContent (ChoiceTree roots additions g t) o content = ⊤

-- The octets of the node x are an encoding of a tree of its type.
pub record IsEncodedAt (ws : List ℕ) (input : Octets) (t : Tree) (x : Node) : Type 0 where
  pub described : Describes ws x.type_number t
  pub levels : ℕ
  pub octets : Octets
  pub spelled : IsEncoding Lenient levels octets t
  pub place : LiesAt input x octets
  pub content : IsContent t octets (slice_range input x.content x.end)

mutual
  -- Nodes of a tree of that type: the tree's own, whose octets are an encoding of it, and behind it those of its parts.
  pub data AreNodes (ws : List ℕ) (input : Octets) : ℕ → Tree → List Node → Type 0 where
    Whole : (m : ℕ) (t : Tree) (x : Node) (inner : List Node) → x.type_number ≡ m → IsEncodedAt ws input t x → AreInside ws input m t inner → AreNodes ws input m t (x ∷ inner)

  -- Nodes inside a tree: those of one part behind those of another, or of an addition that the table doesn't have.
  pub data AreInside (ws : List ℕ) (input : Octets) : ℕ → Tree → List Node → Type 0 where
    NoPart : (m : ℕ) (t : Tree) → AreInside ws input m t []
    Part : (m : ℕ) (t v : Tree) (x : Node) (inner others : List Node) → IsPartOf ws m t x v → AreNodes ws input x.type_number v (x ∷ inner) → AreInside ws input m t others → AreInside ws input m t ((x ∷ inner) ++ others)
    Unknown : (m : ℕ) (t : Tree) (x : Node) (others : List Node) → x.type_number ≡ nothing → AreInside ws input m t others → AreInside ws input m t (x ∷ others)

-- Where an encoding of a tree of the type is in front, and the walk isn't refused and is shown whole, its nodes are those of the tree.
abbrev pub ShowsEncodings : List ℕ → ℕ → ℕ → Octets → Walked → List Node → Type 0
ShowsEncodings ws type_number levels input w nodes =
    (t : Tree) (o rest : Octets) → input ≡ o ++ rest → IsTree t → Describes ws type_number t → IsEncoding Lenient levels o t → w.refusal ≡ None → w.shown ≡ w.nodes → AreNodes ws input type_number t (take w.nodes nodes)
