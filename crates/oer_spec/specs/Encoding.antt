-- Trees and their octets.
use Rattle.std.specs.Prelude.{◌≡◌, ℕ, suc, ◌+◌, ◌-◌, ◌<◌, ◌≤◌, max, Bool, true, false, cond, not, ◌&&◌, ◌||◌, List, [], ◌∷◌, length, nat_lt, ◌⊎◌, ⊤}
use Rattle.asn1_core.specs.Octets.{Octets, usize_max, octets_for}
use Rattle.asn1_core.specs.Tags.{holds, same_tag}
use Rattle.asn1_core.specs.Tags.{AreDistinct, holds, times_held}
use Rattle.asn1_core.specs.declared.tag.Tag.{Tag}
use Rattle.oer_spec.specs.Leaves.{Failure, TooManyEmpty, TooLong, leaf_octets, leaf_fails, IsLeafEncoding, IsLeaf}
use Rattle.oer_spec.specs.Mode.{Mode, InLenient}
use Rattle.oer_spec.specs.Places.{Item, needed, present, absent, SpellsStruct, SpellsList, SpellsChoice, struct_octets, list_octets, choice_octets, any_bit}
use Rattle.oer_spec.specs.Same.{SameSlot}
use Rattle.oer_spec.specs.Tree.{Tree, Primitive, Struct, ListOf, Choice, Rows, NoRows, Required, Optional, Default, Slot, Absent, Present, Trees, NoTrees, More}

abbrev pub row_tags : Rows → List Tag
row_tags NoRows = []
row_tags (Required g t r) = g ∷ row_tags r
row_tags (Optional g s r) = g ∷ row_tags r
row_tags (Default g u s r) = g ∷ row_tags r

-- What every tree keeps: a default's slot never holds a tree that is same as the default, only an extensible struct has
-- additions, a set's root tags are distinct, a choice's tag stands once in exactly one of its lists.
unfoldable mutual
  pub IsTree : Tree → Type 0
  IsTree (Primitive l) = IsLeaf l
  IsTree (Struct set extensible r a) = AreRows r × AreRows a × (extensible ≡ false → a ≡ NoRows) × (set ≡ true → AreDistinct (row_tags r))
  IsTree (ListOf ordered ts) = AreTrees ts
  IsTree (Choice roots additions g t) = IsTree t × (times_held roots g + times_held additions g ≡ 1)

  pub AreRows : Rows → Type 0
  AreRows NoRows = ⊤
  AreRows (Required g t r) = IsTree t × AreRows r
  AreRows (Optional g s r) = AreSlot s × AreRows r
  AreRows (Default g u s r) = IsTree u × AreSlot s × (SameSlot s (Present u) → ⊥) × AreRows r

  pub AreSlot : Slot → Type 0
  AreSlot Absent = ⊤
  AreSlot (Present t) = IsTree t

  pub AreTrees : Trees → Type 0
  AreTrees NoTrees = ⊤
  AreTrees (More t ts) = IsTree t × AreTrees ts

-- The canonical octets: what is written.
unfoldable mutual
  pub canonical_octets : Tree → Octets
  canonical_octets (Primitive l) = leaf_octets l
  canonical_octets (Struct set extensible r a) = struct_octets set extensible (canonical_items r) (canonical_items a)
  canonical_octets (ListOf ordered ts) = list_octets ordered (canonical_elements ts)
  canonical_octets (Choice roots additions g t) = choice_octets roots g (canonical_octets t)

  pub canonical_items : Rows → List Item
  canonical_items NoRows = []
  canonical_items (Required g t r) = needed g (canonical_octets t) ∷ canonical_items r
  canonical_items (Optional g s r) = canonical_item g s ∷ canonical_items r
  canonical_items (Default g u s r) = canonical_item g s ∷ canonical_items r

  pub canonical_item : Tag → Slot → Item
  canonical_item g Absent = absent g
  canonical_item g (Present t) = present g (canonical_octets t)

  pub canonical_elements : Trees → List Octets
  canonical_elements NoTrees = []
  canonical_elements (More t ts) = canonical_octets t ∷ canonical_elements ts

-- How deep the present parts are nested.
unfoldable mutual
  pub levels : Tree → ℕ
  levels (Primitive l) = 0
  levels (Struct set extensible r a) = suc (max (levels_rows r) (levels_rows a))
  levels (ListOf ordered ts) = suc (levels_trees ts)
  levels (Choice roots additions g t) = suc (levels t)

  pub levels_rows : Rows → ℕ
  levels_rows NoRows = 0
  levels_rows (Required g t r) = max (levels t) (levels_rows r)
  levels_rows (Optional g s r) = max (levels_slot s) (levels_rows r)
  levels_rows (Default g u s r) = max (levels_slot s) (levels_rows r)

  pub levels_slot : Slot → ℕ
  levels_slot Absent = 0
  levels_slot (Present t) = levels t

  pub levels_trees : Trees → ℕ
  levels_trees NoTrees = 0
  levels_trees (More t ts) = max (levels t) (levels_trees ts)

-- ---- what fails

-- how many have no octets
abbrev pub empties : List Octets → ℕ
empties [] = 0
empties ([] ∷ ps) = suc (empties ps)
empties ((x ∷ o) ∷ ps) = empties ps

-- a list's own faults: too many elements without octets, and too long a count
abbrev pub list_fails : List Octets → Failure → Bool
list_fails own TooManyEmpty = nat_lt 65536 (empties own)
list_fails own TooLong = nat_lt usize_max (length own)
list_fails own _ = false

-- an open content, and a bitmap, past usize::MAX
abbrev pub open_fails : Octets → Failure → Bool
open_fails f TooLong = nat_lt usize_max (length f)
open_fails f _ = false

abbrev pub opens_fail : List Item → Failure → Bool
opens_fail [] k = false
opens_fail (i ∷ is) k = (i.bit && open_fails i.octets k) || opens_fail is k

abbrev pub bitmap_fails : List Item → Failure → Bool
bitmap_fails is TooLong = any_bit is && nat_lt usize_max (1 + octets_for (length is))
bitmap_fails is _ = false

-- Whether the tree can't be written, by that kind of failure.
unfoldable mutual
  pub fails : Tree → Failure → Bool
  fails (Primitive l) k = leaf_fails l k
  fails (Struct set extensible r a) k = rows_fail r k || (rows_fail a k || (opens_fail (canonical_items a) k || bitmap_fails (canonical_items a) k))
  fails (ListOf ordered ts) k = trees_fail ts k || list_fails (canonical_elements ts) k
  fails (Choice roots additions g t) k = fails t k || (not (holds roots g) && open_fails (canonical_octets t) k)

  pub rows_fail : Rows → Failure → Bool
  rows_fail NoRows k = false
  rows_fail (Required g t r) k = fails t k || rows_fail r k
  rows_fail (Optional g s r) k = slot_fails s k || rows_fail r k
  rows_fail (Default g u s r) k = slot_fails s k || rows_fail r k

  pub slot_fails : Slot → Failure → Bool
  slot_fails Absent k = false
  slot_fails (Present t) k = fails t k

  pub trees_fail : Trees → Failure → Bool
  trees_fail NoTrees k = false
  trees_fail (More t ts) k = fails t k || trees_fail ts k

-- The tree can be written.
abbrev pub IsEncodable : Tree → Type 0
IsEncodable t = (k : Failure) → fails t k ≡ false

-- ---- The octets o are an encoding of the tree in that mode, within d levels: each struct, list and choice takes one.

unfoldable mutual
  pub IsEncoding : Mode → ℕ → Octets → Tree → Type 0
  IsEncoding m d o (Primitive l) = IsLeafEncoding m o l
  IsEncoding m d o (Struct set extensible r a) =
      (1 ≤ d) × (is js : List Item) × AreItems m (d - 1) is r × AreItems m (d - 1) js a × SpellsStruct m o set extensible is js
  IsEncoding m d o (ListOf ordered ts) =
      (1 ≤ d) × ((k : Failure) → list_fails (canonical_elements ts) k ≡ false) × (own : List Octets) × AreElements m (d - 1) own ts × SpellsList m o ordered own
  IsEncoding m d o (Choice roots additions g t) = (1 ≤ d) × (f : Octets) × IsEncoding m (d - 1) f t × SpellsChoice m o roots g f

  -- What the rows give, in table order; leniently a default may be spelled out.
  pub AreItems : Mode → ℕ → List Item → Rows → Type 0
  AreItems m d is NoRows = is ≡ []
  AreItems m d [] (Required g t r) = ⊥
  AreItems m d (i ∷ is) (Required g t r) = (i ≡ needed g i.octets) × IsEncoding m d i.octets t × AreItems m d is r
  AreItems m d [] (Optional g s r) = ⊥
  AreItems m d (i ∷ is) (Optional g s r) = IsItem m d g i s × AreItems m d is r
  AreItems m d [] (Default g u s r) = ⊥
  AreItems m d (i ∷ is) (Default g u s r) =
      (IsItem m d g i s ⊎ (InLenient m × (s ≡ Absent) × (i ≡ present g i.octets) × IsEncoding m d i.octets u)) × AreItems m d is r

  pub IsItem : Mode → ℕ → Tag → Item → Slot → Type 0
  IsItem m d g i Absent = i ≡ absent g
  IsItem m d g i (Present t) = (i ≡ present g i.octets) × IsEncoding m d i.octets t

  -- The elements' octets, in the list's own order.
  pub AreElements : Mode → ℕ → List Octets → Trees → Type 0
  AreElements m d os NoTrees = os ≡ []
  AreElements m d [] (More t ts) = ⊥
  AreElements m d (o ∷ os) (More t ts) = IsEncoding m d o t × AreElements m d os ts
