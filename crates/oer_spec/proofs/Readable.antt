-- An encoding's tree is no deeper than the levels.
use Rattle.std.proofs.Common.{◌≡◌, ℕ, ◌-◌, ◌≤◌, List, [], ◌∷◌, inl, inr, ap, arith}
use Rattle.asn1_core.specs.Octets.{Octets}
use Rattle.asn1_core.specs.declared.tag.Tag.{Tag}
use Rattle.oer_spec.specs.Encoding.{IsEncoding, AreItems, IsItem, AreElements, levels, levels_rows, levels_slot, levels_trees}
use Rattle.oer_spec.specs.Mode.{Mode}
use Rattle.oer_spec.specs.Places.{Item}
use Rattle.oer_spec.specs.Same.{EachTree, OnSlot}
use Rattle.oer_spec.specs.Tree.{Tree, Rows, NoRows, Required, Optional, Default, Slot, Absent, Present, Trees, NoTrees, More}
use Rattle.oer_spec.proofs.Trees.{EachRow, by_parts}

abbrev Shallow : Tree → Type 0
Shallow t = (m : Mode) (d : ℕ) (o : Octets) → IsEncoding m d o t → levels t ≤ d

slot_levels : (m : Mode) (d : ℕ) (g : Tag) (i : Item) (s : Slot) → OnSlot Shallow s → IsItem m d g i s → levels_slot s ≤ d
unfolding IsEncoding levels
slot_levels m d g i Absent h f = omega arith
slot_levels m d g i (Present t) h (f, x) = h m d i.octets x

rows_levels : (m : Mode) (d : ℕ) (is : List Item) (r : Rows) → EachRow Shallow r → AreItems m d is r → levels_rows r ≤ d
unfolding IsEncoding levels
rows_levels m d is NoRows h f = omega arith
rows_levels m d [] (Required g t r) h f = absurd f
rows_levels m d [] (Optional g s r) h f = absurd f
rows_levels m d [] (Default g u s r) h f = absurd f
rows_levels m d (i ∷ is) (Required g t r) (h, hs) (f, x, fs) = omega (arith, h m d i.octets x, rows_levels m d is r hs fs)
rows_levels m d (i ∷ is) (Optional g s r) (h, hs) (f, fs) = omega (arith, slot_levels m d g i s h f, rows_levels m d is r hs fs)
rows_levels m d (i ∷ is) (Default g u s r) (k, h, hs) (inl f, fs) = omega (arith, slot_levels m d g i s h f, rows_levels m d is r hs fs)
rows_levels m d (i ∷ is) (Default g u s r) (k, h, hs) (inr (_, e, _, _), fs) = let z : levels_slot s ≡ 0 = ap levels_slot e in omega (arith, z, rows_levels m d is r hs fs)

trees_levels : (m : Mode) (d : ℕ) (os : List Octets) (ts : Trees) → EachTree Shallow ts → AreElements m d os ts → levels_trees ts ≤ d
unfolding IsEncoding levels
trees_levels m d os NoTrees h f = omega arith
trees_levels m d [] (More t ts) h f = absurd f
trees_levels m d (o ∷ os) (More t ts) (h, hs) (f, fs) = omega (arith, h m d o f, trees_levels m d os ts hs fs)

-- the levels that an encoding was read with are enough for what is written of its tree
pub form_levels : (t : Tree) → Shallow t
unfolding IsEncoding levels
form_levels t = by_parts Shallow
    (λ l m d o f. omega arith)
    (λ set e r a h k m d o f. omega (arith, f.0, rows_levels m (d - 1) f.1 r h f.3, rows_levels m (d - 1) f.2 a k f.4))
    (λ ordered ts h m d o f. omega (arith, f.0, trees_levels m (d - 1) f.2 ts h f.3))
    (λ roots a g t h m d o f. omega (arith, f.0, h m (d - 1) f.1 f.2))
    t
