-- What is written of an older tree is read as the newer one.
use Rattle.std.proofs.Common.{◌≡◌, ℕ, ◌-◌, ◌≤◌, Bool, true, false, not, ◌&&◌, ◌||◌, List, [], ◌∷◌, ◌++◌, length, inl, inr, refl, sym, ap, ap₂, ◌∙◌, subst, subst₂, arith, append-nil}
use Rattle.std.specs.List.{AllByRecursion}
use Rattle.std.proofs.lemmas.Bool.{or_parts}
use Rattle.asn1_core.specs.Octets.{Octets}
use Rattle.asn1_core.specs.Tags.{holds}
use Rattle.asn1_core.specs.declared.tag.Tag.{Tag}
use Rattle.oer_spec.specs.Encoding.{IsTree, AreRows, AreSlot, AreTrees, IsEncoding, AreItems, IsItem, AreElements, canonical_octets, canonical_items, canonical_item, canonical_elements, levels, levels_rows, levels_slot, levels_trees, fails, rows_fail, slot_fails, trees_fail, opens_fail, open_fails, bitmap_fails, list_fails, IsEncodable}
use Rattle.oer_spec.specs.Leaves.{Failure, IsLeafEncoding}
use Rattle.oer_spec.specs.Lengths.{IsQuantity, IsTag}
use Rattle.oer_spec.specs.Mode.{Mode, OwnSized, Canonical}
use Rattle.oer_spec.specs.Orders.{Reorders}
use Rattle.oer_spec.specs.Places.{Item, needed, present, absent, AreAdditions, IsExtension, SpellsStruct, SpellsList, IsAlternative, SpellsChoice}
use Rattle.oer_spec.specs.Same.{EachTree, OnSlot, StandsIn}
use Rattle.oer_spec.specs.Tree.{Leaf, Tree, Primitive, Struct, ListOf, Choice, Rows, NoRows, Required, Optional, Default, Slot, Absent, Present, Trees, NoTrees, More}
use Rattle.oer_spec.specs.Versions.{Lacks, LacksRows, LacksSlot, LacksTrees, LacksReordered, AreAbsent}
use Rattle.oer_spec.proofs.Lists.{Reorders-trans, Reorders-length}
use Rattle.oer_spec.proofs.Trees.{EachRow, by_parts, each_row, each_tree}
use Rattle.oer_spec.proofs.Within.{within, bitmap_within, additions_within, list_within, choice_within}
use Rattle.oer_spec.proofs.Canonical.{own_is_canonical, pieces_canonical, elements_canonical, IsCoer}
use Rattle.oer_spec.proofs.WrittenTrees.{spelt}
use Rattle.oer_spec.proofs.Skips.{are_taken, put_element}

-- ---- items of rows that the older table lacks
abbrev absent_items : Rows → List Item
absent_items NoRows = []
absent_items (Required g t r) = []
absent_items (Optional g s r) = absent g ∷ absent_items r
absent_items (Default g u s r) = absent g ∷ absent_items r

absent_additions : (m : Mode) (r : Rows) → AreAdditions m [] [] (absent_items r)
absent_additions m NoRows = refl
absent_additions m (Required g t r) = refl
absent_additions m (Optional g s r) = (refl, [], refl, absent_additions m r)
absent_additions m (Default g u s r) = (refl, [], refl, absent_additions m r)

absent_bits : (r : Rows) → AllByRecursion (λ i. i.bit ≡ false) (absent_items r)
absent_bits NoRows = tt
absent_bits (Required g t r) = tt
absent_bits (Optional g s r) = (refl, absent_bits r)
absent_bits (Default g u s r) = (refl, absent_bits r)

more_additions : (m : Mode) (b : List Bool) (o : Octets) (is : List Item) (r : Rows) → length b ≡ length is → AreAdditions m b o is → AreAdditions m b o (is ++ absent_items r)
more_additions m [] o [] r l f = subst (λ z. AreAdditions m [] z (absent_items r)) (sym f) (absent_additions m r)
more_additions m (x ∷ b) o [] r l f = absurd (omega arith)
more_additions m [] o (i ∷ is) r l f = absurd (omega arith)
more_additions m (x ∷ b) o (i ∷ is) r l (e, q, a, f) = (e, q, a, more_additions m b q is r (omega (arith, l)) f)

more_bits : (is : List Item) (r : Rows) → AllByRecursion (λ i. i.bit ≡ false) is → AllByRecursion (λ i. i.bit ≡ false) (is ++ absent_items r)
more_bits [] r f = absent_bits r
more_bits (i ∷ is) r (f, fs) = (f, more_bits is r fs)

tail_more : (extended : Bool) (o : Octets) (is : List Item) (r : Rows) → IsExtension OwnSized extended o is → IsExtension Canonical extended o (is ++ absent_items r)
tail_more false o is r (f, g) = (f, more_bits is r g)
tail_more true o is r (q, s, b, f, h, a, l) = (
  q,
  s,
  b,
  f,
  bitmap_within OwnSized Canonical (λ P k. k) (λ k. k) (λ P k. tt) q b h,
  more_additions Canonical b s is r l (additions_within OwnSized Canonical (λ P k. k) (λ k. k) (λ P k. tt) b s is a),
  tt,
)

struct_more : (o : Octets) (set extensible : Bool) (is js : List Item) (r : Rows) → SpellsStruct OwnSized o set extensible is js → SpellsStruct Canonical o set extensible is (js ++ absent_items r)
struct_more o set extensible is js r f = record {
  extended = f.extended;
  preamble = f.preamble;
  extension = f.extension;
  whole = f.whole;
  bits = f.bits;
  rest = tail_more f.extended f.extension js r f.rest;
  only = f.only;
}

-- ---- trees
abbrev Lift : Tree → Type 0
Lift t = (n : Tree) (d : ℕ) → IsTree t → IsTree n → Lacks t n → IsEncodable t → IsEncodable n → levels t ≤ d → IsEncoding Canonical d (canonical_octets t) n

-- what is encodable of a slot, of rows and of trees
abbrev SlotFine : Slot → Type 0
SlotFine s = (k : Failure) → slot_fails s k ≡ false

abbrev RowsFine : Rows → Type 0
RowsFine r = (k : Failure) → rows_fail r k ≡ false

abbrev TreesFine : Trees → Type 0
TreesFine ts = (k : Failure) → trees_fail ts k ≡ false

lift_slot : (d : ℕ) (g g' : Tag) (s s' : Slot) → g ≡ g' → OnSlot Lift s → AreSlot s → AreSlot s' → LacksSlot s s' → SlotFine s → SlotFine s' → levels_slot s ≤ d → IsItem Canonical d g' (canonical_item g s) s'
unfolding IsEncoding Rattle.oer_spec.specs.Encoding.canonical_octets Rattle.oer_spec.specs.Encoding.levels Rattle.oer_spec.specs.Encoding.fails Rattle.oer_spec.specs.Encoding.IsTree Rattle.oer_spec.specs.Versions.Lacks
lift_slot d g g' Absent Absent e h w w' f x y l = ap absent e
lift_slot d g g' (Present t) (Present t') e h w w' f x y l = (ap (λ z. present z (canonical_octets t)) e, h t' d w w' f x y l)
lift_slot d g g' Absent (Present t') e h w w' f x y l = absurd f
lift_slot d g g' (Present t) Absent e h w w' f x y l = absurd f

lift_absent : (d : ℕ) (r : Rows) → AreAbsent r → AreItems Canonical d (absent_items r) r
unfolding IsEncoding
lift_absent d NoRows f = refl
lift_absent d (Required g t r) f = absurd f
lift_absent d (Optional g s r) (e, f) = (subst (IsItem Canonical d g (absent g)) (sym e) refl, lift_absent d r f)
lift_absent d (Default g u s r) (e, f) = (inl (subst (IsItem Canonical d g (absent g)) (sym e) refl), lift_absent d r f)

-- the items of the rows that the older table lacks come last
lift_rows : (d : ℕ) (more : Bool) (r r' : Rows) → EachRow Lift r → AreRows r → AreRows r' → LacksRows more r r' → RowsFine r → RowsFine r' → levels_rows r ≤ d
    → (z : Rows) × AreItems Canonical d (canonical_items r ++ absent_items z) r' × (more ≡ false → z ≡ NoRows)
unfolding IsEncoding Rattle.oer_spec.specs.Encoding.canonical_octets Rattle.oer_spec.specs.Encoding.levels Rattle.oer_spec.specs.Encoding.fails Rattle.oer_spec.specs.Encoding.IsTree Rattle.oer_spec.specs.Versions.Lacks
lift_rows d false NoRows r' h w w' f x y l = (NoRows, subst (AreItems Canonical d []) (sym f) refl, λ _. refl)
lift_rows d true NoRows r' h w w' f x y l = (r', lift_absent d r' f, λ e. absurd (cc e))
lift_rows d more (Required g t r) (Required g' t' r') (h, hs) (w, ws) (w', ws') (e, f, fs) x y l =
    let a = lift_rows d more r r' hs ws ws' fs (λ k. (or_parts (fails t k) (rows_fail r k) (x k)).1) (λ k. (or_parts (fails t' k) (rows_fail r' k) (y k)).1) (omega (arith, l)) in
    (a.0, (ap (λ z. needed z (canonical_octets t)) e, h t' d w w' f (λ k. (or_parts (fails t k) (rows_fail r k) (x k)).0) (λ k. (or_parts (fails t' k) (rows_fail r' k) (y k)).0) (omega (arith, l)), a.1), a.2)
lift_rows d more (Optional g s r) (Optional g' s' r') (h, hs) (w, ws) (w', ws') (e, f, fs) x y l =
    let a = lift_rows d more r r' hs ws ws' fs (λ k. (or_parts (slot_fails s k) (rows_fail r k) (x k)).1) (λ k. (or_parts (slot_fails s' k) (rows_fail r' k) (y k)).1) (omega (arith, l)) in
    (a.0, (lift_slot d g g' s s' e h w w' f (λ k. (or_parts (slot_fails s k) (rows_fail r k) (x k)).0) (λ k. (or_parts (slot_fails s' k) (rows_fail r' k) (y k)).0) (omega (arith, l)), a.1), a.2)
lift_rows d more (Default g u s r) (Default g' u' s' r') (hu, h, hs) (v, w, n, ws) (v', w', n', ws') (e, fu, f, fs) x y l =
    let a = lift_rows d more r r' hs ws ws' fs (λ k. (or_parts (slot_fails s k) (rows_fail r k) (x k)).1) (λ k. (or_parts (slot_fails s' k) (rows_fail r' k) (y k)).1) (omega (arith, l)) in
    (a.0, (inl (lift_slot d g g' s s' e h w w' f (λ k. (or_parts (slot_fails s k) (rows_fail r k) (x k)).0) (λ k. (or_parts (slot_fails s' k) (rows_fail r' k) (y k)).0) (omega (arith, l))), a.1), a.2)
lift_rows d more _ _ h w w' f x y l = absurd f

lift_struct : (set extensible : Bool) (r a : Rows) → EachRow Lift r → EachRow Lift a → Lift (Struct set extensible r a)
unfolding IsEncoding Rattle.oer_spec.specs.Encoding.levels Rattle.oer_spec.specs.Encoding.fails Rattle.oer_spec.specs.Encoding.IsTree Rattle.oer_spec.specs.Versions.Lacks
lift_struct s x r a h k (Struct s' x' r' a') d i j (p, q, b, b') f f' l =
    let fine : (c : Failure) → (rows_fail r c ≡ false) × ((rows_fail a c || (opens_fail (canonical_items a) c || bitmap_fails (canonical_items a) c)) ≡ false) =
    λ c. or_parts (rows_fail r c) (rows_fail a c || (opens_fail (canonical_items a) c || bitmap_fails (canonical_items a) c)) (f c) in
    let fine' : (c : Failure) → (rows_fail r' c ≡ false) × ((rows_fail a' c || (opens_fail (canonical_items a') c || bitmap_fails (canonical_items a') c)) ≡ false) =
    λ c. or_parts (rows_fail r' c) (rows_fail a' c || (opens_fail (canonical_items a') c || bitmap_fails (canonical_items a') c)) (f' c) in
    let (l', is, js, u, v, w) = (spelt (Struct s x r a) d i f l).0 in
    let (z, c, n) = lift_rows (d - 1) false r r' h i.0 j.0 b (λ e. (fine e).0) (λ e. (fine' e).0) (omega (arith, l)) in
    let (z', c', _) = lift_rows (d - 1) true a a' k i.1 j.1 b' (λ e. (or_parts (rows_fail a e) (opens_fail (canonical_items a) e || bitmap_fails (canonical_items a) e) (fine e).1).0) (λ e. (or_parts (rows_fail a' e) (opens_fail (canonical_items a') e || bitmap_fails (canonical_items a') e) (fine' e).1).0) (omega (arith, l)) in
    let same : is ≡ canonical_items r = pieces_canonical (d - 1) is r (each_row IsCoer own_is_canonical r) u in
    let same' : js ≡ canonical_items a = pieces_canonical (d - 1) js a (each_row IsCoer own_is_canonical a) v in
    let w' : SpellsStruct OwnSized (canonical_octets (Struct s x r a)) s x (canonical_items r) (canonical_items a) = subst₂ (SpellsStruct OwnSized (canonical_octets (Struct s x r a)) s x) same same' w in (
      l',
      canonical_items r,
      canonical_items a ++ absent_items z',
      subst (λ y. AreItems Canonical (d - 1) y r') (ap (λ y. canonical_items r ++ absent_items y) (n refl) ∙ append-nil (canonical_items r)) c,
      c',
      subst₂ (λ y e. SpellsStruct Canonical (canonical_octets (Struct s x r a)) y e (canonical_items r) (canonical_items a ++ absent_items z')) p q (struct_more (canonical_octets (Struct s x r a)) s x (canonical_items r) (canonical_items a) z' w'),
    )
lift_struct s x r a h k _ d i j b f f' l = absurd b

lift_trees : (d : ℕ) (ts us : Trees) → EachTree Lift ts → AreTrees ts → AreTrees us → LacksTrees ts us → TreesFine ts → TreesFine us → levels_trees ts ≤ d → AreElements Canonical d (canonical_elements ts) us
unfolding IsEncoding Rattle.oer_spec.specs.Encoding.canonical_octets Rattle.oer_spec.specs.Encoding.levels Rattle.oer_spec.specs.Encoding.fails Rattle.oer_spec.specs.Encoding.IsTree Rattle.oer_spec.specs.Versions.Lacks
lift_trees d NoTrees NoTrees h w w' f x y l = refl
lift_trees d (More t ts) (More u us) (h, hs) (w, ws) (w', ws') (f, fs) x y l = (
  h u d w w' f (λ k. (or_parts (fails t k) (trees_fail ts k) (x k)).0) (λ k. (or_parts (fails u k) (trees_fail us k) (y k)).0) (omega (arith, l)),
  lift_trees d ts us hs ws ws' fs (λ k. (or_parts (fails t k) (trees_fail ts k) (x k)).1) (λ k. (or_parts (fails u k) (trees_fail us k) (y k)).1) (omega (arith, l)),
)
lift_trees d _ _ h w w' f x y l = absurd f

fine_taken : (us : Trees) (u : Tree) (rest : Trees) → StandsIn us u rest → (k : Failure) → trees_fail us k ≡ false → (fails u k ≡ false) × (trees_fail rest k ≡ false)
unfolding Rattle.oer_spec.specs.Encoding.fails
fine_taken NoTrees u rest s k f = absurd s
fine_taken (More v us) u rest (inl (e, g)) k f =
    let p = or_parts (fails v k) (trees_fail us k) f in
    (subst (λ z. fails z k ≡ false) e p.0, subst (λ z. trees_fail z k ≡ false) g p.1)
fine_taken (More v us) u rest (inr (rs, g, s)) k f =
    let p = or_parts (fails v k) (trees_fail us k) f in
    let q = fine_taken us u rs s k p.1 in
    (q.0, subst (λ z. trees_fail z k ≡ false) (sym g) (ap₂ ◌||◌ p.0 q.1))

lift_mixed : (d : ℕ) (ts us : Trees) → EachTree Lift ts → AreTrees ts → AreTrees us → LacksReordered ts us → TreesFine ts → TreesFine us → levels_trees ts ≤ d → (ps : List Octets) × Reorders (canonical_elements ts) ps × AreElements Canonical d ps us
unfolding IsEncoding Rattle.oer_spec.specs.Encoding.canonical_octets Rattle.oer_spec.specs.Encoding.levels Rattle.oer_spec.specs.Encoding.fails Rattle.oer_spec.specs.Encoding.IsTree Rattle.oer_spec.specs.Versions.Lacks
lift_mixed d NoTrees us h w w' f x y l = ([], refl, subst (AreElements Canonical d []) (sym f) refl)
lift_mixed d (More t ts) us (h, hs) (w, ws) w' (u, rest, s, f, fs) x y l =
    let (a, b) = are_taken us u rest s w' in
    let (ps, m, g) = lift_mixed d ts rest hs ws b fs (λ k. (or_parts (fails t k) (trees_fail ts k) (x k)).1) (λ k. (fine_taken us u rest s k (y k)).1) (omega (arith, l)) in
    let (qs, st, k) = put_element Canonical (λ P. tt) d us u rest (canonical_octets t) ps s (h u d w a f (λ c. (or_parts (fails t c) (trees_fail ts c) (x c)).0) (λ c. (fine_taken us u rest s c (y c)).0) (omega (arith, l))) g in
    (qs, (ps, st, m), k)

lift_items : (ordered : Bool) (ts : Trees) → EachTree Lift ts → Lift (ListOf ordered ts)
unfolding IsEncoding Rattle.oer_spec.specs.Encoding.levels Rattle.oer_spec.specs.Encoding.fails Rattle.oer_spec.specs.Encoding.IsTree Rattle.oer_spec.specs.Versions.Lacks
lift_items ordered ts h (ListOf ordered' us) d i j b f f' l = go ordered ordered' b f (spelt (ListOf ordered ts) d i f l).0
  where
    fine' : (k : Failure) → (trees_fail us k ≡ false) × (list_fails (canonical_elements us) k ≡ false)
    fine' k = or_parts (trees_fail us k) (list_fails (canonical_elements us) k) (f' k)

    go : (ordered ordered' : Bool) → Lacks (ListOf ordered ts) (ListOf ordered' us) → IsEncodable (ListOf ordered ts) → IsEncoding OwnSized d (canonical_octets (ListOf ordered ts)) (ListOf ordered ts) → IsEncoding Canonical d (canonical_octets (ListOf ordered ts)) (ListOf ordered' us)
    go true true b f (l', _, own, g, w) =
        let own_is : own ≡ canonical_elements ts = elements_canonical (d - 1) own ts (each_tree IsCoer own_is_canonical ts) g in
        let w' : SpellsList Canonical (canonical_octets (ListOf true ts)) true (canonical_elements ts) = list_within OwnSized Canonical (λ P k. k) (λ k. k) (λ P k. tt) (canonical_octets (ListOf true ts)) true (canonical_elements ts) (subst (SpellsList OwnSized (canonical_octets (ListOf true ts)) true) own_is w) in
        (l', λ k. (fine' k).1, canonical_elements ts, lift_trees (d - 1) ts us h i j b (λ k. (or_parts (trees_fail ts k) (list_fails (canonical_elements ts) k) (f k)).0) (λ k. (fine' k).0) (omega (arith, l)), w')
    go false false b f (l', _, own, g, w) =
        let own_is : own ≡ canonical_elements ts = elements_canonical (d - 1) own ts (each_tree IsCoer own_is_canonical ts) g in
        let (q, read, e, c, (x, y)) = list_within OwnSized Canonical (λ P k. k) (λ k. k) (λ P k. tt) (canonical_octets (ListOf false ts)) false (canonical_elements ts) (subst (SpellsList OwnSized (canonical_octets (ListOf false ts)) false) own_is w) in
        let (ps, m, k) = lift_mixed (d - 1) ts us h i j b (λ k. (or_parts (trees_fail ts k) (list_fails (canonical_elements ts) k) (f k)).0) (λ k. (fine' k).0) (omega (arith, l)) in
        (l', λ k. (fine' k).1, ps, k, (q, read, e, subst (IsQuantity Canonical q) (Reorders-length (canonical_elements ts) ps m) c, (Reorders-trans read (canonical_elements ts) ps x m, y)))
    go true false b f g = absurd b
    go false true b f g = absurd b
lift_items true ts h _ d i j b f f' l = absurd b
lift_items false ts h _ d i j b f f' l = absurd b

lift_choice : (roots additions : List Tag) (g : Tag) (t : Tree) → Lift t → Lift (Choice roots additions g t)
unfolding IsEncoding Rattle.oer_spec.specs.Encoding.levels Rattle.oer_spec.specs.Encoding.fails Rattle.oer_spec.specs.Encoding.IsTree Rattle.oer_spec.specs.Versions.Lacks
lift_choice r a g t h (Choice r' a' g' t') d i j (e, q, b) f f' l =
    let (l', c, x, w) = (spelt (Choice r a g t) d i f l).0 in
    let w' : SpellsChoice OwnSized (canonical_octets (Choice r a g t)) r g (canonical_octets t) = subst (SpellsChoice OwnSized (canonical_octets (Choice r a g t)) r g) (own_is_canonical t (d - 1) c x) w in
    let (p, z, k, y, alt) = choice_within OwnSized Canonical (λ P k. k) (λ k. k) (λ P k. tt) (canonical_octets (Choice r a g t)) r g (canonical_octets t) w' in (
      l',
      canonical_octets t,
      h t' (d - 1) i.0 j.0 b (λ k. (or_parts (fails t k) (not (holds r g) && open_fails (canonical_octets t) k) (f k)).0) (λ k. (or_parts (fails t' k) (not (holds r' g') && open_fails (canonical_octets t') k) (f' k)).0) (omega (arith, l)),
      (p, z, k, subst (IsTag Canonical p) e y, subst (λ v. IsAlternative Canonical v z (canonical_octets t)) q alt),
    )
lift_choice r a g t h _ d i j b f f' l = absurd b

lift_leaf : (l : Leaf) → Lift (Primitive l)
unfolding IsEncoding Rattle.oer_spec.specs.Versions.Lacks
lift_leaf l (Primitive k) d i j b f f' n = subst (IsLeafEncoding Canonical (canonical_octets (Primitive l))) b (within OwnSized Canonical (λ P k. k) (λ k. k) (λ P k. tt) (Primitive l) d (canonical_octets (Primitive l)) (spelt (Primitive l) d i f n).0)
lift_leaf l _ d i j b f f' n = absurd b

pub lift : (t : Tree) → Lift t
lift t = by_parts Lift lift_leaf lift_struct lift_items lift_choice t
