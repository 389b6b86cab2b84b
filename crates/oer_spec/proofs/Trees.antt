-- Induction on trees, and lists of trees in another order.
use Rattle.std.proofs.Common.{Bool, true, false, List, inl, inr, refl, sym, subst}
use Rattle.std.specs.Prelude.{⊤}
use Rattle.asn1_core.specs.declared.tag.Tag.{Tag}
use Rattle.oer_spec.specs.Same.{Same, SameRows, SameSlot, SameTrees, SameReordered, EachTree, OnSlot, StandsIn}
use Rattle.oer_spec.specs.Tree.{Leaf, Tree, Primitive, Struct, ListOf, Choice, Rows, NoRows, Required, Optional, Default, Slot, Absent, Present, Trees, NoTrees, More}

-- each present slot and each default
abbrev pub EachRow : (Tree → Type 0) → Rows → Type 0
EachRow P NoRows = ⊤
EachRow P (Required g t r) = P t × EachRow P r
EachRow P (Optional g s r) = OnSlot P s × EachRow P r
EachRow P (Default g u s r) = P u × OnSlot P s × EachRow P r

-- What holds of a tree if it holds of its parts holds of each tree.
module _ (P : Tree → Type 0)
    (single : (l : Leaf) → P (Primitive l))
    (struct : (set extensible : Bool) (r a : Rows) → EachRow P r → EachRow P a → P (Struct set extensible r a))
    (items : (ordered : Bool) (ts : Trees) → EachTree P ts → P (ListOf ordered ts))
    (choice : (roots additions : List Tag) (g : Tag) (t : Tree) → P t → P (Choice roots additions g t)) where
  mutual
    pub by_parts : (t : Tree) → P t
    by_parts (Primitive l) = single l
    by_parts (Struct set extensible r a) = struct set extensible r a (rows_by_parts r) (rows_by_parts a)
    by_parts (ListOf ordered ts) = items ordered ts (trees_by_parts ts)
    by_parts (Choice roots additions g t) = choice roots additions g t (by_parts t)

    pub rows_by_parts : (r : Rows) → EachRow P r
    rows_by_parts NoRows = tt
    rows_by_parts (Required g t r) = (by_parts t, rows_by_parts r)
    rows_by_parts (Optional g s r) = (slot_by_parts s, rows_by_parts r)
    rows_by_parts (Default g u s r) = (by_parts u, slot_by_parts s, rows_by_parts r)

    pub slot_by_parts : (s : Slot) → OnSlot P s
    slot_by_parts Absent = tt
    slot_by_parts (Present t) = by_parts t

    pub trees_by_parts : (ts : Trees) → EachTree P ts
    trees_by_parts NoTrees = tt
    trees_by_parts (More t ts) = (by_parts t, trees_by_parts ts)

-- ---- other orders of trees
pub StandsIn-each : (P : Tree → Type 0) (us : Trees) (u : Tree) (rest : Trees) → StandsIn us u rest → EachTree P us → P u × EachTree P rest
StandsIn-each P NoTrees u rest s h = absurd s
StandsIn-each P (More v us) u rest (inl (e, f)) (h, hs) = (subst P e h, subst (EachTree P) f hs)
StandsIn-each P (More v us) u rest (inr (rs, f, s)) (h, hs) =
    let r : P u × EachTree P rs = StandsIn-each P us u rs s hs in
    (r.0, subst (EachTree P) (sym f) (h, r.1))

SameReordered-put : (us : Trees) (u : Tree) (rest ts : Trees) (t : Tree) → StandsIn us u rest → Same u t → SameReordered rest ts → SameReordered us (More t ts)
unfolding Rattle.oer_spec.specs.Same.Same
SameReordered-put NoTrees u rest ts t s h m = absurd s
SameReordered-put (More v us) u rest ts t (inl (e, f)) h m = (t, ts, inl (refl, refl), subst (λ z. Same z t) (sym e) h, subst (λ z. SameReordered z ts) (sym f) m)
SameReordered-put (More v us) u rest ts t (inr (rs, f, s)) h m =
    let (w, z, st, h', more) = subst (λ z. SameReordered z ts) f m in
    (w, More t z, inr (z, refl, st), h', SameReordered-put us u rs z t s h more)

-- ---- Same is symmetric
abbrev SameBack : Tree → Type 0
SameBack t = (u : Tree) → Same t u → Same u t

same_back_slot : (s s' : Slot) → OnSlot SameBack s → SameSlot s s' → SameSlot s' s
unfolding Rattle.oer_spec.specs.Same.Same
same_back_slot Absent Absent h x = tt
same_back_slot (Present t) (Present t') h x = h t' x
same_back_slot Absent (Present t') h x = absurd x
same_back_slot (Present t) Absent h x = absurd x

same_back_rows : (r r' : Rows) → EachRow SameBack r → SameRows r r' → SameRows r' r
unfolding Rattle.oer_spec.specs.Same.Same
same_back_rows NoRows NoRows h x = tt
same_back_rows (Required g t r) (Required g' t' r') (h, hs) (e, x, xs) = (sym e, h t' x, same_back_rows r r' hs xs)
same_back_rows (Optional g s r) (Optional g' s' r') (h, hs) (e, x, xs) = (sym e, same_back_slot s s' h x, same_back_rows r r' hs xs)
same_back_rows (Default g u s r) (Default g' u' s' r') (k, h, hs) (e, f, x, xs) = (sym e, sym f, same_back_slot s s' h x, same_back_rows r r' hs xs)
same_back_rows _ _ h x = absurd x

same_back_trees : (ts us : Trees) → EachTree SameBack ts → SameTrees ts us → SameTrees us ts
unfolding Rattle.oer_spec.specs.Same.Same
same_back_trees NoTrees NoTrees h s = tt
same_back_trees (More t ts) (More u us) (h, hs) (s, ss) = (h u s, same_back_trees ts us hs ss)
same_back_trees _ _ h s = absurd s

same_back_mixed : (ts us : Trees) → EachTree SameBack ts → SameReordered ts us → SameReordered us ts
unfolding Rattle.oer_spec.specs.Same.Same
same_back_mixed NoTrees us h s = subst (λ z. SameReordered z NoTrees) (sym s) refl
same_back_mixed (More t ts) us (h, hs) (u, rest, st, s, ss) = SameReordered-put us u rest ts t st (h u s) (same_back_mixed ts rest hs ss)

same_back_struct : (set extensible : Bool) (r a : Rows) → EachRow SameBack r → EachRow SameBack a → SameBack (Struct set extensible r a)
unfolding Rattle.oer_spec.specs.Same.Same
same_back_struct set e r a h k (Struct set' e' r' a') (s, f, x, y) = (sym s, sym f, same_back_rows r r' h x, same_back_rows a a' k y)
same_back_struct set e r a h k _ s = absurd s

same_back_items : (ordered : Bool) (ts : Trees) → EachTree SameBack ts → SameBack (ListOf ordered ts)
unfolding Rattle.oer_spec.specs.Same.Same
same_back_items true ts h (ListOf true us) s = same_back_trees ts us h s
same_back_items false ts h (ListOf false us) s = same_back_mixed ts us h s
same_back_items true ts h _ s = absurd s
same_back_items false ts h _ s = absurd s

same_back_choice : (roots additions : List Tag) (g : Tag) (t : Tree) → SameBack t → SameBack (Choice roots additions g t)
unfolding Rattle.oer_spec.specs.Same.Same
same_back_choice r a g t h (Choice r' a' g' t') (x, y, z, s) = (sym x, sym y, sym z, h t' s)
same_back_choice r a g t h _ s = absurd s

same_back_leaf : (l : Leaf) → SameBack (Primitive l)
unfolding Rattle.oer_spec.specs.Same.Same
same_back_leaf l (Primitive k) s = sym s
same_back_leaf l _ s = absurd s

pub same_back : (t u : Tree) → Same t u → Same u t
same_back t = by_parts SameBack same_back_leaf same_back_struct same_back_items same_back_choice t

pub slot_back : (s s' : Slot) → SameSlot s s' → SameSlot s' s
unfolding Rattle.oer_spec.specs.Same.Same
slot_back Absent Absent h = tt
slot_back (Present t) (Present t') h = same_back t t' h
slot_back Absent (Present t') h = absurd h
slot_back (Present t) Absent h = absurd h

-- what holds of every tree holds of each part
pub each_slot : (P : Tree → Type 0) → ((t : Tree) → P t) → (s : Slot) → OnSlot P s
each_slot P h Absent = tt
each_slot P h (Present t) = h t

pub each_row : (P : Tree → Type 0) → ((t : Tree) → P t) → (r : Rows) → EachRow P r
each_row P h NoRows = tt
each_row P h (Required g t r) = (h t, each_row P h r)
each_row P h (Optional g s r) = (each_slot P h s, each_row P h r)
each_row P h (Default g u s r) = (h u, each_slot P h s, each_row P h r)

pub each_tree : (P : Tree → Type 0) → ((t : Tree) → P t) → (ts : Trees) → EachTree P ts
each_tree P h NoTrees = tt
each_tree P h (More t ts) = (h t, each_tree P h ts)
