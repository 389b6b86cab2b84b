-- Two encodings of alike trees in one mode, one a front of the other, are equal octets and spell same trees.
use Rattle.std.proofs.Common.{◌≡◌, ℕ, ◌-◌, Bool, true, false, List, [], ◌∷◌, ◌++◌, length, ◌⊎◌, inl, inr, refl, sym, ap, ap₂, ◌∙◌, subst, subst₂, arith}
use Rattle.std.specs.List.{AllByRecursion}
use Rattle.asn1_core.specs.Octets.{Octets, joined}
use Rattle.asn1_core.specs.declared.tag.Tag.{Tag}
use Rattle.oer_spec.specs.Encoding.{IsTree, AreRows, AreSlot, AreTrees, IsEncoding, AreItems, IsItem, AreElements}
use Rattle.oer_spec.specs.Mode.{Mode, InLenient}
use Rattle.oer_spec.specs.Orders.{Stands, Reorders}
use Rattle.oer_spec.specs.Places.{Item, needed, present, absent, IsInOrder, SpellsList, SpellsStruct, SpellsChoice}
use Rattle.oer_spec.specs.Same.{Same, SameRows, SameSlot, SameTrees, SameReordered, Alike, AlikeRows, AlikeSlot, AlikeTrees, EachTree, OnSlot, StandsIn}
use Rattle.oer_spec.specs.Tree.{Leaf, Tree, Primitive, Struct, ListOf, Choice, Rows, NoRows, Required, Optional, Default, Slot, Absent, Present, Trees, NoTrees, More}
use Rattle.oer_spec.proofs.Lists.{regroup, Pairwise, Reorders-length, Reorders-all, Reorders-sym, Reorders-trans}
use Rattle.oer_spec.proofs.Unique.{cancel, quantity_unique}
use Rattle.oer_spec.proofs.UniqueLeaves.{leaf_unique}
use Rattle.oer_spec.proofs.UniquePlaces.{Rivals, Twins, struct_unique, choice_unique}
use Rattle.oer_spec.proofs.Trees.{EachRow, by_parts, StandsIn-each, slot_back}

-- what is to be shown of the first tree
abbrev pub Unique : Tree → Type 0
Unique t = (u : Tree) (m : Mode) (d e : ℕ) (o p x y : Octets) → IsTree t → IsTree u → Alike t u → IsEncoding m d o t → IsEncoding m e p u → o ++ x ≡ p ++ y → (o ≡ p) × Same t u

-- from the trees of two encodings that are at hand, rivals
rivals : (t u : Tree) (m : Mode) (d e : ℕ) (o p : Octets) → Unique t → IsTree t → IsTree u → Alike t u → IsEncoding m d o t → IsEncoding m e p u → Rivals o p
rivals t u m d e o p h i j a f g x y q = (h u m d e o p x y i j a f g q).0

same_of_one : (t u : Tree) (m : Mode) (d e : ℕ) (o p : Octets) → Unique t → IsTree t → IsTree u → Alike t u → IsEncoding m d o t → IsEncoding m e p u → o ≡ p → Same t u
same_of_one t u m d e o p h i j a f g q = (h u m d e o p [] [] i j a f g (ap (λ z. z ++ []) q)).1

-- ---- rows
-- two items of one row that both are present, or of which one is
twins_needed : (g g' : Tag) (i j : Item) → g ≡ g' → i ≡ needed g i.octets → j ≡ needed g' j.octets → Rivals i.octets j.octets → Twins i j
twins_needed g g' i j e f k v = record {
  tags = ap (λ z. z.tag) f ∙ e ∙ sym (ap (λ z. z.tag) k);
  marks = ap (λ z. z.marked) f ∙ sym (ap (λ z. z.marked) k);
  set = λ _. ap (λ z. z.bit) f ∙ sym (ap (λ z. z.bit) k);
  unset = λ a b. absurd (cc (ap (λ z. z.bit) f, a));
  rivals = λ _. v;
}

twins_present : (g g' : Tag) (i j : Item) → g ≡ g' → i ≡ present g i.octets → j ≡ present g' j.octets → Rivals i.octets j.octets → Twins i j
twins_present g g' i j e f k v = record {
  tags = ap (λ z. z.tag) f ∙ e ∙ sym (ap (λ z. z.tag) k);
  marks = ap (λ z. z.marked) f ∙ sym (ap (λ z. z.marked) k);
  set = λ _. ap (λ z. z.bit) f ∙ sym (ap (λ z. z.bit) k);
  unset = λ a b. absurd (cc (ap (λ z. z.bit) f, a));
  rivals = λ _. v;
}

twins_absent : (g g' : Tag) (i j : Item) → g ≡ g' → i ≡ absent g → j ≡ absent g' → Twins i j
twins_absent g g' i j e f k = record {
  tags = ap (λ z. z.tag) f ∙ e ∙ sym (ap (λ z. z.tag) k);
  marks = ap (λ z. z.marked) f ∙ sym (ap (λ z. z.marked) k);
  set = λ _. ap (λ z. z.bit) f ∙ sym (ap (λ z. z.bit) k);
  unset = λ _ _. ap (λ z. z.octets) f ∙ sym (ap (λ z. z.octets) k);
  rivals = λ _ x y q. ap (λ z. z.octets) f ∙ sym (ap (λ z. z.octets) k);
}

twins_apart : (g g' : Tag) (i j : Item) (f : Octets) → g ≡ g' → i ≡ absent g → j ≡ present g' f → Twins i j
twins_apart g g' i j o e f k = record {
  tags = ap (λ z. z.tag) f ∙ e ∙ sym (ap (λ z. z.tag) k);
  marks = ap (λ z. z.marked) f ∙ sym (ap (λ z. z.marked) k);
  set = λ a. absurd (cc (ap (λ z. z.marked) f, a));
  unset = λ a b. absurd (cc (ap (λ z. z.bit) k, b));
  rivals = λ a. absurd (cc (a, ap (λ z. z.bit) f, ap (λ z. z.bit) k));
}

twins_back : (i j : Item) → Twins i j → Twins j i
twins_back i j t = record {
  tags = sym t.tags;
  marks = sym t.marks;
  set = λ a. sym (t.set (t.marks ∙ a));
  unset = λ a b. sym (t.unset b a);
  rivals = λ a x y q. sym (t.rivals (sym a) y x (sym q));
}

twin_slots : (m : Mode) (d e : ℕ) (g g' : Tag) (i j : Item) (s s' : Slot) → g ≡ g' → OnSlot Unique s → AreSlot s → AreSlot s' → AlikeSlot s s' → IsItem m d g i s → IsItem m e g' j s' → Twins i j
unfolding IsEncoding Rattle.oer_spec.specs.Encoding.IsTree Rattle.oer_spec.specs.Same.Alike
twin_slots m d e g g' i j Absent Absent q h w w' a f k = twins_absent g g' i j q f k
twin_slots m d e g g' i j Absent (Present t') q h w w' a f (k, y) = twins_apart g g' i j j.octets q f k
twin_slots m d e g g' i j (Present t) Absent q h w w' a (f, x) k = twins_back j i (twins_apart g' g j i i.octets (sym q) k f)
twin_slots m d e g g' i j (Present t) (Present t') q h w w' a (f, x) (k, y) = twins_present g g' i j q f k (rivals t t' m d e i.octets j.octets h w w' a x y)

twin_rows : (m : Mode) (d e : ℕ) (is js : List Item) (r r' : Rows) → EachRow Unique r → AreRows r → AreRows r' → AlikeRows r r' → AreItems m d is r → AreItems m e js r' → Pairwise Twins is js
unfolding IsEncoding Rattle.oer_spec.specs.Encoding.IsTree Rattle.oer_spec.specs.Same.Alike
twin_rows m d e is js NoRows NoRows h w w' a f k = subst₂ (Pairwise Twins) (sym f) (sym k) tt
twin_rows m d e [] js (Required g t r) r' h w w' a f k = absurd f
twin_rows m d e [] js (Optional g s r) r' h w w' a f k = absurd f
twin_rows m d e [] js (Default g u s r) r' h w w' a f k = absurd f
twin_rows m d e (i ∷ is) [] (Required g t r) (Required g' t' r') h w w' a f k = absurd k
twin_rows m d e (i ∷ is) [] (Optional g s r) (Optional g' s' r') h w w' a f k = absurd k
twin_rows m d e (i ∷ is) [] (Default g u s r) (Default g' u' s' r') h w w' a f k = absurd k
twin_rows m d e (i ∷ is) (j ∷ js) (Required g t r) (Required g' t' r') (h, hs) (w, ws) (w', ws') (q, a, b) (f, x, fs) (k, y, ks) =
    (twins_needed g g' i j q f k (rivals t t' m d e i.octets j.octets h w w' a x y), twin_rows m d e is js r r' hs ws ws' b fs ks)
twin_rows m d e (i ∷ is) (j ∷ js) (Optional g s r) (Optional g' s' r') (h, hs) (w, ws) (w', ws') (q, a, b) (f, fs) (k, ks) =
    (twin_slots m d e g g' i j s s' q h w w' a f k, twin_rows m d e is js r r' hs ws ws' b fs ks)
twin_rows m d e (i ∷ is) (j ∷ js) (Default g u s r) (Default g' u' s' r') (hu, h, hs) (v, w, n, ws) (v', w', n', ws') (q, p, a, a', c, c', b) (f, fs) (k, ks) =
    (go f k, twin_rows m d e is js r r' hs ws ws' b fs ks)
  where
    go : IsItem m d g i s ⊎ (InLenient m × (s ≡ Absent) × (i ≡ present g i.octets) × IsEncoding m d i.octets u)
        → IsItem m e g' j s' ⊎ (InLenient m × (s' ≡ Absent) × (j ≡ present g' j.octets) × IsEncoding m e j.octets u') → Twins i j
    go (inl f) (inl k) = twin_slots m d e g g' i j s s' q h w w' c' f k
    go (inl f) (inr (_, _, k, y)) = twin_slots m d e g g' i j s (Present u) q h w v c f (k, subst (λ z. IsEncoding m e j.octets z) (sym p) y)
    go (inr (_, _, f, x)) (inl k) = twin_slots m d e g g' i j (Present u) s' q hu v w' a' (f, x) k
    go (inr (_, _, f, x)) (inr (_, _, k, y)) = twin_slots m d e g g' i j (Present u) (Present u) q hu v v a (f, x) (k, subst (λ z. IsEncoding m e j.octets z) (sym p) y)
twin_rows m d e is js _ _ h w w' a f k = absurd a

-- an item that is absent isn't present
torn : (g g' : Tag) (i : Item) (o : Octets) → i ≡ absent g → i ≡ present g' o → ⊥
torn g g' i o f k = absurd (cc (ap (λ z. z.bit) f, ap (λ z. z.bit) k))

-- one item, two slots
same_slots : (m : Mode) (d e : ℕ) (g g' : Tag) (i : Item) (s s' : Slot) → OnSlot Unique s → AreSlot s → AreSlot s' → AlikeSlot s s' → IsItem m d g i s → IsItem m e g' i s' → SameSlot s s'
unfolding IsEncoding Rattle.oer_spec.specs.Encoding.IsTree Rattle.oer_spec.specs.Same.Alike Rattle.oer_spec.specs.Same.Same
same_slots m d e g g' i Absent Absent h w w' a f k = tt
same_slots m d e g g' i Absent (Present t') h w w' a f (k, y) = torn g g' i i.octets f k
same_slots m d e g g' i (Present t) Absent h w w' a (f, x) k = torn g' g i i.octets k f
same_slots m d e g g' i (Present t) (Present t') h w w' a (f, x) (k, y) = same_of_one t t' m d e i.octets i.octets h w w' a x y refl

same_rows : (m : Mode) (d e : ℕ) (is : List Item) (r r' : Rows) → EachRow Unique r → AreRows r → AreRows r' → AlikeRows r r' → AreItems m d is r → AreItems m e is r' → SameRows r r'
unfolding IsEncoding Rattle.oer_spec.specs.Encoding.IsTree Rattle.oer_spec.specs.Same.Alike Rattle.oer_spec.specs.Same.Same
same_rows m d e is NoRows NoRows h w w' a f k = tt
same_rows m d e [] (Required g t r) r' h w w' a f k = absurd f
same_rows m d e [] (Optional g s r) r' h w w' a f k = absurd f
same_rows m d e [] (Default g u s r) r' h w w' a f k = absurd f
same_rows m d e (i ∷ is) (Required g t r) (Required g' t' r') (h, hs) (w, ws) (w', ws') (q, a, b) (f, x, fs) (k, y, ks) =
    (q, same_of_one t t' m d e i.octets i.octets h w w' a x y refl, same_rows m d e is r r' hs ws ws' b fs ks)
same_rows m d e (i ∷ is) (Optional g s r) (Optional g' s' r') (h, hs) (w, ws) (w', ws') (q, a, b) (f, fs) (k, ks) =
    (q, same_slots m d e g g' i s s' h w w' a f k, same_rows m d e is r r' hs ws ws' b fs ks)
same_rows m d e (i ∷ is) (Default g u s r) (Default g' u' s' r') (hu, h, hs) (v, w, n, ws) (v', w', n', ws') (q, p, a, a', c, c', b) (f, fs) (k, ks) =
    (q, p, go f k, same_rows m d e is r r' hs ws ws' b fs ks)
  where
    go : IsItem m d g i s ⊎ (InLenient m × (s ≡ Absent) × (i ≡ present g i.octets) × IsEncoding m d i.octets u)
        → IsItem m e g' i s' ⊎ (InLenient m × (s' ≡ Absent) × (i ≡ present g' i.octets) × IsEncoding m e i.octets u') → SameSlot s s'
    go (inl f) (inl k) = same_slots m d e g g' i s s' h w w' c' f k
    go (inl f) (inr (_, _, k, y)) = absurd (n (same_slots m d e g g' i s (Present u) h w v c f (k, subst (λ z. IsEncoding m e i.octets z) (sym p) y)))
    go (inr (_, _, f, x)) (inl k) = absurd (n' (subst (λ z. SameSlot s' (Present z)) p (slot_back (Present u) s' (same_slots m d e g g' i (Present u) s' hu v w' a' (f, x) k))))
    go (inr (_, l, f, x)) (inr (_, l', k, y)) = subst₂ SameSlot (sym l) (sym l') tt
same_rows m d e (i ∷ is) _ _ h w w' a f k = absurd a
same_rows m d e [] _ _ h w w' a f k = absurd a

unique_struct : (set extensible : Bool) (r a : Rows) → EachRow Unique r → EachRow Unique a → Unique (Struct set extensible r a)
unfolding IsEncoding Rattle.oer_spec.specs.Encoding.IsTree Rattle.oer_spec.specs.Same.Alike Rattle.oer_spec.specs.Same.Same
unique_struct s x r a h k (Struct s' x' r' a') m d e o p u v (i, i', _, _) (j, j', _, _) (qs, qx, b, b') (_, is, js, f, f', z) (_, is', js', g, g', z') q =
    let z'' : SpellsStruct m p s x is' js' = subst₂ (λ l n. SpellsStruct m p l n is' js') (sym qs) (sym qx) z' in
    let w : (o ≡ p) × (is ≡ is') × (js ≡ js') =
    struct_unique m s x is js is' js' o p u v (twin_rows m (d - 1) (e - 1) is is' r r' h i j b f g) (twin_rows m (d - 1) (e - 1) js js' a a' k i' j' b' f' g') z z'' q in (
      w.0,
      (
        qs,
        qx,
        same_rows m (d - 1) (e - 1) is r r' h i j b f (subst (λ l. AreItems m (e - 1) l r') (sym w.1) g),
        same_rows m (d - 1) (e - 1) js a a' k i' j' b' f' (subst (λ l. AreItems m (e - 1) l a') (sym w.2) g'),
      ),
    )
unique_struct s x r a h k _ m d e o p u v i j b f g q = absurd b

-- ---- lists
abbrev pub AllRivals : List Octets → List Octets → Type 0
AllRivals os ps = AllByRecursion (λ o. AllByRecursion (Rivals o) ps) os

-- equally many elements of which any two are rivals
joined_unique : (os ps : List Octets) (x y : Octets) → length os ≡ length ps → AllRivals os ps → joined os ++ x ≡ joined ps ++ y → os ≡ ps
joined_unique [] [] x y l v e = refl
joined_unique [] (p ∷ ps) x y l v e = absurd (omega arith)
joined_unique (o ∷ os) [] x y l v e = absurd (omega arith)
joined_unique (o ∷ os) (p ∷ ps) x y l ((v, _), vs) e =
    let e' : o ++ (joined os ++ x) ≡ p ++ (joined ps ++ y) = regroup (o ++ joined os) (p ++ joined ps) o p (joined os) (joined ps) x y refl refl e in
    let q : o ≡ p = v (joined os ++ x) (joined ps ++ y) e' in
    ap₂ ◌∷◌ q (joined_unique os ps x y (omega (arith, l)) (less os vs) (cancel o p (joined os ++ x) (joined ps ++ y) q e'))
  where
    less : (qs : List Octets) → AllRivals qs (p ∷ ps) → AllRivals qs ps
    less [] w = tt
    less (q ∷ qs) ((w, ws), more) = (ws, less qs more)

in_order_all : (m : Mode) (ordered : Bool) (P : Octets → Type 0) (read own : List Octets) → IsInOrder m ordered read own → AllByRecursion P own → AllByRecursion P read
in_order_all m true P read own f h = subst (AllByRecursion P) (sym f) h
in_order_all m false P read own f h = Reorders-all P read own f.0 h

in_order_length : (m : Mode) (ordered : Bool) (read own : List Octets) → IsInOrder m ordered read own → length read ≡ length own
in_order_length m true read own f = ap length f
in_order_length m false read own f = Reorders-length read own f.0

all_in : (P Q : Octets → Type 0) → ((o : Octets) → P o → Q o) → (os : List Octets) → AllByRecursion P os → AllByRecursion Q os
all_in P Q h [] a = tt
all_in P Q h (o ∷ os) (a, more) = (h o a, all_in P Q h os more)

-- equal lists of octets are read, whichever trees' order they stand in
list_unique : (m : Mode) (ordered : Bool) (own own' : List Octets) (o p x y : Octets) → AllRivals own own' → SpellsList m o ordered own → SpellsList m p ordered own' → o ++ x ≡ p ++ y
    → (o ≡ p) × ((read : List Octets) × IsInOrder m ordered read own × IsInOrder m ordered read own')
list_unique m ordered own own' o p x y v (q, read, f, n, i) (q', read', f', n', i') e =
    let e' : q ++ (joined read ++ x) ≡ q' ++ (joined read' ++ y) = regroup o p q q' (joined read) (joined read') x y f f' e in
    let s : (q ≡ q') × (length own ≡ length own') = quantity_unique m q q' (joined read ++ x) (joined read' ++ y) (length own) (length own') n n' e' in
    let l : length read ≡ length read' = in_order_length m ordered read own i ∙ s.1 ∙ sym (in_order_length m ordered read' own' i') in
    let w : AllRivals read read' =
    in_order_all m ordered (λ a. AllByRecursion (Rivals a) read') read own i
    (all_in (λ a. AllByRecursion (Rivals a) own') (λ a. AllByRecursion (Rivals a) read') (λ a. in_order_all m ordered (Rivals a) read' own' i') own v) in
    let r : read ≡ read' = joined_unique read read' x y l w (cancel q q' (joined read ++ x) (joined read' ++ y) s.0 e') in
    (f ∙ ap₂ ◌++◌ s.0 (ap joined r) ∙ sym f', (read, i, subst (λ z. IsInOrder m ordered z own') (sym r) i'))

-- every element of one list is a rival of every element of the other
rivals_of : (m : Mode) (d e : ℕ) (t : Tree) (o : Octets) (us : Trees) (ps : List Octets) → Unique t → IsTree t → AreTrees us → EachTree (λ u. Alike t u) us → IsEncoding m d o t → AreElements m e ps us → AllByRecursion (Rivals o) ps
unfolding IsEncoding Rattle.oer_spec.specs.Encoding.IsTree
rivals_of m d e t o NoTrees ps h w w' a f g = subst (AllByRecursion (Rivals o)) (sym g) tt
rivals_of m d e t o (More u us) [] h w w' a f g = absurd g
rivals_of m d e t o (More u us) (p ∷ ps) h w (w', ws') (a, b) f (g, gs) = (rivals t u m d e o p h w w' a f g, rivals_of m d e t o us ps h w ws' b f gs)

all_rivals : (m : Mode) (d e : ℕ) (ts us : Trees) (os ps : List Octets) → EachTree Unique ts → AreTrees ts → AreTrees us → AlikeTrees ts us → AreElements m d os ts → AreElements m e ps us → AllRivals os ps
unfolding IsEncoding Rattle.oer_spec.specs.Encoding.IsTree Rattle.oer_spec.specs.Same.Alike
all_rivals m d e NoTrees us os ps h w w' a f g = subst (λ z. AllRivals z ps) (sym f) tt
all_rivals m d e (More t ts) us [] ps h w w' a f g = absurd f
all_rivals m d e (More t ts) us (o ∷ os) ps (h, hs) (w, ws) w' (a, b) (f, fs) g = (rivals_of m d e t o us ps h w w' a f g, all_rivals m d e ts us os ps hs ws w' b fs g)

-- in turn
same_trees : (m : Mode) (d e : ℕ) (ts us : Trees) (os : List Octets) → EachTree Unique ts → AreTrees ts → AreTrees us → AlikeTrees ts us → AreElements m d os ts → AreElements m e os us → SameTrees ts us
unfolding IsEncoding Rattle.oer_spec.specs.Encoding.IsTree Rattle.oer_spec.specs.Same.Alike Rattle.oer_spec.specs.Same.Same
same_trees m d e NoTrees NoTrees os h w w' a f g = tt
same_trees m d e NoTrees (More u us) [] h w w' a f g = absurd g
same_trees m d e NoTrees (More u us) (o ∷ os) h w w' a f g = absurd (cc f)
same_trees m d e (More t ts) us [] h w w' a f g = absurd f
same_trees m d e (More t ts) NoTrees (o ∷ os) h w w' a f g = absurd (cc g)
same_trees m d e (More t ts) (More u us) (o ∷ os) (h, hs) (w, ws) (w', ws') (a, b) (f, fs) (g, gs) =
    (same_of_one t u m d e o o h w w' a.0 f g refl, same_trees m d e ts us os hs ws ws' (alike_less ts u us b) fs gs)
  where
    alike_less : (vs : Trees) (z : Tree) (zs : Trees) → AlikeTrees vs (More z zs) → AlikeTrees vs zs
    alike_less NoTrees z zs c = tt
    alike_less (More v vs) z zs ((c, cs), more) = (cs, alike_less vs z zs more)

-- in some order: the tree whose octets are taken out
taken : (m : Mode) (e : ℕ) (ps : List Octets) (us : Trees) (o : Octets) (rest : List Octets) → AreElements m e ps us → Stands ps o rest → (u : Tree) × (vs : Trees) × StandsIn us u vs × IsEncoding m e o u × AreElements m e rest vs
unfolding IsEncoding
taken m e [] us o rest f s = absurd s
taken m e (p ∷ ps) NoTrees o rest f s = absurd (cc f)
taken m e (p ∷ ps) (More u us) o rest (f, fs) (inl (q, r)) = (u, us, inl (refl, refl), subst (λ z. IsEncoding m e z u) q f, subst (λ z. AreElements m e z us) r fs)
taken m e (p ∷ ps) (More u us) o rest (f, fs) (inr (rs, r, s)) =
    let (v, vs, st, g, gs) = taken m e ps us o rs fs s in
    (v, More u vs, inr (vs, refl, st), g, subst (λ z. AreElements m e z (More u vs)) (sym r) (f, gs))

alike_taken : (ts us : Trees) (u : Tree) (vs : Trees) → StandsIn us u vs → AlikeTrees ts us → AlikeTrees ts vs
unfolding Rattle.oer_spec.specs.Same.Alike
alike_taken NoTrees us u vs s a = tt
alike_taken (More t ts) us u vs s (a, b) = ((StandsIn-each (λ z. Alike t z) us u vs s a).1, alike_taken ts us u vs s b)

are_each : (ts : Trees) → AreTrees ts → EachTree IsTree ts
unfolding Rattle.oer_spec.specs.Encoding.IsTree
are_each NoTrees h = tt
are_each (More t ts) (h, hs) = (h, are_each ts hs)

each_are : (ts : Trees) → EachTree IsTree ts → AreTrees ts
unfolding Rattle.oer_spec.specs.Encoding.IsTree
each_are NoTrees h = tt
each_are (More t ts) (h, hs) = (h, each_are ts hs)

same_mixed : (m : Mode) (d e : ℕ) (ts us : Trees) (os ps : List Octets) → EachTree Unique ts → AreTrees ts → AreTrees us → AlikeTrees ts us → AreElements m d os ts → AreElements m e ps us → Reorders os ps → SameReordered ts us
unfolding IsEncoding Rattle.oer_spec.specs.Encoding.IsTree Rattle.oer_spec.specs.Same.Alike Rattle.oer_spec.specs.Same.Same
same_mixed m d e NoTrees NoTrees os ps h w w' a f g x = refl
same_mixed m d e NoTrees (More u us) os [] h w w' a f g x = absurd g
same_mixed m d e NoTrees (More u us) os (p ∷ ps) h w w' a f g x = absurd (cc (subst (λ z. Reorders z (p ∷ ps)) f x))
same_mixed m d e (More t ts) us [] ps h w w' a f g x = absurd f
same_mixed m d e (More t ts) us (o ∷ os) ps (h, hs) (w, ws) w' (a, b) (f, fs) g (rest, s, x) =
    let (u, vs, st, k, ks) = taken m e ps us o rest g s in
    let tree = StandsIn-each IsTree us u vs st (are_each us w') in (
      u,
      vs,
      st,
      same_of_one t u m d e o o h w tree.0 (StandsIn-each (λ z. Alike t z) us u vs st a).0 f k refl,
      same_mixed m d e ts vs os rest hs ws (each_are vs tree.1) (alike_taken ts us u vs st b) fs ks x,
    )

unique_items : (ordered : Bool) (ts : Trees) → EachTree Unique ts → Unique (ListOf ordered ts)
unfolding IsEncoding Rattle.oer_spec.specs.Encoding.IsTree Rattle.oer_spec.specs.Same.Alike Rattle.oer_spec.specs.Same.Same
unique_items ordered ts h (ListOf ordered' us) m d e o p x y w w' (q, a) (_, _, own, f, z) (_, _, own', g, z') k =
    let r = list_unique m ordered own own' o p x y (all_rivals m (d - 1) (e - 1) ts us own own' h w w' a f g) z (subst (λ l. SpellsList m p l own') (sym q) z') k in
    (r.0, subst (λ l. Same (ListOf ordered ts) (ListOf l us)) q (go ordered (r.1).0 (r.1).1 (r.1).2))
  where
    go : (l : Bool) (read : List Octets) → IsInOrder m l read own → IsInOrder m l read own' → Same (ListOf l ts) (ListOf l us)
    go true read i i' = same_trees m (d - 1) (e - 1) ts us own h w w' a f (subst (λ l. AreElements m (e - 1) l us) (sym i' ∙ i) g)
    go false read i i' = same_mixed m (d - 1) (e - 1) ts us own own' h w w' a f g (Reorders-trans own read own' (Reorders-sym read own i.0) i'.0)
unique_items ordered ts h _ m d e o p x y w w' a f g k = absurd a

unique_choice : (roots additions : List Tag) (g : Tag) (t : Tree) → Unique t → Unique (Choice roots additions g t)
unfolding IsEncoding Rattle.oer_spec.specs.Encoding.IsTree Rattle.oer_spec.specs.Same.Alike Rattle.oer_spec.specs.Same.Same
unique_choice r s g t h (Choice r' s' g' t') m d e o p x y (w, _) (w', _) (a, b, c) (_, o', f, z) (_, p', f', z') k =
    let q = choice_unique m r g g' o' p' o p x y (λ same. rivals t t' m (d - 1) (e - 1) o' p' h w w' (c same) f f') z (subst (λ l. SpellsChoice m p l g' p') (sym a) z') k in
    (q.0, (a, b, q.1, same_of_one t t' m (d - 1) (e - 1) o' p' h w w' (c q.1) f f' q.2))
unique_choice r s g t h _ m d e o p x y w w' a f g' k = absurd a

unique_leaf : (l : Leaf) → Unique (Primitive l)
unfolding IsEncoding Rattle.oer_spec.specs.Encoding.IsTree Rattle.oer_spec.specs.Same.Alike Rattle.oer_spec.specs.Same.Same
unique_leaf l (Primitive k) m d e o p x y w w' a f g q = leaf_unique m o p x y l k w w' a f g q
unique_leaf l _ m d e o p x y w w' a f g q = absurd a

pub unique : (t : Tree) → Unique t
unique t = by_parts Unique unique_leaf unique_struct unique_items unique_choice t
