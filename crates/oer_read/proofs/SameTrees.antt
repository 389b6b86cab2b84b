-- Same trees have the same encodings.
use Rattle.std.proofs.Common.{Bool, true, false, ℕ, List, inl, refl, subst}
use Rattle.asn1_core.specs.Octets.{Octets}
use Rattle.asn1_core.specs.Tags.{holds}
use Rattle.asn1_core.specs.declared.codec.Codec.{Codec}
use Rattle.asn1_core.specs.declared.codec.Codec.TheVariants.{Oer, Coer}
use Rattle.asn1_core.specs.declared.tag.Tag.{Tag}
use Rattle.oer_spec.proofs.Skips.{skips_lenient, skips_canonical}
use Rattle.oer_spec.proofs.Trees.{EachRow, by_parts}
use Rattle.oer_spec.specs.Encoding.{IsTree, IsEncoding}
use Rattle.oer_spec.specs.Mode.{mode_of}
use Rattle.oer_spec.specs.Same.{Same, SameRows, SameSlot, SameTrees, SameReordered, EachTree, OnSlot, StandsIn}
use Rattle.oer_spec.specs.Tree.{Leaf, Tree, Primitive, Struct, ListOf, Choice, Rows, NoRows, Required, Optional, Default, Slot, Absent, Present, Trees, NoTrees, More}
use Rattle.oer_spec.specs.Versions.{Drops, DropsRows, DropsSlot, DropsTrees, DropsReordered}

-- ---- a tree is same as itself
abbrev SameSelf : Tree → Type 0
SameSelf t = Same t t

self_slot : (s : Slot) → OnSlot SameSelf s → SameSlot s s
unfolding Rattle.oer_spec.specs.Same.Same
self_slot Absent h = tt
self_slot (Present t) h = h

self_rows : (r : Rows) → EachRow SameSelf r → SameRows r r
unfolding Rattle.oer_spec.specs.Same.Same
self_rows NoRows h = tt
self_rows (Required g t r) (h, hs) = (refl, h, self_rows r hs)
self_rows (Optional g s r) (h, hs) = (refl, self_slot s h, self_rows r hs)
self_rows (Default g u s r) (k, h, hs) = (refl, refl, self_slot s h, self_rows r hs)

self_trees : (ts : Trees) → EachTree SameSelf ts → SameTrees ts ts
unfolding Rattle.oer_spec.specs.Same.Same
self_trees NoTrees h = tt
self_trees (More t ts) (h, hs) = (h, self_trees ts hs)

self_mixed : (ts : Trees) → EachTree SameSelf ts → SameReordered ts ts
unfolding Rattle.oer_spec.specs.Same.Same
self_mixed NoTrees h = refl
self_mixed (More t ts) (h, hs) = (t, ts, inl (refl, refl), h, self_mixed ts hs)

self_items : (ordered : Bool) (ts : Trees) → EachTree SameSelf ts → SameSelf (ListOf ordered ts)
unfolding Rattle.oer_spec.specs.Same.Same
self_items true ts h = self_trees ts h
self_items false ts h = self_mixed ts h

pub same_self : (t : Tree) → Same t t
unfolding Rattle.oer_spec.specs.Same.Same
same_self t = by_parts SameSelf (λ l. refl) (λ set e r a h k. (refl, refl, self_rows r h, self_rows a k)) self_items (λ r a g t h. (refl, refl, refl, h)) t

-- ---- a tree drops to a same one
abbrev SameDrops : Bool → Tree → Type 0
SameDrops z t = (u : Tree) → Same t u → Drops z t u

drops_slot : (z : Bool) (s s' : Slot) → OnSlot (SameDrops z) s → SameSlot s s' → DropsSlot z s s'
unfolding Rattle.oer_spec.specs.Same.Same Rattle.oer_spec.specs.Versions.Drops
drops_slot z Absent Absent h x = tt
drops_slot z (Present t) (Present t') h x = h t' x
drops_slot z Absent (Present t') h x = absurd x
drops_slot z (Present t) Absent h x = absurd x

module _ (z : Bool) (plain : (t : Tree) → SameDrops false t) where
  drops_rows : (more : Bool) (r r' : Rows) → EachRow (SameDrops z) r → SameRows r r' → DropsRows z more r r'
  unfolding Rattle.oer_spec.specs.Same.Same Rattle.oer_spec.specs.Versions.Drops
  drops_rows more NoRows NoRows h x = tt
  drops_rows more (Required g t r) (Required g' t' r') (h, hs) (e, x, xs) = (e, h t' x, drops_rows more r r' hs xs)
  drops_rows more (Optional g s r) (Optional g' s' r') (h, hs) (e, x, xs) = (e, drops_slot z s s' h x, drops_rows more r r' hs xs)
  drops_rows more (Default g u s r) (Default g' u' s' r') (k, h, hs) (e, f, x, xs) =
      (e, subst (λ (w : Tree). Drops false u w) f (plain u u (same_self u)), inl (drops_slot z s s' h x), drops_rows more r r' hs xs)
  drops_rows more _ _ h x = absurd x

drops_trees : (z : Bool) (ts us : Trees) → EachTree (SameDrops z) ts → SameTrees ts us → DropsTrees z ts us
unfolding Rattle.oer_spec.specs.Same.Same Rattle.oer_spec.specs.Versions.Drops
drops_trees z NoTrees NoTrees h s = tt
drops_trees z (More t ts) (More u us) (h, hs) (s, ss) = (h u s, drops_trees z ts us hs ss)
drops_trees z _ _ h s = absurd s

drops_mixed : (z : Bool) (ts us : Trees) → EachTree (SameDrops z) ts → SameReordered ts us → DropsReordered z ts us
unfolding Rattle.oer_spec.specs.Same.Same Rattle.oer_spec.specs.Versions.Drops
drops_mixed z NoTrees us h s = s
drops_mixed z (More t ts) us (h, hs) (u, rest, st, s, ss) = (u, rest, st, h u s, drops_mixed z ts rest hs ss)

drops_items : (z : Bool) (ordered : Bool) (ts : Trees) → EachTree (SameDrops z) ts → SameDrops z (ListOf ordered ts)
unfolding Rattle.oer_spec.specs.Same.Same Rattle.oer_spec.specs.Versions.Drops
drops_items z true ts h (ListOf true us) s = drops_trees z ts us h s
drops_items z false ts h (ListOf false us) s = drops_mixed z ts us h s
drops_items z true ts h _ s = absurd s
drops_items z false ts h _ s = absurd s

drops_choice : (z : Bool) (roots additions : List Tag) (g : Tag) (t : Tree) → SameDrops z t → SameDrops z (Choice roots additions g t)
unfolding Rattle.oer_spec.specs.Same.Same Rattle.oer_spec.specs.Versions.Drops
drops_choice z r a g t h (Choice r' a' g' t') (x, y, e, s) = (e, (λ i. holds (x i) (e i)), h t' s)
drops_choice z r a g t h _ s = absurd s

drops_leaf : (z : Bool) (l : Leaf) → SameDrops z (Primitive l)
unfolding Rattle.oer_spec.specs.Same.Same Rattle.oer_spec.specs.Versions.Drops
drops_leaf z l (Primitive k) s = s
drops_leaf z l _ s = absurd s

-- in lenient form first: a default's row asks for it
plain_rows : (more : Bool) (r r' : Rows) → EachRow (SameDrops false) r → SameRows r r' → DropsRows false more r r'
unfolding Rattle.oer_spec.specs.Same.Same Rattle.oer_spec.specs.Versions.Drops
plain_rows more NoRows NoRows h x = tt
plain_rows more (Required g t r) (Required g' t' r') (h, hs) (e, x, xs) = (e, h t' x, plain_rows more r r' hs xs)
plain_rows more (Optional g s r) (Optional g' s' r') (h, hs) (e, x, xs) = (e, drops_slot false s s' h x, plain_rows more r r' hs xs)
plain_rows more (Default g u s r) (Default g' u' s' r') (k, h, hs) (e, f, x, xs) =
    (e, subst (λ (w : Tree). Drops false u w) f (k u (same_self u)), inl (drops_slot false s s' h x), plain_rows more r r' hs xs)
plain_rows more _ _ h x = absurd x

plain_struct : (set extensible : Bool) (r a : Rows) → EachRow (SameDrops false) r → EachRow (SameDrops false) a → SameDrops false (Struct set extensible r a)
unfolding Rattle.oer_spec.specs.Same.Same Rattle.oer_spec.specs.Versions.Drops
plain_struct set e r a h k (Struct set' e' r' a') (s, f, x, y) = (s, f, plain_rows false r r' h x, plain_rows true a a' k y)
plain_struct set e r a h k _ s = absurd s

plain_drops : (t : Tree) → SameDrops false t
plain_drops t = by_parts (SameDrops false) (drops_leaf false) plain_struct (drops_items false) (drops_choice false) t

strict_struct : (set extensible : Bool) (r a : Rows) → EachRow (SameDrops true) r → EachRow (SameDrops true) a → SameDrops true (Struct set extensible r a)
unfolding Rattle.oer_spec.specs.Same.Same Rattle.oer_spec.specs.Versions.Drops
strict_struct set e r a h k (Struct set' e' r' a') (s, f, x, y) = (s, f, drops_rows true plain_drops false r r' h x, drops_rows true plain_drops true a a' k y)
strict_struct set e r a h k _ s = absurd s

strict_drops : (t : Tree) → SameDrops true t
strict_drops t = by_parts (SameDrops true) (drops_leaf true) strict_struct (drops_items true) (drops_choice true) t

-- ---- an encoding of a tree is one of each same tree
pub same_encoding : (codec : Codec) (d : ℕ) (o : Octets) (t u : Tree) → IsTree t → IsTree u → Same t u → IsEncoding (mode_of codec) d o t → IsEncoding (mode_of codec) d o u
same_encoding Oer d o t u i j s f = skips_lenient t u d o i j (plain_drops t u s) f
same_encoding Coer d o t u i j s f = skips_canonical t u d o i j (strict_drops t u s) f
