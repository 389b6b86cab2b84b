-- Components of a set, each with its place in a table: in the order of their tags they are the table's.
use Rattle.std.proofs.Common.{◌≡◌, ℕ, zero, suc, ◌+◌, Bool, true, false, cond, List, [], ◌∷◌, map, refl, sym, ap, ap₂, subst, ◌∙◌}
use Rattle.std.specs.List.{AllByRecursion}
use Rattle.asn1_core.specs.Octets.{Octets}
use Rattle.asn1_core.specs.Tags.{tag_le, put_by_tag, by_tag}
use Rattle.asn1_core.specs.declared.tag.Tag.{Tag}
use Rattle.oer_spec.specs.Mode.{Mode}
use Rattle.oer_spec.specs.Places.{Item, put_by_tag as put_item, by_tag as items_by_tag, in_writing_order, SpellsStruct}
use Rattle.oer_walk.specs.Described.{from_on, with_places, AreInTurn}
use Rattle.oer_walk.specs.declared.nodes.Node.{Node}
use Rattle.oer_walk.specs.declared.table.Parts.{Parts}
use Rattle.oer_walk.proofs.Takes.{Joins}
use Rattle.oer_walk.proofs.TakesRows.{RootTaken, RootsTaken}

-- ---- lists in the order of tags
module _ {X Y : Type 0} (f : X → Y) (key : Y → Tag) where
  map_cond : (b : Bool) (xs ys : List X) → map f (cond b xs ys) ≡ cond b (map f xs) (map f ys)
  map_cond true xs ys = refl
  map_cond false xs ys = refl

  map_put : (x : X) (ys : List X) → map f (put_by_tag (λ (z : X). key (f z)) x ys) ≡ put_by_tag key (f x) (map f ys)
  map_put x [] = refl
  map_put x (y ∷ ys) =
      map_cond (tag_le (key (f x)) (key (f y))) (x ∷ y ∷ ys) (y ∷ put_by_tag (λ (z : X). key (f z)) x ys)
      ∙ ap (λ (zs : List Y). cond (tag_le (key (f x)) (key (f y))) (f x ∷ f y ∷ map f ys) (f y ∷ zs)) (map_put x ys)

  pub map_sorted : (xs : List X) → map f (by_tag (λ (z : X). key (f z)) xs) ≡ by_tag key (map f xs)
  map_sorted [] = refl
  map_sorted (x ∷ xs) = map_put x (by_tag (λ (z : X). key (f z)) xs) ∙ ap (put_by_tag key (f x)) (map_sorted xs)

module _ {X : Type 0} (key : X → Tag) (P : X → Type 0) where
  all_cond : (b : Bool) (xs ys : List X) → AllByRecursion P xs → AllByRecursion P ys → AllByRecursion P (cond b xs ys)
  all_cond true xs ys h k = h
  all_cond false xs ys h k = k

  all_put : (x : X) (ys : List X) → P x → AllByRecursion P ys → AllByRecursion P (put_by_tag key x ys)
  all_put x [] p h = (p, tt)
  all_put x (y ∷ ys) p h = all_cond (tag_le (key x) (key y)) (x ∷ y ∷ ys) (y ∷ put_by_tag key x ys) (p, h) (h.0, all_put x ys p h.1)

  pub all_sorted : (xs : List X) → AllByRecursion P xs → AllByRecursion P (by_tag key xs)
  all_sorted [] h = tt
  all_sorted (x ∷ xs) h = all_put x (by_tag key xs) h.0 (all_sorted xs h.1)

-- ---- items
items_put : (i : Item) (is : List Item) → put_by_tag (λ (x : Item). x.tag) i is ≡ put_item i is
items_put i [] = refl
items_put i (j ∷ js) = ap (λ (zs : List Item). cond (tag_le i.tag j.tag) (i ∷ j ∷ js) (j ∷ zs)) (items_put i js)

items_same : (is : List Item) → by_tag (λ (x : Item). x.tag) is ≡ items_by_tag is
items_same [] = refl
items_same (i ∷ is) = ap (put_by_tag (λ (x : Item). x.tag) i) (items_same is) ∙ items_put i (items_by_tag is)

-- a set's items in the order of their tags spell what a sequence's do
pub spelled_in_order : (m : Mode) (o : Octets) (set extensible : Bool) (is js : List Item) → SpellsStruct m o set extensible is js → SpellsStruct m o false extensible (in_writing_order set is) js
spelled_in_order m o set extensible is js f =
    record { extended = f.extended; preamble = f.preamble; extension = f.extension; whole = f.whole; bits = f.bits; rest = f.rest; only = f.only }

-- items, each with its place
abbrev Placed : Type 0
Placed = Item × ℕ

abbrev item_of : Placed → Item
item_of q = q.0

abbrev place_of : Placed → ℕ
place_of q = q.1

abbrev tagged_place : Placed → Tag × ℕ
tagged_place q = (q.0.tag, q.1)

tagged_places : (qs : List Placed) → map (λ (x : Tag × ℕ). x.1) (map tagged_place qs) ≡ map place_of qs
tagged_places [] = refl
tagged_places (q ∷ qs) = ap (λ (ns : List ℕ). q.1 ∷ ns) (tagged_places qs)

module _ (all : Octets) (Q : List Node → Type 0) (joins : Joins Q) (ws : List ℕ) (d : ℕ) (ps : Parts) where
  -- what is taken of items at their places
  pub record PlacedRoots (is : List Item) (gs : List Tag) (ns : List ℕ) : Type 0 where
    pub placed : List Placed
    pub items : map item_of placed ≡ is
    pub places : map place_of placed ≡ ns
    pub tags : map tagged_place placed ≡ with_places gs ns
    pub taken : AllByRecursion (λ (q : Placed). RootTaken all Q joins ws d ps q.1 q.0) placed

  pub placed_none : (is : List Item) → is ≡ [] → PlacedRoots is [] []
  placed_none is e = record { placed = []; items = sym e; places = refl; tags = refl; taken = tt }

  pub placed_more : (i : ℕ) (x : Item) (g : Tag) (is : List Item) (gs : List Tag) (ns : List ℕ) → x.tag ≡ g → RootTaken all Q joins ws d ps i x → PlacedRoots is gs ns → PlacedRoots (x ∷ is) (g ∷ gs) (i ∷ ns)
  placed_more i x g is gs ns e h r = record {
    placed = (x, i) ∷ r.placed;
    items = ap (λ (z : List Item). x ∷ z) r.items;
    places = ap (λ (z : List ℕ). i ∷ z) r.places;
    tags = ap₂ (λ (z : Tag) (zs : List (Tag × ℕ)). (z, i) ∷ zs) e r.tags;
    taken = (h, r.taken);
  }

  in_turn : (qs : List Placed) (i k : ℕ) → map place_of qs ≡ from_on i k → AllByRecursion (λ (q : Placed). RootTaken all Q joins ws d ps q.1 q.0) qs → RootsTaken all Q joins ws d ps i k (map item_of qs)
  in_turn [] i zero e h = refl
  in_turn [] i (suc k) e h = absurd cc
  in_turn (q ∷ qs) i zero e h = absurd cc
  in_turn (q ∷ qs) i (suc k) e h =
      let first : q.1 ≡ i = cc e in
      let rest : map place_of qs ≡ from_on (i + 1) k = cc e in
      (subst (λ (z : ℕ). RootTaken all Q joins ws d ps z q.0) first h.0, in_turn qs (i + 1) k rest h.1)

  pub roots_in_order : (set : Bool) (k : ℕ) (is : List Item) (gs : List Tag) (ns : List ℕ) → AreInTurn set k gs ns → PlacedRoots is gs ns → RootsTaken all Q joins ws d ps 0 k (in_writing_order set is)
  roots_in_order false k is gs ns e r = subst (RootsTaken all Q joins ws d ps 0 k) r.items (in_turn r.placed 0 k (r.places ∙ e) r.taken)
  roots_in_order true k is gs ns e r =
      let sorted : List Placed = by_tag (λ (q : Placed). q.0.tag) r.placed in
      let places : map place_of sorted ≡ from_on 0 k =
      sym (tagged_places sorted) ∙ ap (map (λ (x : Tag × ℕ). x.1)) (map_sorted tagged_place (λ (x : Tag × ℕ). x.0) r.placed ∙ ap (by_tag (λ (x : Tag × ℕ). x.0)) r.tags) ∙ e in
      let items : map item_of sorted ≡ items_by_tag is = map_sorted item_of (λ (x : Item). x.tag) r.placed ∙ ap (by_tag (λ (x : Item). x.tag)) r.items ∙ items_same is in
      subst (RootsTaken all Q joins ws d ps 0 k) items (in_turn sorted 0 k places (all_sorted (λ (q : Placed). q.0.tag) (λ (q : Placed). RootTaken all Q joins ws d ps q.1 q.0) r.placed r.taken))
