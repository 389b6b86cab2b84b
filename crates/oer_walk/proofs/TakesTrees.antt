-- A walk takes the encodings of the trees that its table describes, and its parts are encodings: by induction on the tree.
use Rattle.std.proofs.Common.{◌≡◌, ℕ, zero, suc, ◌+◌, ◌-◌, ◌^◌, ◌<◌, ◌≤◌, Bool, true, false, cond, List, [], ◌∷◌, ◌++◌, length, take, drop, get_or, set, Some, None, Option, Result, Ok, Err, refl, sym, ap, ap₂, subst, ◌∙◌, arith, inl, inr, ◌⊎◌, append_assoc, length-append, append-nil, Fits, w32}
use Rattle.std.specs.Prelude.{⊤, nat_lt, nat_le, not, min, ◌&&◌, slice_range}
use Rattle.std.proofs.lemmas.List.{ext_get_or, get_or-take, length-take, length-set}
use Rattle.std.proofs.lemmas.Bool.{lt-leb, le-leb, le-ltb, ltb-true, ltb-false}
use Rattle.asn1_core.specs.Octets.{Octets, joined}
use Rattle.asn1_core.specs.Tags.{holds}
use Rattle.asn1_core.specs.declared.codec.Codec.TheVariants.{Oer}
use Rattle.asn1_core.specs.declared.error.DecodeErrorKind.{DecodeErrorKind}
use Rattle.asn1_core.specs.declared.error.DecodeErrorKind.TheVariants.{TooManyEmptyElements}
use Rattle.asn1_core.specs.declared.tag.Tag.{Tag}
use Rattle.oer_leaf_read.proofs.ReadPlaces.{preamble_reads, bitmap_reads}
use Rattle.oer_leaf_read.proofs.ReadQuantities.{quantity_reads}
use Rattle.oer_leaf_read.proofs.ReadTags.{tag_reads}
use Rattle.oer_spec.specs.Encoding.{IsTree, AreRows, AreSlot, AreTrees, IsEncoding, AreItems, IsItem, AreElements, canonical_octets, canonical_elements, list_fails, empties, row_tags}
use Rattle.oer_spec.specs.Leaves.{Width, Fixed as FixedWidth, Counted as CountedWidth, TooManyEmpty, width_of, unit_of}
use Rattle.oer_spec.specs.Lengths.{IsBehindLength, IsQuantity, IsTag}
use Rattle.oer_spec.specs.Mode.{Lenient}
use Rattle.oer_spec.specs.Orders.{Stands, Reorders}
use Rattle.oer_spec.specs.Places.{Item, present, presence, bodies, extension_bit, IsExtension, SpellsStruct, IsInOrder, IsAlternative, in_writing_order}
use Rattle.oer_spec.specs.Reading.{◌>>=◌, quantity_at}
use Rattle.oer_spec.specs.ReadingBits.{preamble_at, bitmap_at}
use Rattle.oer_spec.specs.Same.{EachTree, OnSlot}
use Rattle.oer_spec.specs.Tree.{Leaf, Boolean, Null, Enum, Int, Bits, Named, Text, Tree, Primitive, Struct, ListOf, Choice as ChoiceTree, Rows, NoRows, Required, Optional, Default, Slot, Absent, Present, Trees, NoTrees, More}
use Rattle.oer_spec.proofs.Empties.{reordered_empties}
use Rattle.oer_spec.proofs.Lists.{Reorders-refl, Reorders-length, Reorders-all}
use Rattle.oer_spec.proofs.Nil.{nil_alike}
use Rattle.oer_spec.proofs.Skips.{is_nil}
use Rattle.oer_spec.proofs.Trees.{EachRow, by_parts}
use Rattle.oer_walk.specs.Described.{Describes, DescribesRoots, DescribesAdditions, DescribesSlot, DescribesTrees}
use Rattle.oer_walk.specs.Forms.{width_form, bits_form, units_form, leaf_form}
use Rattle.oer_walk.specs.Parts.{blank}
use Rattle.oer_walk.specs.Shown.{IsIn, IsRoot, IsAddition as IsAdditionOf, IsElement, IsPartOf, LiesAt, IsContentBy, IsContent, AreNodes, Whole, AreInside, NoPart, Part, Unknown}
use Rattle.oer_walk.specs.Tables.{nothing, word, place_of, form_if, form_of, component_of, alternative_at, alternative_of, optionals}
use Rattle.oer_walk.specs.Walks.{Walk, done, from, inside, elements_by, components_by, known_by, additions_by, extension_count, body_by, sequence_by, found, tagged_at, chosen, choice_by, list_by, is_leaf, is_nothing, leaf_at, scope_by, part_at, overlay}
use Rattle.oer_walk.specs.declared.nodes.Node.{Node}
use Rattle.oer_walk.specs.declared.places.Place.{Place}
use Rattle.oer_walk.specs.declared.places.Scope.{Scope}
use Rattle.oer_walk.specs.declared.places.Stop.{Stop}
use Rattle.oer_walk.specs.declared.table.Form.{Form}
use Rattle.oer_walk.specs.declared.table.Form.TheVariants.{List as ListForm, Sequence, Choice, Nothing}
use Rattle.oer_walk.specs.declared.table.Parts.{Parts}
use Rattle.oer_walk.proofs.Everywhere.{shown_at}
use Rattle.oer_walk.proofs.Leaves.{leaf_taken}
use Rattle.oer_walk.proofs.Steps.{value_leaf, value_scope}
use Rattle.oer_walk.proofs.Takes.{IsAt, at_later, range_is, Joins, AnyUnknown, Owns, TakesPart, TakesValue, Takes, takes_behind, takes_read, takes_read_part, takes_from, takes_closed, takes_open}
use Rattle.oer_walk.proofs.TagOrder.{PlacedRoots, placed_none, placed_more, roots_in_order, spelled_in_order}
use Rattle.oer_walk.proofs.TakesRows.{PartTaken, BodyTaken, AllTaken, elements_taken, RootTaken, RootsTaken, roots_counted, roots_taken, AdditionsTaken, additions_taken}

-- ---- leaves
width_is : (w : Width) → is_leaf (width_form w) ≡ true
width_is (FixedWidth sign k) = refl
width_is (CountedWidth sign) = refl

bits_is : (o : Option ℕ) → is_leaf (bits_form o) ≡ true
bits_is (Some n) = refl
bits_is None = refl

units_is : (k : ℕ) (o : Option ℕ) → is_leaf (units_form k o) ≡ true
units_is k (Some n) = refl
units_is k None = refl

leaf_is : (l : Leaf) → is_leaf (leaf_form l) ≡ true
leaf_is (Boolean b) = refl
leaf_is Null = refl
leaf_is (Enum n) = refl
leaf_is (Int r n) = width_is (width_of r)
leaf_is (Bits s b) = bits_is _
leaf_is (Named s b) = bits_is _
leaf_is (Text r s c) = units_is (unit_of r) _

width_known : (w : Width) → is_nothing (width_form w) ≡ false
width_known (FixedWidth sign k) = refl
width_known (CountedWidth sign) = refl

bits_known : (o : Option ℕ) → is_nothing (bits_form o) ≡ false
bits_known (Some n) = refl
bits_known None = refl

units_known : (k : ℕ) (o : Option ℕ) → is_nothing (units_form k o) ≡ false
units_known k (Some n) = refl
units_known k None = refl

leaf_known : (l : Leaf) → is_nothing (leaf_form l) ≡ false
leaf_known (Boolean b) = refl
leaf_known Null = refl
leaf_known (Enum n) = refl
leaf_known (Int r n) = width_known (width_of r)
leaf_known (Bits s b) = bits_known _
leaf_known (Named s b) = bits_known _
leaf_known (Text r s c) = units_known (unit_of r) _

-- as many elements have no octets as are written without
empty_of : (o : Octets) (os : List Octets) → empties (o ∷ os) ≡ cond (is_nil o) (suc (empties os)) (empties os)
empty_of [] os = refl
empty_of (x ∷ o) os = refl

same_empties : (d : ℕ) (os : List Octets) (ts : Trees) → AreTrees ts → AreElements Lenient d os ts → empties (canonical_elements ts) ≡ empties os
unfolding Rattle.oer_spec.specs.Encoding.IsTree Rattle.oer_spec.specs.Encoding.IsEncoding Rattle.oer_spec.specs.Encoding.canonical_octets
same_empties d os NoTrees i h = ap empties (sym h)
same_empties d [] (More t ts) i h = absurd h
same_empties d (o ∷ os) (More t ts) i h =
    empty_of (canonical_octets t) (canonical_elements ts)
    ∙ ap (λ (b : Bool). cond b (suc (empties (canonical_elements ts))) (empties (canonical_elements ts))) (sym (nil_alike t Lenient d o i.0 h.0))
    ∙ ap (λ (z : ℕ). cond (is_nil o) (suc z) z) (same_empties d os ts i.1 h.1)
    ∙ sym (empty_of o os)

reordered : (ordered : Bool) (read own : List Octets) → IsInOrder Lenient ordered read own → Reorders read own
reordered true read own e = subst (Reorders read) e (Reorders-refl read)
reordered false read own (r, strict) = r

module _ (all : Octets) (ws : List ℕ) (none : form_of ws nothing ≡ Nothing) where
  inside_both : {m : ℕ} {t : Tree} {xs : List Node} (ys : List Node) → AreInside ws all m t xs → AreInside ws all m t ys → AreInside ws all m t (xs ++ ys)
  inside_both ys (NoPart m t) k = k
  inside_both ys (Part m t v x inner others p h more) k = subst (AreInside ws all m t) (sym (append_assoc (x ∷ inner) others ys)) (Part m t v x inner (others ++ ys) p h (inside_both ys more k))
  inside_both ys (Unknown m t x others e more) k = Unknown m t x (others ++ ys) e (inside_both ys more k)

  joins : (m : ℕ) (t : Tree) → Joins (AreInside ws all m t)
  joins m t = record { none = NoPart m t; both = λ xs ys h k. inside_both ys h k }

  any : (m : ℕ) (t : Tree) → AnyUnknown (AreInside ws all m t)
  any m t x e = Unknown m t x [] e (NoPart m t)

  -- the table has the type of a tree that it describes
  is_known : (m : ℕ) (t : Tree) → Describes ws m t → is_nothing (form_of ws m) ≡ false
  unfolding Rattle.oer_walk.specs.Described.Describes
  is_known m (Primitive l) f = ap is_nothing f ∙ leaf_known l
  is_known m (Struct set extensible r a) f = ap is_nothing f.1
  is_known m (ListOf ordered ts) f = ap is_nothing f.1
  is_known m (ChoiceTree roots additions g t) f = ap is_nothing f.2

  -- a value of the tree is taken, and the nodes inside it are those of the tree
  abbrev Shows : Tree → Octets → ℕ → ℕ → Type 0
  Shows t o begin end = IsContent t o (slice_range all begin end)

  abbrev Taken : Tree → Type 0
  Taken t = (d m : ℕ) (o rest : Octets) → IsTree t → Describes ws m t → IsEncoding Lenient d o t → Takes all (AreInside ws all m t) (AreInside ws all m t) (Shows t o) ws d m (o ++ rest) rest

  whole_nodes : (d m : ℕ) (v : Tree) (o : Octets) (x : Node) (inner : List Node) → x.type_number ≡ m → Describes ws m v → IsEncoding Lenient d o v → LiesAt all x o → Shows v o x.content x.end → AreInside ws all m v inner → AreNodes ws all m v (x ∷ inner)
  whole_nodes d m v o x inner e f h l c r = Whole m v x inner e (record { described = subst (λ (z : ℕ). Describes ws z v) (sym e) f; levels = d; octets = o; spelled = h; place = l; content = c }) r

  single : (l : Leaf) → Taken (Primitive l)
  unfolding Rattle.oer_spec.specs.Encoding.IsTree Rattle.oer_spec.specs.Encoding.IsEncoding Rattle.oer_walk.specs.Described.Describes
  single l d m o rest i f h = λ s n e at.
      let form : form_of ws s.type_number ≡ leaf_form l = ap (form_of ws) e ∙ f in
      let t = leaf_taken l o rest i h in
      let regrouped : o ++ rest ≡ t.front ++ (t.content ++ rest) = ap (λ (z : Octets). z ++ rest) t.split ∙ append_assoc t.front t.content rest in
      let range : slice_range all (s.end - length (t.content ++ rest)) (s.end - length rest) ≡ t.content = range_is all s.end t.content rest (at_later all s.end t.front (t.content ++ rest) (subst (IsAt all s.end) regrouped at)) in
      let read : leaf_at (form_of ws s.type_number) (o ++ rest) ≡ Ok (t.content ++ rest, rest) = ap (λ (z : Form). leaf_at z (o ++ rest)) form ∙ t.taken in
      subst (λ (z : Walk (ℕ × Octets)). TakesValue (AreInside ws all m (Primitive l)) (λ c. Shows (Primitive l) o c (s.end - length rest)) s.most n z rest) (sym (value_leaf ws d s n (o ++ rest) (ap is_leaf form ∙ leaf_is l)))
      (takes_read (AreInside ws all m (Primitive l)) (λ c. Shows (Primitive l) o c (s.end - length rest)) s.most n s.start (leaf_at (form_of ws s.type_number) (o ++ rest)) (t.content ++ rest, rest) (λ x. done (s.end - length x.0, x.1)) rest read
      (inl (s.end - length (t.content ++ rest), refl, NoPart m (Primitive l), subst (IsContentBy (leaf_form l) o) (sym range) t.is)))

  -- what is inside a list, a sequence or a choice
  scope_taken : (t : Tree) (C : ℕ → ℕ → Type 0) (d m : ℕ) (form : Form) (input rest : Octets) → form_of ws m ≡ form → is_leaf form ≡ false → 1 ≤ d → ((s : Scope) (n : ℕ) → IsAt all s.end input → TakesValue (AreInside ws all m t) (λ c. C c (s.end - length rest)) s.most n (scope_by (part_at ws (d - 1)) ws form s n input) rest) → Takes all (AreInside ws all m t) (AreInside ws all m t) C ws d m input rest
  scope_taken t C d m form input rest f leaf deep h = λ s n e at.
      let is : form_of ws s.type_number ≡ form = ap (form_of ws) e ∙ f in
      subst (λ (z : Walk (ℕ × Octets)). TakesValue (AreInside ws all m t) (λ c. C c (s.end - length rest)) s.most n z rest) (sym (value_scope ws d (d - 1) s n input (ap is_leaf is ∙ leaf) (omega arith)))
      (subst (λ (z : Form). TakesValue (AreInside ws all m t) (λ c. C c (s.end - length rest)) s.most n (scope_by (part_at ws (d - 1)) ws z s n input) rest) (sym is) (h s n at))

  -- ---- the parts of a tree, of the type with that number
  module _ (number : ℕ) (tree : Tree) where
    abbrev Q : List Node → Type 0
    Q = AreInside ws all number tree

    abbrev j : Joins Q
    j = joins number tree

    body_of : (d name m : ℕ) (v : Tree) (o : Octets) → Taken v → ((x : Node) → x.name ≡ name → x.type_number ≡ m → IsPartOf ws number tree x v) → IsTree v → Describes ws m v → IsEncoding Lenient d o v → PartTaken all Q j ws d name m o
    body_of d name m v o p has i f h = record {
      closed = λ q n rest closed en em at. takes_closed all Q (AreInside ws all m v) (Shows v o) ws d q n o rest closed (own q en em) at (subst (λ (z : ℕ). Takes all Q (AreInside ws all m v) (Shows v o) ws d z (o ++ rest) rest) (sym em) (p d m o rest i f h));
      opened = λ q n g rest left is_open en em behind at. takes_open all Q (AreInside ws all m v) (Shows v o) ws d q n g rest o left (ap (λ (z : ℕ). is_nothing (form_of ws z)) em ∙ is_known m v f) is_open behind (own q en em) at (subst (λ (z : ℕ). Takes all Q (AreInside ws all m v) (Shows v o) ws d z (o ++ left) left) (sym em) (p d m o left i f h));
    }
      where
        part : (x : Node) (inner : List Node) → x.name ≡ name → x.type_number ≡ m → LiesAt all x o → Shows v o x.content x.end → AreInside ws all m v inner → Q (x ∷ inner)
        part x inner a b l c r =
            subst Q (append-nil (x ∷ inner))
            (Part number tree v x inner [] (has x a b) (subst (λ (z : ℕ). AreNodes ws all z v (x ∷ inner)) (sym b) (whole_nodes d m v o x inner b f h l c r)) (NoPart number tree))

        own : (q : Place) → q.name ≡ name → q.type_number ≡ m → Owns all Q (AreInside ws all m v) (Shows v o) ws d q.name q.type_number o
        own q en em x inner a b l c r = part x inner (a ∙ en) (b ∙ em) l c r

    -- ---- lists
    each_taken : (ts : Trees) (d m : ℕ) (own : List Octets) → EachTree Taken ts → ((x : Node) (v : Tree) → x.name ≡ nothing → x.type_number ≡ m → IsElement ts v → IsPartOf ws number tree x v) → AreTrees ts → DescribesTrees ws m ts → AreElements Lenient d own ts → AllTaken all Q j ws d m own
    unfolding Rattle.oer_spec.specs.Encoding.IsTree Rattle.oer_spec.specs.Encoding.IsEncoding Rattle.oer_walk.specs.Described.Describes
    each_taken NoTrees d m own p has i f h = subst (AllTaken all Q j ws d m) (sym h) tt
    each_taken (More t ts) d m [] p has i f h = absurd h
    each_taken (More t ts) d m (o ∷ own) p has i f h = (body_of d nothing m t o p.0 (λ x a b. has x t a b (inl refl)) i.0 f.0 h.0, each_taken ts d m own p.1 (λ x v a b k. has x v a b (inr k)) i.1 f.1 h.1)

    list_taken : (d m : ℕ) (q : Octets) (own : List Octets) (rest : Octets) (s : Scope) (n : ℕ) → IsQuantity Lenient q (length own) → AllTaken all Q j ws d m own → empties own ≤ 65536 → IsAt all s.end (q ++ (joined own ++ rest)) → TakesValue Q (λ c. ⊤) s.most n (list_by (part_at ws d) m s n (q ++ (joined own ++ rest))) rest
    unfolding list_by
    list_taken d m q own rest s n h each few at =
        takes_read Q (λ c. ⊤) s.most n s.start (quantity_at Oer (q ++ (joined own ++ rest))) (length own, joined own ++ rest) (λ x. from (s.end - length x.1) (elements_by (part_at ws d) s (inside s m nothing false) x.0 0 n x.1)) rest
        ((quantity_reads Oer).again q (joined own ++ rest) (length own) h)
        (takes_from Q (λ c. ⊤) s.most n (s.end - length (joined own ++ rest)) (elements_by (part_at ws d) s (inside s m nothing false) (length own) 0 n (joined own ++ rest)) rest tt (elements_taken all Q j ws d s m own 0 n rest each (omega arith) (at_later all s.end q (joined own ++ rest) at)))

    -- ---- sequences
    item_body : (d name m : ℕ) (g : Tag) (x : Item) (b : Bool) → x.bit ≡ b → BodyTaken all Q j ws d name m b x.octets → BodyTaken all Q j ws d name m x.bit x.octets
    item_body d name m g x b e h = subst (λ (z : Bool). BodyTaken all Q j ws d name m z x.octets) (sym e) h

    slot_body : (s : Slot) (d name m : ℕ) (g : Tag) (x : Item) → OnSlot Taken s → ((y : Node) (v : Tree) → y.name ≡ name → y.type_number ≡ m → IsIn s v → IsPartOf ws number tree y v) → AreSlot s → DescribesSlot ws m s → IsItem Lenient d g x s → (x.marked ≡ true) × BodyTaken all Q j ws d name m x.bit x.octets
    unfolding Rattle.oer_spec.specs.Encoding.IsTree Rattle.oer_spec.specs.Encoding.IsEncoding Rattle.oer_walk.specs.Described.Describes
    slot_body Absent d name m g x p has i f h = (ap (λ (z : Item). z.marked) h, item_body d name m g x false (ap (λ (z : Item). z.bit) h) (ap (λ (z : Item). z.octets) h))
    slot_body (Present t) d name m g x p has i f h = (ap (λ (z : Item). z.marked) h.0, item_body d name m g x true (ap (λ (z : Item). z.bit) h.0) (body_of d name m t x.octets p (λ y a b. has y t a b refl) i f h.1))

    spelled_body : (u : Tree) (d name m : ℕ) (g : Tag) (x : Item) → Taken u → ((y : Node) → y.name ≡ name → y.type_number ≡ m → IsPartOf ws number tree y u) → IsTree u → Describes ws m u → x ≡ present g x.octets → IsEncoding Lenient d x.octets u → (x.marked ≡ true) × BodyTaken all Q j ws d name m x.bit x.octets
    spelled_body u d name m g x p has i f e h = (ap (λ (z : Item). z.marked) e, item_body d name m g x true (ap (λ (z : Item). z.bit) e) (body_of d name m u x.octets p has i f h))

    marked_there : (x : Item) → x.marked ≡ true → x.marked ≡ false → x.bit ≡ true
    marked_there x e f = absurd (cc (sym e ∙ f))

    slot_tag : (s : Slot) (d : ℕ) (g : Tag) (x : Item) → IsItem Lenient d g x s → x.tag ≡ g
    unfolding Rattle.oer_spec.specs.Encoding.IsEncoding
    slot_tag Absent d g x h = ap (λ (z : Item). z.tag) h
    slot_tag (Present t) d g x h = ap (λ (z : Item). z.tag) h.0

    roots_are : (r : Rows) (d : ℕ) (ns : List ℕ) (ps : Parts) (is : List Item) → EachRow Taken r → ((y : Node) (v : Tree) → IsRoot ws ps ns r y v → IsPartOf ws number tree y v) → AreRows r → DescribesRoots ws ps ns r → AreItems Lenient d is r → PlacedRoots all Q j ws d ps is (row_tags r) ns
    unfolding Rattle.oer_spec.specs.Encoding.IsTree Rattle.oer_spec.specs.Encoding.IsEncoding Rattle.oer_walk.specs.Described.Describes
    roots_are NoRows d [] ps is p has a f h = placed_none all Q j ws d ps is h
    roots_are NoRows d (i ∷ ns) ps is p has a f h = absurd f
    roots_are (Required g t r) d [] ps is p has a f h = absurd f
    roots_are (Required g t r) d (i ∷ ns) ps [] p has a f h = absurd h
    roots_are (Required g t r) d (i ∷ ns) ps (x ∷ is) p has a f h =
        let root : RootTaken all Q j ws d ps i x = record {
          marked = f.0 ∙ sym (ap (λ (z : Item). z.marked) h.0);
          there = λ e. ap (λ (z : Item). z.bit) h.0;
          body = item_body d (component_of ws ps i).name (component_of ws ps i).type_number g x true (ap (λ (z : Item). z.bit) h.0) (body_of d (component_of ws ps i).name (component_of ws ps i).type_number t x.octets p.0 (λ y b c. has y t (inl ((b, c), refl))) a.0 f.1 h.1);
        } in
        placed_more all Q j ws d ps i x g is (row_tags r) ns (ap (λ (z : Item). z.tag) h.0) root (roots_are r d ns ps is p.1 (λ y v k. has y v (inr k)) a.1 f.2 h.2)
    roots_are (Optional g s r) d [] ps is p has a f h = absurd f
    roots_are (Optional g s r) d (i ∷ ns) ps [] p has a f h = absurd h
    roots_are (Optional g s r) d (i ∷ ns) ps (x ∷ is) p has a f h =
        let b = slot_body s d (component_of ws ps i).name (component_of ws ps i).type_number g x p.0 (λ y v b c k. has y v (inl ((b, c), k))) a.0 f.1 h.0 in
        placed_more all Q j ws d ps i x g is (row_tags r) ns (slot_tag s d g x h.0) (record { marked = f.0 ∙ sym b.0; there = marked_there x b.0; body = b.1 }) (roots_are r d ns ps is p.1 (λ y v k. has y v (inr k)) a.1 f.2 h.1)
    roots_are (Default g u s r) d [] ps is p has a f h = absurd f
    roots_are (Default g u s r) d (i ∷ ns) ps [] p has a f h = absurd h
    roots_are (Default g u s r) d (i ∷ ns) ps (x ∷ is) p has a f (inl h, more) =
        let b = slot_body s d (component_of ws ps i).name (component_of ws ps i).type_number g x p.1 (λ y v b c k. has y v (inl ((b, c), inl k))) a.1 f.2 h in
        placed_more all Q j ws d ps i x g is (row_tags r) ns (slot_tag s d g x h) (record { marked = f.0 ∙ sym b.0; there = marked_there x b.0; body = b.1 }) (roots_are r d ns ps is p.2 (λ y v k. has y v (inr k)) a.3 f.3 more)
    roots_are (Default g u s r) d (i ∷ ns) ps (x ∷ is) p has a f (inr h, more) =
        let b = spelled_body u d (component_of ws ps i).name (component_of ws ps i).type_number g x p.0 (λ y b c. has y u (inl ((b, c), inr refl))) a.0 f.1 h.2 h.3 in
        placed_more all Q j ws d ps i x g is (row_tags r) ns (ap (λ (z : Item). z.tag) h.2) (record { marked = f.0 ∙ sym b.0; there = marked_there x b.0; body = b.1 }) (roots_are r d ns ps is p.2 (λ y v k. has y v (inr k)) a.3 f.3 more)

    additions_are : (r : Rows) (d i k : ℕ) (ps : Parts) (is : List Item) → EachRow Taken r → ((y : Node) (v : Tree) → IsAdditionOf ws ps i r y v → IsPartOf ws number tree y v) → AreRows r → DescribesAdditions ws ps i k r → AreItems Lenient d is r → AdditionsTaken all Q j ws d ps i k is
    unfolding Rattle.oer_spec.specs.Encoding.IsTree Rattle.oer_spec.specs.Encoding.IsEncoding Rattle.oer_walk.specs.Described.Describes
    additions_are NoRows d i k ps is p has a f h = subst (AdditionsTaken all Q j ws d ps i k) (sym h) f
    additions_are (Required g t r) d i zero ps is p has a f h = absurd f
    additions_are (Required g t r) d i (suc k) ps [] p has a f h = absurd h
    additions_are (Required g t r) d i (suc k) ps (x ∷ is) p has a f h =
        (item_body d (component_of ws ps (ps.roots + i)).name (component_of ws ps (ps.roots + i)).type_number g x true (ap (λ (z : Item). z.bit) h.0) (body_of d (component_of ws ps (ps.roots + i)).name (component_of ws ps (ps.roots + i)).type_number t x.octets p.0 (λ y b c. has y t (inl ((b, c), refl))) a.0 f.0 h.1), additions_are r d (i + 1) k ps is p.1 (λ y v h. has y v (inr h)) a.1 f.1 h.2)
    additions_are (Optional g s r) d i zero ps is p has a f h = absurd f
    additions_are (Optional g s r) d i (suc k) ps [] p has a f h = absurd h
    additions_are (Optional g s r) d i (suc k) ps (x ∷ is) p has a f h = ((slot_body s d (component_of ws ps (ps.roots + i)).name (component_of ws ps (ps.roots + i)).type_number g x p.0 (λ y v b c h. has y v (inl ((b, c), h))) a.0 f.0 h.0).1, additions_are r d (i + 1) k ps is p.1 (λ y v h. has y v (inr h)) a.1 f.1 h.1)
    additions_are (Default g u s r) d i zero ps is p has a f h = absurd f
    additions_are (Default g u s r) d i (suc k) ps [] p has a f h = absurd h
    additions_are (Default g u s r) d i (suc k) ps (x ∷ is) p has a f (inl h, more) = ((slot_body s d (component_of ws ps (ps.roots + i)).name (component_of ws ps (ps.roots + i)).type_number g x p.1 (λ y v b c h. has y v (inl ((b, c), inl h))) a.1 f.1 h).1, additions_are r d (i + 1) k ps is p.2 (λ y v h. has y v (inr h)) a.3 f.2 more)
    additions_are (Default g u s r) d i (suc k) ps (x ∷ is) p has a f (inr h, more) = ((spelled_body u d (component_of ws ps (ps.roots + i)).name (component_of ws ps (ps.roots + i)).type_number g x p.0 (λ y b c. has y u (inl ((b, c), inr refl))) a.0 f.0 h.2 h.3).1, additions_are r d (i + 1) k ps is p.2 (λ y v h. has y v (inr h)) a.3 f.2 more)

    -- bits in front of the components' own
    front_count : (ps : Parts) (e x : Bool) → ps.is_extensible ≡ e → length (extension_bit e x) ≡ extension_count ps
    front_count ps true x h = ap (λ (b : Bool). cond b 1 0) (sym h)
    front_count ps false x h = ap (λ (b : Bool). cond b 1 0) (sym h)

    front_dropped : (ps : Parts) (e x : Bool) (bits : List Bool) → ps.is_extensible ≡ e → drop (extension_count ps) (extension_bit e x ++ bits) ≡ bits
    front_dropped ps true x bits h = ap (λ (b : Bool). drop (cond b 1 0) (x ∷ bits)) h
    front_dropped ps false x bits h = ap (λ (b : Bool). drop (cond b 1 0) bits) h

    front_bit : (ps : Parts) (e x : Bool) (bits : List Bool) → ps.is_extensible ≡ e → (x ≡ true → e ≡ true) → (ps.is_extensible && get_or (extension_bit e x ++ bits) 0 false) ≡ x
    front_bit ps true x bits h only = ap (λ (b : Bool). b && x) h
    front_bit ps false false bits h only = ap (λ (b : Bool). b && get_or bits 0 false) h
    front_bit ps false true bits h only = absurd (cc (only refl))

    rest_taken : (d : ℕ) (ps : Parts) (s : Scope) (extended : Bool) (o : Octets) (js : List Item) (n : ℕ) (rest : Octets) → AdditionsTaken all Q j ws d ps 0 ps.additions js → IsExtension Lenient extended o js → IsAt all s.end (o ++ rest) → TakesPart Q s.most n (cond extended (additions_by (part_at ws d) ws ps s n (o ++ rest)) (done (o ++ rest))) rest
    unfolding additions_by
    rest_taken d ps s false o js n rest adds h at = inl (ap (λ (z : Octets). Ok (z ++ rest)) h.0, NoPart number tree)
    rest_taken d ps s true o js n rest adds (q, later, b, split, bitmap, more, own) at =
        let regrouped : o ++ rest ≡ q ++ (later ++ rest) = ap (λ (z : Octets). z ++ rest) split ∙ append_assoc q later rest in
        subst (λ (z : Octets). TakesPart Q s.most n (additions_by (part_at ws d) ws ps s n z) rest) (sym regrouped)
        (takes_read_part Q s.most n s.start (bitmap_at Oer (q ++ (later ++ rest))) (b, later ++ rest) (λ x. known_by (part_at ws d) ws ps s ps.additions 0 x.0 n x.1) rest ((bitmap_reads Oer).again q (later ++ rest) b bitmap)
        (additions_taken all Q j ws d ps s 0 ps.additions js b n later rest none (any number tree) adds more (at_later all s.end q (later ++ rest) (subst (IsAt all s.end) regrouped at))))

    body_taken : (d : ℕ) (ps : Parts) (s : Scope) (e x : Bool) (is js : List Item) (o : Octets) (n : ℕ) (rest : Octets) → ps.is_extensible ≡ e → (x ≡ true → e ≡ true) → RootsTaken all Q j ws d ps 0 ps.roots is → AdditionsTaken all Q j ws d ps 0 ps.additions js → IsExtension Lenient x o js → IsAt all s.end (bodies is ++ (o ++ rest)) → TakesPart Q s.most n (body_by (part_at ws d) ws ps s (extension_bit e x ++ presence is) n (bodies is ++ (o ++ rest))) rest
    unfolding body_by
    body_taken d ps s e x is js o n rest ext only roots adds h at =
        takes_behind Q j s.most n (components_by (part_at ws d) ws ps s ps.roots 0 (drop (extension_count ps) (extension_bit e x ++ presence is)) n (bodies is ++ (o ++ rest))) (λ m left. cond (ps.is_extensible && get_or (extension_bit e x ++ presence is) 0 false) (additions_by (part_at ws d) ws ps s m left) (done left)) (o ++ rest) rest
        (roots_taken all Q j ws d ps s 0 ps.roots is (drop (extension_count ps) (extension_bit e x ++ presence is)) [] n (o ++ rest) roots (front_dropped ps e x (presence is) ext ∙ sym (append-nil (presence is))) at)
        (λ m. subst (λ (z : Bool). TakesPart Q s.most m (cond z (additions_by (part_at ws d) ws ps s m (o ++ rest)) (done (o ++ rest))) rest) (sym (front_bit ps e x (presence is) ext only)) (rest_taken d ps s x o js m rest adds h (at_later all s.end (bodies is) (o ++ rest) at)))

    sequence_taken : (d : ℕ) (ps : Parts) (s : Scope) (e : Bool) (is js : List Item) (o : Octets) (n : ℕ) (rest : Octets) → ps.is_extensible ≡ e → RootsTaken all Q j ws d ps 0 ps.roots is → AdditionsTaken all Q j ws d ps 0 ps.additions js → SpellsStruct Lenient o false e is js → IsAt all s.end (o ++ rest) → TakesValue Q (λ c. ⊤) s.most n (sequence_by (part_at ws d) ws ps s n (o ++ rest)) rest
    unfolding sequence_by
    sequence_taken d ps s e is js o n rest ext roots adds h at =
        let regrouped : o ++ rest ≡ h.preamble ++ (bodies is ++ (h.extension ++ rest)) = ap (λ (z : Octets). z ++ rest) h.whole ∙ append_assoc h.preamble (bodies is ++ h.extension) rest ∙ ap (λ (z : Octets). h.preamble ++ z) (append_assoc (bodies is) h.extension rest) in
        let counted = roots_counted all Q j ws d ps 0 ps.roots is roots in
        let many : length (extension_bit e h.extended ++ presence is) ≡ extension_count ps + optionals ws ps ps.roots = omega (arith, length-append (extension_bit e h.extended) (presence is), front_count ps e h.extended ext, counted ∙ ap (optionals ws ps) (zero_more ps.roots)) in
        subst (λ (z : Octets). TakesValue Q (λ c. ⊤) s.most n (sequence_by (part_at ws d) ws ps s n z) rest) (sym regrouped)
        (takes_read Q (λ c. ⊤) s.most n s.start (preamble_at (extension_count ps + optionals ws ps ps.roots) (h.preamble ++ (bodies is ++ (h.extension ++ rest)))) (extension_bit e h.extended ++ presence is, bodies is ++ (h.extension ++ rest)) (λ b. from (s.end - length b.1) (body_by (part_at ws d) ws ps s b.0 n b.1)) rest
        ((preamble_reads (extension_count ps + optionals ws ps ps.roots)).again h.preamble (bodies is ++ (h.extension ++ rest)) (extension_bit e h.extended ++ presence is) (h.bits, many))
        (takes_from Q (λ c. ⊤) s.most n (s.end - length (bodies is ++ (h.extension ++ rest))) (body_by (part_at ws d) ws ps s (extension_bit e h.extended ++ presence is) n (bodies is ++ (h.extension ++ rest))) rest tt
        (body_taken d ps s e h.extended is js h.extension n rest ext h.only roots adds h.rest (at_later all s.end h.preamble (bodies is ++ (h.extension ++ rest)) (subst (IsAt all s.end) regrouped at)))))
      where
        zero_more : (k : ℕ) → 0 + k ≡ k
        zero_more k = omega arith

    -- ---- choices
    alternative_taken : (d : ℕ) (p : Place) (n : ℕ) (root : Bool) (r f rest : Octets) → p.is_open ≡ not root → IsAt all p.end (r ++ rest) → PartTaken all Q j ws d p.name p.type_number f → IsAlternative Lenient root r f → TakesPart Q p.most n (part_at ws d p n (r ++ rest)) rest
    alternative_taken d p n true r f rest is_open at h e = subst (λ (z : Octets). TakesPart Q p.most n (part_at ws d p n (z ++ rest)) rest) (sym e) (h.closed p n rest is_open refl refl (subst (λ (z : Octets). IsAt all p.end (z ++ rest)) e at))
    alternative_taken d p n false r f rest is_open at h (content, left, behind, split, strict) =
        h.opened p n r rest left is_open refl refl (subst (IsBehindLength Lenient r) split behind) at

    not_less : (a b : ℕ) (root : Bool) → nat_lt a b ≡ root → nat_le b a ≡ not root
    not_less a b true e = lt-leb b a (ltb-true a b e)
    not_less a b false e = le-leb b a (ltb-false a b e)

    tagged : (ps : Parts) (i : ℕ) (g : Tag) (q rest : Octets) → g.value < 2 ^ 32 → IsTag Lenient q g → alternative_of ws ps g ≡ Some i → tagged_at ws ps (q ++ rest) ≡ Ok (i, rest)
    unfolding tagged_at
    tagged ps i g q rest small tag alternative =
        ap (λ (z : Result (Tag × Octets) DecodeErrorKind). z >>= λ (t : Tag × Octets). found ps t.0 t.1 (alternative_of ws ps t.0)) ((tag_reads Oer).again q rest g (small, tag)) ∙ ap (found ps g rest) alternative

    choice_taken : (d : ℕ) (ps : Parts) (i : ℕ) (s : Scope) (g : Tag) (root : Bool) (q r f : Octets) (n : ℕ) (rest : Octets) → g.value < 2 ^ 32 → alternative_of ws ps g ≡ Some i → nat_lt i ps.roots ≡ root → PartTaken all Q j ws d (alternative_at ws ps i).name (alternative_at ws ps i).type_number f → IsTag Lenient q g → IsAlternative Lenient root r f → IsAt all s.end (q ++ (r ++ rest)) → TakesValue Q (λ c. ⊤) s.most n (choice_by (part_at ws d) ws ps s n (q ++ (r ++ rest))) rest
    unfolding choice_by
    choice_taken d ps i s g root q r f n rest small alternative less h tag is at =
        takes_read Q (λ c. ⊤) s.most n s.start (tagged_at ws ps (q ++ (r ++ rest))) (i, r ++ rest) (λ t. from (s.end - length t.1) (chosen (part_at ws d) ws ps s t.0 n t.1)) rest (tagged ps i g q (r ++ rest) small tag alternative)
        (takes_from Q (λ c. ⊤) s.most n (s.end - length (r ++ rest)) (chosen (part_at ws d) ws ps s i n (r ++ rest)) rest tt
        (alternative_taken d (inside s (alternative_at ws ps i).type_number (alternative_at ws ps i).name (nat_le ps.roots i)) n root r f rest (not_less i ps.roots root less) (at_later all s.end q (r ++ rest) at) h is))

  -- ---- all trees
  struct : (set extensible : Bool) (r a : Rows) → EachRow Taken r → EachRow Taken a → Taken (Struct set extensible r a)
  unfolding Rattle.oer_spec.specs.Encoding.IsTree Rattle.oer_spec.specs.Encoding.IsEncoding Rattle.oer_walk.specs.Described.Describes scope_by
  struct set extensible r a pr pa d m o rest i (ps, form, ext, ns, turn, roots, adds) (deep, is, js, ri, ai, s) =
      let taken = roots_in_order all (Q m (Struct set extensible r a)) (j m (Struct set extensible r a)) ws (d - 1) ps set ps.roots is (row_tags r) ns turn (roots_are m (Struct set extensible r a) r (d - 1) ns ps is pr (λ y v k. (ps, form, inl (ns, turn, k))) i.0 roots ri) in
      let spelled = spelled_in_order Lenient o set extensible is js s in
      scope_taken (Struct set extensible r a) (Shows (Struct set extensible r a) o) d m (Sequence ps) (o ++ rest) rest form refl deep (λ sc n at. sequence_taken m (Struct set extensible r a) (d - 1) ps sc extensible (in_writing_order set is) js o n rest ext taken (additions_are m (Struct set extensible r a) a (d - 1) 0 ps.additions ps js pa (λ y v k. (ps, form, inr k)) i.1 adds ai) spelled at)

  items : (ordered : Bool) (ts : Trees) → EachTree Taken ts → Taken (ListOf ordered ts)
  unfolding Rattle.oer_spec.specs.Encoding.IsTree Rattle.oer_spec.specs.Encoding.IsEncoding Rattle.oer_walk.specs.Described.Describes scope_by
  items ordered ts p d m o rest i (element, form, each) (deep, fine, own, elements, (q, read, split, many, order)) =
      let mixed = reordered ordered read own order in
      let regrouped : o ++ rest ≡ q ++ (joined read ++ rest) = ap (λ (z : Octets). z ++ rest) split ∙ append_assoc q (joined read) rest in
      let few = ltb-false 65536 (empties (canonical_elements ts)) (fine TooManyEmpty) in
      let as_many = same_empties (d - 1) own ts i elements in
      let again = reordered_empties read own mixed in
      let taken : AllTaken all (Q m (ListOf ordered ts)) (j m (ListOf ordered ts)) ws (d - 1) element read = Reorders-all (λ (o : Octets). PartTaken all (Q m (ListOf ordered ts)) (j m (ListOf ordered ts)) ws (d - 1) nothing element o) read own mixed (each_taken m (ListOf ordered ts) ts (d - 1) element own p (λ x v a b k. (form ∙ ap (λ (z : ℕ). ListForm z) (sym b), a, k)) i each elements) in
      scope_taken (ListOf ordered ts) (Shows (ListOf ordered ts) o) d m (ListForm element) (o ++ rest) rest form refl deep (λ s n at. subst (λ (z : Octets). TakesValue (Q m (ListOf ordered ts)) (λ c. ⊤) s.most n (list_by (part_at ws (d - 1)) element s n z) rest) (sym regrouped)
      (list_taken m (ListOf ordered ts) (d - 1) element q read rest s n (subst (IsQuantity Lenient q) (sym (Reorders-length read own mixed)) many) taken (omega arith) (subst (IsAt all s.end) regrouped at)))

  choice : (roots additions : List Tag) (g : Tag) (t : Tree) → Taken t → Taken (ChoiceTree roots additions g t)
  unfolding Rattle.oer_spec.specs.Encoding.IsTree Rattle.oer_spec.specs.Encoding.IsEncoding Rattle.oer_walk.specs.Described.Describes scope_by
  choice roots additions g t p d m o rest i (ps, k, form, small, alternative, less, described) (deep, f, inner, (q, r, split, tag, is)) =
      let regrouped : o ++ rest ≡ q ++ (r ++ rest) = ap (λ (z : Octets). z ++ rest) split ∙ append_assoc q r rest in
      scope_taken (ChoiceTree roots additions g t) (Shows (ChoiceTree roots additions g t) o) d m (Choice ps) (o ++ rest) rest form refl deep (λ s n at. subst (λ (z : Octets). TakesValue (Q m (ChoiceTree roots additions g t)) (λ c. ⊤) s.most n (choice_by (part_at ws (d - 1)) ws ps s n z) rest) (sym regrouped)
      (choice_taken m (ChoiceTree roots additions g t) (d - 1) ps k s g (holds roots g) q r f n rest small alternative less (body_of m (ChoiceTree roots additions g t) (d - 1) (alternative_at ws ps k).name (alternative_at ws ps k).type_number t f p (λ x a b. (ps, k, form, alternative, (a, b), refl)) i.0 described inner) tag is (subst (IsAt all s.end) regrouped at)))

  pub tree_taken : (t : Tree) → Taken t
  tree_taken t = by_parts Taken single struct items choice t

-- ---- the whole walk
-- no table has a type of the number that stands for nothing
nothing_is : (ws : List ℕ) → ((k : ℕ) → Fits w32 (get_or ws k 0)) → form_of ws nothing ≡ Nothing
unfolding form_of place_of
nothing_is ws fits = ap (λ (b : Bool). form_if ws (cond b (Some (word ws (nothing + 1))) None)) (le-ltb nothing (word ws 0) (first ws fits))
  where
    first : (us : List ℕ) → ((k : ℕ) → Fits w32 (get_or us k 0)) → word us 0 ≤ nothing
    first [] f = omega arith
    first (u ∷ us) f = let l = f 0 in omega (arith, l)

pub walk_takes : (ws us : List ℕ) (levels : ℕ) (p : Place) (input o rest : Octets) (t : Tree) → ws ≡ us → ((k : ℕ) → Fits w32 (get_or us k 0)) → p.is_open ≡ false → input ≡ o ++ rest → IsTree t → Describes us p.type_number t → IsEncoding Lenient levels o t → p.end ≡ length input → TakesPart (AreNodes us input p.type_number t) p.most 0 (part_at ws levels p 0 input) rest
walk_takes ws us levels p input o rest t same fits closed e i f h ends =
    subst (λ (z : Octets). TakesPart (AreNodes us input p.type_number t) p.most 0 (part_at ws levels p 0 z) rest) (sym e)
    (subst (λ (z : List ℕ). TakesPart (AreNodes us input p.type_number t) p.most 0 (part_at z levels p 0 (o ++ rest)) rest) (sym same)
    (takes_closed input (AreNodes us input p.type_number t) (AreInside us input p.type_number t) (Shows input us none t o) us levels p 0 o rest closed (λ x inner a b l c r. whole_nodes input us none levels p.type_number t o x inner b f h l c r) at (tree_taken input us none t levels p.type_number o rest i f h)))
  where
    none : form_of us nothing ≡ Nothing
    none = nothing_is us fits

    at : IsAt input p.end (o ++ rest)
    at = ([], [], e ∙ sym (append-nil (o ++ rest)), omega (arith, ends, ap length e))

pub took_ok : (Q : List Node → Type 0) (limit most nodes : ℕ) (input o rest left : Octets) (w : Walk Octets) (consumed : ℕ) → input ≡ o ++ rest → w.answer ≡ Ok left → consumed ≡ length input - length left → most ≡ limit → TakesPart Q most 0 w rest → ((◌≡◌ {A = Option DecodeErrorKind} None None) × (consumed ≡ length o)) ⊎ ((◌≡◌ {A = Option DecodeErrorKind} None (Some TooManyEmptyElements)) × (limit ≤ nodes))
took_ok Q limit most nodes input o rest left w consumed e is c same_most (inl (f, h)) =
    let same : left ≡ rest = cc (sym is ∙ f) in
    inl (refl, let l = ap length same in let m = ap length e in let n = length-append o rest in omega (arith, c, l, m, n))
took_ok Q limit most nodes input o rest left w consumed e is c same_most (inr (at, f, many)) = absurd (cc (sym is ∙ f))

pub took_err : (Q : List Node → Type 0) (limit most nodes : ℕ) (o rest : Octets) (stop : Stop) (w : Walk Octets) (consumed : ℕ) → w.answer ≡ Err stop → nodes ≡ 0 + length w.nodes → most ≡ limit → TakesPart Q most 0 w rest → ((Some stop.kind ≡ None) × (consumed ≡ length o)) ⊎ ((Some stop.kind ≡ Some TooManyEmptyElements) × (limit ≤ nodes))
took_err Q limit most nodes o rest stop w consumed is count same_most (inl (f, h)) = absurd (cc (sym is ∙ f))
took_err Q limit most nodes o rest stop w consumed is count same_most (inr (at, f, many)) =
    let same : stop ≡ record { place = at; kind = TooManyEmptyElements } = cc (sym is ∙ f) in
    inr (ap (λ (z : Stop). Some z.kind) same, omega (arith, count, many, same_most))

-- ---- the parts that are shown
overlay_length : (ns room : List Node) (n : ℕ) → length (overlay room n ns) ≡ length room
overlay_length [] room n = refl
overlay_length (x ∷ ns) room n = overlay_length ns (set room n x) (n + 1) ∙ length-set room n x

taken_all : (room ns : List Node) → length ns ≤ length room → take (length ns) (overlay room 0 ns) ≡ ns
taken_all room ns few = ext_get_or blank (take (length ns) (overlay room 0 ns)) ns (omega (arith, few, count, length_is)) at
  where
    count : length (overlay room 0 ns) ≡ length room
    count = overlay_length ns room 0

    length_is : length (take (length ns) (overlay room 0 ns)) ≡ min (length ns) (length (overlay room 0 ns))
    length_is = length-take (length ns) (overlay room 0 ns)

    at : (i : ℕ) → i < length (take (length ns) (overlay room 0 ns)) → get_or (take (length ns) (overlay room 0 ns)) i blank ≡ get_or ns i blank
    at i lt =
        let below : i < length ns = omega (arith, lt, length_is) in
        get_or-take (length ns) (overlay room 0 ns) i blank below ∙ shown_at room ns i (omega (arith, few, below)) below

pub shown_ok : (Q : List Node → Type 0) (most shown nodes : ℕ) (room after : List Node) (w : Walk Octets) (left rest : Octets) → after ≡ overlay room 0 w.nodes → w.answer ≡ Ok left → nodes ≡ 0 + length w.nodes → shown ≤ length room → shown ≡ nodes → TakesPart Q most 0 w rest → Q (take nodes after)
shown_ok Q most shown nodes room after w left rest put is count fits all_shown (inl (e, h)) =
    let many : nodes ≡ length w.nodes = omega (arith, count) in
    subst Q (sym (ap₂ (λ (k : ℕ) (z : List Node). take k z) many put ∙ taken_all room w.nodes (omega arith))) h
shown_ok Q most shown nodes room after w left rest put is count fits all_shown (inr (at, e, many)) = absurd (cc (sym is ∙ e))
