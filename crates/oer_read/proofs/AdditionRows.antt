-- The next addition of a scope, and what comes after it.
use Rattle.std.proofs.Common.{◌≡◌, ℕ, Bool, true, false, Option, Some, None, Result, Ok, List, [], ◌∷◌, ◌++◌, refl, sym, ap, ap₂, ◌∙◌, subst, append_assoc, get_or, drop, inl, inr}
use Rattle.std.specs.Prelude.{not, ⊤}
use Rattle.std.specs.List.{AllByRecursion}
use Rattle.std.proofs.lemmas.Bool.{eq-eqb}
use Rattle.asn1_core.specs.Octets.{Octets, AreOctets}
use Rattle.asn1_core.specs.Tags.{class_number, same_tag}
use Rattle.asn1_core.specs.declared.codec.Codec.{Codec}
use Rattle.asn1_core.specs.declared.error.DecodeErrorKind.{DecodeErrorKind}
use Rattle.asn1_core.specs.declared.tag.Tag.{Tag}
use Rattle.oer_leaf_read.proofs.ReadLengths.{content_reads}
use Rattle.oer_leaf_read.proofs.ReadPlaces.{bitmap_reads}
use Rattle.oer_spec.proofs.Steps.{bind_ok, then_ok, ok_is, rear_octets}
use Rattle.oer_spec.specs.Encoding.{AreItems, IsItem}
use Rattle.oer_spec.specs.Mode.{Mode, mode_of, InStrict}
use Rattle.oer_spec.specs.Places.{Item, bodies, IsAddition, AreAdditions, IsExtension}
use Rattle.oer_spec.specs.Reading.{◌>>=◌, ◌>>◌, content_at}
use Rattle.oer_spec.specs.ReadingBits.{bitmap_at}
use Rattle.oer_spec.specs.Tree.{Rows, NoRows, Required, Optional, Default, Slot, Absent, Present}
use Rattle.oer_read.specs.Additions.{row_present, all_present, with_bitmap, bitmap_first, mapped_at, next_place, bits_now, behind_place, open_content, addition_at}
use Rattle.oer_read.specs.Parts.{Comes, IsTail, asks_in, places_in}
use Rattle.oer_read.specs.State.{Place, State}
use Rattle.oer_read.proofs.Openings.{own_sized}

-- ---- what the rows of additions give

-- a row that no bit may leave out is there
abbrev IsThere : Item → Type 0
IsThere i = i.marked ≡ false → i.bit ≡ true

marked_there : (i : Item) → i.marked ≡ true → IsThere i
marked_there i e f = absurd (cc (sym e ∙ f))

item_marked : (m : Mode) (d : ℕ) (g : Tag) (i : Item) (s : Slot) → IsItem m d g i s → i.marked ≡ true
unfolding Rattle.oer_spec.specs.Encoding.IsEncoding
item_marked m d g i Absent h = ap (λ (z : Item). z.marked) h
item_marked m d g i (Present t) h = ap (λ (z : Item). z.marked) h.0

items_there : (m : Mode) (d : ℕ) (is : List Item) (a : Rows) → AreItems m d is a → AllByRecursion IsThere is
unfolding Rattle.oer_spec.specs.Encoding.IsEncoding
items_there m d is NoRows h = subst (λ (l : List Item). AllByRecursion IsThere l) (sym h) tt
items_there m d [] (Required g t a) h = tt
items_there m d [] (Optional g s a) h = tt
items_there m d [] (Default g u s a) h = tt
items_there m d (i ∷ is) (Required g t a) h = (λ e. ap (λ (z : Item). z.bit) h.0, items_there m d is a h.2)
items_there m d (i ∷ is) (Optional g s a) h = (marked_there i (item_marked m d g i s h.0), items_there m d is a h.1)
items_there m d (i ∷ is) (Default g u s a) (inl x, h) = (marked_there i (item_marked m d g i s x), items_there m d is a h)
items_there m d (i ∷ is) (Default g u s a) (inr x, h) = (marked_there i (ap (λ (z : Item). z.marked) x.2), items_there m d is a h)

row_there : (g : Tag) (marked bit : Bool) → (marked ≡ false → bit ≡ true) → row_present (record { tag = g; needed = not marked }) bit ≡ Ok tt
row_there g true bit h = refl
row_there g false true h = refl
row_there g false false h = absurd (cc (h refl))

-- so no required addition is missing
all_there : (m : Mode) (b : List Bool) (o : Octets) (is : List Item) → AllByRecursion IsThere is → AreAdditions m b o is → all_present (places_in is) b ≡ Ok tt
all_there m b o [] h k = refl
all_there m b o (i ∷ is) h k =
    rw (row_there i.tag i.marked (get_or b 0 false) (λ e. k.0 ∙ h.0 e)) (all_there m (drop 1 b) k.1 is h.1 k.3)

-- where the extension bit is 0 no addition has its bit set
none_set : (m : Mode) (is : List Item) → AllByRecursion (λ (i : Item). i.bit ≡ false) is → AreAdditions m [] [] is
none_set m [] h = refl
none_set m (i ∷ is) h = (sym h.0, [], subst (λ (b : Bool). IsAddition m b i.octets [] []) (sym h.0) refl, none_set m is h.1)

unset_all : (m : Mode) (o : Octets) (is : List Item) → AreAdditions m [] o is → IsExtension m false o is
unset_all m o [] h = (h, tt)
unset_all m o (i ∷ is) (e, rest, f, h) =
    let k : IsExtension m false rest is = unset_all m rest is h in
    let same : o ≡ rest = subst (λ (b : Bool). IsAddition m b i.octets o rest) (sym e) f in
    (same ∙ k.0, (sym e, k.1))

-- ---- the bitmap

-- behind the bitmap additions stand by its bits
record MapsTo (s t : State) : Type 0 where
  pub bits : List Bool
  pub is : t ≡ with_bitmap s bits t.input
  pub front : Octets
  pub split : s.input ≡ front ++ t.input
  pub tail : (o : Octets) (is : List Item) → AreAdditions (mode_of s.codec) bits o is → IsTail (mode_of s.codec) s.frame.extended s.frame.bitmap (front ++ o) is

maps_to : (s t : State) → AreOctets s.input → mapped_at s ≡ Ok t → MapsTo s t
unfolding mapped_at
maps_to s t fits = go s.frame.extended s.frame.bitmap refl refl
  where
    go : (x : Bool) (b : Option (List Bool)) → s.frame.extended ≡ x → s.frame.bitmap ≡ b → bitmap_first x b s ≡ Ok t → MapsTo s t
    go x (Some b) ex eb e =
        let same : s ≡ t = ok_is s t e in
        record {
          bits = b;
          is = sym same ∙ (λ z. record s { frame = record s.frame { bitmap = eb z } }) ∙ ap (λ (l : Octets). with_bitmap s b l) (ap (λ (z : State). z.input) same);
          front = [];
          split = ap (λ (z : State). z.input) same;
          tail = λ o is k. subst (λ (y : Option (List Bool)). IsTail (mode_of s.codec) s.frame.extended y o is) (sym eb) k;
        }
    go false None ex eb e =
        let a = then_ok (all_present s.frame.additions []) (Ok (with_bitmap s [] s.input)) t e in
        let same : with_bitmap s [] s.input ≡ t = ok_is (with_bitmap s [] s.input) t a.2 in
        let input : s.input ≡ t.input = ap (λ (z : State). z.input) same in
        record {
          bits = [];
          is = sym same ∙ ap (λ (l : Octets). with_bitmap s [] l) input;
          front = [];
          split = input;
          tail = λ o is k. subst (λ (y : Option (List Bool)). IsTail (mode_of s.codec) s.frame.extended y o is) (sym eb) (subst (λ (y : Bool). IsExtension (mode_of s.codec) y o is) (sym ex) (unset_all (mode_of s.codec) o is k));
        }
    go true None ex eb e =
        let b = bind_ok (bitmap_at s.codec s.input) (λ b. all_present s.frame.additions b.0 >> Ok (with_bitmap s b.0 b.1)) t e in
        let a = then_ok (all_present s.frame.additions b.0.0) (Ok (with_bitmap s b.0.0 b.0.1)) t b.2 in
        let same : with_bitmap s b.0.0 b.0.1 ≡ t = ok_is (with_bitmap s b.0.0 b.0.1) t a.2 in
        let input : b.0.1 ≡ t.input = ap (λ (z : State). z.input) same in
        let f = (bitmap_reads s.codec).found s.input b.0.1 b.0.0 fits b.1 in
        record {
          bits = b.0.0;
          is = sym same ∙ ap (λ (l : Octets). with_bitmap s b.0.0 l) input;
          front = f.0;
          split = f.1 ∙ ap (λ (l : Octets). f.0 ++ l) input;
          tail = λ o is k. subst (λ (y : Option (List Bool)). IsTail (mode_of s.codec) s.frame.extended y (f.0 ++ o) is) (sym eb)
              (subst (λ (y : Bool). IsExtension (mode_of s.codec) y (f.0 ++ o) is) (sym ex) (f.0, o, b.0.0, refl, f.2, k, own_sized s.codec _));
        }

-- what follows the root components is read up to the additions
record Maps (s : State) (rest : Octets) (items : List Item) : Type 0 where
  pub state : State
  pub mapped : mapped_at s ≡ Ok state
  pub bits : List Bool
  pub octets : Octets
  pub is : state ≡ with_bitmap s bits (octets ++ rest)
  pub additions : AreAdditions (mode_of s.codec) bits octets items

maps : (s : State) (o rest : Octets) (is : List Item) → s.input ≡ o ++ rest → places_in is ≡ s.frame.additions → AllByRecursion IsThere is → IsTail (mode_of s.codec) s.frame.extended s.frame.bitmap o is → Maps s rest is
unfolding mapped_at
maps s o rest is split placed there tail = go s.frame.extended s.frame.bitmap refl refl tail
  where
    go : (x : Bool) (b : Option (List Bool)) → s.frame.extended ≡ x → s.frame.bitmap ≡ b → IsTail (mode_of s.codec) x b o is → Maps s rest is
    go x (Some b) ex eb k = record {
      state = s;
      mapped = ap₂ (λ (y : Bool) (z : Option (List Bool)). bitmap_first y z s) ex eb;
      bits = b;
      octets = o;
      is = λ z. record s { input = split z; frame = record s.frame { bitmap = eb z } };
      additions = k;
    }
    go false None ex eb (e, unset) =
        let none : AreAdditions (mode_of s.codec) [] [] is = none_set (mode_of s.codec) is unset in
        let present : all_present s.frame.additions [] ≡ Ok tt = ap (λ (l : List Place). all_present l []) (sym placed) ∙ all_there (mode_of s.codec) [] [] is there none in
        record {
          state = with_bitmap s [] s.input;
          mapped = ap₂ (λ (y : Bool) (z : Option (List Bool)). bitmap_first y z s) ex eb ∙ ap (λ (r : Result (Unit {0}) DecodeErrorKind). r >> Ok (with_bitmap s [] s.input)) present;
          bits = [];
          octets = [];
          is = ap (λ (l : Octets). with_bitmap s [] l) (split ∙ ap (λ (l : Octets). l ++ rest) e);
          additions = none;
        }
    go true None ex eb (q, r, b, e, spelled, k, _) =
        let present : all_present s.frame.additions b ≡ Ok tt = ap (λ (l : List Place). all_present l b) (sym placed) ∙ all_there (mode_of s.codec) b r is there k in
        let input : s.input ≡ q ++ (r ++ rest) = split ∙ ap (λ (l : Octets). l ++ rest) e ∙ append_assoc q r rest in
        let read : bitmap_at s.codec s.input ≡ Ok (b, r ++ rest) = ap (bitmap_at s.codec) input ∙ (bitmap_reads s.codec).again q (r ++ rest) b spelled in
        record {
          state = with_bitmap s b (r ++ rest);
          mapped = ap₂ (λ (y : Bool) (z : Option (List Bool)). bitmap_first y z s) ex eb
              ∙ ap (λ (w : Result (List Bool × Octets) DecodeErrorKind). w >>= λ b. all_present s.frame.additions b.0 >> Ok (with_bitmap s b.0 b.1)) read
              ∙ ap (λ (w : Result (Unit {0}) DecodeErrorKind). w >> Ok (with_bitmap s b (r ++ rest))) present;
          bits = b;
          octets = r;
          is = refl;
          additions = k;
        }

-- ---- the open type

-- the octets that an addition's row gives are what stands there: none, or the front of an open type's, strictly all of them
abbrev pub IsHeld : Mode → Item → Option Octets → Type 0
IsHeld m i None = i.bit ≡ false
IsHeld m i (Some content) = (i.bit ≡ true) × (rest : Octets) × (content ≡ i.octets ++ rest) × InStrict m (rest ≡ [])

-- the decoder behind the next row, with those bits of the bitmap
abbrev behind_bits : State → List Bool → Octets → State
behind_bits s b rest = record s { input = rest; frame = record s.frame { additions = drop 1 s.frame.additions; bitmap = Some (drop 1 b) } }

record OpensTo (t u : State) (bit : Bool) (x : Option Octets) : Type 0 where
  pub front : Octets
  pub split : t.input ≡ front ++ u.input
  pub is : u ≡ behind_place t u.input
  pub held : (i : Item) (o : Octets) → IsHeld (mode_of t.codec) i x → (bit ≡ i.bit) × IsAddition (mode_of t.codec) i.bit i.octets (front ++ o) o

opens_to : (t u : State) (bit : Bool) (x : Option Octets) → AreOctets t.input → open_content t bit ≡ Ok (x, u) → OpensTo t u bit x
opens_to t u false x fits e =
    let p : ◌≡◌ {A = Option Octets × State} (None, behind_place t t.input) (x, u) = ok_is (None, behind_place t t.input) (x, u) e in
    let none : None ≡ x = ap (λ (z : Option Octets × State). z.0) p in
    let same : behind_place t t.input ≡ u = ap (λ (z : Option Octets × State). z.1) p in
    let input : t.input ≡ u.input = ap (λ (z : State). z.input) same in
    record {
      front = [];
      split = input;
      is = sym same ∙ ap (behind_place t) input;
      held = λ i o h.
          let b : i.bit ≡ false = subst (IsHeld (mode_of t.codec) i) (sym none) h in
          (sym b, subst (λ (y : Bool). IsAddition (mode_of t.codec) y i.octets o o) (sym b) refl);
    }
opens_to t u true x fits e =
    let c = bind_ok (content_at t.codec t.input) (λ c. Ok (Some c.0, behind_place t c.1)) (x, u) e in
    let f = (content_reads t.codec).found t.input c.0.1 c.0.0 fits c.1 in
    let p : ◌≡◌ {A = Option Octets × State} (Some c.0.0, behind_place t c.0.1) (x, u) = ok_is (Some c.0.0, behind_place t c.0.1) (x, u) c.2 in
    let some : Some c.0.0 ≡ x = ap (λ (z : Option Octets × State). z.0) p in
    let same : behind_place t c.0.1 ≡ u = ap (λ (z : Option Octets × State). z.1) p in
    let input : c.0.1 ≡ u.input = ap (λ (z : State). z.input) same in
    record {
      front = f.0;
      split = f.1 ∙ ap (λ (l : Octets). f.0 ++ l) input;
      is = sym same ∙ ap (behind_place t) input;
      held = λ i o h.
          let k : IsHeld (mode_of t.codec) i (Some c.0.0) = subst (IsHeld (mode_of t.codec) i) (sym some) h in
          (sym k.0, subst (λ (y : Bool). IsAddition (mode_of t.codec) y i.octets (f.0 ++ o) o) (sym k.0) (f.0, refl, (c.0.0, k.1, f.2, k.2, k.3)));
    }

record Opens (t : State) (rest : Octets) (bit : Bool) (i : Item) : Type 0 where
  pub content : Option Octets
  pub opened : open_content t bit ≡ Ok (content, behind_place t rest)
  pub held : IsHeld (mode_of t.codec) i content

opens : (t : State) (o more rest : Octets) (i : Item) (bit : Bool) → i.bit ≡ bit → t.input ≡ o ++ rest → IsAddition (mode_of t.codec) bit i.octets o more → Opens t (more ++ rest) bit i
opens t o more rest i false b split h = record {
  content = None;
  opened = ap (λ (l : Octets). Ok (None, behind_place t l)) (split ∙ ap (λ (l : Octets). l ++ rest) h);
  held = b;
}
opens t o more rest i true b split (g, e, (content, left, behind, c, strict)) =
    let input : t.input ≡ g ++ (more ++ rest) = split ∙ ap (λ (l : Octets). l ++ rest) e ∙ append_assoc g more rest in
    let read : content_at t.codec t.input ≡ Ok (content, more ++ rest) = ap (content_at t.codec) input ∙ (content_reads t.codec).again g (more ++ rest) content behind in
    record {
      content = Some content;
      opened = ap (λ (w : Result (Octets × Octets) DecodeErrorKind). w >>= λ c. Ok (Some c.0, behind_place t c.1)) read;
      held = (b, left, c, strict);
    }

-- ---- the next addition

-- the rows begin with one that gives an item of which P holds
pub record IsRow (m : Mode) (d : ℕ) (g : Tag) (needed : Bool) (row : Rows → Rows) (P : Item → Type 0) : Type 0 where
  pub first : (a : Rows) (is : List Item) → AreItems m d is (row a) → (i : Item) × (js : List Item) × (is ≡ i ∷ js) × P i × AreItems m d js a
  pub again : (a : Rows) (i : Item) (is : List Item) → P i → AreItems m d is a → AreItems m d (i ∷ is) (row a)
  pub tag : (i : Item) → P i → i.tag ≡ g
  pub marked : (i : Item) → P i → not i.marked ≡ needed

-- a call with a tag asks that row, one without any
abbrev pub IsAskedBy : Option Tag → Tag → Type 0
IsAskedBy None g = ⊤
IsAskedBy (Some h) g = h ≡ g

-- An item of the next row stands where the next addition is read, and the rows after it come behind it.
pub record NextAddition (s : State) (asked : Option Tag) (a : Rows) (rest : Octets) (P : Item → Type 0) : Type 0 where
  pub item : Item
  pub holds : P item
  pub content : Option Octets
  pub held : IsHeld (mode_of s.codec) item content
  pub behind : State
  pub next : addition_at s asked ≡ Ok (content, behind)
  pub comes : Comes behind NoRows a rest

same_tag_refl : (g : Tag) → same_tag g g ≡ true
same_tag_refl g = rw (eq-eqb (class_number g.class) (class_number g.class) refl, eq-eqb g.value g.value refl) refl

asked_next : (asked : Option Tag) (g : Tag) (x : Bool) (p : Place) (ps : List Place) → IsAskedBy asked g → p.tag ≡ g → x ≡ true → next_place asked x (p ∷ ps) ≡ Ok tt
asked_next None g true p ps h e x = refl
asked_next (Some k) g true p ps h e x = rw (subst (λ (z : Tag). same_tag z k ≡ true) (sym (e ∙ sym h)) (same_tag_refl k)) refl
asked_next asked g false p ps h e x = absurd (cc x)

extensible_is : (x : Bool) → (x ≡ false → ⊥) → x ≡ true
extensible_is true h = refl
extensible_is false h = absurd (h refl)

pub next_addition : (s : State) (g : Tag) (needed : Bool) (row : Rows → Rows) (P : Item → Type 0) (asked : Option Tag) (a : Rows) (rest : Octets) → IsRow (mode_of s.codec) s.levels g needed row P → IsAskedBy asked g → Comes s NoRows (row a) rest → NextAddition s asked a rest P
unfolding addition_at Rattle.oer_spec.specs.Encoding.IsEncoding
next_addition s g needed row P asked a rest is_row is_asked c =
    let m : Mode = mode_of s.codec in
    let (i, is, e, p, h) = is_row.first a c.additions c.are_additions in
    let input : s.input ≡ c.extension ++ rest = c.split ∙ ap (λ (l : List Item). bodies l ++ (c.extension ++ rest)) c.are_roots in
    let placed : places_in (i ∷ is) ≡ s.frame.additions = ap places_in (sym e) ∙ c.placed in
    let there : AllByRecursion IsThere c.additions = items_there m s.levels c.additions (row a) c.are_additions in
    let k : Maps s rest c.additions = maps s c.extension rest c.additions input c.placed there c.tail in
    let stand : AreAdditions m k.bits k.octets (i ∷ is) = subst (λ (l : List Item). AreAdditions m k.bits k.octets l) e k.additions in
    let extensible : s.frame.extensible ≡ true = extensible_is s.frame.extensible (λ x. absurd (cc (sym e ∙ c.only x))) in
    let t : State = with_bitmap s k.bits (k.octets ++ rest) in
    let o : Opens t (stand.1 ++ rest) i.bit i = opens t k.octets stand.1 rest i i.bit refl refl stand.2 in
    let asked_is : next_place asked s.frame.extensible s.frame.additions ≡ Ok tt =
    ap (next_place asked s.frame.extensible) (sym placed) ∙ asked_next asked g s.frame.extensible (record { tag = i.tag; needed = not i.marked }) (places_in is) is_asked (is_row.tag i p) extensible in
    record {
      item = i;
      holds = p;
      content = o.content;
      held = o.held;
      behind = behind_place t (stand.1 ++ rest);
      next = ap (λ (r : Result (Unit {0}) DecodeErrorKind). r >> (mapped_at s >>= λ t. open_content t (get_or (bits_now t.frame.bitmap) 0 false))) asked_is
          ∙ ap (λ (r : Result State DecodeErrorKind). r >>= λ t. open_content t (get_or (bits_now t.frame.bitmap) 0 false)) (k.mapped ∙ ap (λ (z : State). Ok z) k.is)
          ∙ ap (open_content t) stand.0 ∙ o.opened;
      comes = record {
        roots = [];
        additions = is;
        extension = stand.1;
        split = refl;
        are_roots = refl;
        are_additions = h;
        asked = ap asks_in (sym c.are_roots) ∙ c.asked;
        placed = ap (drop 1) placed;
        only = λ x. absurd (cc (sym extensible ∙ x));
        tail = stand.3;
      };
    }

-- The next addition was read: the decoder is behind its row, and rows that come there come with one in front.
pub record Passes (s u : State) (x : Option Octets) : Type 0 where
  pub extensible : s.frame.extensible ≡ true
  pub bits : List Bool
  pub is : u ≡ behind_bits s bits u.input
  pub front : Octets
  pub split : s.input ≡ front ++ u.input
  pub tail : (i : Item) (is : List Item) (o : Octets) → IsHeld (mode_of s.codec) i x → AreAdditions (mode_of s.codec) (drop 1 bits) o is → IsTail (mode_of s.codec) s.frame.extended s.frame.bitmap (front ++ o) (i ∷ is)

place_extensible : (asked : Option Tag) (x : Bool) (ps : List Place) (y : Unit {0}) → next_place asked x ps ≡ Ok y → x ≡ true
place_extensible asked true ps y e = refl
place_extensible asked false ps y e = absurd (cc e)

pub passes : (s u : State) (asked : Option Tag) (x : Option Octets) → AreOctets s.input → addition_at s asked ≡ Ok (x, u) → Passes s u x
unfolding addition_at
passes s u asked x fits e =
    let n = then_ok (next_place asked s.frame.extensible s.frame.additions) (mapped_at s >>= λ t. open_content t (get_or (bits_now t.frame.bitmap) 0 false)) (x, u) e in
    let t = bind_ok (mapped_at s) (λ t. open_content t (get_or (bits_now t.frame.bitmap) 0 false)) (x, u) n.2 in
    let k : MapsTo s t.0 = maps_to s t.0 fits t.1 in
    let o : OpensTo t.0 u (get_or (bits_now t.0.frame.bitmap) 0 false) x = opens_to t.0 u (get_or (bits_now t.0.frame.bitmap) 0 false) x (rear_octets k.front t.0.input (subst AreOctets k.split fits)) t.2 in
    let codec : t.0.codec ≡ s.codec = ap (λ (z : State). z.codec) k.is in
    let bits : bits_now t.0.frame.bitmap ≡ k.bits = ap (λ (z : State). bits_now z.frame.bitmap) k.is in
    record {
      extensible = place_extensible asked s.frame.extensible s.frame.additions n.0 n.1;
      bits = k.bits;
      is = o.is ∙ ap (λ (z : State). behind_place z u.input) k.is;
      front = k.front ++ o.front;
      split = k.split ∙ ap (λ (l : Octets). k.front ++ l) o.split ∙ sym (append_assoc k.front o.front u.input);
      tail = λ i is p held stand.
          let q = o.held i p (subst (λ (c : Codec). IsHeld (mode_of c) i x) (sym codec) held) in
          let whole : AreAdditions (mode_of s.codec) k.bits (o.front ++ p) (i ∷ is) = (ap (λ (l : List Bool). get_or l 0 false) (sym bits) ∙ q.0, p, subst (λ (c : Codec). IsAddition (mode_of c) i.bit i.octets (o.front ++ p) p) codec q.1, stand) in
          subst (λ (l : Octets). IsTail (mode_of s.codec) s.frame.extended s.frame.bitmap l (i ∷ is)) (sym (append_assoc k.front o.front p)) (k.tail (o.front ++ p) (i ∷ is) whole);
    }

pub addition_comes : (s u : State) (x : Option Octets) (g : Tag) (needed : Bool) (row : Rows → Rows) (P : Item → Type 0) (a : Rows) (rest : Octets) (i : Item) (ps : List Place)
    → IsRow (mode_of s.codec) s.levels g needed row P → Passes s u x → P i → IsHeld (mode_of s.codec) i x → s.frame.additions ≡ record { tag = g; needed = needed } ∷ ps → Comes u NoRows a rest → Comes s NoRows (row a) rest
unfolding Rattle.oer_spec.specs.Encoding.IsEncoding
addition_comes s u x g needed row P a rest i ps is_row k p held places came =
    let c : Comes (behind_bits s k.bits u.input) NoRows a rest = subst (λ (z : State). Comes z NoRows a rest) k.is came in
    record {
      roots = [];
      additions = i ∷ c.additions;
      extension = k.front ++ c.extension;
      split = k.split ∙ ap (λ (l : Octets). k.front ++ l) (c.split ∙ ap (λ (l : List Item). bodies l ++ (c.extension ++ rest)) c.are_roots) ∙ sym (append_assoc k.front c.extension rest);
      are_roots = refl;
      are_additions = is_row.again a i c.additions p c.are_additions;
      asked = ap asks_in (sym c.are_roots) ∙ c.asked;
      placed = placed_is c.additions (c.placed ∙ ap (drop 1) places) ∙ sym places;
      only = λ e. absurd (cc (sym k.extensible ∙ e));
      tail = k.tail i c.additions c.extension held c.tail;
    }
  where
    placed_is : (js : List Item) → places_in js ≡ ps → places_in (i ∷ js) ≡ record { tag = g; needed = needed } ∷ ps
    placed_is js e = λ z. record { tag = is_row.tag i p z; needed = is_row.marked i p z } ∷ e z
