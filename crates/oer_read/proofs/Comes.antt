-- What is left in a scope, row by row.
use Rattle.std.proofs.Common.{◌≡◌, ℕ, List, [], ◌∷◌, ◌++◌, refl, sym, ap, ◌∙◌, append_assoc}
use Rattle.asn1_core.specs.Octets.{Octets}
use Rattle.asn1_core.specs.declared.tag.Tag.{Tag}
use Rattle.oer_spec.specs.Encoding.{IsEncoding, AreItems}
use Rattle.oer_spec.specs.Mode.{Mode, mode_of}
use Rattle.oer_spec.specs.Places.{Item, needed, bodies}
use Rattle.oer_spec.specs.Tree.{Tree, Rows, Required}
use Rattle.oer_read.specs.Parts.{Comes, asks_in}
use Rattle.oer_read.specs.State.{State}

-- the state after octets were read
abbrev pub past : State → Octets → State
past s rest = record s { input = rest }

-- the octets of the next required component, and what comes after it
pub record ComesRequired (s : State) (t : Tree) (r a : Rows) (rest : Octets) : Type 0 where
  pub octets : Octets
  pub more : Octets
  pub split : s.input ≡ octets ++ more
  pub encoding : IsEncoding (mode_of s.codec) s.levels octets t
  pub comes : Comes (past s more) r a rest

required_items : (m : Mode) (d : ℕ) (g : Tag) (t : Tree) (r : Rows) (is : List Item) → AreItems m d is (Required g t r)
    → (o : Octets) × (js : List Item) × (is ≡ needed g o ∷ js) × IsEncoding m d o t × AreItems m d js r
unfolding IsEncoding
required_items m d g t r [] h = absurd h
required_items m d g t r (i ∷ is) (e, f, h) = (i.octets, is, ap (λ (j : Item). j ∷ is) e, f, h)

pub comes_required : (s : State) (g : Tag) (t : Tree) (r a : Rows) (rest : Octets) → Comes s (Required g t r) a rest → ComesRequired s t r a rest
comes_required s g t r a rest c =
    let (o, js, e, f, h) = required_items (mode_of s.codec) s.levels g t r c.roots c.are_roots in
    record {
      octets = o;
      more = bodies js ++ (c.extension ++ rest);
      split = c.split ∙ ap (λ (l : List Item). bodies l ++ (c.extension ++ rest)) e ∙ append_assoc o (bodies js) (c.extension ++ rest);
      encoding = f;
      comes = record {
        roots = js;
        additions = c.additions;
        extension = c.extension;
        split = refl;
        are_roots = h;
        are_additions = c.are_additions;
        asked = sym (ap asks_in e) ∙ c.asked;
        placed = c.placed;
        only = c.only;
        tail = c.tail;
      };
    }

cons_required : (m : Mode) (d : ℕ) (g : Tag) (t : Tree) (r : Rows) (o : Octets) (is : List Item) → IsEncoding m d o t → AreItems m d is r → AreItems m d (needed g o ∷ is) (Required g t r)
unfolding IsEncoding
cons_required m d g t r o is f h = (refl, f, h)

pub required_comes : (s : State) (g : Tag) (t : Tree) (r a : Rows) (rest o more : Octets) → s.input ≡ o ++ more → IsEncoding (mode_of s.codec) s.levels o t → Comes (past s more) r a rest → Comes s (Required g t r) a rest
required_comes s g t r a rest o more e f c = record {
  roots = needed g o ∷ c.roots;
  additions = c.additions;
  extension = c.extension;
  split = e ∙ ap (λ (l : Octets). o ++ l) c.split ∙ sym (append_assoc o (bodies c.roots) (c.extension ++ rest));
  are_roots = cons_required (mode_of s.codec) s.levels g t r o c.roots f c.are_roots;
  are_additions = c.are_additions;
  asked = c.asked;
  placed = c.placed;
  only = c.only;
  tail = c.tail;
}
