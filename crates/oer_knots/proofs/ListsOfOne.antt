-- Lists of one list each, which are gone through by a loop: as the innermost is read, so is the outermost.
use Rattle.std.proofs.Common.{◌≡◌, ◌-◌, ℕ, zero, suc, ◌<◌, true, Ok, List, [], ◌∷◌, length, refl, sym, ◌∙◌, ap, subst, arith}
use Rattle.asn1_core.specs.Octets.{Octets}
use Rattle.asn1_core.specs.declared.codec.Codec.{Codec}
use Rattle.asn1_core.specs.declared.error.DecodeError.{DecodeError}
use Rattle.oer_spec.specs.Encoding.{IsTree}
use Rattle.oer_spec.specs.Spelled.{EachValue, list_of}
use Rattle.oer_spec.specs.Tree.{Tree}
use Rattle.oer_read.specs.Law.{WantsMemory}
use Rattle.oer_read.specs.Lists.{lent_element, ListRead, Stopped}
use Rattle.oer_read.specs.State.{State}
use Rattle.oer_read.proofs.ListLaw.{list_opens, list_takes}
use Rattle.oer_knots.specs.Answering.{Beside}
use Rattle.oer_knots.specs.Knots.{IsLayered}
use Rattle.oer_knots.specs.OwnLists.{OwnElement, LiesWithin, NotPushed, NotRead, NoMemory}
use Rattle.oer_knots.proofs.PushedElements.{read_more, own_read, own_stopped, not_pushed_also, element_more, element_read, element_stops}

-- they are read by the same rules
same_codec : (n : ℕ) (outer inner : State) → LiesWithin outer n inner → inner.codec ≡ outer.codec
same_codec zero outer inner same = ap (λ (s : State). s.codec) same
same_codec (suc n) outer inner (list, start, one, lent, around) = ap (λ (s : State). s.codec) lent ∙ same_codec n outer list around

module _ {K B : Type 0} (tree : B → Tree) (IsValue : B → Type 0) (held : B → K) (items : K → List B) where
  abbrev Element : ℕ → Beside B
  Element = OwnElement tree IsValue held items

  -- the list within so many others was read, and so far
  pub record ReadWithin (outer : State) (n : ℕ) (own : List B) (rest : Octets) : Type 0 where
    pub inner : State
    pub within : LiesWithin outer n inner
    pub read : ListRead (Element inner.levels) inner own (record inner { input = rest })
    pub takes : length rest < length inner.input

  -- none is left around it
  pub read_outermost : (outer : State) (own : List B) (rest : Octets) → ReadWithin outer zero own rest → ListRead (Element outer.levels) outer own (record outer { input = rest })
  read_outermost outer own rest k = subst (λ (s : State). ListRead (Element s.levels) s own (record s { input = rest })) k.within k.read

  module _ (knot : K → Tree) (IsKnot : K → Type 0) (is_tree : (v : B) → IsValue v → IsTree (tree v))
      (listed : IsLayered knot IsKnot items (λ (vs : List B). list_of true tree vs) (λ (vs : List B). EachValue IsValue vs)) (holds : IsLayered tree IsValue held knot IsKnot) where
    -- if the innermost can't be read, the outermost can't
    pub refused_within : (n : ℕ) (outer inner : State) (e : DecodeError) → LiesWithin outer n inner → NotPushed (Element (suc inner.levels)) inner e → NotPushed (Element (suc outer.levels)) outer e
    refused_within zero outer inner e same bad = subst (λ (s : State). NotPushed (Element (suc s.levels)) s e) same bad
    refused_within (suc n) outer inner e (list, start, one, lent, around) bad =
        let lone = subst (λ (s : State). NotPushed (Element (suc s.levels)) s e) lent bad in
        let more = element_more tree IsValue held items (suc (list.levels - 1)) list.levels (omega (arith, one.level)) in
        let also = not_pushed_also (Element (suc (list.levels - 1))) (Element list.levels) more (lent_element list start) e lone in
        let stopped = own_stopped (Element list.levels) list 1 start start [] e (omega arith) (refl, refl) also in
        refused_within n outer list e around (NotRead list (element_stops tree IsValue held items knot IsKnot is_tree listed list.levels list list holds e refl (Stopped 1 start one.opened stopped)))

    -- the element that holds the list
    held_within : (outer : State) (n : ℕ) (own : List B) (rest : Octets) (b : B) (k : ReadWithin outer n own rest) → items (held b) ≡ own → Element (suc k.inner.levels) k.inner (Ok b) (record k.inner { input = rest })
    held_within outer n own rest b k same = element_read tree IsValue held items knot IsKnot is_tree listed k.inner.levels k.inner (record k.inner { input = rest }) holds b (held b) own refl same k.read

    -- memory was refused for it
    pub no_memory_within : (outer : State) (n : ℕ) (own : List B) (rest : Octets) (b : B) (e : DecodeError) → ReadWithin outer n own rest → items (held b) ≡ own → WantsMemory outer e → NotPushed (Element (suc outer.levels)) outer e
    no_memory_within outer n own rest b e k same wants =
        let here : WantsMemory k.inner e = subst (λ (c : Codec). WantsMemory (record k.inner { codec = c }) e) (sym (same_codec n outer k.inner k.within)) wants in
        refused_within n outer k.inner e k.within (NoMemory b (record k.inner { input = rest }) (held_within outer n own rest b k same) here)

    -- the list around it holds that element alone
    pub read_around : (outer : State) (n : ℕ) (own : List B) (rest : Octets) (b : B) → ReadWithin outer (suc n) own rest → items (held b) ≡ own → ReadWithin outer n (b ∷ []) rest
    read_around outer n own rest b k same = around k.within
      where
        around : LiesWithin outer (suc n) k.inner → ReadWithin outer n (b ∷ []) rest
        around (list, start, one, lent, further) =
            let lone = subst (λ (s : State). Element (suc s.levels) s (Ok b) (record s { input = rest })) lent (held_within outer (suc n) own rest b k same) in
            let also = element_more tree IsValue held items (suc (list.levels - 1)) list.levels (omega (arith, one.level)) (lent_element list start) (Ok b) (lent_element list rest) lone in
            let takes = subst (λ (s : State). length rest < length s.input) lent k.takes in
            let less = list_takes list 1 start (list_opens list 1 start one.octets one.opened) in
            let ran = read_more (Element list.levels) list start start rest [] (b ∷ []) (refl, refl) (record { value = b; kept = refl; read = also }) takes in
            record {
              inner = list;
              within = further;
              read = own_read (Element list.levels) list 1 start rest (b ∷ []) (record list { input = rest }) one.opened one.octets refl ran refl;
              takes = omega (arith, takes, less);
            }
