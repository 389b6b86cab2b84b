-- A list of itself, whose elements are read by values alone, is read by the law of lists, and answers as a list does.
use Rattle.std.proofs.Common.{◌≡◌, ◌≤◌, ◌==◌, ℕ, suc, ◌<◌, Bool, true, false, cond, Ok, Err, List, [], ◌∷◌, ◌++◌, length, sym, ap, subst, arith}
use Rattle.std.proofs.lemmas.Bool.{ne_eqb}
use Rattle.std.specs.Result.{result_map_both}
use Rattle.asn1_core.specs.Octets.{Octets, AreOctets}
use Rattle.asn1_core.specs.declared.error.DecodeError.{DecodeError}
use Rattle.oer_spec.specs.Encoding.{IsTree}
use Rattle.oer_spec.specs.Spelled.{EachValue, list_of}
use Rattle.oer_spec.specs.Tree.{Tree}
use Rattle.oer_read.specs.Law.{Decodes}
use Rattle.oer_read.specs.Lists.{lent_element, list_opened_at, count_empty, RanEach, ListRead, ElementsStopped, ElementRefused, NoMemory as NoMemoryFor, ListRefused}
use Rattle.oer_read.specs.State.{State}
use Rattle.oer_read.proofs.ListLaw.{list_law}
use Rattle.oer_read.proofs.ListSteps.{RanEach-push}
use Rattle.oer_knots.specs.Answering.{Beside, Follows, within, within_more}
use Rattle.oer_knots.specs.Knots.{IsLayered}
use Rattle.oer_knots.specs.OwnLists.{own_list, OwnElement, Pushed, NotPushed, NotRead, NoMemory}
use Rattle.oer_knots.proofs.Layers.{layer_read, layer_stops, layer_answers, layer_refuses}

-- what takes octets doesn't count as empty
none_empty : (before after : Octets) → length after < length before → count_empty 0 before after ≡ 0
none_empty before after less = ap (λ (b : Bool). cond b (suc 0) 0) (ne_eqb (length before) (length after) (λ e. omega (arith, e, less)))

-- and one more is few
one_is_few : (b : Bool) → cond b (suc 0) 0 ≤ 65536
one_is_few true = omega arith
one_is_few false = omega arith

module _ {A : Type 0} (Ran : Beside A) (old : State) where
  -- an element more was read, and took octets
  pub read_more : (start end left : Octets) (before after : List A) → RanEach Ran old start 0 before end 0
      → Pushed Ran (lent_element old end) before after (lent_element old left) → length left < length end → RanEach Ran old start 0 after left 0
  read_more start end left before after ran p less =
      let pushed = RanEach-push Ran old start 0 before end 0 p.value (lent_element old left) ran p.read in
      subst (λ (vs : List A). RanEach Ran old start 0 vs left 0) (sym p.kept)
      (subst (λ (n : ℕ). RanEach Ran old start 0 (before ++ p.value ∷ []) left n) (none_empty end left less) pushed)

  -- as many were read as are stated
  pub own_read : (n : ℕ) (start end : Octets) (own : List A) (new : State) → list_opened_at old ≡ Ok (n, start) → AreOctets old.input → length own ≡ n → RanEach Ran old start 0 own end 0
      → new ≡ record old { input = end } → ListRead Ran old own new
  own_read n start end own new opened octets count ran left = record {
    rest = start;
    opened = subst (λ (k : ℕ). list_opened_at old ≡ Ok (k, start)) (sym count) opened;
    end = end;
    empties = 0;
    ran = ran;
    few = omega arith;
    left = left;
    octets = octets;
  }

  -- fewer were read than are stated, and the next was refused
  pub own_stopped : (n : ℕ) (start end : Octets) (own : List A) (e : DecodeError) → length own < n → RanEach Ran old start 0 own end 0
      → NotPushed Ran (lent_element old end) e → ElementsStopped Ran old n start e
  own_stopped n start end own e more ran (NotRead after k) = ElementRefused own end 0 after (record { more = more; ran = ran; few = omega arith }) k
  own_stopped n start end own e more ran (NoMemory v after k m) =
      NoMemoryFor own end 0 v after (record { more = more; ran = ran; few = omega arith }) k (one_is_few (length end == length after.input)) m

-- ---- what follows from what was done

module _ {A : Type 0} (Did Also : Beside A) (also : Follows Did Also) (old : State) where
  pub pushed_also : (before after : List A) (new : State) → Pushed Did old before after new → Pushed Also old before after new
  pushed_also before after new p = record { value = p.value; kept = p.kept; read = also old (Ok p.value) new p.read }

  pub not_pushed_also : (e : DecodeError) → NotPushed Did old e → NotPushed Also old e
  not_pushed_also e (NotRead new k) = NotRead new (also old (Err e) new k)
  not_pushed_also e (NoMemory v new k m) = NoMemory v new (also old (Ok v) new k) m

module _ {K B : Type 0} (tree : B → Tree) (IsValue : B → Type 0) (held : B → K) (items : K → List B) where
  -- an element within more levels says less
  pub element_more : (m n : ℕ) → m ≤ n → Follows (OwnElement tree IsValue held items m) (OwnElement tree IsValue held items n)
  element_more m n l s r t k = record { law = k.law; answered = within_more items (own_list tree IsValue held) m n l s (result_map_both held (λ e. e) r) t k.answered }

  -- ---- a list of itself, and an element that holds it
  module _ (knot : K → Tree) (IsKnot : K → Type 0) (is_tree : (v : B) → IsValue v → IsTree (tree v))
      (listed : IsLayered knot IsKnot items (λ (vs : List B). list_of true tree vs) (λ (vs : List B). EachValue IsValue vs)) (n : ℕ) (s t : State) where
    pub knot_read : (v : K) (vs : List B) → items v ≡ vs → ListRead (OwnElement tree IsValue held items n) s vs t → Decodes knot IsKnot s (Ok v) t
    knot_read v vs e k = layer_read knot IsKnot items _ _ listed s t vs v e
        (list_law tree IsValue (OwnElement tree IsValue held items n) (λ p r q d. d.law) is_tree (λ (ws : List B). ws) s (Ok vs) t k tt tt)

    pub knot_answers : (v : K) (vs : List B) → items v ≡ vs → ListRead (OwnElement tree IsValue held items n) s vs t → within items (own_list tree IsValue held) (suc n) s (Ok v) t
    knot_answers v vs e k = layer_answers items (own_list tree IsValue held) (within items (own_list tree IsValue held) n) n (λ p r q d. d) s t vs v e (record { read = k; refused = tt })

    pub knot_stops : (e : DecodeError) → t ≡ s → ListRefused (OwnElement tree IsValue held items n) s e → Decodes knot IsKnot s (Err e) t
    knot_stops e same k = layer_stops knot IsKnot items _ _ listed s t e
        (list_law tree IsValue (OwnElement tree IsValue held items n) (λ p r q d. d.law) is_tree (λ (ws : List B). ws) s (Err e) t tt k same)

    pub knot_refuses : (e : DecodeError) → ListRefused (OwnElement tree IsValue held items n) s e → within items (own_list tree IsValue held) (suc n) s (Err e) t
    knot_refuses e k = layer_refuses items (own_list tree IsValue held) (within items (own_list tree IsValue held) n) n (λ p r q d. d) s t e (record { read = tt; refused = k })

    module _ (holds : IsLayered tree IsValue held knot IsKnot) where
      pub element_read : (b : B) (v : K) (vs : List B) → held b ≡ v → items v ≡ vs → ListRead (OwnElement tree IsValue held items n) s vs t → OwnElement tree IsValue held items (suc n) s (Ok b) t
      element_read b v vs h e k = record {
        law = layer_read tree IsValue held knot IsKnot holds s t v b h (knot_read v vs e k);
        answered = subst (λ (w : K). within items (own_list tree IsValue held) (suc n) s (Ok w) t) (sym h) (knot_answers v vs e k);
      }

      pub element_stops : (e : DecodeError) → t ≡ s → ListRefused (OwnElement tree IsValue held items n) s e → OwnElement tree IsValue held items (suc n) s (Err e) t
      element_stops e same k = record {
        law = layer_stops tree IsValue held knot IsKnot holds s t e (knot_stops e same k);
        answered = knot_refuses e k;
      }
