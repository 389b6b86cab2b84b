-- From what reading an unordered list does to the law of reading.
use Rattle.std.proofs.Common.{◌≡◌, ℕ, suc, ◌+◌, ◌-◌, ◌<◌, ◌≤◌, true, false, Result, Ok, Err, List, [], ◌∷◌, ◌++◌, length, inl, inr, refl, sym, ap, ap₂, ◌∙◌, subst, arith, append_assoc}
use Rattle.std.specs.Result.{IfOk, IfErr, OnErr}
use Rattle.std.proofs.lemmas.Bool.{ltb-false}
use Rattle.std.proofs.lemmas.List.{append_cancel_left, append_cancel_right}
use Rattle.asn1_core.specs.Octets.{Octets, joined}
use Rattle.asn1_core.specs.declared.codec.Codec.{Codec}
use Rattle.asn1_core.specs.declared.codec.Codec.TheVariants.{Oer, Coer}
use Rattle.asn1_core.specs.declared.error.DecodeError.{DecodeError}
use Rattle.oer_spec.proofs.Empties.{reordered_empties}
use Rattle.oer_spec.proofs.Lists.{Reorders-refl, Reorders-length, head_same, tail_same, not_nil}
use Rattle.oer_spec.specs.Encoding.{IsTree, IsEncoding, AreElements, canonical_elements, empties}
use Rattle.oer_spec.specs.Leaves.{TooManyEmpty as TooManyFail}
use Rattle.oer_spec.specs.Lengths.{IsQuantity}
use Rattle.oer_spec.specs.Mode.{Mode, mode_of, InStrict}
use Rattle.oer_spec.specs.Orders.{Stands, Reorders, octets_le, Ascends}
use Rattle.oer_spec.specs.Spelled.{EachValue, trees_of, list_of}
use Rattle.oer_spec.specs.Tree.{Tree}
use Rattle.oer_read.specs.Law.{Reads, Decodes, NoEncoding, Fronts, IsForMemory}
use Rattle.oer_read.specs.Lists.{lent_element, list_opened_at}
use Rattle.oer_read.specs.State.{State}
use Rattle.oer_read.specs.Unordered.{last_of, TookEach, NextRefused, ElementRefused, TooManyEmpty, OutOfOrder, UnorderedRead, ElementsStopped, AtNext, NoMemory, UnorderedRefused, NotOpened, Stopped}
use Rattle.oer_read.proofs.ListLaw.{list_opens, list_again, quantity_fits, not_both, cons_elements, no_elements, split_elements, same_empties, canonical_count, nothing_fails, elements_count, no_octets, same_opened}

-- ---- the order of octets that are read

in_order : (codec : Codec) (os : List Octets) → (codec ≡ Coer → Ascends os) → InStrict (mode_of codec) (Ascends os)
in_order Oer os h = tt
in_order Coer os h = h refl

is_ordered : (codec : Codec) (os : List Octets) → codec ≡ Coer → InStrict (mode_of codec) (Ascends os) → Ascends os
is_ordered Oer os e h = absurd (cc e)
is_ordered Coer os e h = h

-- what follows the last of the first ones is no less
next_in_order : (os : List Octets) (o : Octets) (ps : List Octets) → Ascends (os ++ o ∷ ps) → octets_le (last_of os) o ≡ true
next_in_order [] o ps a = refl
next_in_order (p ∷ []) o ps a = a.0
next_in_order (p ∷ q ∷ os) o ps a = next_in_order (q ∷ os) o ps a.1

empties_front : (os : List Octets) (o : Octets) (ps : List Octets) → empties os + empties (o ∷ []) ≤ empties (os ++ o ∷ ps)
empties_front [] [] ps = omega arith
empties_front [] (x ∷ o) ps = omega arith
empties_front ([] ∷ os) o ps = let h = empties_front os o ps in omega (arith, h)
empties_front ((x ∷ p) ∷ os) o ps = empties_front os o ps

module _ {A : Type 0} (tree : A → Tree) (IsPart : A → Type 0) (Ran : State → Result A DecodeError → State → Type 0) (promise : (s : State) (r : Result A DecodeError) (t : State) → Ran s r t → Decodes tree IsPart s r t) where
  abbrev mode : State → Mode
  mode old = mode_of old.codec

  abbrev Are : Mode → ℕ → List Octets → List A → Type 0
  Are m d os vs = AreElements m d os (trees_of tree vs)

  -- ---- elements that were read

  pub record Took (old : State) (r : Octets) (vs : List A) (os : List Octets) (q : Octets) : Type 0 where
    pub split : r ≡ joined os ++ q
    pub encoded : Are (mode old) (old.levels - 1) os vs
    pub values : EachValue IsPart vs
    pub count : length os ≡ length vs

  -- the octets that an element took are those of its encoding
  own : (old : State) (r : Octets) (v : A) (o : Octets) (after : State) → (k : Ran (lent_element old r) (Ok v) after) → r ≡ o ++ after.input → o ≡ (promise (lent_element old r) (Ok v) after k).read.taken
  own old r v o after k e = let p = (promise (lent_element old r) (Ok v) after k).read in append_cancel_right o p.taken after.input (sym e ∙ p.split)

  took : (old : State) (r : Octets) (vs : List A) (os : List Octets) (q : Octets) → TookEach Ran old r vs os q → Took old r vs os q
  took old r [] [] q e = record { split = e; encoded = no_elements tree IsPart Ran promise (mode old) (old.levels - 1); values = tt; count = refl }
  took old r (v ∷ vs) (o ∷ os) q e =
      let p = (promise (lent_element old r) (Ok v) e.0 e.1).read in
      let same : o ≡ p.taken = own old r v o e.0 e.1 e.2 in
      let t = took old e.0.input vs os q e.3 in
      record {
        split = e.2 ∙ ap (λ (l : Octets). o ++ l) t.split ∙ sym (append_assoc o (joined os) q);
        encoded = cons_elements tree IsPart Ran promise (mode old) (old.levels - 1) o os (tree v) (trees_of tree vs) (subst (λ (z : Octets). IsEncoding (mode old) (old.levels - 1) z (tree v)) (sym same) p.encoding) t.encoded;
        values = (p.value, t.values);
        count = ap suc t.count;
      }
  took old r [] (o ∷ os) q e = absurd e
  took old r (v ∷ vs) [] q e = absurd e

  -- Where elements were read from the front of other elements, those are the first of them.
  pub record Along (old : State) (q : Octets) (vs ws : List A) (os ps : List Octets) (x : Octets) : Type 0 where
    pub left : List A
    pub left_octets : List Octets
    pub count : length ws ≡ length vs + length left
    pub same : ps ≡ os ++ left_octets
    pub split : q ≡ joined left_octets ++ x
    pub encoded : Are (mode old) (old.levels - 1) left_octets left
    pub values : EachValue IsPart left

  along : (old : State) (r : Octets) (vs : List A) (os : List Octets) (q : Octets) → TookEach Ran old r vs os q → (ws : List A) (ps : List Octets) (x : Octets) → EachValue IsPart ws → Are (mode old) (old.levels - 1) ps ws → r ≡ joined ps ++ x
      → length vs ≤ length ws → Along old q vs ws os ps x
  along old r [] [] q e ws ps x i f h l = record { left = ws; left_octets = ps; count = omega arith; same = refl; split = sym e ∙ h; encoded = f; values = i }
  along old r (v ∷ vs) (o ∷ os) q e [] ps x i f h l = absurd (omega (arith, l))
  along old r (v ∷ vs) (o ∷ os) q e (w ∷ ws) ps x i f h l =
      let p = (promise (lent_element old r) (Ok v) e.0 e.1).read in
      let (y, ys, cons, g, gs) = split_elements tree IsPart Ran promise (mode old) (old.levels - 1) ps (tree w) (trees_of tree ws) f in
      let h' : r ≡ y ++ (joined ys ++ x) = h ∙ ap (λ (z : List Octets). joined z ++ x) cons ∙ append_assoc y (joined ys) x in
      let one : y ≡ o = p.only w y i.0 (record { rest = joined ys ++ x; split = h'; encoding = g }) ∙ sym (own old r v o e.0 e.1 e.2) in
      let rest : e.0.input ≡ joined ys ++ x = append_cancel_left o e.0.input (joined ys ++ x) (sym e.2 ∙ h' ∙ ap (λ (z : Octets). z ++ (joined ys ++ x)) one) in
      let a = along old e.0.input vs os q e.3 ws ys x i.1 gs rest (omega (arith, l)) in
      record {
        left = a.left;
        left_octets = a.left_octets;
        count = let n = a.count in omega (arith, n);
        same = cons ∙ ap₂ (λ (z : Octets) (zs : List Octets). z ∷ zs) one a.same;
        split = a.split;
        encoded = a.encoded;
        values = a.values;
      }
  along old r [] (o ∷ os) q e ws ps x i f h l = absurd e
  along old r (v ∷ vs) [] q e ws ps x i f h l = absurd e

  -- ---- the values in the order in which their octets stand

  pub record Picked (m : Mode) (d : ℕ) (ws : List A) (o : Octets) (rest : List Octets) : Type 0 where
    pub value : A
    pub others : List A
    pub encoding : IsEncoding m d o (tree value)
    pub encoded : Are m d rest others
    pub is_value : IsPart value
    pub values : EachValue IsPart others
    pub count : length ws ≡ suc (length others)

  none_left : (m : Mode) (d : ℕ) (os : List Octets) → Are m d os [] → os ≡ []
  unfolding IsEncoding
  none_left m d os f = f

  pick : (m : Mode) (d : ℕ) (os : List Octets) (ws : List A) (o : Octets) (rest : List Octets) → Stands os o rest → EachValue IsPart ws → Are m d os ws → Picked m d ws o rest
  pick m d [] ws o rest s i f = absurd s
  pick m d (p ∷ os) [] o rest s i f = absurd (not_nil p os (none_left m d (p ∷ os) f))
  pick m d (p ∷ os) (w ∷ ws) o rest (inl (e, same)) i f =
      let (q, qs, cons, g, gs) = split_elements tree IsPart Ran promise m d (p ∷ os) (tree w) (trees_of tree ws) f in
      record {
        value = w;
        others = ws;
        encoding = subst (λ (z : Octets). IsEncoding m d z (tree w)) (sym (head_same p q os qs cons) ∙ e) g;
        encoded = subst (λ (z : List Octets). Are m d z ws) (sym (tail_same p q os qs cons) ∙ same) gs;
        is_value = i.0;
        values = i.1;
        count = refl;
      }
  pick m d (p ∷ os) (w ∷ ws) o rest (inr (rs, e, s)) i f =
      let (q, qs, cons, g, gs) = split_elements tree IsPart Ran promise m d (p ∷ os) (tree w) (trees_of tree ws) f in
      let k = pick m d os ws o rs s i.1 (subst (λ (z : List Octets). Are m d z ws) (sym (tail_same p q os qs cons)) gs) in
      record {
        value = k.value;
        others = w ∷ k.others;
        encoding = k.encoding;
        encoded = subst (λ (z : List Octets). Are m d z (w ∷ k.others)) (sym e) (cons_elements tree IsPart Ran promise m d p rs (tree w) (trees_of tree k.others) (subst (λ (z : Octets). IsEncoding m d z (tree w)) (sym (head_same p q os qs cons)) g) k.encoded);
        is_value = k.is_value;
        values = (i.0, k.values);
        count = ap suc k.count;
      }

  pub record Standing (m : Mode) (d : ℕ) (ws : List A) (read : List Octets) : Type 0 where
    pub values : List A
    pub encoded : Are m d read values
    pub are_values : EachValue IsPart values
    pub count : length ws ≡ length values

  standing : (m : Mode) (d : ℕ) (read os : List Octets) (ws : List A) → Reorders read os → EachValue IsPart ws → Are m d os ws → Standing m d ws read
  standing m d [] os [] r i f = record { values = []; encoded = no_elements tree IsPart Ran promise m d; are_values = tt; count = refl }
  standing m d [] os (w ∷ ws) r i f =
      let (q, qs, cons, g, gs) = split_elements tree IsPart Ran promise m d os (tree w) (trees_of tree ws) f in
      absurd (not_nil q qs (sym cons ∙ r))
  standing m d (o ∷ read) os ws (rest, s, r) i f =
      let k = pick m d os ws o rest s i f in
      let t = standing m d read rest k.others r k.values k.encoded in
      record {
        values = k.value ∷ t.values;
        encoded = cons_elements tree IsPart Ran promise m d o read (tree k.value) (trees_of tree t.values) k.encoding t.encoded;
        are_values = (k.is_value, t.are_values);
        count = k.count ∙ ap suc t.count;
      }

  module _ (is_tree : (v : A) → IsPart v → IsTree (tree v)) where
    -- what an encoding of an unordered list says, by the values in the order in which they stand
    pub record IsUnordered (m : Mode) (d : ℕ) (o : Octets) (ws : List A) : Type 0 where
      pub level : 1 ≤ d
      pub read : List Octets
      pub stands : Standing m (d - 1) ws read
      pub quantity : Octets
      pub whole : o ≡ quantity ++ joined read
      pub spelled : IsQuantity m quantity (length read)
      pub few : empties read ≤ 65536
      pub ordered : InStrict m (Ascends read)

    unordered_parts : (m : Mode) (d : ℕ) (o : Octets) (ws : List A) → EachValue IsPart ws → IsEncoding m d o (list_of false tree ws) → IsUnordered m d o ws
    unfolding IsEncoding list_of
    unordered_parts m d o ws i (level, fails, os, f, (q, read, e, g, (r, a))) = record {
      level = level;
      read = read;
      stands = standing m (d - 1) read os ws r i f;
      quantity = q;
      whole = e;
      spelled = subst (λ (n : ℕ). IsQuantity m q n) (sym (Reorders-length read os r)) g;
      few = let h = ltb-false 65536 (empties (canonical_elements (trees_of tree ws))) (fails TooManyFail) in let s = same_empties tree IsPart Ran promise is_tree m (d - 1) os ws i f in let t = reordered_empties read os r in omega (arith, h, s, t);
      ordered = a;
    }

    unordered_made : (m : Mode) (d : ℕ) (o q : Octets) (vs : List A) (os : List Octets) → EachValue IsPart vs → 1 ≤ d → Are m (d - 1) os vs → o ≡ q ++ joined os → IsQuantity m q (length os) → empties os ≤ 65536 → InStrict m (Ascends os) → IsEncoding m d o (list_of false tree vs)
    unfolding IsEncoding list_of
    unordered_made m d o q vs os i level f e g few a = (
      level,
      nothing_fails tree IsPart Ran promise is_tree (canonical_elements (trees_of tree vs))
          (let s = same_empties tree IsPart Ran promise is_tree m (d - 1) os vs i f in omega (arith, few, s))
          (let n = quantity_fits m q (length os) g in let s = canonical_count tree IsPart Ran promise is_tree vs in let t = elements_count tree IsPart Ran promise is_tree m (d - 1) os vs f in omega (arith, n, s, t)),
      os,
      f,
      (q, os, e, g, (Reorders-refl os, a)),
    )

    opened_again : (old : State) (o rest : Octets) (ws : List A) → old.input ≡ o ++ rest → (l : IsUnordered (mode old) old.levels o ws) → list_opened_at old ≡ Ok (length l.read, joined l.read ++ rest)
    opened_again old o rest ws e l = list_again old (length l.read) (joined l.read ++ rest) (record {
      level = l.level;
      quantity = l.quantity;
      split = e ∙ ap (λ (z : Octets). z ++ rest) l.whole ∙ append_assoc l.quantity (joined l.read) rest;
      spelled = l.spelled;
    })

    stands_count : (old : State) (o : Octets) (ws : List A) → (l : IsUnordered (mode old) old.levels o ws) → length l.read ≡ length l.stands.values
    stands_count old o ws l = elements_count tree IsPart Ran promise is_tree (mode old) (old.levels - 1) l.read l.stands.values l.stands.encoded

    unordered_read : (old : State) (vs : List A) (new : State) → UnorderedRead Ran old vs new → Reads (list_of false tree) (EachValue IsPart) old vs new
    unordered_read old vs new k =
        let o = list_opens old (length vs) k.rest k.octets k.opened in
        let t = took old k.rest vs k.elements k.end k.so_far.took in
        let input : new.input ≡ k.end = ap (λ (z : State). z.input) k.left in
        let whole : old.input ≡ (o.quantity ++ joined k.elements) ++ k.end = o.split ∙ ap (λ (z : Octets). o.quantity ++ z) t.split ∙ sym (append_assoc o.quantity (joined k.elements) k.end) in
        record {
          taken = o.quantity ++ joined k.elements;
          split = whole ∙ ap (λ (z : Octets). (o.quantity ++ joined k.elements) ++ z) (sym input);
          encoding = unordered_made (mode old) old.levels (o.quantity ++ joined k.elements) o.quantity vs k.elements t.values o.level t.encoded refl (subst (λ (n : ℕ). IsQuantity (mode old) o.quantity n) (sym t.count) o.spelled) k.so_far.few (in_order old.codec k.elements k.so_far.ordered);
          value = t.values;
          only = λ ws p i f.
              let l = unordered_parts (mode old) old.levels p ws i f.encoding in
              let s = same_opened tree IsPart Ran promise is_tree (length l.read) (length vs) (joined l.read ++ f.rest) k.rest (list_opened_at old) (opened_again old p f.rest ws f.split l) k.opened in
              let n = stands_count old p ws l in
              let a = along old k.rest vs k.elements k.end k.so_far.took l.stands.values l.read f.rest l.stands.are_values l.stands.encoded (sym s.1) (let m = s.0 in omega (arith, m, n)) in
              let none : a.left_octets ≡ [] = no_octets tree IsPart Ran promise is_tree (mode old) (old.levels - 1) a.left_octets a.left (let m = s.0 in let c = a.count in omega (arith, m, n, c)) a.encoded in
              let end : k.end ≡ f.rest = a.split ∙ ap (λ (z : List Octets). joined z ++ f.rest) none in
              append_cancel_right p (o.quantity ++ joined k.elements) k.end (ap (λ (z : Octets). p ++ z) end ∙ sym f.split ∙ whole);
          rest = k.left ∙ ap (λ (z : Octets). record old { input = z }) (sym input);
        }

    -- ---- refusals

    -- the next element, where there is one
    pub record Next (old : State) (q : Octets) (os read : List Octets) (x : Octets) : Type 0 where
      pub value : A
      pub octets : Octets
      pub others : List Octets
      pub fronts : Fronts (lent_element old q) octets (tree value)
      pub is_value : IsPart value
      pub same : read ≡ os ++ octets ∷ others

    next : (old : State) (q : Octets) (vs ws : List A) (os read : List Octets) (x : Octets) → Along old q vs ws os read x → length vs < length ws → Next old q os read x
    next old q vs ws os read x a l = go a.left a.left_octets a.encoded a.values a.split a.same (let c = a.count in omega (arith, c, l))
      where
        go : (left : List A) (ps : List Octets) → Are (mode old) (old.levels - 1) ps left → EachValue IsPart left → q ≡ joined ps ++ x → read ≡ os ++ ps → 0 < length left → Next old q os read x
        go [] ps f i e s n = absurd (omega (arith, n))
        go (w ∷ left) ps f i e s n =
            let (y, ys, cons, g, gs) = split_elements tree IsPart Ran promise (mode old) (old.levels - 1) ps (tree w) (trees_of tree left) f in
            record {
              value = w;
              octets = y;
              others = ys;
              fronts = record { rest = joined ys ++ x; split = e ∙ ap (λ (z : List Octets). joined z ++ x) cons ∙ append_assoc y (joined ys) x; encoding = g };
              is_value = i.0;
              same = s ∙ ap (λ (z : List Octets). os ++ z) cons;
            }

    -- an element that is read there is the next
    next_same : (old : State) (q : Octets) (os read : List Octets) (x : Octets) (v : A) (o : Octets) (after : State) → (n : Next old q os read x) → Ran (lent_element old q) (Ok v) after → q ≡ o ++ after.input → n.octets ≡ o
    next_same old q os read x v o after n k e = (promise (lent_element old q) (Ok v) after k).read.only n.value n.octets n.is_value n.fronts ∙ sym (own old q v o after k e)

    refused_next : (old : State) (e : DecodeError) (q : Octets) (os read : List Octets) (x : Octets) → NextRefused Ran old (empties os) (last_of os) q e → (IsForMemory e → ⊥) → Next old q os read x → empties read ≤ 65536 → InStrict (mode old) (Ascends read) → ⊥
    refused_next old e q os read x (ElementRefused after ran) m n few a = (promise (lent_element old q) (Err e) after ran).refused.none m n.value n.octets n.is_value n.fronts
    refused_next old e q os read x (TooManyEmpty v after ran same full _) m n few a =
        let o : n.octets ≡ [] = next_same old q os read x v [] after n ran same in
        let c = empties_front os n.octets n.others in
        let d : empties (n.octets ∷ []) ≡ 1 = ap (λ (z : Octets). empties (z ∷ [])) o in
        let s : empties read ≡ empties (os ++ n.octets ∷ n.others) = ap empties n.same in
        omega (arith, c, d, s, few, full)
    refused_next old e q os read x (OutOfOrder v after o ran split _ codec less _) m n few a =
        let same : n.octets ≡ o = next_same old q os read x v o after n ran split in
        let up : octets_le (last_of os) n.octets ≡ true = next_in_order os n.octets n.others (subst Ascends n.same (is_ordered old.codec read codec a)) in
        absurd (cc (up, less, same))

    stopped : (old : State) (n : ℕ) (rest : Octets) (e : DecodeError) → ElementsStopped Ran old n rest e → (IsForMemory e → ⊥) → (o : Octets) (ws : List A) (x : Octets) → (l : IsUnordered (mode old) old.levels o ws) → rest ≡ joined l.read ++ x → n ≡ length l.read → ⊥
    stopped old n rest e (AtNext before os end few so_far bad) m o ws x l h c =
        let k = stands_count old o ws l in
        let a = along old rest before os end so_far.took l.stands.values l.read x l.stands.are_values l.stands.encoded h (omega (arith, few, c, k)) in
        refused_next old e end os l.read x bad m (next old end before l.stands.values os l.read x a (omega (arith, few, c, k))) l.few l.ordered
    stopped old n rest e (NoMemory _ _ _ _ _ _ _ _ _ _ z) m o ws x l h c = m z.0

    unordered_refused : (old : State) (e : DecodeError) → UnorderedRefused Ran old e → (IsForMemory e → ⊥) → NoEncoding (list_of false tree) (EachValue IsPart) old
    unordered_refused old e (NotOpened x c) m ws o i f =
        let l = unordered_parts (mode old) old.levels o ws i f.encoding in
        not_both (list_opened_at old) (length l.read, joined l.read ++ f.rest) e.kind (opened_again old o f.rest ws f.split l) x
    unordered_refused old e (Stopped n rest x s) m ws o i f =
        let l = unordered_parts (mode old) old.levels o ws i f.encoding in
        let p = same_opened tree IsPart Ran promise is_tree n (length l.read) rest (joined l.read ++ f.rest) (list_opened_at old) x (opened_again old o f.rest ws f.split l) in
        stopped old n rest e s m o ws f.rest l p.1 p.0

    next_mode : (old : State) (n : ℕ) (last q : Octets) (e : DecodeError) → NextRefused Ran old n last q e → e.codec ≡ old.codec
    next_mode old n last q e (ElementRefused after ran) = (promise (lent_element old q) (Err e) after ran).refused.mode
    next_mode old n last q e (TooManyEmpty _ _ _ _ _ is) = ap (λ (z : DecodeError). z.codec) is
    next_mode old n last q e (OutOfOrder _ _ _ _ _ _ _ _ is) = ap (λ (z : DecodeError). z.codec) is

    stopped_mode : (old : State) (n : ℕ) (rest : Octets) (e : DecodeError) → ElementsStopped Ran old n rest e → e.codec ≡ old.codec
    stopped_mode old n rest e (AtNext _ elements end _ _ bad) = next_mode old (empties elements) (last_of elements) end e bad
    stopped_mode old n rest e (NoMemory _ _ _ _ _ _ _ _ _ _ m) = m.1

    unordered_mode : (old : State) (e : DecodeError) → UnorderedRefused Ran old e → e.codec ≡ old.codec
    unordered_mode old e (NotOpened _ mode) = mode
    unordered_mode old e (Stopped n rest _ s) = stopped_mode old n rest e s

    -- an unordered list whose elements keep the law of reading keeps it
    pub unordered_law : (old : State) (result : Result (List A) DecodeError) (new : State) → IfOk result (λ vs. UnorderedRead Ran old vs new) → IfErr result (λ e. UnorderedRefused Ran old e) → OnErr result (new ≡ old)
        → Decodes (list_of false tree) (EachValue IsPart) old result new
    unordered_law old (Ok vs) new k e u = record { read = unordered_read old vs new k; refused = tt }
    unordered_law old (Err e) new k l u = record { read = tt; refused = record { same = u; mode = unordered_mode old e l; none = unordered_refused old e l } }
