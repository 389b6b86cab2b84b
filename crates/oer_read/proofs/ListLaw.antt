-- From what a list does, and what its closure promises, to the law of reading.
use Rattle.std.proofs.Common.{◌≡◌, ℕ, suc, ◌+◌, ◌-◌, ◌<◌, ◌≤◌, Bool, true, false, cond, Result, Ok, Err, List, [], ◌∷◌, ◌++◌, length, refl, sym, ap, ap₂, ◌∙◌, subst, arith, append_assoc, length-append}
use Rattle.std.specs.Result.{IfOk, IfErr, OnErr}
use Rattle.std.proofs.lemmas.Bool.{le-ltb, ltb-false, eq-eqb, ne_eqb}
use Rattle.std.proofs.lemmas.List.{append_cancel_left, append_cancel_right}
use Rattle.asn1_core.specs.Octets.{Octets, AreOctets, joined, usize_max}
use Rattle.asn1_core.specs.declared.error.DecodeError.{DecodeError}
use Rattle.asn1_core.specs.declared.error.DecodeErrorKind.{DecodeErrorKind}
use Rattle.oer_spec.proofs.Nil.{nil_alike}
use Rattle.oer_spec.proofs.Skips.{is_nil}
use Rattle.oer_leaf_read.proofs.ReadQuantities.{quantity_reads}
use Rattle.oer_spec.proofs.Steps.{then_ok, pair_is}
use Rattle.oer_spec.specs.Elements.{TakesOctets}
use Rattle.oer_spec.specs.Encoding.{IsTree, IsEncoding, AreElements, canonical_octets, canonical_elements, empties, list_fails}
use Rattle.oer_spec.specs.Leaves.{Failure, TooManyEmpty, TooLong}
use Rattle.oer_spec.specs.Lengths.{IsQuantity}
use Rattle.oer_spec.specs.Mode.{Mode, mode_of}
use Rattle.oer_spec.specs.Reading.{◌>>◌, quantity_at}
use Rattle.oer_spec.specs.Spelled.{EachValue, trees_of, list_of}
use Rattle.oer_spec.specs.Tree.{Tree, Trees, NoTrees, More}
use Rattle.oer_read.specs.Law.{Reads, Decodes, NoEncoding, IsForMemory}
use Rattle.oer_read.specs.Lists.{lent_element, list_opened_at, count_empty, RanEach, ListRead, ElementsStopped, ElementRefused, TooManyEmpty as TooManyAreEmpty, NoMemory, ListRefused, NotOpened, Stopped}
use Rattle.oer_read.specs.Scopes.{level_at}
use Rattle.oer_read.specs.State.{State}
use Rattle.oer_read.proofs.ListSteps.{RanEach-push}
use Rattle.oer_read.proofs.Openings.{level_ok, level_again}

-- ---- the start of a list

pub record ListOpens (s : State) (n : ℕ) (rest : Octets) : Type 0 where
  pub level : 1 ≤ s.levels
  pub quantity : Octets
  pub split : s.input ≡ quantity ++ rest
  pub spelled : IsQuantity (mode_of s.codec) quantity n

pub list_opens : (s : State) (n : ℕ) (rest : Octets) → AreOctets s.input → list_opened_at s ≡ Ok (n, rest) → ListOpens s n rest
unfolding list_opened_at
list_opens s n rest fits e =
    let l = then_ok (level_at s.levels) (quantity_at s.codec s.input) (n, rest) e in
    let f = (quantity_reads s.codec).found s.input rest n fits l.2 in
    record { level = (level_ok s.levels l.0 l.1).0; quantity = f.0; split = f.1; spelled = f.2 }

-- a list takes octets for its quantity
pub list_takes : (s : State) (n : ℕ) (rest : Octets) → ListOpens s n rest → length rest < length s.input
list_takes s n rest o = takes o.quantity o.spelled o.split
  where
    takes : (q : Octets) → IsQuantity (mode_of s.codec) q n → s.input ≡ q ++ rest → length rest < length s.input
    takes q (c, (l, split, _, _), some, _, _, _) e = omega (arith, some, ap length split, length-append l c, ap length e, length-append q rest)

pub list_again : (s : State) (n : ℕ) (rest : Octets) → ListOpens s n rest → list_opened_at s ≡ Ok (n, rest)
unfolding list_opened_at
list_again s n rest o =
    ap (λ (l : Result ℕ DecodeErrorKind). l >> quantity_at s.codec s.input) (level_again s.levels o.level)
    ∙ ap (quantity_at s.codec) o.split
    ∙ (quantity_reads s.codec).again o.quantity rest n o.spelled

pub quantity_fits : (m : Mode) (o : Octets) (n : ℕ) → IsQuantity m o n → n ≤ usize_max
quantity_fits m o n (c, _, _, _, f, _) = f

pub not_both : {X : Type 0} (r : Result X DecodeErrorKind) (x : X) (k : DecodeErrorKind) → r ≡ Ok x → r ≡ Err k → ⊥
not_both {X} r x k e f = go (sym e ∙ f)
  where
    go : ◌≡◌ {A = Result X DecodeErrorKind} (Ok x) (Err k) → ⊥
    go h = cc h

-- ---- elements without octets

empty_of : (o : Octets) (n : ℕ) (os : List Octets) → empties (o ∷ os) ≡ cond (is_nil o) (suc (empties os)) (empties os)
empty_of [] n os = refl
empty_of (x ∷ o) n os = refl

pub count_is : (n : ℕ) (o q : Octets) → count_empty n (o ++ q) q ≡ cond (is_nil o) (suc n) n
count_is n [] q = ap (λ (b : Bool). cond b (suc n) n) (eq-eqb (length q) (length q) refl)
count_is n (x ∷ o) q = ap (λ (b : Bool). cond b (suc n) n) (ne_eqb (length ((x ∷ o) ++ q)) (length q) (λ e. omega (arith, e, length-append (x ∷ o) q)))

one_more_empty : (n : ℕ) (before after : Octets) → length after ≡ length before → count_empty n before after ≡ suc n
one_more_empty n before after e = ap (λ (b : Bool). cond b (suc n) n) (eq-eqb (length before) (length after) (sym e))

-- a count and one element more
count_more : (n : ℕ) (o : Octets) (os : List Octets) → cond (is_nil o) (suc n) n + empties os ≡ n + empties (o ∷ os)
count_more n [] os = omega arith
count_more n (x ∷ o) os = refl

module _ {A : Type 0} (tree : A → Tree) (IsPart : A → Type 0) (Ran : State → Result A DecodeError → State → Type 0) (promise : (s : State) (r : Result A DecodeError) (t : State) → Ran s r t → Decodes tree IsPart s r t) where
  abbrev mode : State → Mode
  mode old = mode_of old.codec

  -- what the elements that were read took
  pub record Took (old : State) (r : Octets) (n : ℕ) (vs : List A) (q : Octets) (k : ℕ) : Type 0 where
    pub elements : List Octets
    pub split : r ≡ joined elements ++ q
    pub encoded : AreElements (mode old) (old.levels - 1) elements (trees_of tree vs)
    pub values : EachValue IsPart vs
    pub counted : k ≡ n + empties elements
    pub count : length elements ≡ length vs

  pub cons_elements : (m : Mode) (d : ℕ) (o : Octets) (os : List Octets) (t : Tree) (ts : Trees) → IsEncoding m d o t → AreElements m d os ts → AreElements m d (o ∷ os) (More t ts)
  unfolding IsEncoding
  cons_elements m d o os t ts f h = (f, h)

  pub no_elements : (m : Mode) (d : ℕ) → AreElements m d [] NoTrees
  unfolding IsEncoding
  no_elements m d = refl

  pub took : (old : State) (r : Octets) (n : ℕ) (vs : List A) (q : Octets) (k : ℕ) → RanEach Ran old r n vs q k → Took old r n vs q k
  took old r n [] q k e = record { elements = []; split = e.0; encoded = no_elements (mode old) (old.levels - 1); values = tt; counted = sym e.1 ∙ omega arith; count = refl }
  took old r n (v ∷ vs) q k e =
      let p = (promise (lent_element old r) (Ok v) e.0 e.1).read in
      let t = took old e.0.input (count_empty n r e.0.input) vs q k e.2 in
      let c : count_empty n r e.0.input ≡ cond (is_nil p.taken) (suc n) n = ap (λ (z : Octets). count_empty n z e.0.input) p.split ∙ count_is n p.taken e.0.input in
      record {
        elements = p.taken ∷ t.elements;
        split = p.split ∙ ap (λ (l : Octets). p.taken ++ l) t.split ∙ sym (append_assoc p.taken (joined t.elements) q);
        encoded = cons_elements (mode old) (old.levels - 1) p.taken t.elements (tree v) (trees_of tree vs) p.encoding t.encoded;
        values = (p.value, t.values);
        counted = t.counted ∙ ap (λ (z : ℕ). z + empties t.elements) c ∙ count_more n p.taken t.elements;
        count = ap suc t.count;
      }

  pub split_elements : (m : Mode) (d : ℕ) (os : List Octets) (t : Tree) (ts : Trees) → AreElements m d os (More t ts) → (o : Octets) × (ps : List Octets) × (os ≡ o ∷ ps) × IsEncoding m d o t × AreElements m d ps ts
  unfolding IsEncoding
  split_elements m d [] t ts h = absurd h
  split_elements m d (o ∷ os) t ts (f, h) = (o, os, refl, f, h)

  -- Where elements were read from the front of a list's elements, those are its first ones.
  pub record Along (old : State) (q : Octets) (n k : ℕ) (vs ws : List A) (os : List Octets) (x : Octets) : Type 0 where
    pub left : List A
    pub left_octets : List Octets
    pub count : length ws ≡ length vs + length left
    pub split : q ≡ joined left_octets ++ x
    pub encoded : AreElements (mode old) (old.levels - 1) left_octets (trees_of tree left)
    pub values : EachValue IsPart left
    pub counted : k + empties left_octets ≡ n + empties os

  pub along : (old : State) (r : Octets) (n : ℕ) (vs : List A) (q : Octets) (k : ℕ) → RanEach Ran old r n vs q k → (ws : List A) (os : List Octets) (x : Octets) → EachValue IsPart ws → AreElements (mode old) (old.levels - 1) os (trees_of tree ws) → r ≡ joined os ++ x
      → length vs ≤ length ws → Along old q n k vs ws os x
  along old r n [] q k e ws os x i f h l = record {
    left = ws;
    left_octets = os;
    count = omega arith;
    split = sym e.0 ∙ h;
    encoded = f;
    values = i;
    counted = ap (λ (z : ℕ). z + empties os) (sym e.1);
  }
  along old r n (v ∷ vs) q k e [] os x i f h l = absurd (omega (arith, l))
  along old r n (v ∷ vs) q k e (w ∷ ws) os x i f h l =
      let p = (promise (lent_element old r) (Ok v) e.0 e.1).read in
      let (o, ps, same, g, gs) = split_elements (mode old) (old.levels - 1) os (tree w) (trees_of tree ws) f in
      let h' : r ≡ o ++ (joined ps ++ x) = h ∙ ap (λ (z : List Octets). joined z ++ x) same ∙ append_assoc o (joined ps) x in
      let one : o ≡ p.taken = p.only w o i.0 (record { rest = joined ps ++ x; split = h'; encoding = g }) in
      let rest : e.0.input ≡ joined ps ++ x = append_cancel_left p.taken e.0.input (joined ps ++ x) (sym p.split ∙ h' ∙ ap (λ (z : Octets). z ++ (joined ps ++ x)) one) in
      let a = along old e.0.input (count_empty n r e.0.input) vs q k e.2 ws ps x i.1 gs rest (omega (arith, l)) in
      let c : count_empty n r e.0.input ≡ cond (is_nil o) (suc n) n =
      ap (λ (z : Octets). count_empty n z e.0.input) p.split ∙ count_is n p.taken e.0.input ∙ ap (λ (z : Octets). cond (is_nil z) (suc n) n) (sym one) in
      record {
        left = a.left;
        left_octets = a.left_octets;
        count = omega (arith, a.count);
        split = a.split;
        encoded = a.encoded;
        values = a.values;
        counted = a.counted ∙ ap (λ (z : ℕ). z + empties ps) c ∙ count_more n o ps ∙ ap (λ (z : List Octets). n + empties z) (sym same);
      }

  module _ (is_tree : (v : A) → IsPart v → IsTree (tree v)) where
    -- as many elements have no octets as are written without
    pub same_empties : (m : Mode) (d : ℕ) (os : List Octets) (vs : List A) → EachValue IsPart vs → AreElements m d os (trees_of tree vs) → empties (canonical_elements (trees_of tree vs)) ≡ empties os
    unfolding IsEncoding canonical_octets
    same_empties m d os [] i f = ap empties (sym f)
    same_empties m d [] (v ∷ vs) i f = absurd f
    same_empties m d (o ∷ os) (v ∷ vs) i (f, h) =
        empty_of (canonical_octets (tree v)) 0 (canonical_elements (trees_of tree vs))
        ∙ ap₂ (λ (b : Bool) (z : ℕ). cond b (suc z) z) (sym (nil_alike (tree v) m d o (is_tree v i.0) f)) (same_empties m d os vs i.1 h)
        ∙ sym (empty_of o 0 os)

    pub canonical_count : (vs : List A) → length (canonical_elements (trees_of tree vs)) ≡ length vs
    unfolding canonical_octets
    canonical_count [] = refl
    canonical_count (v ∷ vs) = ap suc (canonical_count vs)

    -- a list with few elements without octets, and no more than the platform counts, can be written
    pub nothing_fails : (own : List Octets) → empties own ≤ 65536 → length own ≤ usize_max → (k : Failure) → list_fails own k ≡ false
    nothing_fails own e l TooManyEmpty = le-ltb 65536 (empties own) e
    nothing_fails own e l TooLong = le-ltb usize_max (length own) l
    nothing_fails own e l _ = refl

    pub elements_count : (m : Mode) (d : ℕ) (os : List Octets) (vs : List A) → AreElements m d os (trees_of tree vs) → length os ≡ length vs
    unfolding IsEncoding
    elements_count m d os [] f = ap length f
    elements_count m d [] (v ∷ vs) f = absurd f
    elements_count m d (o ∷ os) (v ∷ vs) (f, h) = ap suc (elements_count m d os vs h)

    -- what an encoding of a list says
    record IsList (m : Mode) (d : ℕ) (o : Octets) (vs : List A) : Type 0 where
      pub level : 1 ≤ d
      pub own : List Octets
      pub encoded : AreElements m (d - 1) own (trees_of tree vs)
      pub quantity : Octets
      pub whole : o ≡ quantity ++ joined own
      pub spelled : IsQuantity m quantity (length own)
      pub few : empties own ≤ 65536

    list_parts : (m : Mode) (d : ℕ) (o : Octets) (vs : List A) → EachValue IsPart vs → IsEncoding m d o (list_of true tree vs) → IsList m d o vs
    unfolding IsEncoding list_of
    list_parts m d o vs i (level, fails, own, f, (q, read, e, g, same)) = record {
      level = level;
      own = own;
      encoded = f;
      quantity = q;
      whole = e ∙ ap (λ (z : List Octets). q ++ joined z) same;
      spelled = g;
      few = let h = ltb-false 65536 (empties (canonical_elements (trees_of tree vs))) (fails TooManyEmpty) in omega (arith, h, same_empties m (d - 1) own vs i f);
    }

    list_made : (m : Mode) (d : ℕ) (o : Octets) (vs : List A) → EachValue IsPart vs → IsList m d o vs → IsEncoding m d o (list_of true tree vs)
    unfolding IsEncoding list_of
    list_made m d o vs i l = (
      l.level,
      nothing_fails (canonical_elements (trees_of tree vs)) (omega (arith, l.few, same_empties m (d - 1) l.own vs i l.encoded)) (let q = quantity_fits m l.quantity (length l.own) l.spelled in omega (arith, q, canonical_count vs, elements_count m (d - 1) l.own vs l.encoded)),
      l.own,
      l.encoded,
      (l.quantity, l.own, l.whole, l.spelled, refl),
    )

    pub no_octets : (m : Mode) (d : ℕ) (os : List Octets) (vs : List A) → length vs ≡ 0 → AreElements m d os (trees_of tree vs) → os ≡ []
    unfolding IsEncoding
    no_octets m d os [] e f = f
    no_octets m d os (v ∷ vs) e f = absurd (omega (arith, e))

    opened_again : (old : State) (o rest : Octets) (vs : List A) → old.input ≡ o ++ rest → (l : IsList (mode old) old.levels o vs) → list_opened_at old ≡ Ok (length l.own, joined l.own ++ rest)
    opened_again old o rest vs e l = list_again old (length l.own) (joined l.own ++ rest) (record {
      level = l.level;
      quantity = l.quantity;
      split = e ∙ ap (λ (z : Octets). z ++ rest) l.whole ∙ append_assoc l.quantity (joined l.own) rest;
      spelled = l.spelled;
    })

    pub same_opened : (n k : ℕ) (r s : Octets) (x : Result (ℕ × Octets) DecodeErrorKind) → x ≡ Ok (n, r) → x ≡ Ok (k, s) → (n ≡ k) × (r ≡ s)
    same_opened n k r s x e f = go (sym e ∙ f)
      where
        go : ◌≡◌ {A = Result (ℕ × Octets) DecodeErrorKind} (Ok (n, r)) (Ok (k, s)) → (n ≡ k) × (r ≡ s)
        go h = pair_is n k r s h

    list_read : (old : State) (vs : List A) (new : State) → ListRead Ran old vs new → Reads (list_of true tree) (EachValue IsPart) old vs new
    list_read old vs new k =
        let o = list_opens old (length vs) k.rest k.octets k.opened in
        let t = took old k.rest 0 vs k.end k.empties k.ran in
        let input : new.input ≡ k.end = ap (λ (z : State). z.input) k.left in
        let whole : old.input ≡ (o.quantity ++ joined t.elements) ++ k.end = o.split ∙ ap (λ (z : Octets). o.quantity ++ z) t.split ∙ sym (append_assoc o.quantity (joined t.elements) k.end) in
        record {
          taken = o.quantity ++ joined t.elements;
          split = whole ∙ ap (λ (z : Octets). (o.quantity ++ joined t.elements) ++ z) (sym input);
          encoding = list_made (mode old) old.levels (o.quantity ++ joined t.elements) vs t.values (record {
            level = o.level;
            own = t.elements;
            encoded = t.encoded;
            quantity = o.quantity;
            whole = refl;
            spelled = subst (λ (n : ℕ). IsQuantity (mode old) o.quantity n) (sym t.count) o.spelled;
            few = omega (arith, k.few, t.counted);
          });
          value = t.values;
          only = λ ws p i f.
              let l = list_parts (mode old) old.levels p ws i f.encoding in
              let s = same_opened (length l.own) (length vs) (joined l.own ++ f.rest) k.rest (list_opened_at old) (opened_again old p f.rest ws f.split l) k.opened in
              let n = elements_count (mode old) (old.levels - 1) l.own ws l.encoded in
              let a = along old k.rest 0 vs k.end k.empties k.ran ws l.own f.rest i l.encoded (sym s.1) (omega (arith, s.0, n)) in
              let none : a.left_octets ≡ [] = no_octets (mode old) (old.levels - 1) a.left_octets a.left (omega (arith, a.count, s.0, n)) a.encoded in
              let end : k.end ≡ f.rest = a.split ∙ ap (λ (z : List Octets). joined z ++ f.rest) none in
              append_cancel_right p (o.quantity ++ joined t.elements) k.end (ap (λ (z : Octets). p ++ z) end ∙ sym f.split ∙ whole);
          rest = k.left ∙ ap (λ (z : Octets). record old { input = z }) (sym input);
        }

    next_element : (old : State) (q x : Octets) (left : List A) (os : List Octets) → 0 < length left → q ≡ joined os ++ x → AreElements (mode old) (old.levels - 1) os (trees_of tree left) → EachValue IsPart left → NoEncoding tree IsPart (lent_element old q) → ⊥
    next_element old q x [] os l e f i n = omega (arith, l)
    next_element old q x (w ∷ left) os l e f i n =
        let (o, ps, same, g, gs) = split_elements (mode old) (old.levels - 1) os (tree w) (trees_of tree left) f in
        n w o i.0 (record { rest = joined ps ++ x; split = e ∙ ap (λ (z : List Octets). joined z ++ x) same ∙ append_assoc o (joined ps) x; encoding = g })

    stopped : (old : State) (n : ℕ) (rest : Octets) (e : DecodeError) → ElementsStopped Ran old n rest e → (IsForMemory e → ⊥) → (ws : List A) (os : List Octets) (x : Octets) → EachValue IsPart ws → AreElements (mode old) (old.levels - 1) os (trees_of tree ws) → rest ≡ joined os ++ x → n ≡ length ws → empties os ≤ 65536 → ⊥
    stopped old n rest e (ElementRefused before end k after s bad) m ws os x i f h c l =
        let a = along old rest 0 before end k s.ran ws os x i f h (omega (arith, s.more, c)) in
        next_element old end x a.left a.left_octets (omega (arith, a.count, s.more, c)) a.split a.encoded a.values ((promise (lent_element old end) (Err e) after bad).refused.none m)
    stopped old n rest e (TooManyAreEmpty before end k v after s good full none is) m ws os x i f h c l =
        let r = RanEach-push Ran old rest 0 before end k v after s.ran good in
        let a = along old rest 0 (before ++ v ∷ []) after.input (count_empty k end after.input) r ws os x i f h (omega (arith, s.more, c, length-append before (v ∷ []))) in
        omega (arith, one_more_empty k end after.input none, full, a.counted, l)
    stopped old n rest e (NoMemory _ _ _ _ _ _ _ _ z) m ws os x i f h c l = m z.0

    list_refused : (old : State) (e : DecodeError) → ListRefused Ran old e → (IsForMemory e → ⊥) → NoEncoding (list_of true tree) (EachValue IsPart) old
    list_refused old e (NotOpened x c) m ws o i f =
        let l = list_parts (mode old) old.levels o ws i f.encoding in
        not_both (list_opened_at old) (length l.own, joined l.own ++ f.rest) e.kind (opened_again old o f.rest ws f.split l) x
    list_refused old e (Stopped n rest x s) m ws o i f =
        let l = list_parts (mode old) old.levels o ws i f.encoding in
        let p = same_opened n (length l.own) rest (joined l.own ++ f.rest) (list_opened_at old) x (opened_again old o f.rest ws f.split l) in
        stopped old n rest e s m ws l.own f.rest i l.encoded p.1 (p.0 ∙ elements_count (mode old) (old.levels - 1) l.own ws l.encoded) l.few

    stopped_mode : (old : State) (n : ℕ) (rest : Octets) (e : DecodeError) → ElementsStopped Ran old n rest e → e.codec ≡ old.codec
    stopped_mode old n rest e (ElementRefused _ end _ after _ bad) = (promise (lent_element old end) (Err e) after bad).refused.mode
    stopped_mode old n rest e (TooManyAreEmpty _ _ _ _ _ _ _ _ _ is) = ap (λ (z : DecodeError). z.codec) is
    stopped_mode old n rest e (NoMemory _ _ _ _ _ _ _ _ m) = m.1

    list_mode : (old : State) (e : DecodeError) → ListRefused Ran old e → e.codec ≡ old.codec
    list_mode old e (NotOpened _ mode) = mode
    list_mode old e (Stopped n rest _ s) = stopped_mode old n rest e s

    -- a list whose closure reads its elements keeps the law of reading
    pub list_law : {L : Type 0} (items : L → List A) (old : State) (result : Result L DecodeError) (new : State) → IfOk result (λ l. ListRead Ran old (items l) new) → IfErr result (λ e. ListRefused Ran old e) → OnErr result (new ≡ old)
        → Decodes (λ l. list_of true tree (items l)) (λ l. EachValue IsPart (items l)) old result new
    list_law items old (Ok l) new k e u =
        let p = list_read old (items l) new k in
        record { read = record { taken = p.taken; split = p.split; encoding = p.encoding; value = p.value; only = λ w o i f. p.only (items w) o i f; rest = p.rest }; refused = tt }
    list_law items old (Err e) new k l u = record { read = tt; refused = record { same = u; mode = list_mode old e l; none = λ m w o i f. list_refused old e l m (items w) o i f } }

    -- octets that are an element's are some, where its type takes octets
    element_some : (m : Mode) (d : ℕ) (o : Octets) (v : A) → IsPart v → TakesOctets tree IsPart → IsEncoding m d o (tree v) → 1 ≤ length o
    element_some m d [] v i takes f = absurd (takes m d [] v i f refl)
    element_some m d (x ∷ o) v i takes f = omega arith

    as_many_octets : (m : Mode) (d : ℕ) (os : List Octets) (vs : List A) → EachValue IsPart vs → TakesOctets tree IsPart → AreElements m d os (trees_of tree vs) → length vs ≤ length (joined os)
    unfolding IsEncoding
    as_many_octets m d os [] i takes f = omega arith
    as_many_octets m d [] (v ∷ vs) i takes f = absurd f
    as_many_octets m d (o ∷ os) (v ∷ vs) i takes (f, h) = omega (arith, element_some m d o v i.0 takes f, as_many_octets m d os vs i.1 takes h, length-append o (joined os))

    list_few : (old : State) (vs : List A) (new : State) → TakesOctets tree IsPart → Reads (list_of true tree) (EachValue IsPart) old vs new → length vs + length new.input ≤ length old.input
    list_few old vs new takes p =
        let l = list_parts (mode old) old.levels p.taken vs p.value p.encoding in
        let n = as_many_octets (mode old) (old.levels - 1) l.own vs p.value takes l.encoded in
        omega (arith, n, ap length p.split, ap length l.whole, length-append p.taken new.input, length-append l.quantity (joined l.own))

    -- a list has at most as many elements as octets, where its elements take octets
    pub list_is_short : {L : Type 0} (items : L → List A) (old : State) (result : Result L DecodeError) (new : State) → IfOk result (λ l. ListRead Ran old (items l) new) → TakesOctets tree IsPart → IfOk result (λ l. length (items l) + length new.input ≤ length old.input)
    list_is_short items old (Ok l) new k takes = list_few old (items l) new takes (list_read old (items l) new k)
    list_is_short items old (Err e) new k takes = tt
