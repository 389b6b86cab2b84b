-- The elements of a list, one after the other, and the tree of the whole.
use Rattle.std.proofs.Common.{◌≡◌, ℕ, zero, suc, ◌+◌, ◌^◌, ◌<◌, Bool, true, false, cond, List, [], ◌∷◌, ◌++◌, length, take, drop, get_or, refl, ap, ap₂, sym, ◌∙◌, subst, rules, arith, append_assoc, Ok, Err, Result, ◌⊎◌, inl, inr}
use Rattle.std.specs.Prelude.{Contains, nat_lt}
use Rattle.std.proofs.lemmas.List.{take_more, append_cancel_left, take-append-drop}
use Rattle.std.proofs.lemmas.List.Elements.{Contains-append_left}
use Rattle.asn1_core.specs.Octets.{Octets, joined, usize_max}
use Rattle.asn1_core.specs.declared.codec.Codec.TheVariants.{Coer}
use Rattle.asn1_core.specs.declared.error.EncodeError.{EncodeError}
use Rattle.asn1_core.specs.declared.error.EncodeErrorKind.{EncodeErrorKind}
use Rattle.asn1_core.specs.declared.error.EncodeErrorKind.TheVariants.{OutOfMemory, TooManyEmptyElements}
use Rattle.oer_spec.specs.Encoding.{fails, trees_fail, list_fails, empties, canonical_octets, canonical_elements, IsEncodable}
use Rattle.oer_spec.specs.Failures.{Fails, failure_of, SizeFails, TreesSizeFails}
use Rattle.oer_spec.specs.Leaves.{Failure, BadValue, BadSize, BadIdentifier, BadTime, TooManyEmpty, TooLong}
use Rattle.oer_spec.specs.Lengths.{quantity_octets}
use Rattle.oer_spec.specs.Places.{list_octets}
use Rattle.oer_spec.specs.Spelled.{trees_of, list_of, EachValue}
use Rattle.oer_spec.specs.Tree.{Tree, ListOf}
use Rattle.oer_spec.specs.Writing.{BeginsWith}
use Rattle.oer_write.specs.Scopes.{Runs}
use Rattle.oer_write.specs.Lists.{is_nil, WroteElement, WroteEach, AppendedSoFar, ListDone, ListBroken, ElementDone, ElementTooMany, ElementsDone, ElementsBroken, IsKnownToWriteAt, IsByFirst}
use Rattle.oer_write.specs.Lists as lists
use Rattle.oer_write.specs.Written.{Written, append, Keeps, Encodes, Refused, WritesTree}
use Rattle.oer_write.proofs.Keeping.{keeps_then}
use Rattle.oer_write.proofs.Items.{or_false, or_left, or_right}

each_push : {E : Type 0} (runs : E → Runs) (xs : List E) (x : E) (os : List Octets) (o : Octets) → WroteEach runs xs os → WroteElement (runs x) o → WroteEach runs (xs ++ x ∷ []) (os ++ o ∷ [])
each_push runs [] x [] o h i = (i, tt)
each_push runs [] x (p ∷ os) o h i = absurd h
each_push runs (y ∷ xs) x [] o h i = absurd h
each_push runs (y ∷ xs) x (p ∷ os) o h i = (h.0, each_push runs xs x os o h.1 i)

joined_push : (os : List Octets) (o : Octets) → joined (os ++ o ∷ []) ≡ joined os ++ o
joined_push [] o = search rules
joined_push (p ∷ os) o = ap (λ (r : Octets). p ++ r) (joined_push os o) ∙ sym (append_assoc p _ _)

pub nil_of : (o : Octets) → is_nil o ≡ true → o ≡ []
nil_of [] e = refl
nil_of (x ∷ o) e = absurd cc

pub empties_one : (o : Octets) (os : List Octets) → empties (o ∷ os) ≡ cond (is_nil o) 1 0 + empties os
empties_one [] os = omega arith
empties_one (x ∷ o) os = omega arith

pub empties_push : (os : List Octets) (o : Octets) → empties (os ++ o ∷ []) ≡ empties os + cond (is_nil o) 1 0
empties_push [] [] = refl
empties_push [] (x ∷ o) = refl
empties_push (p ∷ os) o = let more = empties_push os o in rw (empties_one p (os ++ o ∷ []), empties_one p os) (omega (arith, more))

pub each_length : {E : Type 0} (runs : E → Runs) (xs : List E) (os : List Octets) → WroteEach runs xs os → length os ≡ length xs
each_length runs [] [] h = refl
each_length runs [] (p ∷ os) h = absurd h
each_length runs (y ∷ xs) [] h = absurd h
each_length runs (y ∷ xs) (p ∷ os) h = ap (λ (n : ℕ). suc n) (each_length runs xs os h.1)

-- one more element
pub one_more : {E : Type 0} (runs : E → Runs) (xs : List E) (i : ℕ) (x : E) (old new newer : Octets) (count next : ℕ) → i < length xs → x ≡ get_or xs i x → AppendedSoFar runs (take i xs) old new count → ElementDone (runs x) new newer count next → AppendedSoFar runs (take (i + 1) xs) old newer next
one_more runs xs i x old new newer count next short there h w =
    rw (take_more xs i x short, ← there)
    (record {
      contents = h.contents ++ w.content ∷ [];
      each = each_push runs _ x _ w.content h.each w.wrote;
      few = w.few;
      counted = w.counted ∙ ap (λ (n : ℕ). n + cond (is_nil w.content) 1 0) h.counted ∙ sym (empties_push h.contents w.content);
      appended = w.appended ∙ ap (λ (l : Octets). l ++ w.content) h.appended ∙ append_assoc old _ _ ∙ ap (λ (l : Octets). old ++ l) (sym (joined_push h.contents w.content));
    })

-- a list, cut at one of its elements
pub cut_at : {E : Type 0} (xs : List E) (i : ℕ) (x : E) → i < length xs → x ≡ get_or xs i x → xs ≡ take i xs ++ x ∷ drop (i + 1) xs
cut_at xs i x short there =
    sym (take-append-drop (i + 1) xs)
    ∙ ap (λ ys. ys ++ drop (i + 1) xs) (take_more xs i x short ∙ ap (λ y. take i xs ++ y ∷ []) (sym there))
    ∙ append_assoc (take i xs) (x ∷ []) (drop (i + 1) xs)

-- one more element without octets is too many
one_too_many : {E : Type 0} (runs : E → Runs) (xs : List E) (i : ℕ) (x : E) (old new : Octets) (count : ℕ) (y : EncodeError) → i < length xs → x ≡ get_or xs i x → AppendedSoFar runs (take i xs) old new count → ElementTooMany (runs x) count y → lists.TooManyEmpty runs xs y
one_too_many runs xs i x old new count y short there h w = record {
  refusal = w.refusal;
  front = take i xs;
  element = x;
  more = drop (i + 1) xs;
  split = cut_at xs i x short there;
  contents = h.contents;
  each = h.each;
  full = sym h.counted ∙ w.full;
  wrote = subst (WroteElement (runs x)) (nil_of w.content w.empty) w.wrote;
}

-- the closure refused at an element, or that element was too many
pub broken_at : {E : Type 0} (runs : E → Runs) (xs : List E) (i : ℕ) (x : E) (old : Octets) (count : ℕ) (y : EncodeError) (e e' : Written) → i < length xs → x ≡ get_or xs i x → AppendedSoFar runs (take i xs) old e.octets count → e.frame.is_open ≡ false → runs x e (Err y) e' ⊎ ElementTooMany (runs x) count y → ElementsBroken runs xs y
broken_at runs xs i x old count y e e' short there h shut (inl ran) = inr (inl (record {
  front = take i xs;
  element = x;
  more = drop (i + 1) xs;
  split = cut_at xs i x short there;
  contents = h.contents;
  each = h.each;
  few = let c = h.counted in let f = h.few in omega (arith, c, f);
  entered = e;
  left = e';
  opened = shut;
  ran = ran;
}))
broken_at runs xs i x old count y e e' short there h shut (inr many) = inr (inr (one_too_many runs xs i x old _ count y short there h many))

-- behind the quantity
pub list_appended : {E : Type 0} {runs : E → Runs} {xs : List E} (old middle new : Written) → length xs < 2 ^ 64 → middle ≡ append (quantity_octets (length xs)) old → new ≡ record middle { octets = new.octets } → ElementsDone runs xs middle.octets new.octets → ListDone runs xs old new
list_appended {E} {runs} {xs} old middle new short quantity rest h =
    let count = each_length runs xs h.contents h.each in
    record {
      contents = h.contents;
      each = h.each;
      few = h.few;
      counted = rw count short;
      appended = rw count (rest ∙ ap (λ (o : Octets). record middle { octets = o }) h.appended ∙ ap (λ (e : Written). record e { octets = e.octets ++ joined h.contents }) quantity ∙ ap (λ (o : Octets). record old { octets = o }) (append_assoc old.octets _ _));
    }

list_keeps : (old middle new : Written) (quantity : Octets) → middle ≡ append quantity old → new ≡ record middle { octets = new.octets } → BeginsWith middle.octets new.octets → Keeps old new
list_keeps old middle new quantity first rest begins = keeps_then old middle new
    (subst (λ (e : Written). Keeps old e) (sym first) (record { octets = (quantity, refl); is_open = refl; is_set = refl; extensible = refl; start = refl; outer = refl }))
    (record { octets = begins; is_open = ap (λ (e : Written). e.frame.is_open) rest; is_set = ap (λ (e : Written). e.frame.is_set) rest; extensible = ap (λ (e : Written). e.frame.extensible) rest; start = ap (λ (e : Written). e.frame.start) rest; outer = ap (λ (e : Written). e.outer) rest })

pub list_broken : {E : Type 0} {runs : E → Runs} {xs : List E} (old middle new : Written) (quantity : Octets) (x : EncodeError) → middle ≡ append quantity old → new ≡ record middle { octets = new.octets } → BeginsWith middle.octets new.octets → ElementsBroken runs xs x → ListBroken runs xs x old new
list_broken old middle new quantity x first rest begins broken = record { keeps = list_keeps old middle new quantity first rest begins; reason = broken }

contains_first : {E : Type 0} (x : E) (xs : List E) → Contains (x ∷ xs) x
contains_first x xs = (0, omega arith, refl)

contains_more : {E : Type 0} (y x : E) (xs : List E) → Contains xs x → Contains (y ∷ xs) x
contains_more y x xs h = (suc h.0, omega (arith, h.1), h.2)

-- the elements before a cut, and the one there, are the list's
contains_cut : {E : Type 0} (front : List E) (x : E) (more : List E) → Contains (front ++ x ∷ more) x
contains_cut [] x more = contains_first x more
contains_cut (y ∷ front) x more = contains_more y x (front ++ x ∷ more) (contains_cut front x more)

contains_before : {E : Type 0} (xs front : List E) (x : E) (more : List E) → xs ≡ front ++ x ∷ more → (y : E) → Contains front y → Contains xs y
contains_before xs front x more split y h = subst (λ ys. Contains ys y) (sym split) (Contains-append_left front (x ∷ more) y h)

contains_there : {E : Type 0} (xs front : List E) (x : E) (more : List E) → xs ≡ front ++ x ∷ more → Contains xs x
contains_there xs front x more split = subst (λ ys. Contains ys x) (sym split) (contains_cut front x more)

-- what holds of each element that was written
pub each_value : {E : Type 0} (runs : E → Runs) (IsValue : E → Type 0) (xs : List E) (os : List Octets) → ((x : E) (e e' : Written) → runs x e (Ok tt) e' → IsValue x) → WroteEach runs xs os → EachValue IsValue xs
each_value runs IsValue [] os known w = tt
each_value runs IsValue (x ∷ xs) [] known w = absurd w
each_value runs IsValue (x ∷ xs) (o ∷ os) known w = (known x _ _ w.0.ran, each_value runs IsValue xs os known w.1)

not_above : (a b : ℕ) → a < suc b → nat_lt b a ≡ false
not_above a b h = grind arith

above : (a b : ℕ) → b < a → nat_lt b a ≡ true
above a b h = grind arith

pub list_fits : (own : List Octets) (k : Failure) → empties own < 65537 → length own < 2 ^ 64 → list_fails own k ≡ false
list_fits own TooManyEmpty few short = not_above (empties own) 65536 few
list_fits own TooLong few short = not_above (length own) usize_max (omega arith)
list_fits own BadValue few short = refl
list_fits own BadSize few short = refl
list_fits own BadIdentifier few short = refl
list_fits own BadTime few short = refl

module _ {E : Type 0} (runs : E → Runs) (tree : E → Tree) where
  -- an element that was written has the octets of its tree
  element_octets : (x : E) (o : Octets) → ((e e' : Written) (r : Result (Unit {0}) EncodeError) → e.frame.is_open ≡ false → runs x e r e' → WritesTree (tree x) e r e') → WroteElement (runs x) o → (o ≡ canonical_octets (tree x)) × IsEncodable (tree x)
  element_octets x o known w =
      let h : Encodes (tree x) w.entered w.left = known _ _ _ w.opened w.ran in
      (append_cancel_left w.entered.octets _ _ (sym w.wrote ∙ ap (λ (e : Written). e.octets) h.written), h.encodable)

  contents_are : (xs : List E) (os : List Octets) → IsKnownToWriteAt runs xs tree → WroteEach runs xs os → os ≡ canonical_elements (trees_of tree xs)
  unfolding canonical_octets
  contents_are [] [] known w = refl
  contents_are [] (o ∷ os) known w = absurd w
  contents_are (x ∷ xs) [] known w = absurd w
  contents_are (x ∷ xs) (o ∷ os) known w =
      let here : o ≡ canonical_octets (tree x) = (element_octets x o (λ e e' r shut p. known x e e' r (contains_first x xs) shut p) w.0).0 in
      let rest : os ≡ canonical_elements (trees_of tree xs) = contents_are xs os (λ y e e' r there shut p. known y e e' r (contains_more x y xs there) shut p) w.1 in
      ap₂ (λ (a : Octets) (b : List Octets). a ∷ b) here rest

  each_encodable : (xs : List E) (os : List Octets) → IsKnownToWriteAt runs xs tree → WroteEach runs xs os → EachValue (λ v. IsEncodable (tree v)) xs
  each_encodable [] os known w = tt
  each_encodable (x ∷ xs) [] known w = absurd w
  each_encodable (x ∷ xs) (o ∷ os) known w =
      ((element_octets x o (λ e e' r shut p. known x e e' r (contains_first x xs) shut p) w.0).1, each_encodable xs os (λ y e e' r there shut p. known y e e' r (contains_more x y xs there) shut p) w.1)

  none_fails : (xs : List E) (os : List Octets) → IsKnownToWriteAt runs xs tree → WroteEach runs xs os → (k : Failure) → trees_fail (trees_of tree xs) k ≡ false
  unfolding fails
  none_fails [] os known w k = refl
  none_fails (x ∷ xs) [] known w k = absurd w
  none_fails (x ∷ xs) (o ∷ os) known w k = or_false _ _ ((element_octets x o (λ e e' r shut p. known x e e' r (contains_first x xs) shut p) w.0).1 k) (none_fails xs os (λ y e e' r there shut p. known y e e' r (contains_more x y xs there) shut p) w.1 k)

  pub list_encodable : (ordered : Bool) (xs : List E) (own : List Octets) → own ≡ canonical_elements (trees_of tree xs) → ((k : Failure) → trees_fail (trees_of tree xs) k ≡ false) → empties own < 65537 → length own < 2 ^ 64 → IsEncodable (ListOf ordered (trees_of tree xs))
  unfolding fails
  list_encodable ordered xs own same fine few short k = or_false _ _ (fine k) (rw (← same) (list_fits own k few short))

  written_octets : (xs : List E) (own : List Octets) → own ≡ canonical_elements (trees_of tree xs) → quantity_octets (length own) ++ joined own ≡ canonical_octets (ListOf true (trees_of tree xs))
  unfolding canonical_octets
  written_octets xs own same = ap (λ (o : List Octets). list_octets true o) same

  -- a closure that writes each element by its tree: the list is written
  pub list_done : (xs : List E) (old new : Written) → IsKnownToWriteAt runs xs tree → ListDone runs xs old new → Encodes (list_of true tree xs) old new
  unfolding list_of
  list_done xs old new known h =
      let same : h.contents ≡ canonical_elements (trees_of tree xs) = contents_are xs h.contents known h.each in
      record {
        encodable = list_encodable true xs h.contents same (none_fails xs h.contents known h.each) h.few h.counted;
        written = h.appended ∙ ap (λ (o : Octets). append o old) (written_octets xs h.contents same);
      }

  pub fails_there : (k : Failure) (xs : List E) (i : ℕ) (x : E) → i < length xs → get_or xs i x ≡ x → fails (tree x) k ≡ true → trees_fail (trees_of tree xs) k ≡ true
  unfolding fails
  fails_there k [] i x short there f = absurd (omega arith)
  fails_there k (y ∷ xs) zero x short there f = or_left _ _ (subst (λ (z : E). fails (tree z) k ≡ true) (sym there) f)
  fails_there k (y ∷ xs) (suc i) x short there f = or_right (fails (tree y) k) _ (fails_there k xs i x (omega arith) there f)

  size_there : (n : ℕ) (xs : List E) (i : ℕ) (x : E) → i < length xs → get_or xs i x ≡ x → SizeFails (tree x) n → TreesSizeFails (trees_of tree xs) n
  unfolding SizeFails
  size_there n [] i x short there f = absurd (omega arith)
  size_there n (y ∷ xs) zero x short there f = inl (subst (λ (z : E). SizeFails (tree z) n) (sym there) f)
  size_there n (y ∷ xs) (suc i) x short there f = inr (size_there n xs i x (omega arith) there f)

  -- an element without octets is one more than those of the front
  pub empties_cut : (front : List E) (x : E) (more : List E) → canonical_octets (tree x) ≡ [] → empties (canonical_elements (trees_of tree front)) < empties (canonical_elements (trees_of tree (front ++ x ∷ more)))
  unfolding canonical_octets
  empties_cut [] x more e = rw (empties_one (canonical_octets (tree x)) (canonical_elements (trees_of tree more)), e) (omega arith)
  empties_cut (y ∷ front) x more e =
      let rest = empties_cut front x more e in
      rw (empties_one (canonical_octets (tree y)) (canonical_elements (trees_of tree front)), empties_one (canonical_octets (tree y)) (canonical_elements (trees_of tree (front ++ x ∷ more)))) (omega (arith, rest))

  pub element_fails : (ordered : Bool) (xs : List E) (x : E) (k : EncodeErrorKind) → Contains xs x → Fails (tree x) k → Fails (ListOf ordered (trees_of tree xs)) k
  unfolding fails SizeFails
  element_fails ordered xs x k there f = (f.0, f.1, or_left _ _ (fails_there f.0 xs there.0 x there.1 there.2 f.2), λ n e. size_there n xs there.0 x there.1 there.2 (f.3 n e))

  pub many_fail : (ordered : Bool) (xs : List E) (k : EncodeErrorKind) → k ≡ TooManyEmptyElements → 65536 < empties (canonical_elements (trees_of tree xs)) → Fails (ListOf ordered (trees_of tree xs)) k
  unfolding fails
  many_fail ordered xs k is many = (TooManyEmpty, ap failure_of is, or_right (trees_fail (trees_of tree xs) TooManyEmpty) _ (above _ _ many), λ n e. absurd cc)

  -- too many without octets: the list fails
  pub cut_fails : (ordered : Bool) (xs front : List E) (x : E) (more : List E) (k : EncodeErrorKind) → xs ≡ front ++ x ∷ more → k ≡ TooManyEmptyElements → canonical_octets (tree x) ≡ [] → empties (canonical_elements (trees_of tree front)) ≡ 65536 → Fails (ListOf ordered (trees_of tree xs)) k
  cut_fails ordered xs front x more k split is empty full =
      let one_more = empties_cut front x more empty in
      let many : 65536 < empties (canonical_elements (trees_of tree (front ++ x ∷ more))) = omega (arith, one_more, full) in
      many_fail ordered xs k is (subst (λ ys. 65536 < empties (canonical_elements (trees_of tree ys))) (sym split) many)

  -- the law at each element of a front
  known_before : (xs front : List E) (x : E) (more : List E) → xs ≡ front ++ x ∷ more → IsKnownToWriteAt runs xs tree → IsKnownToWriteAt runs front tree
  known_before xs front x more split known = λ y e e' r there shut p. known y e e' r (contains_before xs front x more split y there) shut p

  -- where the closure refused, or one more was too many: the first element that is refused
  pub first_refused : (xs : List E) (x : EncodeError) → IsKnownToWriteAt runs xs tree → ElementsBroken runs xs x → IsByFirst tree xs x
  first_refused xs x known (inl m) = inl m
  first_refused xs x known (inr (inl r)) =
      let before = known_before xs r.front r.element r.more r.split known in
      let law : Refused (tree r.element) x r.entered r.left = known r.element _ _ _ (contains_there xs r.front r.element r.more r.split) r.opened r.ran in
      elim law.reason [
        | inl m ↦ inl (m, law.mode)
        | inr f ↦ inr (record {
          front = r.front;
          element = r.element;
          more = r.more;
          split = r.split;
          encodable = each_encodable r.front r.contents before r.each;
          few = rw (← contents_are r.front r.contents before r.each) r.few;
          reason = inl f;
        })
      ]
  first_refused xs x known (inr (inr r)) =
      let before = known_before xs r.front r.element r.more r.split known in
      let octets = element_octets r.element [] (λ e e' s shut p. known r.element e e' s (contains_there xs r.front r.element r.more r.split) shut p) r.wrote in
      let full : empties (canonical_elements (trees_of tree r.front)) ≡ 65536 = rw (← contents_are r.front r.contents before r.each) r.full in
      inr (record {
        front = r.front;
        element = r.element;
        more = r.more;
        split = r.split;
        encodable = each_encodable r.front r.contents before r.each;
        few = omega (arith, full);
        reason = inr (ap (λ (z : EncodeError). z.kind) r.refusal, octets.1, sym octets.0, full);
      })

  -- and where the list refuses, it does so by the law
  pub by_first : (ordered : Bool) (xs : List E) (x : EncodeError) → IsByFirst tree xs x → (x.kind ≡ OutOfMemory) ⊎ Fails (ListOf ordered (trees_of tree xs)) x.kind
  by_first ordered xs x (inl m) = inl m.0
  by_first ordered xs x (inr f) = inr (elim f.reason [
    | inl g ↦ element_fails ordered xs f.element x.kind (contains_there xs f.front f.element f.more f.split) g
    | inr m ↦ cut_fails ordered xs f.front f.element f.more x.kind f.split m.0 m.2 m.3
  ])

  broken_mode : (xs : List E) (x : EncodeError) → IsKnownToWriteAt runs xs tree → ElementsBroken runs xs x → x.codec ≡ Coer
  broken_mode xs x known (inl m) = m.1
  broken_mode xs x known (inr (inl r)) =
      let law : Refused (tree r.element) x r.entered r.left = known r.element _ _ _ (contains_there xs r.front r.element r.more r.split) r.opened r.ran in
      law.mode
  broken_mode xs x known (inr (inr r)) = ap (λ (z : EncodeError). z.codec) r.refusal

  pub list_refused : (xs : List E) (old new : Written) (x : EncodeError) → IsKnownToWriteAt runs xs tree → ListBroken runs xs x old new → Refused (list_of true tree xs) x old new
  unfolding list_of
  list_refused xs old new x known h = record {
    reason = by_first true xs x (first_refused xs x known h.reason);
    mode = broken_mode xs x known h.reason;
    keeps = h.keeps;
  }
