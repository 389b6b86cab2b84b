-- Loops over elements, components and additions: what is left of a walk behind one more part.
use Rattle.std.proofs.Common.{◌≡◌, ℕ, zero, suc, ◌+◌, ◌-◌, ◌<◌, ◌≤◌, Bool, true, false, cond, List, [], ◌∷◌, length, drop, get_or, Option, Some, None, Result, Ok, Err, refl, sym, ap, subst, ◌∙◌, arith}
use Rattle.std.specs.Prelude.{◌&&◌, ◌==◌}
use Rattle.std.specs.Borrow.{Bor}
use Rattle.std.specs.Result.{IsErrAnd}
use Rattle.std.proofs.lemmas.Result.{err_from_is_err_and}
use Rattle.asn1_core.specs.Octets.{Octets}
use Rattle.asn1_core.specs.declared.error.DecodeErrorKind.TheVariants.{TooManyEmptyElements}
use Rattle.oer_spec.specs.Bits.{first_bit}
use Rattle.oer_walk.specs.Tables.{nothing, component_of}
use Rattle.oer_walk.specs.Walks.{Walk, PartWalk, done, behind, part_if, inside, with_empty, if_few, elements_by, components_by, is_present, later_bits, extension_count, known_by, unknown_by, additions_by, body_by, IsWalk, Resumes}
use Rattle.oer_walk.specs.declared.nodes.Node.{Node}
use Rattle.oer_walk.specs.declared.places.Place.{Place}
use Rattle.oer_walk.specs.declared.places.Scope.{Scope}
use Rattle.oer_walk.specs.declared.places.Stop.{Stop}
use Rattle.oer_walk.specs.declared.table.Component.{Component}
use Rattle.oer_walk.specs.declared.table.Parts.{Parts}
use Rattle.oer_walk.proofs.Steps.{walk_behind, walk_cut, walk_done, walk_stopped, resumes_step, resumes_end}

-- One more part was walked, which is the next of what is left, and the function goes on.
pub after_part : (r : Result (Bor Octets) Stop) (x : Bor Octets) (i n m : ℕ) (a b c : List Node) (whole left w v : Walk Octets) (f : ℕ → Octets → Walk Octets) → Resumes i a whole n b left → left ≡ behind n w f → v ≡ w → r ≡ Ok x → IsWalk (λ x. x.now) r n m b c v → Resumes i a whole m c (f m x.now)
after_part r x i n m a b c whole left w v f from next same ok g =
    resumes_step (λ (z : Bor Octets). z.now) x i n m a b c whole left w f from next
    (subst (λ (z : Result (Bor Octets) Stop). IsWalk (λ x. x.now) z n m b c w) ok (subst (IsWalk (λ x. x.now) r n m b c) same g))

-- what the exit of a `?` returns
pub residual : (q : Result (Bor Octets) Stop) (e : Stop) → IsErrAnd q (λ d. d ≡ e) → q ≡ Err e
residual q e h = let p = err_from_is_err_and q h in p.1 ∙ ap (λ (z : Stop). Err z) p.2

-- One more part was walked, and the function stops.
pub cut_part : (r q : Result (Bor Octets) Stop) (e : Stop) (i n m : ℕ) (a b c : List Node) (whole left w v : Walk Octets) (f : ℕ → Octets → Walk Octets) → Resumes i a whole n b left → left ≡ behind n w f → v ≡ w → r ≡ Err e → q ≡ Err e → IsWalk (λ x. x.now) r n m b c v → IsWalk (λ x. x.now) q i m a c whole
cut_part r q e i n m a b c whole left w v f from next same err out g =
    let h = subst (λ (z : Result (Bor Octets) Stop). IsWalk (λ x. x.now) z n m b c w) err (subst (IsWalk (λ x. x.now) r n m b c) same g) in
    let l = walk_cut (λ (z : Bor Octets). z.now) (λ (z : Bor Octets). z.now) e n m b c w f h in
    let o = subst (IsWalk (λ x. x.now) (Err e) n m b c) (sym next) l in
    subst (λ (z : Result (Bor Octets) Stop). IsWalk (λ x. x.now) z i m a c whole) (sym out) (resumes_end (λ (z : Bor Octets). z.now) (Err e) i n m a b c whole left from o)

-- nothing is left
pub at_end : (x : Bor Octets) (i n : ℕ) (a b : List Node) (whole left : Walk Octets) → Resumes i a whole n b left → left ≡ done x.now → IsWalk (λ x. x.now) (Ok x) i n a b whole
at_end x i n a b whole left from e =
    resumes_end (λ (z : Bor Octets). z.now) (Ok x) i n n a b b whole left from (subst (IsWalk (λ x. x.now) (Ok x) n n b b) (sym e) (walk_done (λ (z : Bor Octets). z.now) x x.now n b refl))

-- the first of the bits, and those behind it
abbrev put_back : Option (Bool × List Bool) → List Bool
put_back None = []
put_back (Some x) = x.0 ∷ x.1

back_again : (bits : List Bool) → put_back (first_bit bits) ≡ bits
back_again [] = refl
back_again (b ∷ bs) = refl

pub bits_are : (bits later : List Bool) (bit : Bool) → Some (bit, later) ≡ first_bit bits → bits ≡ bit ∷ later
bits_are bits later bit e = sym (back_again bits) ∙ sym (ap put_back e)

pub bits_gone : (bits : List Bool) → None ≡ first_bit bits → bits ≡ []
bits_gone [] e = refl
bits_gone (b ∷ bs) e = absurd cc

-- ---- elements
module _ (part : PartWalk) (s : Scope) (p : Place) where
  pub element_next : (k i empty n : ℕ) (input : Octets) → i < k → elements_by part s p (k - i) empty n input ≡ behind n (part p n input) (λ m rest. if_few s.start (with_empty (length rest == length input) empty) (λ e. elements_by part s p (k - (i + 1)) e m rest))
  unfolding elements_by
  element_next k i empty n input lt = let e : k - i ≡ suc (k - (i + 1)) = omega arith in ap (λ (j : ℕ). elements_by part s p j empty n input) e

  pub elements_end : (k i empty n : ℕ) (input : Octets) → k ≤ i → elements_by part s p (k - i) empty n input ≡ done input
  unfolding elements_by
  elements_end k i empty n input le = let e : k - i ≡ zero = omega arith in ap (λ (j : ℕ). elements_by part s p j empty n input) e

  pub few_more : (k more m : ℕ) (rest : Octets) (o : Option ℕ) (i : ℕ) (a c : List Node) (whole : Walk Octets) → o ≡ Some more → Resumes i a whole m c (if_few s.start o (λ e. elements_by part s p k e m rest)) → Resumes i a whole m c (elements_by part s p k more m rest)
  few_more k more m rest o i a c whole e h = subst (λ (z : Option ℕ). Resumes i a whole m c (if_few s.start z (λ e. elements_by part s p k e m rest))) e h

  pub no_more : (k m : ℕ) (rest : Octets) (o : Option ℕ) (i : ℕ) (a c : List Node) (whole : Walk Octets) (stop : Stop) → o ≡ None → stop ≡ record { place = s.start; kind = TooManyEmptyElements } → Resumes i a whole m c (if_few s.start o (λ e. elements_by part s p k e m rest)) → IsWalk (λ (x : Bor Octets). x.now) (Err stop) i m a c whole
  no_more k m rest o i a c whole stop e is h =
      resumes_end (λ (z : Bor Octets). z.now) (Err stop) i m m a c c whole _ (subst (λ (z : Option ℕ). Resumes i a whole m c (if_few s.start z (λ e. elements_by part s p k e m rest))) e h)
      (walk_stopped (λ (z : Bor Octets). z.now) stop s.start TooManyEmptyElements m c is)

  pub element_step : (r : Result (Bor Octets) Stop) (x : Bor Octets) (q : Place) (o k i empty more n m : ℕ) (rest : Octets) (a b c : List Node) (whole : Walk Octets) → Resumes o a whole n b (elements_by part s p (k - i) empty n rest) → i < k → q ≡ p → with_empty (length x.now == length rest) empty ≡ Some more → r ≡ Ok x → IsWalk (λ x. x.now) r n m b c (part q n rest) → Resumes o a whole m c (elements_by part s p (k - (i + 1)) more m x.now)
  element_step r x q o k i empty more n m rest a b c whole from lt is few ok g =
      few_more (k - (i + 1)) more m x.now (with_empty (length x.now == length rest) empty) o a c whole few
      (after_part r x o n m a b c whole (elements_by part s p (k - i) empty n rest) (part p n rest) (part q n rest) (λ m rest'. if_few s.start (with_empty (length rest' == length rest) empty) (λ e. elements_by part s p (k - (i + 1)) e m rest')) from (element_next k i empty n rest lt) (ap (λ (z : Place). part z n rest) is) ok g)

  pub element_full : (r : Result (Bor Octets) Stop) (x : Bor Octets) (q : Place) (stop : Stop) (o k i empty n m : ℕ) (rest : Octets) (a b c : List Node) (whole : Walk Octets) → Resumes o a whole n b (elements_by part s p (k - i) empty n rest) → i < k → q ≡ p → with_empty (length x.now == length rest) empty ≡ None → stop ≡ record { place = s.start; kind = TooManyEmptyElements } → r ≡ Ok x → IsWalk (λ x. x.now) r n m b c (part q n rest) → IsWalk (λ (x : Bor Octets). x.now) (Err stop) o m a c whole
  element_full r x q stop o k i empty n m rest a b c whole from lt is few at ok g =
      no_more (k - (i + 1)) m x.now (with_empty (length x.now == length rest) empty) o a c whole stop few at
      (after_part r x o n m a b c whole (elements_by part s p (k - i) empty n rest) (part p n rest) (part q n rest) (λ m rest'. if_few s.start (with_empty (length rest' == length rest) empty) (λ e. elements_by part s p (k - (i + 1)) e m rest')) from (element_next k i empty n rest lt) (ap (λ (z : Place). part z n rest) is) ok g)

  pub element_cut : (r q : Result (Bor Octets) Stop) (e : Stop) (at : Place) (o k i empty n m : ℕ) (rest : Octets) (a b c : List Node) (whole : Walk Octets) → Resumes o a whole n b (elements_by part s p (k - i) empty n rest) → i < k → at ≡ p → r ≡ Err e → q ≡ Err e → IsWalk (λ x. x.now) r n m b c (part at n rest) → IsWalk (λ x. x.now) q o m a c whole
  element_cut r q e at o k i empty n m rest a b c whole from lt is err out g =
      cut_part r q e o n m a b c whole (elements_by part s p (k - i) empty n rest) (part p n rest) (part at n rest) (λ m rest'. if_few s.start (with_empty (length rest' == length rest) empty) (λ e. elements_by part s p (k - (i + 1)) e m rest')) from (element_next k i empty n rest lt) (ap (λ (z : Place). part z n rest) is) err out g

-- ---- components and additions
module _ (part : PartWalk) (ws : List ℕ) (ps : Parts) (s : Scope) where
  abbrev pub root_place : ℕ → Place
  root_place i = inside s (component_of ws ps i).type_number (component_of ws ps i).name false

  abbrev pub addition_place : ℕ → Place
  addition_place i = inside s (component_of ws ps (ps.roots + i)).type_number (component_of ws ps (ps.roots + i)).name true

  pub component_next : (k i : ℕ) (bits : List Bool) (n : ℕ) (input : Octets) → i < k → components_by part ws ps s (k - i) i bits n input ≡ behind n (part_if (is_present (component_of ws ps i) bits) part (root_place i) n input) (λ m rest. components_by part ws ps s (k - (i + 1)) (i + 1) (later_bits (component_of ws ps i) bits) m rest)
  unfolding components_by
  component_next k i bits n input lt = let e : k - i ≡ suc (k - (i + 1)) = omega arith in ap (λ (j : ℕ). components_by part ws ps s j i bits n input) e

  pub components_end : (k i : ℕ) (bits : List Bool) (n : ℕ) (input : Octets) → k ≤ i → components_by part ws ps s (k - i) i bits n input ≡ done input
  unfolding components_by
  components_end k i bits n input le = let e : k - i ≡ zero = omega arith in ap (λ (j : ℕ). components_by part ws ps s j i bits n input) e

  pub addition_next : (k i : ℕ) (bits : List Bool) (n : ℕ) (input : Octets) → i < k → known_by part ws ps s (k - i) i bits n input ≡ behind n (part_if (get_or bits 0 false) part (addition_place i) n input) (λ m rest. known_by part ws ps s (k - (i + 1)) (i + 1) (drop 1 bits) m rest)
  unfolding known_by
  addition_next k i bits n input lt = let e : k - i ≡ suc (k - (i + 1)) = omega arith in ap (λ (j : ℕ). known_by part ws ps s j i bits n input) e

  pub additions_end : (k i : ℕ) (bits : List Bool) (n : ℕ) (input : Octets) → k ≤ i → known_by part ws ps s (k - i) i bits n input ≡ unknown_by part s bits n input
  unfolding known_by
  additions_end k i bits n input le = let e : k - i ≡ zero = omega arith in ap (λ (j : ℕ). known_by part ws ps s j i bits n input) e

  -- the additions behind the root
  pub body_extended : (q r : Result (Bor Octets) Stop) (x : Bor Octets) (bits later : List Bool) (n m k : ℕ) (a b c : List Node) (input : Octets) → later ≡ drop (extension_count ps) bits → (ps.is_extensible && get_or bits 0 false) ≡ true → q ≡ Ok x → IsWalk (λ x. x.now) q n m a b (components_by part ws ps s ps.roots 0 later n input) → IsWalk (λ x. x.now) r m k b c (additions_by part ws ps s m x.now) → IsWalk (λ x. x.now) r n k a c (body_by part ws ps s bits n input)
  unfolding body_by
  body_extended q r x bits later n m k a b c input e t ok g h =
      walk_behind (λ (z : Bor Octets). z.now) (λ (z : Bor Octets). z.now) x r n m k a b c (components_by part ws ps s ps.roots 0 (drop (extension_count ps) bits) n input) (λ m rest. cond (ps.is_extensible && get_or bits 0 false) (additions_by part ws ps s m rest) (done rest))
      (subst (λ (z : Result (Bor Octets) Stop). IsWalk (λ x. x.now) z n m a b (components_by part ws ps s ps.roots 0 (drop (extension_count ps) bits) n input)) ok (subst (λ (z : List Bool). IsWalk (λ x. x.now) q n m a b (components_by part ws ps s ps.roots 0 z n input)) e g))
      (subst (λ (z : Bool). IsWalk (λ x. x.now) r m k b c (cond z (additions_by part ws ps s m x.now) (done x.now))) (sym t) h)

  -- the same part at the place that the table gives
  same_part : (there t : Bool) (p q : Place) (n : ℕ) (rest : Octets) → there ≡ t → p ≡ q → part_if there part p n rest ≡ part_if t part q n rest
  same_part there t p q n rest e f = ap (λ (z : Bool). part_if z part p n rest) e ∙ ap (λ (z : Place). part_if t part z n rest) f

  root_is : (p : Place) (comp : Component) (i : ℕ) → comp ≡ component_of ws ps i → p ≡ inside s comp.type_number comp.name false → p ≡ root_place i
  root_is p comp i e f = f ∙ ap (λ (z : Component). inside s z.type_number z.name false) e

  addition_is : (p : Place) (comp : Component) (i : ℕ) → comp ≡ component_of ws ps (ps.roots + i) → p ≡ inside s comp.type_number comp.name true → p ≡ addition_place i
  addition_is p comp i e f = f ∙ ap (λ (z : Component). inside s z.type_number z.name true) e

  present_is : (there : Bool) (comp : Component) (bits : List Bool) (i : ℕ) → comp ≡ component_of ws ps i → there ≡ is_present comp bits → there ≡ is_present (component_of ws ps i) bits
  present_is there comp bits i e f = f ∙ ap (λ (z : Component). is_present z bits) e

  pub component_step : (r : Result (Bor Octets) Stop) (x : Bor Octets) (p : Place) (there : Bool) (later : List Bool) (comp : Component) (o k i n m : ℕ) (bits : List Bool) (rest : Octets) (a b c : List Node) (whole : Walk Octets) → Resumes o a whole n b (components_by part ws ps s (k - i) i bits n rest) → i < k → comp ≡ component_of ws ps i → there ≡ is_present comp bits → later ≡ later_bits comp bits → p ≡ inside s comp.type_number comp.name false → r ≡ Ok x → IsWalk (λ x. x.now) r n m b c (part_if there part p n rest) → Resumes o a whole m c (components_by part ws ps s (k - (i + 1)) (i + 1) later m x.now)
  component_step r x p there later comp o k i n m bits rest a b c whole from lt is t l at ok g =
      subst (λ (z : List Bool). Resumes o a whole m c (components_by part ws ps s (k - (i + 1)) (i + 1) z m x.now)) (sym (l ∙ ap (λ (z : Component). later_bits z bits) is))
      (after_part r x o n m a b c whole (components_by part ws ps s (k - i) i bits n rest) (part_if (is_present (component_of ws ps i) bits) part (root_place i) n rest) (part_if there part p n rest) (λ m rest. components_by part ws ps s (k - (i + 1)) (i + 1) (later_bits (component_of ws ps i) bits) m rest) from (component_next k i bits n rest lt) (same_part there (is_present (component_of ws ps i) bits) p (root_place i) n rest (present_is there comp bits i is t) (root_is p comp i is at)) ok g)

  pub component_cut : (r q : Result (Bor Octets) Stop) (e : Stop) (p : Place) (there : Bool) (comp : Component) (o k i n m : ℕ) (bits : List Bool) (rest : Octets) (a b c : List Node) (whole : Walk Octets) → Resumes o a whole n b (components_by part ws ps s (k - i) i bits n rest) → i < k → comp ≡ component_of ws ps i → there ≡ is_present comp bits → p ≡ inside s comp.type_number comp.name false → r ≡ Err e → q ≡ Err e → IsWalk (λ x. x.now) r n m b c (part_if there part p n rest) → IsWalk (λ x. x.now) q o m a c whole
  component_cut r q e p there comp o k i n m bits rest a b c whole from lt is t at err out g =
      cut_part r q e o n m a b c whole (components_by part ws ps s (k - i) i bits n rest) (part_if (is_present (component_of ws ps i) bits) part (root_place i) n rest) (part_if there part p n rest) (λ m rest. components_by part ws ps s (k - (i + 1)) (i + 1) (later_bits (component_of ws ps i) bits) m rest) from (component_next k i bits n rest lt) (same_part there (is_present (component_of ws ps i) bits) p (root_place i) n rest (present_is there comp bits i is t) (root_is p comp i is at)) err out g

  pub addition_step : (r : Result (Bor Octets) Stop) (x : Bor Octets) (p : Place) (there : Bool) (later : List Bool) (comp : Component) (o k i n m : ℕ) (bits : List Bool) (rest : Octets) (a b c : List Node) (whole : Walk Octets) → Resumes o a whole n b (known_by part ws ps s (k - i) i bits n rest) → i < k → comp ≡ component_of ws ps (ps.roots + i) → there ≡ get_or bits 0 false → later ≡ drop 1 bits → p ≡ inside s comp.type_number comp.name true → r ≡ Ok x → IsWalk (λ x. x.now) r n m b c (part_if there part p n rest) → Resumes o a whole m c (known_by part ws ps s (k - (i + 1)) (i + 1) later m x.now)
  addition_step r x p there later comp o k i n m bits rest a b c whole from lt is t l at ok g =
      subst (λ (z : List Bool). Resumes o a whole m c (known_by part ws ps s (k - (i + 1)) (i + 1) z m x.now)) (sym l)
      (after_part r x o n m a b c whole (known_by part ws ps s (k - i) i bits n rest) (part_if (get_or bits 0 false) part (addition_place i) n rest) (part_if there part p n rest) (λ m rest. known_by part ws ps s (k - (i + 1)) (i + 1) (drop 1 bits) m rest) from (addition_next k i bits n rest lt) (same_part there (get_or bits 0 false) p (addition_place i) n rest t (addition_is p comp i is at)) ok g)

  pub addition_cut : (r q : Result (Bor Octets) Stop) (e : Stop) (p : Place) (there : Bool) (comp : Component) (o k i n m : ℕ) (bits : List Bool) (rest : Octets) (a b c : List Node) (whole : Walk Octets) → Resumes o a whole n b (known_by part ws ps s (k - i) i bits n rest) → i < k → comp ≡ component_of ws ps (ps.roots + i) → there ≡ get_or bits 0 false → p ≡ inside s comp.type_number comp.name true → r ≡ Err e → q ≡ Err e → IsWalk (λ x. x.now) r n m b c (part_if there part p n rest) → IsWalk (λ x. x.now) q o m a c whole
  addition_cut r q e p there comp o k i n m bits rest a b c whole from lt is t at err out g =
      cut_part r q e o n m a b c whole (known_by part ws ps s (k - i) i bits n rest) (part_if (get_or bits 0 false) part (addition_place i) n rest) (part_if there part p n rest) (λ m rest. known_by part ws ps s (k - (i + 1)) (i + 1) (drop 1 bits) m rest) from (addition_next k i bits n rest lt) (same_part there (get_or bits 0 false) p (addition_place i) n rest t (addition_is p comp i is at)) err out g

  pub additions_last : (r : Result (Bor Octets) Stop) (o k i n m : ℕ) (bits : List Bool) (rest : Octets) (a b c : List Node) (whole : Walk Octets) → Resumes o a whole n b (known_by part ws ps s (k - i) i bits n rest) → k ≤ i → IsWalk (λ x. x.now) r n m b c (unknown_by part s bits n rest) → IsWalk (λ x. x.now) r o m a c whole
  additions_last r o k i n m bits rest a b c whole from le g = resumes_end (λ (z : Bor Octets). z.now) r o n m a b c whole (known_by part ws ps s (k - i) i bits n rest) from (subst (IsWalk (λ x. x.now) r n m b c) (sym (additions_end k i bits n rest le)) g)

-- ---- additions that the table doesn't have
module _ (part : PartWalk) (s : Scope) where
  pub unknown_next : (bits later : List Bool) (bit : Bool) (n : ℕ) (input : Octets) → bits ≡ bit ∷ later → unknown_by part s bits n input ≡ behind n (part_if bit part (inside s nothing nothing true) n input) (λ m rest. unknown_by part s later m rest)
  unfolding unknown_by
  unknown_next bits later bit n input e = ap (λ (z : List Bool). unknown_by part s z n input) e

  pub unknown_end : (bits : List Bool) (n : ℕ) (input : Octets) → bits ≡ [] → unknown_by part s bits n input ≡ done input
  unfolding unknown_by
  unknown_end bits n input e = ap (λ (z : List Bool). unknown_by part s z n input) e

  pub unknown_step : (r : Result (Bor Octets) Stop) (x : Bor Octets) (p : Place) (bit : Bool) (later bits : List Bool) (o n m : ℕ) (rest : Octets) (a b c : List Node) (whole : Walk Octets) → Resumes o a whole n b (unknown_by part s bits n rest) → bits ≡ bit ∷ later → p ≡ inside s nothing nothing true → r ≡ Ok x → IsWalk (λ x. x.now) r n m b c (part_if bit part p n rest) → Resumes o a whole m c (unknown_by part s later m x.now)
  unknown_step r x p bit later bits o n m rest a b c whole from is at ok g =
      after_part r x o n m a b c whole (unknown_by part s bits n rest) (part_if bit part (inside s nothing nothing true) n rest) (part_if bit part p n rest) (λ m rest. unknown_by part s later m rest) from (unknown_next bits later bit n rest is) (ap (λ (z : Place). part_if bit part z n rest) at) ok g

  pub unknown_cut : (r q : Result (Bor Octets) Stop) (e : Stop) (p : Place) (bit : Bool) (later bits : List Bool) (o n m : ℕ) (rest : Octets) (a b c : List Node) (whole : Walk Octets) → Resumes o a whole n b (unknown_by part s bits n rest) → bits ≡ bit ∷ later → p ≡ inside s nothing nothing true → r ≡ Err e → q ≡ Err e → IsWalk (λ x. x.now) r n m b c (part_if bit part p n rest) → IsWalk (λ x. x.now) q o m a c whole
  unknown_cut r q e p bit later bits o n m rest a b c whole from is at err out g =
      cut_part r q e o n m a b c whole (unknown_by part s bits n rest) (part_if bit part (inside s nothing nothing true) n rest) (part_if bit part p n rest) (λ m rest. unknown_by part s later m rest) from (unknown_next bits later bit n rest is) (ap (λ (z : Place). part_if bit part z n rest) at) err out g
