-- A walk takes the parts of sequences and lists, where it takes each of them.
use Rattle.std.proofs.Common.{◌≡◌, ℕ, zero, suc, ◌+◌, ◌<◌, ◌≤◌, Bool, true, false, cond, List, [], ◌∷◌, ◌++◌, length, drop, get_or, Some, None, Option, Ok, refl, sym, ap, subst, ◌∙◌, arith, inl, append_assoc, length-append}
use Rattle.std.specs.List.{AllByRecursion}
use Rattle.std.specs.Prelude.{not, ◌||◌, ◌==◌}
use Rattle.std.proofs.lemmas.Bool.{lt-ltb, eq-eqb, ne_eqb}
use Rattle.asn1_core.specs.Octets.{Octets, joined}
use Rattle.oer_spec.specs.Encoding.{empties}
use Rattle.oer_spec.specs.Lengths.{IsBehindLength}
use Rattle.oer_spec.specs.Mode.{Lenient}
use Rattle.oer_spec.specs.Places.{Item, presence, bodies, IsAddition, AreAdditions}
use Rattle.oer_walk.specs.Tables.{nothing, form_of, component_of, optionals}
use Rattle.oer_walk.specs.Walks.{Walk, inside, part_if, with_empty, if_few, elements_by, components_by, is_present, later_bits, known_by, part_at}
use Rattle.oer_walk.specs.declared.nodes.Node.{Node}
use Rattle.oer_walk.specs.declared.places.Place.{Place}
use Rattle.oer_walk.specs.declared.places.Scope.{Scope}
use Rattle.oer_walk.specs.declared.table.Component.{Component}
use Rattle.oer_walk.specs.declared.table.Form.TheVariants.{Nothing}
use Rattle.oer_walk.specs.declared.table.Parts.{Parts}
use Rattle.oer_walk.proofs.Takes.{IsAt, at_later, Joins, AnyUnknown, TakesPart, takes_behind, takes_unknown}

-- a presence bit, where there is one, and the bits behind it
present_is : (may marked bit : Bool) (ps bits later : List Bool) → may ≡ marked → (marked ≡ false → bit ≡ true) → bits ≡ cond marked (bit ∷ ps) ps ++ later → ((not may || get_or bits 0 false) ≡ bit) × (cond may (drop 1 bits) bits ≡ ps ++ later)
present_is true true bit ps bits later e h b = (ap (λ (z : List Bool). get_or z 0 false) b, ap (drop 1) b)
present_is false false bit ps bits later e h b = (sym (h refl), b)
present_is true false bit ps bits later e h b = absurd cc
present_is false true bit ps bits later e h b = absurd cc

module _ (all : Octets) (Q : List Node → Type 0) (joins : Joins Q) (ws : List ℕ) (d : ℕ) where
  -- the octets of a part that is there, and none of one that isn't
  pub record PartTaken (name type_number : ℕ) (o : Octets) : Type 0 where
    pub closed : (p : Place) (n : ℕ) (rest : Octets) → p.is_open ≡ false → p.name ≡ name → p.type_number ≡ type_number → IsAt all p.end (o ++ rest) → TakesPart Q p.most n (part_at ws d p n (o ++ rest)) rest
    pub opened : (p : Place) (n : ℕ) (g rest left : Octets) → p.is_open ≡ true → p.name ≡ name → p.type_number ≡ type_number → IsBehindLength Lenient g (o ++ left) → IsAt all p.end (g ++ rest) → TakesPart Q p.most n (part_at ws d p n (g ++ rest)) rest

  abbrev pub BodyTaken : ℕ → ℕ → Bool → Octets → Type 0
  BodyTaken name m true o = PartTaken name m o
  BodyTaken name m false o = o ≡ []

  -- ---- elements
  abbrev pub AllTaken : ℕ → List Octets → Type 0
  AllTaken m os = AllByRecursion (λ (o : Octets). PartTaken nothing m o) os

  few_taken : (most n at : ℕ) (o : Option ℕ) (e : ℕ) (f : ℕ → Walk Octets) (rest : Octets) → o ≡ Some e → TakesPart Q most n (f e) rest → TakesPart Q most n (if_few at o f) rest
  few_taken most n at o e f rest same h = subst (λ (z : Option ℕ). TakesPart Q most n (if_few at z f) rest) (sym same) h

  empty_more : (n empty : ℕ) (mid : Octets) → empty < 65536 → with_empty (length mid == length ([] ++ mid)) empty ≡ Some (empty + 1)
  empty_more n empty mid lt = ap (λ b. with_empty b empty) (eq-eqb (length mid) (length mid) refl) ∙ ap (λ b. cond b (Some (empty + 1)) None) (lt-ltb empty 65536 lt)

  none_more : (empty x : ℕ) (o mid : Octets) → with_empty (length mid == length ((x ∷ o) ++ mid)) empty ≡ Some empty
  none_more empty x o mid = ap (λ b. with_empty b empty) (ne_eqb (length mid) (length ((x ∷ o) ++ mid)) (λ e. absurd (omega (arith, e, length-append (x ∷ o) mid))))

  pub elements_taken : (s : Scope) (m : ℕ) (own : List Octets) (empty n : ℕ) (rest : Octets) → AllTaken m own → empty + empties own ≤ 65536 → IsAt all s.end (joined own ++ rest) → TakesPart Q s.most n (elements_by (part_at ws d) s (inside s m nothing false) (length own) empty n (joined own ++ rest)) rest
  unfolding elements_by
  elements_taken s m [] empty n rest h few at = inl (refl, joins.none)
  elements_taken s m ([] ∷ os) empty n rest h few at =
      takes_behind Q joins s.most n (part_at ws d (inside s m nothing false) n (joined os ++ rest)) (λ k left. if_few s.start (with_empty (length left == length (joined os ++ rest)) empty) (λ e. elements_by (part_at ws d) s (inside s m nothing false) (length os) e k left)) (joined os ++ rest) rest
      (h.0.closed (inside s m nothing false) n (joined os ++ rest) refl refl refl at)
      (λ k. few_taken s.most k s.start (with_empty (length (joined os ++ rest) == length (joined os ++ rest)) empty) (empty + 1) (λ e. elements_by (part_at ws d) s (inside s m nothing false) (length os) e k (joined os ++ rest)) rest (empty_more n empty (joined os ++ rest) (omega arith))
      (elements_taken s m os (empty + 1) k rest h.1 (omega arith) at))
  elements_taken s m ((x ∷ o) ∷ os) empty n rest h few at =
      let regrouped : ((x ∷ o) ++ joined os) ++ rest ≡ (x ∷ o) ++ (joined os ++ rest) = append_assoc (x ∷ o) (joined os) rest in
      let here = subst (IsAt all s.end) regrouped at in
      subst (λ (z : Octets). TakesPart Q s.most n (elements_by (part_at ws d) s (inside s m nothing false) (length ((x ∷ o) ∷ os)) empty n z) rest) (sym regrouped)
      (takes_behind Q joins s.most n (part_at ws d (inside s m nothing false) n ((x ∷ o) ++ (joined os ++ rest))) (λ k left. if_few s.start (with_empty (length left == length ((x ∷ o) ++ (joined os ++ rest))) empty) (λ e. elements_by (part_at ws d) s (inside s m nothing false) (length os) e k left)) (joined os ++ rest) rest
      (h.0.closed (inside s m nothing false) n (joined os ++ rest) refl refl refl here)
      (λ k. few_taken s.most k s.start (with_empty (length (joined os ++ rest) == length ((x ∷ o) ++ (joined os ++ rest))) empty) empty (λ e. elements_by (part_at ws d) s (inside s m nothing false) (length os) e k (joined os ++ rest)) rest (none_more empty x o (joined os ++ rest))
      (elements_taken s m os empty k rest h.1 few (at_later all s.end (x ∷ o) (joined os ++ rest) here))))

  module _ (ps : Parts) where
    -- ---- components of the root
    pub record RootTaken (i : ℕ) (x : Item) : Type 0 where
      pub marked : (component_of ws ps i).may_be_absent ≡ x.marked
      pub there : x.marked ≡ false → x.bit ≡ true
      pub body : BodyTaken (component_of ws ps i).name (component_of ws ps i).type_number x.bit x.octets

    abbrev pub RootsTaken : ℕ → ℕ → List Item → Type 0
    RootsTaken i k [] = k ≡ 0
    RootsTaken i zero (x ∷ is) = ⊥
    RootsTaken i (suc k) (x ∷ is) = RootTaken i x × RootsTaken (i + 1) k is

    optional_more : (i : ℕ) → optionals ws ps (i + 1) ≡ cond (component_of ws ps i).may_be_absent (suc (optionals ws ps i)) (optionals ws ps i)
    optional_more i = let e : i + 1 ≡ suc i = omega arith in ap (optionals ws ps) e

    marked_more : (b bit : Bool) (ps : List Bool) (n more : ℕ) → more ≡ cond b (suc n) n → length (cond b (bit ∷ ps) ps) + n ≡ length ps + more
    marked_more true bit ps n more e = omega (arith, e)
    marked_more false bit ps n more e = omega (arith, e)

    pub roots_counted : (i k : ℕ) (is : List Item) → RootsTaken i k is → length (presence is) + optionals ws ps i ≡ optionals ws ps (i + k)
    roots_counted i k [] h = let e : i ≡ i + k = omega (arith, h) in let z : 0 + optionals ws ps i ≡ optionals ws ps i = omega arith in z ∙ ap (optionals ws ps) e
    roots_counted i zero (x ∷ is) h = absurd h
    roots_counted i (suc k) (x ∷ is) h =
        let e : (i + 1) + k ≡ i + suc k = omega arith in
        let m : optionals ws ps (i + 1) ≡ cond x.marked (suc (optionals ws ps i)) (optionals ws ps i) = optional_more i ∙ ap (λ b. cond b (suc (optionals ws ps i)) (optionals ws ps i)) h.0.marked in
        marked_more x.marked x.bit (presence is) (optionals ws ps i) (optionals ws ps (i + 1)) m ∙ roots_counted (i + 1) k is h.1 ∙ ap (optionals ws ps) e

    if_taken : (b : Bool) (o : Octets) (p : Place) (n : ℕ) (mid : Octets) → p.is_open ≡ false → IsAt all p.end (o ++ mid) → BodyTaken p.name p.type_number b o → TakesPart Q p.most n (part_if b (part_at ws d) p n (o ++ mid)) mid
    if_taken true o p n mid closed at h = h.closed p n mid closed refl refl at
    if_taken false o p n mid closed at h = inl (ap (λ (z : Octets). Ok (z ++ mid)) h, joins.none)

    pub roots_taken : (s : Scope) (i k : ℕ) (is : List Item) (bits later : List Bool) (n : ℕ) (rest : Octets) → RootsTaken i k is → bits ≡ presence is ++ later → IsAt all s.end (bodies is ++ rest) → TakesPart Q s.most n (components_by (part_at ws d) ws ps s k i bits n (bodies is ++ rest)) rest
    unfolding components_by
    roots_taken s i k [] bits later n rest h e at = subst (λ (z : ℕ). TakesPart Q s.most n (components_by (part_at ws d) ws ps s z i bits n rest) rest) (sym h) (inl (refl, joins.none))
    roots_taken s i zero (x ∷ is) bits later n rest h e at = absurd h
    roots_taken s i (suc k) (x ∷ is) bits later n rest h e at =
        let c : Component = component_of ws ps i in
        let p : Place = inside s (component_of ws ps i).type_number (component_of ws ps i).name false in
        let b = present_is c.may_be_absent x.marked x.bit (presence is) bits later h.0.marked h.0.there e in
        let regrouped : (x.octets ++ bodies is) ++ rest ≡ x.octets ++ (bodies is ++ rest) = append_assoc x.octets (bodies is) rest in
        let here = subst (IsAt all s.end) regrouped at in
        subst (λ (z : Octets). TakesPart Q s.most n (components_by (part_at ws d) ws ps s (suc k) i bits n z) rest) (sym regrouped)
        (takes_behind Q joins s.most n (part_if (is_present c bits) (part_at ws d) p n (x.octets ++ (bodies is ++ rest))) (λ m left. components_by (part_at ws d) ws ps s k (i + 1) (later_bits c bits) m left) (bodies is ++ rest) rest
        (subst (λ (z : Bool). TakesPart Q s.most n (part_if z (part_at ws d) p n (x.octets ++ (bodies is ++ rest))) (bodies is ++ rest)) (sym b.0) (if_taken x.bit x.octets p n (bodies is ++ rest) refl here h.0.body))
        (λ m. roots_taken s (i + 1) k is (later_bits c bits) later m rest h.1 b.1 (at_later all s.end x.octets (bodies is ++ rest) here)))

    -- ---- additions
    abbrev pub AdditionsTaken : ℕ → ℕ → List Item → Type 0
    AdditionsTaken i k [] = k ≡ 0
    AdditionsTaken i zero (x ∷ is) = ⊥
    AdditionsTaken i (suc k) (x ∷ is) = BodyTaken (component_of ws ps (ps.roots + i)).name (component_of ws ps (ps.roots + i)).type_number x.bit x.octets × AdditionsTaken (i + 1) k is

    addition_taken : (b : Bool) (f o mid : Octets) (p : Place) (n : ℕ) (rest : Octets) → p.is_open ≡ true → IsAt all p.end (o ++ rest) → BodyTaken p.name p.type_number b f → IsAddition Lenient b f o mid → TakesPart Q p.most n (part_if b (part_at ws d) p n (o ++ rest)) (mid ++ rest)
    addition_taken false f o mid p n rest is_open at h e = inl (ap (λ (z : Octets). Ok (z ++ rest)) e, joins.none)
    addition_taken true f o mid p n rest is_open at h (g, e, (content, left, behind, split, strict)) =
        let regrouped : o ++ rest ≡ g ++ (mid ++ rest) = ap (λ (z : Octets). z ++ rest) e ∙ append_assoc g mid rest in
        subst (λ (z : Octets). TakesPart Q p.most n (part_at ws d p n z) (mid ++ rest)) (sym regrouped)
        (h.opened p n g (mid ++ rest) left is_open refl refl (subst (IsBehindLength Lenient g) split behind) (subst (IsAt all p.end) regrouped at))

    addition_later : (b : Bool) (f o mid rest : Octets) (end : ℕ) → IsAddition Lenient b f o mid → IsAt all end (o ++ rest) → IsAt all end (mid ++ rest)
    addition_later false f o mid rest end e at = subst (λ (z : Octets). IsAt all end (z ++ rest)) e at
    addition_later true f o mid rest end (g, e, is) at = at_later all end g (mid ++ rest) (subst (IsAt all end) (ap (λ (z : Octets). z ++ rest) e ∙ append_assoc g mid rest) at)

    pub additions_taken : (s : Scope) (i k : ℕ) (is : List Item) (bits : List Bool) (n : ℕ) (o rest : Octets) → form_of ws nothing ≡ Nothing → AnyUnknown Q → AdditionsTaken i k is → AreAdditions Lenient bits o is → IsAt all s.end (o ++ rest) → TakesPart Q s.most n (known_by (part_at ws d) ws ps s k i bits n (o ++ rest)) rest
    unfolding known_by
    additions_taken s i k [] bits n o rest none any h a at = subst (λ (z : ℕ). TakesPart Q s.most n (known_by (part_at ws d) ws ps s z i bits n (o ++ rest)) rest) (sym h) (takes_unknown all Q joins any ws d s bits n o rest none a)
    additions_taken s i zero (x ∷ is) bits n o rest none any h a at = absurd h
    additions_taken s i (suc k) (x ∷ is) bits n o rest none any h (bit, mid, one, more) at =
        let c : Component = component_of ws ps (ps.roots + i) in
        let p : Place = inside s (component_of ws ps (ps.roots + i)).type_number (component_of ws ps (ps.roots + i)).name true in
        takes_behind Q joins s.most n (part_if (get_or bits 0 false) (part_at ws d) p n (o ++ rest)) (λ m left. known_by (part_at ws d) ws ps s k (i + 1) (drop 1 bits) m left) (mid ++ rest) rest
        (subst (λ (z : Bool). TakesPart Q s.most n (part_if z (part_at ws d) p n (o ++ rest)) (mid ++ rest)) (sym bit) (addition_taken x.bit x.octets o mid p n rest refl at h.0 one))
        (λ m. additions_taken s (i + 1) k is (drop 1 bits) m mid rest none any h.1 more (addition_later x.bit x.octets o mid rest s.end one at))
