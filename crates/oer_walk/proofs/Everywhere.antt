-- Each part of a walk has its place, whatever the table and the octets.
use Rattle.std.proofs.Common.{◌≡◌, ℕ, zero, suc, ◌+◌, ◌-◌, ◌<◌, ◌≤◌, ◌⊎◌, Bool, true, false, cond, List, [], ◌∷◌, length, get_or, drop, set, Option, Some, None, Result, Ok, inl, inr, refl, sym, ap, ap₂, subst, ◌∙◌, arith}
use Rattle.std.specs.Prelude.{nat_lt, nat_le, ◌==◌, ◌&&◌}
use Rattle.std.proofs.lemmas.List.{get_or-set_same, get_or-set_other, length-set}
use Rattle.asn1_core.specs.Octets.{Octets, AreOctets}
use Rattle.asn1_core.specs.declared.codec.Codec.TheVariants.{Oer}
use Rattle.asn1_core.specs.declared.error.DecodeErrorKind.TheVariants.{TypeNotExtensible, ExceedsMaxParseDepth, TooManyEmptyElements}
use Rattle.oer_leaf_read.proofs.ReadPlaces.{preamble_reads, bitmap_reads}
use Rattle.oer_leaf_read.proofs.ReadQuantities.{quantity_reads}
use Rattle.oer_spec.specs.Reading.{quantity_at}
use Rattle.oer_spec.specs.ReadingBits.{preamble_at, bitmap_at}
use Rattle.oer_walk.specs.Parts.{IsUnfinished, IsInside, HasPlace, ArePlaced, node_at, blank}
use Rattle.oer_walk.specs.Tables.{nothing, form_of, component_of, alternative_at, optionals}
use Rattle.oer_walk.specs.Walks.{Walk, PartWalk, ValueWalk, done, stopped, reads, scope_of, inside, noded, is_nothing, ending, open_content, open_by, within_by, part_by, part_if, with_empty, if_few, elements_by, extension_count, is_present, later_bits, components_by, unknown_by, known_by, additions_by, body_by, sequence_by, tagged_at, chosen, choice_by, list_by, is_leaf, leaf_at, scope_by, value_by, value_at, part_at, behind_length_at, overlay, Came, most_of, outermost, walk_of, IsAnswer}
use Rattle.oer_walk.specs.declared.nodes.Node.{Node}
use Rattle.oer_walk.specs.declared.places.Place.{Place}
use Rattle.oer_walk.specs.declared.places.Scope.{Scope}
use Rattle.oer_walk.specs.declared.places.Stop.{Stop}
use Rattle.oer_walk.specs.declared.table.Form.{Form}
use Rattle.oer_walk.specs.declared.table.Form.TheVariants.{Fixed, Counted, Enumerated, List as ListForm, Sequence, Choice, Nothing}
use Rattle.oer_walk.specs.declared.table.Parts.{Parts}
use Rattle.oer_walk.specs.declared.walks.Walked.{Walked}
use Rattle.oer_walk.proofs.Placed.{Base, Left, Good, Claim, claim_done, claim_stopped, claim_behind, claim_read, ValueClaim, value_stopped, value_done, value_read, from_claim, ExtentClaim, extent_read, extent_closed, extent_opened, PartClaim, part_claim, part_stopped, claim_of_part, stand_all}
use Rattle.oer_walk.proofs.Suffixes.{IsRear, rear_length, rear_read, behind_split, leaf_rears, tagged_rear}

module _ (xs : List Node) (most : ℕ) (ws : List ℕ) where
  module _ (part : PartWalk) (placed : (p : Place) (n : ℕ) (input : Octets) → PartClaim xs most ws p n input (part p n input)) where
    part_claimed : (p : Place) (n : ℕ) (input : Octets) → Claim xs most p.end n p.around input (part p n input)
    part_claimed p n input = claim_of_part xs most ws p n input (part p n input) (placed p n input)

    if_claim : (b : Bool) (p : Place) (n : ℕ) (input : Octets) → Claim xs most p.end n p.around input (part_if b part p n input)
    if_claim true p n input = part_claimed p n input
    if_claim false p n input = claim_done xs most p.end n p.around input

    few_claim : (end n a at : ℕ) (input : Octets) (o : Option ℕ) (f : ℕ → Walk Octets) → ((e : ℕ) → Claim xs most end n a input (f e)) → Claim xs most end n a input (if_few at o f)
    few_claim end n a at input (Some e) f h = h e
    few_claim end n a at input None f h = claim_stopped xs most end n a at TooManyEmptyElements input

    elements_claim : (s : Scope) (t k empty n : ℕ) (input : Octets) → Claim xs most s.end n s.node input (elements_by part s (inside s t nothing false) k empty n input)
    unfolding elements_by
    elements_claim s t zero empty n input = claim_done xs most s.end n s.node input
    elements_claim s t (suc k) empty n input =
        claim_behind xs most s.end n s.node input (part (inside s t nothing false) n input) (λ m rest. if_few s.start (with_empty (length rest == length input) empty) (λ e. elements_by part s (inside s t nothing false) k e m rest)) (part_claimed (inside s t nothing false) n input)
        (λ m rest. few_claim s.end m s.node s.start rest (with_empty (length rest == length input) empty) (λ e. elements_by part s (inside s t nothing false) k e m rest) (λ e. elements_claim s t k e m rest))

    unknown_claim : (s : Scope) (bits : List Bool) (n : ℕ) (input : Octets) → Claim xs most s.end n s.node input (unknown_by part s bits n input)
    unfolding unknown_by
    unknown_claim s [] n input = claim_done xs most s.end n s.node input
    unknown_claim s (b ∷ bits) n input =
        claim_behind xs most s.end n s.node input (part_if b part (inside s nothing nothing true) n input) (λ m rest. unknown_by part s bits m rest) (if_claim b (inside s nothing nothing true) n input) (λ m rest. unknown_claim s bits m rest)

    module _ (ps : Parts) (s : Scope) where
      components_claim : (k i : ℕ) (bits : List Bool) (n : ℕ) (input : Octets) → Claim xs most s.end n s.node input (components_by part ws ps s k i bits n input)
      unfolding components_by
      components_claim zero i bits n input = claim_done xs most s.end n s.node input
      components_claim (suc k) i bits n input =
          let c = component_of ws ps i in
          let p : Place = inside s c.type_number c.name false in
          claim_behind xs most s.end n s.node input (part_if (is_present c bits) part p n input) (λ m rest. components_by part ws ps s k (i + 1) (later_bits c bits) m rest) (if_claim (is_present c bits) p n input) (λ m rest. components_claim k (i + 1) (later_bits c bits) m rest)

      known_claim : (k i : ℕ) (bits : List Bool) (n : ℕ) (input : Octets) → Claim xs most s.end n s.node input (known_by part ws ps s k i bits n input)
      unfolding known_by
      known_claim zero i bits n input = unknown_claim s bits n input
      known_claim (suc k) i bits n input =
          let c = component_of ws ps (ps.roots + i) in
          let p : Place = inside s c.type_number c.name true in
          claim_behind xs most s.end n s.node input (part_if (get_or bits 0 false) part p n input) (λ m rest. known_by part ws ps s k (i + 1) (drop 1 bits) m rest) (if_claim (get_or bits 0 false) p n input) (λ m rest. known_claim k (i + 1) (drop 1 bits) m rest)

      additions_claim : (n : ℕ) (input : Octets) → Claim xs most s.end n s.node input (additions_by part ws ps s n input)
      unfolding additions_by
      additions_claim n input =
          claim_read xs most s.end n s.node s.start input (bitmap_at Oer input) (λ b. b.1) (λ b. known_by part ws ps s ps.additions 0 b.0 n b.1) (λ b e a. rear_read (bitmap_reads Oer) input b a e) (λ b. known_claim ps.additions 0 b.0 n b.1)

      more_claim : (b : Bool) (n : ℕ) (input : Octets) → Claim xs most s.end n s.node input (cond b (additions_by part ws ps s n input) (done input))
      more_claim true n input = additions_claim n input
      more_claim false n input = claim_done xs most s.end n s.node input

      body_claim : (bits : List Bool) (n : ℕ) (input : Octets) → Claim xs most s.end n s.node input (body_by part ws ps s bits n input)
      unfolding body_by
      body_claim bits n input =
          claim_behind xs most s.end n s.node input (components_by part ws ps s ps.roots 0 (drop (extension_count ps) bits) n input) (λ m rest. cond (ps.is_extensible && get_or bits 0 false) (additions_by part ws ps s m rest) (done rest))
          (components_claim ps.roots 0 (drop (extension_count ps) bits) n input) (λ m rest. more_claim (ps.is_extensible && get_or bits 0 false) m rest)

      sequence_claim : (n : ℕ) (input : Octets) → ValueClaim xs most s n input (sequence_by part ws ps s n input)
      unfolding sequence_by
      sequence_claim n input =
          from_claim xs most s n input (preamble_at (extension_count ps + optionals ws ps ps.roots) input) (λ b. b.1) (λ b. body_by part ws ps s b.0 n b.1)
          (λ b e a. rear_read (preamble_reads (extension_count ps + optionals ws ps ps.roots)) input b a e) (λ b. body_claim b.0 n b.1)

      choice_claim : (n : ℕ) (input : Octets) → ValueClaim xs most s n input (choice_by part ws ps s n input)
      unfolding choice_by
      choice_claim n input = from_claim xs most s n input (tagged_at ws ps input) (λ t. t.1) (λ t. chosen part ws ps s t.0 n t.1) (λ t e a. tagged_rear ws ps input t a e) (λ t. part_claimed (place t.0) n t.1)
        where
          place : ℕ → Place
          place i = let a = alternative_at ws ps i in inside s a.type_number a.name (nat_le ps.roots i)

    list_claim : (t : ℕ) (s : Scope) (n : ℕ) (input : Octets) → ValueClaim xs most s n input (list_by part t s n input)
    unfolding list_by
    list_claim t s n input = from_claim xs most s n input (quantity_at Oer input) (λ q. q.1) (λ q. elements_by part s (inside s t nothing false) q.0 0 n q.1) (λ q e a. rear_read (quantity_reads Oer) input q a e) (λ q. elements_claim s t q.0 0 n q.1)

    scope_claim : (form : Form) (s : Scope) (n : ℕ) (input : Octets) → ValueClaim xs most s n input (scope_by part ws form s n input)
    unfolding scope_by
    scope_claim (ListForm t) s n input = list_claim t s n input
    scope_claim (Sequence ps) s n input = sequence_claim ps s n input
    scope_claim (Choice ps) s n input = choice_claim ps s n input
    scope_claim (Fixed k) s n input = value_stopped xs most s n s.start TypeNotExtensible input
    scope_claim Counted s n input = value_stopped xs most s n s.start TypeNotExtensible input
    scope_claim Enumerated s n input = value_stopped xs most s n s.start TypeNotExtensible input
    scope_claim Nothing s n input = value_stopped xs most s n s.start TypeNotExtensible input

  -- ---- values
  leaf_or : (inner : Form → ValueWalk) → ((form : Form) (s : Scope) (n : ℕ) (input : Octets) → ValueClaim xs most s n input (inner form s n input)) → (form : Form) (s : Scope) (n : ℕ) (input : Octets) → ValueClaim xs most s n input (value_by inner form s n input)
  leaf_or inner h form s n input = at (is_leaf form)
    where
      leaf : ValueClaim xs most s n input (reads s.start (leaf_at form input) (λ x. done (s.end - length x.0, x.1)))
      leaf = value_read xs most s n input (leaf_at form input) (λ x. done (s.end - length x.0, x.1)) (λ x e. value_done xs most s n input x.0 x.1 (λ a. leaf_rears form input x a e))

      at : (b : Bool) → ValueClaim xs most s n input (cond b (reads s.start (leaf_at form input) (λ x. done (s.end - length x.0, x.1))) (inner form s n input))
      at true = leaf
      at false = h form s n input

  module _ (value : ValueWalk) (placed : (s : Scope) (n : ℕ) (input : Octets) → ValueClaim xs most s n input (value s n input)) where
    open_claim : (s : Scope) (n : ℕ) (input : Octets) → ExtentClaim xs most s n input (open_by value ws s n input)
    unfolding open_by open_content
    open_claim s n input = extent_read xs most s n input (behind_length_at input) (λ x. open_content value ws s n (s.end - length x.1) x.0 x.2) (λ x e. at x e (is_nothing (form_of ws s.type_number)))
      where
        at : (x : Octets × Octets × Octets) → behind_length_at input ≡ Ok x → (b : Bool) → ExtentClaim xs most s n input (cond b (done (s.end - length x.1, s.end - length x.2, x.2)) (ending (s.end - length x.2) (λ left. x.2) (value (record s { end = s.end - length x.2 }) n x.0)))
        at x e true = extent_closed xs most s n input (done (s.end - length x.1, x.2)) (value_done xs most s n input x.1 x.2 (λ a. let p = behind_split input x a e in (p.0, (x.0, p.1))))
        at x e false = extent_opened xs most s n input x.1 x.0 x.2 (value (record s { end = s.end - length x.2 }) n x.0) (λ a. behind_split input x a e) (placed (record s { end = s.end - length x.2 }) n x.0)

    within_claim : (p : Place) (n : ℕ) (input : Octets) → ExtentClaim xs most (scope_of p n (p.end - length input)) (n + 1) input (within_by value ws p n input)
    unfolding within_by
    within_claim p n input = at p.is_open
      where
        s : Scope
        s = scope_of p n (p.end - length input)

        at : (b : Bool) → ExtentClaim xs most (scope_of p n (p.end - length input)) (n + 1) input (cond b (open_by value ws (scope_of p n (p.end - length input)) (n + 1) input) (ending p.end (λ rest. rest) (value (scope_of p n (p.end - length input)) (n + 1) input)))
        at true = open_claim (scope_of p n (p.end - length input)) (n + 1) input
        at false = extent_closed xs most (scope_of p n (p.end - length input)) (n + 1) input (value (scope_of p n (p.end - length input)) (n + 1) input) (placed (scope_of p n (p.end - length input)) (n + 1) input)

    node_claim : (p : Place) (n : ℕ) (input : Octets) → PartClaim xs most ws p n input (part_by value ws p n input)
    unfolding part_by
    node_claim p n input = at (nat_lt n p.most)
      where
        at : (b : Bool) → PartClaim xs most ws p n input (cond b (noded ws p (p.end - length input) (within_by value ws p n input)) (stopped (p.end - length input) TooManyEmptyElements))
        at true = part_claim xs most ws p n input (within_by value ws p n input) (within_claim p n input)
        at false = part_stopped xs most ws p n (p.end - length input) TooManyEmptyElements input

  value_claim : (d : ℕ) (s : Scope) (n : ℕ) (input : Octets) → ValueClaim xs most s n input (value_at ws d s n input)
  unfolding value_at
  value_claim zero s n input = leaf_or (λ form r m rest. stopped r.start ExceedsMaxParseDepth) (λ form r m rest. value_stopped xs most r m r.start ExceedsMaxParseDepth rest) (form_of ws s.type_number) s n input
  value_claim (suc d) s n input =
      leaf_or (λ form. scope_by (part_by (value_at ws d) ws) ws form) (λ form r m rest. scope_claim (part_by (value_at ws d) ws) (node_claim (value_at ws d) (value_claim d)) form r m rest) (form_of ws s.type_number) s n input

-- ---- nodes in the caller's room
overlay_before : (room ns : List Node) (n i : ℕ) → i < n → node_at (overlay room n ns) i ≡ node_at room i
overlay_before room [] n i lt = refl
overlay_before room (x ∷ ns) n i lt = overlay_before (set room n x) ns (n + 1) i (omega arith) ∙ get_or-set_other room n i x blank (λ e. let u : i ≡ n = e in omega arith)

overlay_at : (room ns : List Node) (n j : ℕ) → n + j < length room → j < length ns → node_at (overlay room n ns) (n + j) ≡ node_at ns j
overlay_at room [] n j lt le = absurd (omega arith)
overlay_at room (x ∷ ns) n zero lt le =
    let e : n + 0 ≡ n = omega arith in
    ap (node_at (overlay (set room n x) (n + 1) ns)) e ∙ overlay_before (set room n x) ns (n + 1) n (omega arith) ∙ get_or-set_same room n x blank (omega arith)
overlay_at room (x ∷ ns) n (suc j) lt le =
    let e : n + suc j ≡ (n + 1) + j = omega arith in
    ap (node_at (overlay (set room n x) (n + 1) ns)) e ∙ overlay_at (set room n x) ns (n + 1) j (omega (arith, length-set room n x)) (omega arith)

pub shown_at : (room ns : List Node) (i : ℕ) → i < length room → i < length ns → node_at (overlay room 0 ns) i ≡ node_at ns i
shown_at room ns i lt le = let e : i ≡ 0 + i = omega arith in ap (node_at (overlay room 0 ns)) e ∙ overlay_at room ns 0 i (omega arith) le

room_placed : (most : ℕ) (room ns : List Node) (k : ℕ) → k ≤ length room → k ≤ length ns → Good ns most 0 (0 + length ns) → ArePlaced most k (overlay room 0 ns)
room_placed most room ns k a b g i lt = at (g i (omega arith) (omega arith))
  where
    same : node_at (overlay room 0 ns) i ≡ node_at ns i
    same = shown_at room ns i (omega arith) (omega arith)

    Fits : Node → Type 0
    Fits x = IsUnfinished x ⊎ HasPlace most (overlay room 0 ns) i x

    at : IsUnfinished (node_at ns i) ⊎ HasPlace most ns i (node_at ns i) → IsUnfinished (node_at (overlay room 0 ns) i) ⊎ HasPlace most (overlay room 0 ns) i (node_at (overlay room 0 ns) i)
    at (inl u) = inl (ap (λ (z : Node). z.end) same ∙ u)
    at (inr p) = subst Fits (sym same) (inr (record {
      begins = p.begins;
      ends = p.ends;
      within = p.within;
      inside = λ m. subst (λ (z : Node). IsInside z (node_at ns i)) (sym (shown_at room ns (node_at ns i).around (omega arith) (omega arith))) (p.inside m);
      behind = λ m. subst (λ (z : Node). z.start ≤ (node_at ns i).start) (sym (shown_at room ns (i - 1) (omega arith) (omega arith))) (p.behind m);
    }))

walk_base : (ws : List ℕ) (levels : ℕ) (p : Place) (input : Octets) → p.end ≡ length input → AreOctets input → Base (part_at ws levels p 0 input).nodes p.end p.end 0 input (part_at ws levels p 0 input).nodes
walk_base ws levels p input e a = record { octets = a; fits = omega (arith, e); stand = stand_all ns p.end 0 ns (λ j lt. let i : 0 + j ≡ j = omega arith in ap (node_at ns) i); before = λ lt. absurd (omega arith) }
  where
    ns : List Node
    ns = (part_at ws levels p 0 input).nodes

pub walk_placed : (ws : List ℕ) (levels : ℕ) (p : Place) (input : Octets) (room : List Node) (k : ℕ) → p.end ≡ length input → AreOctets input → k ≤ length room → k ≤ length (part_at ws levels p 0 input).nodes → ArePlaced p.end k (overlay room 0 (part_at ws levels p 0 input).nodes)
walk_placed ws levels p input room k e a l m = room_placed p.end room ns k l m good
  where
    ns : List Node
    ns = (part_at ws levels p 0 input).nodes

    good : Good ns p.end 0 (0 + length ns)
    good = (node_claim ns p.end ws (value_at ws levels) (value_claim ns p.end ws levels) p 0 input).good (walk_base ws levels p input e a) (omega arith) (λ lt. absurd (omega arith))

-- what a walk leaves is the rear of its octets
pub walk_rear : (ws : List ℕ) (levels : ℕ) (p : Place) (input rest : Octets) → p.end ≡ length input → AreOctets input → (part_at ws levels p 0 input).answer ≡ Ok rest → IsRear input rest
walk_rear ws levels p input rest e a is = (subst (Left ns p.end p.end (0 + length ns) input) is ((node_claim ns p.end ws (value_at ws levels) (value_claim ns p.end ws levels) p 0 input).left (walk_base ws levels p input e a))).0
  where
    ns : List Node
    ns = (part_at ws levels p 0 input).nodes

-- the walk of the whole value, where the place of the value is put together from these
pub walk_is : (ws us : List ℕ) (type_number levels most : ℕ) (input : Octets) → ws ≡ us → most ≡ most_of (length input) → part_at ws levels (record (outermost type_number (length input)) { most = most }) 0 input ≡ walk_of us type_number levels input
unfolding walk_of
walk_is ws us type_number levels most input e f = ap₂ (λ (z : List ℕ) (m : ℕ). part_at z levels (record (outermost type_number (length input)) { most = m }) 0 input) e f

-- what it answers where it isn't refused
pub answered_ok : (ws us : List ℕ) (type_number levels most : ℕ) (input rest : Octets) (w : Walked) → ws ≡ us → most ≡ most_of (length input) → AreOctets input → (part_at ws levels (record (outermost type_number (length input)) { most = most }) 0 input).answer ≡ Ok rest
    → w.nodes ≡ 0 + length (part_at ws levels (record (outermost type_number (length input)) { most = most }) 0 input).nodes → w.consumed ≡ length input - length rest → w.refusal ≡ None → IsAnswer (length input) (walk_of us type_number levels input) w
answered_ok ws us type_number levels most input rest w e f a is count taken none =
    let left : length rest ≤ length input = rear_length input rest (walk_rear ws levels (record (outermost type_number (length input)) { most = most }) input rest refl a is) in
    subst (λ (z : Walk Octets). IsAnswer (length input) z w) (walk_is ws us type_number levels most input e f) (record {
      count = omega (arith, count);
      answer = subst (λ (z : Result Octets Stop). Came (length input) z w) (sym is) (omega (arith, taken, left), none);
    })
