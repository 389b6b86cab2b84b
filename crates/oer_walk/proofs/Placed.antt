-- The parts that a walk shows lie within the octets, each inside the one around it and behind the one before it.
use Rattle.std.proofs.Common.{◌≡◌, ℕ, suc, ◌+◌, ◌-◌, ◌<◌, ◌≤◌, ◌⊎◌, List, [], ◌∷◌, ◌++◌, length, Result, Ok, Err, inl, inr, refl, sym, ap, subst, ◌∙◌, arith, length-append}
use Rattle.std.proofs.lemmas.Bool.{cases_lt}
use Rattle.asn1_core.specs.Octets.{Octets, AreOctets}
use Rattle.asn1_core.specs.declared.error.DecodeErrorKind.{DecodeErrorKind}
use Rattle.oer_spec.proofs.Steps.{front_octets}
use Rattle.oer_walk.specs.Parts.{IsUnfinished, HasPlace, node_at}
use Rattle.oer_walk.specs.Walks.{Walk, done, stopped, reads, goes_on, behind, scope_of, Extent, node_of, left_of, noded, ends_before, ending, content_at, from}
use Rattle.oer_walk.specs.declared.nodes.Node.{Node}
use Rattle.oer_walk.specs.declared.places.Place.{Place}
use Rattle.oer_walk.specs.declared.places.Scope.{Scope}
use Rattle.oer_walk.specs.declared.places.Stop.{Stop}
use Rattle.oer_walk.proofs.Suffixes.{IsRear, rear_length, rear_are, rear_of_rear, rear_same}

-- All nodes are xs, of which a walk's own begin at a place; the octets are so many.
module _ (xs : List Node) (most : ℕ) where
  abbrev pub Stand : ℕ → List Node → Type 0
  Stand n [] = Unit {0}
  Stand n (x ∷ ns) = (node_at xs n ≡ x) × Stand (n + 1) ns

  stand_front : (n : ℕ) (fs bs : List Node) → Stand n (fs ++ bs) → Stand n fs
  stand_front n [] bs h = tt
  stand_front n (x ∷ fs) bs h = (h.0, stand_front (n + 1) fs bs h.1)

  stand_rear : (n m : ℕ) (fs bs : List Node) → n + length fs ≡ m → Stand n (fs ++ bs) → Stand m bs
  stand_rear n m [] bs e h = let same : n ≡ m = omega (arith, e) in subst (λ (k : ℕ). Stand k bs) same h
  stand_rear n m (x ∷ fs) bs e h = stand_rear (n + 1) m fs bs (omega (arith, e)) h.1

  pub stand_all : (n : ℕ) (ns : List Node) → ((j : ℕ) → j < length ns → node_at xs (n + j) ≡ node_at ns j) → Stand n ns
  stand_all n [] h = tt
  stand_all n (x ∷ ns) h = (
    let e : n ≡ n + 0 = omega arith in ap (node_at xs) e ∙ h 0 (omega arith),
    stand_all (n + 1) ns (λ j lt. let e : (n + 1) + j ≡ n + suc j = omega arith in ap (node_at xs) e ∙ h (suc j) (omega (arith, lt))),
  )

  -- from one place on, before another
  abbrev pub Good : ℕ → ℕ → Type 0
  Good n m = (i : ℕ) → n ≤ i → i < m → IsUnfinished (node_at xs i) ⊎ HasPlace most xs i (node_at xs i)

  good_none : (n m : ℕ) → m ≤ n → Good n m
  good_none n m e i a b = absurd (omega arith)

  good_one : (n : ℕ) → IsUnfinished (node_at xs n) ⊎ HasPlace most xs n (node_at xs n) → Good n (n + 1)
  good_one n h i a b = let e : n ≡ i = omega arith in subst (λ (k : ℕ). IsUnfinished (node_at xs k) ⊎ HasPlace most xs k (node_at xs k)) e h

  good_join : (n m k : ℕ) → Good n m → Good m k → Good n k
  good_join n m k g h i a b = at (cases_lt i m)
    where
      at : (i < m) ⊎ (m ≤ i) → IsUnfinished (node_at xs i) ⊎ HasPlace most xs i (node_at xs i)
      at (inl l) = g i a l
      at (inr l) = h i l b

  -- the node before a place doesn't begin behind there
  abbrev pub Before : ℕ → ℕ → Type 0
  Before n at = 0 < n → (node_at xs (n - 1)).start ≤ at

  before_later : (n m at at' : ℕ) → n ≡ m → at ≤ at' → Before n at → Before m at'
  before_later n m at at' e le h = subst (λ (k : ℕ). Before k at') e (λ l. let b = h l in omega (arith, b))

  -- what a walk of octets up to that place needs, and what it leaves
  pub record Base (end n : ℕ) (input : Octets) (ns : List Node) : Type 0 where
    pub octets : AreOctets input
    pub fits : length input ≤ end
    pub stand : Stand n ns
    pub before : Before n (end - length input)

  abbrev pub Left : ℕ → ℕ → Octets → Result Octets Stop → Type 0
  Left end m input (Ok rest) = IsRear input rest × Before m (end - length rest)
  Left end m input (Err s) = Unit {0}

  -- the part around those of a walk ends behind them, or isn't finished
  abbrev pub Ends : ℕ → Node → Result Octets Stop → Type 0
  Ends end x (Ok rest) = IsUnfinished x ⊎ (end - length rest ≤ x.end)
  Ends end x (Err s) = IsUnfinished x

  pub record IsAround (end at : ℕ) (x : Node) (r : Result Octets Stop) : Type 0 where
    pub begins : x.content ≤ at
    pub ends : Ends end x r

  pub record Claim (end n a : ℕ) (input : Octets) (w : Walk Octets) : Type 0 where
    pub left : Base end n input w.nodes → Left end (n + length w.nodes) input w.answer
    pub good : Base end n input w.nodes → end ≤ most → IsAround end (end - length input) (node_at xs a) w.answer → Good n (n + length w.nodes)

  pub claim_done : (end n a : ℕ) (input : Octets) → Claim end n a input (done input)
  claim_done end n a input = record {
    left = λ b. (rear_same input, let e : n ≡ n + 0 = omega arith in before_later n (n + 0) (end - length input) (end - length input) e (omega arith) b.before);
    good = λ b w p. good_none n (n + 0) (omega arith);
  }

  pub claim_stopped : (end n a at : ℕ) (kind : DecodeErrorKind) (input : Octets) → Claim end n a input (stopped at kind)
  claim_stopped end n a at kind input = record { left = λ b. tt; good = λ b w p. good_none n (n + 0) (omega arith) }

  left_then : (end m m' : ℕ) (input mid : Octets) (r : Result Octets Stop) → m ≡ m' → IsRear input mid → Left end m mid r → Left end m' input r
  left_then end m m' input mid (Ok rest) e h l = (rear_of_rear input mid rest h l.0, before_later m m' (end - length rest) (end - length rest) e (omega arith) l.1)
  left_then end m m' input mid (Err s) e h l = tt

  ends_first : (end m : ℕ) (mid : Octets) (x : Node) (r : Result Octets Stop) → Left end m mid r → Ends end x r → Ends end x (Ok mid)
  ends_first end m mid x (Ok rest) l (inl u) = inl u
  ends_first end m mid x (Ok rest) l (inr e) = inr (let s = rear_length mid rest l.0 in omega arith)
  ends_first end m mid x (Err s) l u = inl u

  claim_on : (end n a : ℕ) (input : Octets) (ns : List Node) (r : Result Octets Stop) (f : ℕ → Octets → Walk Octets) → Claim end n a input (record { nodes = ns; answer = r }) → ((m : ℕ) (rest : Octets) → Claim end m a rest (f m rest)) → Claim end n a input (goes_on ns r n f)
  claim_on end n a input ns (Err s) f h k = h
  claim_on end n a input ns (Ok mid) f h k = record { left = left; good = good }
    where
      m : ℕ
      m = n + length ns

      v : Walk Octets
      v = f m mid

      total : m + length v.nodes ≡ n + length (ns ++ v.nodes)
      total = omega (arith, length-append ns v.nodes)

      first : Base end n input (ns ++ v.nodes) → Base end n input ns
      first b = record { octets = b.octets; fits = b.fits; stand = stand_front n ns v.nodes b.stand; before = b.before }

      second : Base end n input (ns ++ v.nodes) → Base end m mid v.nodes
      second b =
          let l = h.left (first b) in
          let s = rear_length input mid l.0 in
          record { octets = rear_are input mid b.octets l.0; fits = let f = b.fits in omega arith; stand = stand_rear n m ns v.nodes refl b.stand; before = l.1 }

      left : Base end n input (ns ++ v.nodes) → Left end (n + length (ns ++ v.nodes)) input v.answer
      left b = left_then end (m + length v.nodes) (n + length (ns ++ v.nodes)) input mid v.answer total (h.left (first b)).0 ((k m mid).left (second b))

      good : Base end n input (ns ++ v.nodes) → end ≤ most → IsAround end (end - length input) (node_at xs a) v.answer → Good n (n + length (ns ++ v.nodes))
      good b w p =
          let l = (k m mid).left (second b) in
          let s = rear_length input mid (h.left (first b)).0 in
          subst (λ (z : ℕ). Good n z) total (good_join n m (m + length v.nodes)
          (h.good (first b) w (record { begins = p.begins; ends = ends_first end (m + length v.nodes) mid (node_at xs a) v.answer l p.ends }))
          ((k m mid).good (second b) w (record { begins = let q = p.begins in omega arith; ends = p.ends })))

  pub claim_behind : (end n a : ℕ) (input : Octets) (w : Walk Octets) (f : ℕ → Octets → Walk Octets) → Claim end n a input w → ((m : ℕ) (rest : Octets) → Claim end m a rest (f m rest)) → Claim end n a input (behind n w f)
  claim_behind end n a input w f h k = claim_on end n a input w.nodes w.answer f h k

  -- what is read in front of parts
  claim_rear : (end n a : ℕ) (input mid : Octets) (w : Walk Octets) → (AreOctets input → IsRear input mid) → Claim end n a mid w → Claim end n a input w
  claim_rear end n a input mid w rear c = record { left = left; good = good }
    where
      base : Base end n input w.nodes → Base end n mid w.nodes
      base b =
          let r = rear b.octets in
          let i = rear_length input mid r in
          record { octets = rear_are input mid b.octets r; fits = let f = b.fits in omega arith; stand = b.stand; before = before_later n n (end - length input) (end - length mid) refl (omega arith) b.before }

      left : Base end n input w.nodes → Left end (n + length w.nodes) input w.answer
      left b = left_then end (n + length w.nodes) (n + length w.nodes) input mid w.answer refl (rear b.octets) (c.left (base b))

      good : Base end n input w.nodes → end ≤ most → IsAround end (end - length input) (node_at xs a) w.answer → Good n (n + length w.nodes)
      good b l p = let i = rear_length input mid (rear b.octets) in let q = p.begins in c.good (base b) l (record { begins = omega arith; ends = p.ends })

  pub claim_read : {A : Type 0} (end n a at : ℕ) (input : Octets) (read : Result A DecodeErrorKind) (mid : A → Octets) (body : A → Walk Octets) → ((x : A) → read ≡ Ok x → AreOctets input → IsRear input (mid x)) → ((x : A) → Claim end n a (mid x) (body x)) → Claim end n a input (reads at read body)
  claim_read end n a at input (Ok x) mid body rear c = claim_rear end n a input (mid x) (body x) (rear x refl) (c x)
  claim_read end n a at input (Err kind) mid body rear c = claim_stopped end n a at kind input

  -- ---- values
  pub record ValueBase (s : Scope) (n : ℕ) (input : Octets) (ns : List Node) : Type 0 where
    pub octets : AreOctets input
    pub fits : length input ≤ s.end
    pub stand : Stand n ns
    pub before : Before n (s.end - length input)
    pub begins : s.start ≤ s.end - length input

  abbrev pub ValueLeft : Scope → ℕ → Octets → Result (ℕ × Octets) Stop → Type 0
  ValueLeft s m input (Ok x) = IsRear input x.1 × Before m (s.end - length x.1) × (s.end - length input ≤ x.0) × (x.0 ≤ s.end - length x.1)
  ValueLeft s m input (Err e) = Unit {0}

  -- a value's own node
  abbrev pub IsOwn : Scope → Node → Result (ℕ × Octets) Stop → Type 0
  IsOwn s x (Ok y) = (x.content ≤ y.0) × (IsUnfinished x ⊎ (s.end - length y.1 ≤ x.end))
  IsOwn s x (Err e) = (x.content ≤ s.start) × IsUnfinished x

  pub record ValueClaim (s : Scope) (n : ℕ) (input : Octets) (w : Walk (ℕ × Octets)) : Type 0 where
    pub left : ValueBase s n input w.nodes → ValueLeft s (n + length w.nodes) input w.answer
    pub good : ValueBase s n input w.nodes → s.end ≤ most → IsOwn s (node_at xs s.node) w.answer → Good n (n + length w.nodes)

  pub value_stopped : (s : Scope) (n at : ℕ) (kind : DecodeErrorKind) (input : Octets) → ValueClaim s n input (stopped at kind)
  value_stopped s n at kind input = record { left = λ b. tt; good = λ b w p. good_none n (n + 0) (omega arith) }

  pub value_read : {A : Type 0} (s : Scope) (n : ℕ) (input : Octets) (read : Result A DecodeErrorKind) (body : A → Walk (ℕ × Octets)) → ((x : A) → read ≡ Ok x → ValueClaim s n input (body x)) → ValueClaim s n input (reads s.start read body)
  value_read s n input (Ok x) body c = c x refl
  value_read s n input (Err kind) body c = value_stopped s n s.start kind input

  pub value_done : (s : Scope) (n : ℕ) (input content rest : Octets) → (AreOctets input → IsRear input content × IsRear content rest) → ValueClaim s n input (done (s.end - length content, rest))
  value_done s n input content rest h = record {
    left = λ b.
        let p = h b.octets in
        let i = rear_length input content p.0 in
        let j = rear_length content rest p.1 in
        let e : n ≡ n + 0 = omega arith in
        (rear_of_rear input content rest p.0 p.1, before_later n (n + 0) (s.end - length input) (s.end - length rest) e (omega arith) b.before, omega arith, omega arith);
    good = λ b w p. good_none n (n + 0) (omega arith);
  }

  from_left : (s : Scope) (m : ℕ) (input mid : Octets) (r : Result Octets Stop) → IsRear input mid → Left s.end m mid r → ValueLeft s m input (content_at (s.end - length mid) r)
  from_left s m input mid (Ok rest) h l = let i = rear_length input mid h in let j = rear_length mid rest l.0 in (rear_of_rear input mid rest h l.0, l.1, omega arith, omega arith)
  from_left s m input mid (Err e) h l = tt

  from_around : (s : Scope) (at : ℕ) (x : Node) (r : Result Octets Stop) → s.start ≤ at → IsOwn s x (content_at at r) → IsAround s.end at x r
  from_around s at x (Ok rest) le h = record { begins = h.0; ends = h.1 }
  from_around s at x (Err e) le h = record { begins = let i = h.0 in omega arith; ends = h.1 }

  from_ok : (s : Scope) (n : ℕ) (input mid : Octets) (w : Walk Octets) → (AreOctets input → IsRear input mid) → Claim s.end n s.node mid w → ValueClaim s n input (from (s.end - length mid) w)
  from_ok s n input mid w rear c = record { left = left; good = good }
    where
      base : ValueBase s n input w.nodes → Base s.end n mid w.nodes
      base b =
          let r = rear b.octets in
          let i = rear_length input mid r in
          record { octets = rear_are input mid b.octets r; fits = let f = b.fits in omega arith; stand = b.stand; before = before_later n n (s.end - length input) (s.end - length mid) refl (omega arith) b.before }

      left : ValueBase s n input w.nodes → ValueLeft s (n + length w.nodes) input (content_at (s.end - length mid) w.answer)
      left b = from_left s (n + length w.nodes) input mid w.answer (rear b.octets) (c.left (base b))

      good : ValueBase s n input w.nodes → s.end ≤ most → IsOwn s (node_at xs s.node) (content_at (s.end - length mid) w.answer) → Good n (n + length w.nodes)
      good b l p =
          let i = rear_length input mid (rear b.octets) in
          let j = b.begins in
          c.good (base b) l (from_around s (s.end - length mid) (node_at xs s.node) w.answer (omega arith) p)

  -- what stands in front of parts, and those
  pub from_claim : {A : Type 0} (s : Scope) (n : ℕ) (input : Octets) (read : Result A DecodeErrorKind) (mid : A → Octets) (body : A → Walk Octets) → ((x : A) → read ≡ Ok x → AreOctets input → IsRear input (mid x)) → ((x : A) → Claim s.end n s.node (mid x) (body x)) → ValueClaim s n input (reads s.start read (λ x. from (s.end - length (mid x)) (body x)))
  from_claim s n input (Ok x) mid body rear c = from_ok s n input (mid x) (body x) (rear x refl) (c x)
  from_claim s n input (Err kind) mid body rear c = value_stopped s n s.start kind input

  -- ---- what is in a part
  abbrev pub ExtentLeft : Scope → ℕ → Octets → Result Extent Stop → Type 0
  ExtentLeft s m input (Ok x) = IsRear input x.2 × Before m (s.end - length x.2) × (s.end - length input ≤ x.0) × (x.0 ≤ x.1) × (x.1 ≤ s.end - length x.2)
  ExtentLeft s m input (Err e) = Unit {0}

  -- the part's own node
  abbrev pub IsOwnExtent : Scope → Node → Result Extent Stop → Type 0
  IsOwnExtent s x (Ok y) = (x.content ≤ y.0) × (IsUnfinished x ⊎ (y.1 ≤ x.end))
  IsOwnExtent s x (Err e) = (x.content ≤ s.start) × IsUnfinished x

  pub record ExtentClaim (s : Scope) (n : ℕ) (input : Octets) (w : Walk Extent) : Type 0 where
    pub left : ValueBase s n input w.nodes → ExtentLeft s (n + length w.nodes) input w.answer
    pub good : ValueBase s n input w.nodes → s.end ≤ most → IsOwnExtent s (node_at xs s.node) w.answer → Good n (n + length w.nodes)

  pub extent_read : {A : Type 0} (s : Scope) (n : ℕ) (input : Octets) (read : Result A DecodeErrorKind) (body : A → Walk Extent) → ((x : A) → read ≡ Ok x → ExtentClaim s n input (body x)) → ExtentClaim s n input (reads s.start read body)
  extent_read s n input (Ok x) body c = c x refl
  extent_read s n input (Err kind) body c = record { left = λ b. tt; good = λ b w p. good_none n (n + 0) (omega arith) }

  closed_left : (s : Scope) (m : ℕ) (input : Octets) (r : Result (ℕ × Octets) Stop) → ValueLeft s m input r → ExtentLeft s m input (ends_before s.end (λ rest. rest) r)
  closed_left s m input (Ok x) l = (l.0, l.1, l.2, l.3, omega arith)
  closed_left s m input (Err e) l = tt

  closed_own : (s : Scope) (x : Node) (r : Result (ℕ × Octets) Stop) → IsOwnExtent s x (ends_before s.end (λ rest. rest) r) → IsOwn s x r
  closed_own s x (Ok y) h = h
  closed_own s x (Err e) h = h

  pub extent_closed : (s : Scope) (n : ℕ) (input : Octets) (w : Walk (ℕ × Octets)) → ValueClaim s n input w → ExtentClaim s n input (ending s.end (λ rest. rest) w)
  extent_closed s n input w c = record { left = λ b. closed_left s (n + length w.nodes) input w.answer (c.left b); good = λ b l p. c.good b l (closed_own s (node_at xs s.node) w.answer p) }

  -- an open type's content, in octets of which some may be left
  opened_left : (s : Scope) (m : ℕ) (input octets after : Octets) (r : Result (ℕ × Octets) Stop) → IsRear input after → length octets + length after ≤ length input → length input ≤ s.end → ValueLeft (record s { end = s.end - length after }) m octets r → ExtentLeft s m input (ends_before (s.end - length after) (λ left. after) r)
  opened_left s m input octets after (Ok x) h i f l =
      let b = l.2 in
      let d = l.3 in
      (h, before_later m m ((s.end - length after) - length x.1) (s.end - length after) refl (omega arith) l.1, omega arith, d, omega arith)
  opened_left s m input octets after (Err e) h i f l = tt

  opened_own : (s : Scope) (after : Octets) (x : Node) (r : Result (ℕ × Octets) Stop) → IsOwnExtent s x (ends_before (s.end - length after) (λ left. after) r) → IsOwn (record s { end = s.end - length after }) x r
  opened_own s after x (Ok y) h = h
  opened_own s after x (Err e) h = h

  pub extent_opened : (s : Scope) (n : ℕ) (input mid octets after : Octets) (w : Walk (ℕ × Octets)) → (AreOctets input → IsRear input mid × (mid ≡ octets ++ after)) → ValueClaim (record s { end = s.end - length after }) n octets w → ExtentClaim s n input (ending (s.end - length after) (λ left. after) w)
  extent_opened s n input mid octets after w split c = record { left = left; good = good }
    where
      short : AreOctets input → length octets + length after ≤ length input
      short a = let p = split a in let i = rear_length input mid p.0 in omega (arith, ap length p.1, length-append octets after)

      base : ValueBase s n input w.nodes → ValueBase (record s { end = s.end - length after }) n octets w.nodes
      base b =
          let p = split b.octets in
          let i = short b.octets in
          let f = b.fits in
          let g = b.begins in
          record {
            octets = front_octets octets after (subst AreOctets p.1 (rear_are input mid b.octets p.0));
            fits = omega arith;
            stand = b.stand;
            before = before_later n n (s.end - length input) ((s.end - length after) - length octets) refl (omega arith) b.before;
            begins = omega arith;
          }

      left : ValueBase s n input w.nodes → ExtentLeft s (n + length w.nodes) input (ends_before (s.end - length after) (λ left. after) w.answer)
      left b =
          let p = split b.octets in
          let r : IsRear mid after = (octets, p.1) in
          opened_left s (n + length w.nodes) input octets after w.answer (rear_of_rear input mid after p.0 r) (short b.octets) b.fits (c.left (base b))

      good : ValueBase s n input w.nodes → s.end ≤ most → IsOwnExtent s (node_at xs s.node) (ends_before (s.end - length after) (λ left. after) w.answer) → Good n (n + length w.nodes)
      good b l p = c.good (base b) (omega arith) (opened_own s after (node_at xs s.node) w.answer p)

  -- ---- parts
  module _ (ws : List ℕ) where
    own_node : (p : Place) (n : ℕ) (input : Octets) (r : Result Extent Stop) → IsOwnExtent (scope_of p n (p.end - length input)) (node_of ws p (p.end - length input) r) r
    own_node p n input (Ok x) = (omega arith, inr (omega arith))
    own_node p n input (Err s) = (omega arith, refl)

    starts : (p : Place) (start : ℕ) (r : Result Extent Stop) → (node_of ws p start r).start ≡ start
    starts p start (Ok x) = refl
    starts p start (Err s) = refl

    part_left : (p : Place) (n m : ℕ) (input : Octets) (r : Result Extent Stop) → ExtentLeft (scope_of p n (p.end - length input)) m input r → Left p.end m input (left_of r)
    part_left p n m input (Ok x) l = (l.0, l.1)
    part_left p n m input (Err s) l = tt

    ends_inside : (at end : ℕ) (x : Node) → end ≤ at → IsUnfinished x ⊎ (at ≤ x.end) → IsUnfinished x ⊎ (end ≤ x.end)
    ends_inside at end x le (inl u) = inl u
    ends_inside at end x le (inr h) = inr (omega arith)

    part_placed : (p : Place) (n m : ℕ) (input : Octets) (r : Result Extent Stop) → node_at xs n ≡ node_of ws p (p.end - length input) r → ExtentLeft (scope_of p n (p.end - length input)) m input r → Before n (p.end - length input) → p.end ≤ most → (p.around < n → IsAround p.end (p.end - length input) (node_at xs p.around) (left_of r)) → IsUnfinished (node_at xs n) ⊎ HasPlace most xs n (node_at xs n)
    part_placed p n m input (Ok x) e l b w a =
        let c = l.2 in
        let d = l.3 in
        let f = l.4 in
        subst (λ (z : Node). IsUnfinished z ⊎ HasPlace most xs n z) (sym e) (inr (record { begins = c; ends = d; within = omega arith; inside = λ lt. let q = a lt in (q.begins, ends_inside (p.end - length x.2) x.1 (node_at xs p.around) f q.ends); behind = b }))
    part_placed p n m input (Err s) e l b w a = inl (ap (λ (z : Node). z.end) e)

    -- a part with its node, whatever is around the outermost
    pub record PartClaim (p : Place) (n : ℕ) (input : Octets) (w : Walk Octets) : Type 0 where
      pub left : Base p.end n input w.nodes → Left p.end (n + length w.nodes) input w.answer
      pub good : Base p.end n input w.nodes → p.end ≤ most → (p.around < n → IsAround p.end (p.end - length input) (node_at xs p.around) w.answer) → Good n (n + length w.nodes)

    pub part_claim : (p : Place) (n : ℕ) (input : Octets) (w : Walk Extent) → ExtentClaim (scope_of p n (p.end - length input)) (n + 1) input w → PartClaim p n input (noded ws p (p.end - length input) w)
    part_claim p n input w c = record { left = left; good = good }
      where
        start : ℕ
        start = p.end - length input

        s : Scope
        s = scope_of p n start

        own : Node
        own = node_of ws p start w.answer

        total : (n + 1) + length w.nodes ≡ n + length (own ∷ w.nodes)
        total = omega arith

        base : Base p.end n input (own ∷ w.nodes) → ValueBase s (n + 1) input w.nodes
        base b = record {
          octets = b.octets;
          fits = b.fits;
          stand = b.stand.1;
          before = λ l. let e : n + 1 - 1 ≡ n = omega arith in let i : (node_at xs (n + 1 - 1)).start ≡ start = ap (λ (k : ℕ). (node_at xs k).start) e ∙ ap (λ (z : Node). z.start) b.stand.0 ∙ starts p start w.answer in omega (arith, i);
          begins = omega arith;
        }

        left : Base p.end n input (own ∷ w.nodes) → Left p.end (n + length (own ∷ w.nodes)) input (left_of w.answer)
        left b = subst (λ (k : ℕ). Left p.end k input (left_of w.answer)) total (part_left p n ((n + 1) + length w.nodes) input w.answer (c.left (base b)))

        good : Base p.end n input (own ∷ w.nodes) → p.end ≤ most → (p.around < n → IsAround p.end (p.end - length input) (node_at xs p.around) (left_of w.answer)) → Good n (n + length (own ∷ w.nodes))
        good b l a =
            subst (λ (k : ℕ). Good n k) total (good_join n (n + 1) ((n + 1) + length w.nodes)
            (good_one n (part_placed p n ((n + 1) + length w.nodes) input w.answer b.stand.0 (c.left (base b)) b.before l a))
            (c.good (base b) l (subst (λ (z : Node). IsOwnExtent s z w.answer) (sym b.stand.0) (own_node p n input w.answer))))

    pub part_stopped : (p : Place) (n at : ℕ) (kind : DecodeErrorKind) (input : Octets) → PartClaim p n input (stopped at kind)
    part_stopped p n at kind input = record { left = λ b. tt; good = λ b w a. good_none n (n + 0) (omega arith) }

    pub claim_of_part : (p : Place) (n : ℕ) (input : Octets) (w : Walk Octets) → PartClaim p n input w → Claim p.end n p.around input w
    claim_of_part p n input w c = record { left = c.left; good = λ b l a. c.good b l (λ lt. a) }
