-- A walk takes the encodings of the trees that its table describes, and each of its parts is one.
use Rattle.std.proofs.Common.{◌≡◌, ℕ, ◌+◌, ◌-◌, ◌≤◌, Bool, true, false, cond, List, [], ◌∷◌, ◌++◌, length, take, drop, Result, Ok, Err, refl, sym, ap, ap₂, subst, ◌∙◌, inl, inr, ◌⊎◌, append_assoc, length-append, arith}
use Rattle.std.specs.Prelude.{⊤, nat_lt, slice_range}
use Rattle.std.proofs.Math.Seq.{drop-append_seam, take-append_seam}
use Rattle.std.proofs.lemmas.Bool.{ltb-false}
use Rattle.asn1_core.specs.Octets.{Octets}
use Rattle.asn1_core.specs.declared.codec.Codec.TheVariants.{Oer}
use Rattle.asn1_core.specs.declared.error.DecodeErrorKind.{DecodeErrorKind}
use Rattle.asn1_core.specs.declared.error.DecodeErrorKind.TheVariants.{TooManyEmptyElements}
use Rattle.oer_leaf_read.proofs.ReadLengths.{content_reads}
use Rattle.oer_spec.specs.Lengths.{IsBehindLength}
use Rattle.oer_spec.specs.Mode.{Lenient}
use Rattle.oer_spec.specs.Places.{AreSkipped}
use Rattle.oer_walk.specs.Shown.{LiesAt}
use Rattle.oer_walk.specs.Tables.{nothing, form_of}
use Rattle.oer_walk.specs.Walks.{Walk, done, stopped, reads, onto, behind, Extent, node_of, noded, left_of, ends_before, ending, from, content_at, is_nothing, open_content, open_by, within_by, part_by, scope_of, inside, unknown_by, behind_length_at, value_at, part_at}
use Rattle.oer_walk.specs.declared.nodes.Node.{Node}
use Rattle.oer_walk.specs.declared.places.Place.{Place}
use Rattle.oer_walk.specs.declared.places.Scope.{Scope}
use Rattle.oer_walk.specs.declared.places.Stop.{Stop}
use Rattle.oer_walk.specs.declared.table.Form.TheVariants.{Nothing}
use Rattle.oer_walk.proofs.Leaves.{behind_length_is}
use Rattle.oer_walk.proofs.Steps.{behind_ok, behind_err}

-- A walk that began at n nodes is refused for too many parts: it comes to the most that there may be.
abbrev pub IsFull : {A : Type 0} → ℕ → ℕ → Walk A → Type 0
IsFull {A} most n w = (at : ℕ) × (w.answer ≡ Err (record { place = at; kind = TooManyEmptyElements })) × (most ≤ n + length w.nodes)

-- ---- where octets lie in all that are walked
module _ (all : Octets) where
  -- up to that place
  abbrev pub IsAt : ℕ → Octets → Type 0
  IsAt end input = (front rear : Octets) × (all ≡ front ++ (input ++ rear)) × (end ≡ length front + length input)

  pub at_later : (end : ℕ) (o mid : Octets) → IsAt end (o ++ mid) → IsAt end mid
  at_later end o mid (front, rear, e, l) = (
    front ++ o,
    rear,
    e ∙ ap (λ (z : Octets). front ++ z) (append_assoc o mid rear) ∙ sym (append_assoc front o (mid ++ rear)),
    omega (arith, l, length-append o mid, length-append front o),
  )

  -- what is behind a length
  pub at_content : (end : ℕ) (g rest l content : Octets) → g ≡ l ++ content → IsAt end (g ++ rest) → IsAt (end - length rest) content
  at_content end g rest l content split (front, rear, e, is) = (
    front ++ l,
    rest ++ rear,
    e ∙ ap (λ (z : Octets). front ++ z) (append_assoc g rest rear ∙ ap (λ (z : Octets). z ++ (rest ++ rear)) split ∙ append_assoc l content (rest ++ rear)) ∙ sym (append_assoc front l (content ++ (rest ++ rear))),
    omega (arith, is, ap length split, length-append g rest, length-append l content, length-append front l),
  )

  pub range_is : (end : ℕ) (o rest : Octets) → IsAt end (o ++ rest) → slice_range all (end - length (o ++ rest)) (end - length rest) ≡ o
  range_is end o rest (front, rear, e, l) =
      let a : end - length (o ++ rest) ≡ length front = omega (arith, l) in
      let b : (end - length rest) - (end - length (o ++ rest)) ≡ length o = omega (arith, l, length-append o rest) in
      ap₂ (λ (i j : ℕ). take i (drop j all)) b a
      ∙ ap (λ (z : Octets). take (length o) (drop (length front) z)) (e ∙ ap (λ (z : Octets). front ++ z) (append_assoc o rest rear))
      ∙ ap (take (length o)) (drop-append_seam front (o ++ (rest ++ rear)))
      ∙ take-append_seam o (rest ++ rear)

-- what is claimed of nodes holds of none, and of those of one part behind those of another
pub record Joins (Q : List Node → Type 0) : Type 0 where
  pub none : Q []
  pub both : (xs ys : List Node) → Q xs → Q ys → Q (xs ++ ys)

module _ (Q : List Node → Type 0) where
  abbrev pub TakesPart : ℕ → ℕ → Walk Octets → Octets → Type 0
  TakesPart most n w rest = ((w.answer ≡ Ok rest) × Q w.nodes) ⊎ IsFull most n w

  -- C is claimed of where its content begins
  abbrev pub TakesValue : (ℕ → Type 0) → ℕ → ℕ → Walk (ℕ × Octets) → Octets → Type 0
  TakesValue C most n w rest = ((c : ℕ) × (w.answer ≡ Ok (c, rest)) × Q w.nodes × C c) ⊎ IsFull most n w

  -- and of what is in a part, which ends there
  abbrev pub TakesExtent : (ℕ → Type 0) → ℕ → ℕ → ℕ → Walk Extent → Octets → Type 0
  TakesExtent C end most n w rest = ((c : ℕ) × (w.answer ≡ Ok (c, end, rest)) × Q w.nodes × C c) ⊎ IsFull most n w

  -- ---- steps
  takes_onto : Joins Q → (most n m : ℕ) (ns : List Node) (w : Walk Octets) (rest : Octets) → Q ns → m ≡ n + length ns → TakesPart most m w rest → TakesPart most n (onto ns w) rest
  takes_onto joins most n m ns w rest front c (inl (e, h)) = inl (e, joins.both ns w.nodes front h)
  takes_onto joins most n m ns w rest front c (inr (at, e, many)) = inr (at, e, omega (arith, c, many, length-append ns w.nodes))

  pub takes_behind : Joins Q → (most n : ℕ) (w : Walk Octets) (f : ℕ → Octets → Walk Octets) (mid rest : Octets) → TakesPart most n w mid → ((m : ℕ) → TakesPart most m (f m mid) rest) → TakesPart most n (behind n w f) rest
  takes_behind joins most n w f mid rest (inl (e, front)) h =
      subst (λ (z : Walk Octets). TakesPart most n z rest) (sym (behind_ok w mid n (n + length w.nodes) f e refl))
      (takes_onto joins most n (n + length w.nodes) w.nodes (f (n + length w.nodes) mid) rest front refl (h (n + length w.nodes)))
  takes_behind joins most n w f mid rest (inr (at, e, many)) h =
      let cut = behind_err w (record { place = at; kind = TooManyEmptyElements }) n f e in
      inr (at, ap (λ (z : Walk Octets). z.answer) cut, subst (λ (z : Walk Octets). most ≤ n + length z.nodes) (sym cut) many)

  pub takes_read : {A : Type 0} (C : ℕ → Type 0) (most n at : ℕ) (read : Result A DecodeErrorKind) (x : A) (f : A → Walk (ℕ × Octets)) (rest : Octets) → read ≡ Ok x → TakesValue C most n (f x) rest → TakesValue C most n (reads at read f) rest
  takes_read {A} C most n at read x f rest e h = subst (λ (z : Result A DecodeErrorKind). TakesValue C most n (reads at z f) rest) (sym e) h

  takes_read_extent : {A : Type 0} (C : ℕ → Type 0) (end most n at : ℕ) (read : Result A DecodeErrorKind) (x : A) (f : A → Walk Extent) (rest : Octets) → read ≡ Ok x → TakesExtent C end most n (f x) rest → TakesExtent C end most n (reads at read f) rest
  takes_read_extent {A} C end most n at read x f rest e h = subst (λ (z : Result A DecodeErrorKind). TakesExtent C end most n (reads at z f) rest) (sym e) h

  pub takes_read_part : {A : Type 0} (most n at : ℕ) (read : Result A DecodeErrorKind) (x : A) (f : A → Walk Octets) (rest : Octets) → read ≡ Ok x → TakesPart most n (f x) rest → TakesPart most n (reads at read f) rest
  takes_read_part {A} most n at read x f rest e h = subst (λ (z : Result A DecodeErrorKind). TakesPart most n (reads at z f) rest) (sym e) h

  pub takes_from : (C : ℕ → Type 0) (most n at : ℕ) (w : Walk Octets) (rest : Octets) → C at → TakesPart most n w rest → TakesValue C most n (from at w) rest
  takes_from C most n at w rest k (inl (e, h)) = inl (at, ap (content_at at) e, h, k)
  takes_from C most n at w rest k (inr (i, e, many)) = inr (i, ap (content_at at) e, many)

  takes_ending : (C : ℕ → Type 0) (most n end : ℕ) (behind : Octets → Octets) (left : Octets) (w : Walk (ℕ × Octets)) → TakesValue C most n w left → TakesExtent C (end - length left) most n (ending end behind w) (behind left)
  takes_ending C most n end behind left w (inl (c, e, h, k)) = inl (c, ap (ends_before end behind) e, h, k)
  takes_ending C most n end behind left w (inr (i, e, many)) = inr (i, ap (ends_before end behind) e, many)

-- ---- parts: Q is claimed of a part's nodes, R of those inside it, C of where its content begins and ends
module _ (all : Octets) (Q R : List Node → Type 0) (C : ℕ → ℕ → Type 0) (ws : List ℕ) (k : ℕ) where
  abbrev pub Takes : ℕ → Octets → Octets → Type 0
  Takes type_number input rest = (s : Scope) (n : ℕ) → s.type_number ≡ type_number → IsAt all s.end input → TakesValue R (λ c. C c (s.end - length rest)) s.most n (value_at ws k s n input) rest

  takes_noded : (most n end : ℕ) (p : Place) (at : ℕ) (w : Walk Extent) (rest : Octets) → ((c : ℕ) (inner : List Node) → C c end → R inner → Q (node_of ws p at (Ok (c, end, rest)) ∷ inner)) → TakesExtent R (λ c. C c end) end most (n + 1) w rest → TakesPart Q most n (noded ws p at w) rest
  takes_noded most n end p at w rest own (inl (c, e, h, i)) = inl (ap left_of e, subst (λ (z : Result Extent Stop). Q (node_of ws p at z ∷ w.nodes)) (sym e) (own c w.nodes i h))
  takes_noded most n end p at w rest own (inr (i, e, many)) = inr (i, ap left_of e, omega (arith, many))

  within_part : (p : Place) (n end : ℕ) (input rest : Octets) → ((c : ℕ) (inner : List Node) → C c end → R inner → Q (node_of ws p (p.end - length input) (Ok (c, end, rest)) ∷ inner)) → TakesExtent R (λ c. C c end) end p.most (n + 1) (within_by (value_at ws k) ws p n input) rest → TakesPart Q p.most n (part_at ws k p n input) rest
  unfolding part_by
  within_part p n end input rest own h = go (nat_lt n p.most) refl
    where
      go : (b : Bool) → nat_lt n p.most ≡ b → TakesPart Q p.most n (cond b (noded ws p (p.end - length input) (within_by (value_at ws k) ws p n input)) (stopped (p.end - length input) TooManyEmptyElements)) rest
      go true e = takes_noded p.most n end p (p.end - length input) (within_by (value_at ws k) ws p n input) rest own h
      go false e = inr (p.end - length input, refl, omega (arith, ltb-false n p.most e))

  -- it is so of a part with that name and type, and with these octets
  abbrev pub Owns : ℕ → ℕ → Octets → Type 0
  Owns name type_number o = (x : Node) (inner : List Node) → x.name ≡ name → x.type_number ≡ type_number → LiesAt all x o → C x.content x.end → R inner → Q (x ∷ inner)

  pub takes_closed : (p : Place) (n : ℕ) (o rest : Octets) → p.is_open ≡ false → Owns p.name p.type_number o → IsAt all p.end (o ++ rest) → Takes p.type_number (o ++ rest) rest → TakesPart Q p.most n (part_at ws k p n (o ++ rest)) rest
  unfolding within_by
  takes_closed p n o rest closed own at h =
      let is : slice_range all (p.end - length (o ++ rest)) (p.end - length rest) ≡ o = range_is all p.end o rest at in
      let s = scope_of p n (p.end - length (o ++ rest)) in
      let end = p.end - length rest in
      within_part p n end (o ++ rest) rest (λ c inner i r. own (node_of ws p (p.end - length (o ++ rest)) (Ok (c, end, rest))) inner refl refl (inl is) i r)
      (rw closed (takes_ending R (λ c. C c end) p.most (n + 1) p.end (λ left. left) rest (value_at ws k s (n + 1) (o ++ rest)) (h s (n + 1) refl at)))

  takes_content : (s : Scope) (n start : ℕ) (content after left : Octets) → is_nothing (form_of ws s.type_number) ≡ false → IsAt all (s.end - length after) content → Takes s.type_number content left → TakesExtent R (λ c. C c ((s.end - length after) - length left)) ((s.end - length after) - length left) s.most n (open_content (value_at ws k) ws s n start content after) after
  unfolding open_content
  takes_content s n start content after left known at h =
      let inner = record s { end = s.end - length after } in
      rw known (takes_ending R (λ c. C c ((s.end - length after) - length left)) s.most n (s.end - length after) (λ left. after) left (value_at ws k inner n content) (h inner n refl at))

  pub takes_open : (p : Place) (n : ℕ) (g rest o left : Octets) → is_nothing (form_of ws p.type_number) ≡ false → p.is_open ≡ true → IsBehindLength Lenient g (o ++ left) → Owns p.name p.type_number o → IsAt all p.end (g ++ rest) → Takes p.type_number (o ++ left) left → TakesPart Q p.most n (part_at ws k p n (g ++ rest)) rest
  unfolding within_by open_by
  takes_open p n g rest o left known is_open behind own at h =
      let read = behind_length_is (g ++ rest) (o ++ left) rest ((content_reads Oer).again g rest (o ++ left) behind) in
      let s = scope_of p n (p.end - length (g ++ rest)) in
      let l = behind.0 in
      let end = (p.end - length rest) - length left in
      let regrouped : g ++ rest ≡ (l ++ o) ++ (left ++ rest) = ap (λ (z : Octets). z ++ rest) behind.1 ∙ append_assoc l (o ++ left) rest ∙ ap (λ (z : Octets). l ++ z) (append_assoc o left rest) ∙ sym (append_assoc l o (left ++ rest)) in
      let start_is : p.end - length (g ++ rest) ≡ p.end - length ((l ++ o) ++ (left ++ rest)) = ap (λ (z : Octets). p.end - length z) regrouped in
      let end_is : end ≡ p.end - length (left ++ rest) = omega (arith, length-append left rest) in
      let is : slice_range all (p.end - length (g ++ rest)) end ≡ l ++ o = ap₂ (λ (i j : ℕ). slice_range all i j) start_is end_is ∙ range_is all p.end (l ++ o) (left ++ rest) (subst (IsAt all p.end) regrouped at) in
      within_part p n end (g ++ rest) rest
      (λ c inner i r. own (node_of ws p (p.end - length (g ++ rest)) (Ok (c, end, rest))) inner refl refl (inr (l, left, is, subst (λ (z : Octets). IsBehindLength Lenient z (o ++ left)) behind.1 behind)) i r)
      (rw is_open (takes_read_extent R (λ c. C c end) end p.most (n + 1) s.start (behind_length_at (g ++ rest)) (o ++ left, read.0, rest) (λ x. open_content (value_at ws k) ws s (n + 1) (s.end - length x.1) x.0 x.2) rest read.2
      (takes_content s (n + 1) (s.end - length read.0) (o ++ left) rest left known (at_content all p.end g rest l (o ++ left) behind.1 at) h)))

-- an addition that the table doesn't have
takes_any : (all : Octets) (Q R : List Node → Type 0) (ws : List ℕ) (k : ℕ) (p : Place) (n : ℕ) (g rest content : Octets) → R [] → p.is_open ≡ true → form_of ws p.type_number ≡ Nothing → ((x : Node) (inner : List Node) → x.type_number ≡ p.type_number → R inner → Q (x ∷ inner)) → IsBehindLength Lenient g content → TakesPart Q p.most n (part_at ws k p n (g ++ rest)) rest
unfolding within_by open_by open_content
takes_any all Q R ws k p n g rest content empty is_open none any behind =
    let read = behind_length_is (g ++ rest) content rest ((content_reads Oer).again g rest content behind) in
    let s = scope_of p n (p.end - length (g ++ rest)) in
    let end = p.end - length rest in
    within_part all Q R (λ c e. ⊤) ws k p n end (g ++ rest) rest (λ c inner i r. any (node_of ws p (p.end - length (g ++ rest)) (Ok (c, end, rest))) inner refl r)
    (rw is_open (takes_read_extent R (λ c. ⊤) end p.most (n + 1) s.start (behind_length_at (g ++ rest)) (content, read.0, rest) (λ x. open_content (value_at ws k) ws s (n + 1) (s.end - length x.1) x.0 x.2) rest read.2
    (rw none (inl (s.end - length read.0, refl, empty, tt)))))

-- ---- rows
abbrev IsNone : List Node → Type 0
IsNone ns = ns ≡ []

-- a node of an addition that the table doesn't have may stand anywhere
abbrev pub AnyUnknown : (List Node → Type 0) → Type 0
AnyUnknown Q = (x : Node) → x.type_number ≡ nothing → Q (x ∷ [])

pub takes_unknown : (all : Octets) (Q : List Node → Type 0) → Joins Q → AnyUnknown Q → (ws : List ℕ) (k : ℕ) (s : Scope) (bits : List Bool) (n : ℕ) (o rest : Octets) → form_of ws nothing ≡ Nothing → AreSkipped Lenient bits o → TakesPart Q s.most n (unknown_by (part_at ws k) s bits n (o ++ rest)) rest
unfolding unknown_by
takes_unknown all Q joins any ws k s [] n o rest none e = inl (ap (λ (z : Octets). Ok (z ++ rest)) e, joins.none)
takes_unknown all Q joins any ws k s (false ∷ bits) n o rest none h =
    takes_behind Q joins s.most n (done (o ++ rest)) (λ m left. unknown_by (part_at ws k) s bits m left) (o ++ rest) rest (inl (refl, joins.none)) (λ m. takes_unknown all Q joins any ws k s bits m o rest none h)
takes_unknown all Q joins any ws k s (true ∷ bits) n o rest none (g, later, c, whole, behind, h) =
    let regrouped : o ++ rest ≡ g ++ (later ++ rest) = ap (λ (z : Octets). z ++ rest) whole ∙ append_assoc g later rest in
    subst (λ (z : Octets). TakesPart Q s.most n (unknown_by (part_at ws k) s (true ∷ bits) n z) rest) (sym regrouped)
    (takes_behind Q joins s.most n (part_at ws k (inside s nothing nothing true) n (g ++ (later ++ rest))) (λ m left. unknown_by (part_at ws k) s bits m left) (later ++ rest) rest
    (takes_any all Q IsNone ws k (inside s nothing nothing true) n g (later ++ rest) c refl refl none (λ x inner e r. subst (λ (z : List Node). Q (x ∷ z)) (sym r) (any x e)) behind)
    (λ m. takes_unknown all Q joins any ws k s bits m later rest none h))
