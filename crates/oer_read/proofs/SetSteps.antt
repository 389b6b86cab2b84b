-- Calls of a set's closure, in turn.
use Rattle.std.proofs.Common.{◌≡◌, ℕ, suc, ◌+◌, ◌-◌, Bool, true, cond, List, [], ◌∷◌, ◌++◌, ◌⊎◌, inl, inr, Result, Ok, Err, refl, sym, ap, ◌∙◌, subst, append_assoc, append-nil, map, zero, drop, get_or, length, add-one, drop-cons, arith, ◌<◌, ◌≤◌}
use Rattle.asn1_core.specs.Octets.{Octets, AreOctets}
use Rattle.oer_leaf_read.proofs.ReadPlaces.{preamble_reads}
use Rattle.oer_spec.proofs.Steps.{bind_ok}
use Rattle.oer_spec.specs.Places.{IsPreamble}
use Rattle.oer_spec.specs.Reading.{◌>>=◌}
use Rattle.oer_spec.specs.ReadingBits.{preamble_at}
use Rattle.asn1_core.specs.Rows.{Row, row}
use Rattle.asn1_core.specs.declared.fields.Field.{Field}
use Rattle.asn1_core.specs.declared.error.DecodeError.{DecodeError}
use Rattle.asn1_core.specs.declared.error.DecodeErrorKind.{DecodeErrorKind}
use Rattle.oer_read.specs.Law.{IsRear, WantsMemory}
use Rattle.oer_read.specs.Scopes.{level_at, bits_for, presence_in}
use Rattle.oer_read.specs.Sets.{Call, is_there, bits_behind, root_calls, addition_calls, set_calls, set_frame, set_opened_at, RanInTurn, RefusedInTurn, CalledInTurn, AnsweredOne, SetRefused, NoMemory, Stopped}
use Rattle.oer_read.specs.State.{State}
use Rattle.oer_read.proofs.Openings.{rear_trans, level_ok}

drop_nil : {X : Type 0} (i : ℕ) → drop {A = X} i [] ≡ []
drop_nil zero = refl
drop_nil (suc i) = refl

-- the calls of a table's first row, and of the others
pub calls_there : (r : Row) (rs : List Row) (b : List Bool) → is_there r.presence b ≡ true → root_calls (r ∷ rs) b ≡ record { index = r.index; tag = r.tag } ∷ root_calls rs (bits_behind r.presence b)
calls_there r rs b e = ap (λ (x : Bool). cond x (record { index = r.index; tag = r.tag } ∷ root_calls rs (bits_behind r.presence b)) (root_calls rs (bits_behind r.presence b))) e

module _ {V : Type 0} (Ran : Call → State → Result V DecodeError → State → Type 0) where
  pub ran_append : (s : State) (cs : List Call) (vs : List V) (t : State) (ds : List Call) (ws : List V) (u : State) → RanInTurn Ran s cs vs t → RanInTurn Ran t ds ws u → RanInTurn Ran s (cs ++ ds) (vs ++ ws) u
  ran_append s [] [] t ds ws u e k = subst (λ (z : State). RanInTurn Ran z ds ws u) (sym e) k
  ran_append s (c ∷ cs) (v ∷ vs) t ds ws u e k = (e.0, e.1, ran_append e.0 cs vs t ds ws u e.2 k)
  ran_append s [] (v ∷ vs) t ds ws u e k = absurd e
  ran_append s (c ∷ cs) [] t ds ws u e k = absurd e

  pub refused_append : (s : State) (cs : List Call) (vs : List V) (t : State) (ds : List Call) (e : DecodeError) → RanInTurn Ran s cs vs t → RefusedInTurn Ran t ds e → RefusedInTurn Ran s (cs ++ ds) e
  refused_append s [] [] t ds e r k = subst (λ (z : State). RefusedInTurn Ran z ds e) (sym r) k
  refused_append s (c ∷ cs) (v ∷ vs) t ds e r k = inr (v, r.0, r.1, refused_append r.0 cs vs t ds e r.2 k)
  refused_append s [] (v ∷ vs) t ds e r k = absurd r
  refused_append s (c ∷ cs) [] t ds e r k = absurd r

  pub refused_front : (s : State) (cs ds : List Call) (e : DecodeError) → RefusedInTurn Ran s cs e → RefusedInTurn Ran s (cs ++ ds) e
  refused_front s [] ds e r = absurd r
  refused_front s (c ∷ cs) ds e (inl r) = inl r
  refused_front s (c ∷ cs) ds e (inr (v, after, r, k)) = inr (v, after, r, refused_front after cs ds e k)

  pub called_front : (s : State) (cs ds : List Call) (d : Call) (t : State) → CalledInTurn Ran s cs d t → CalledInTurn Ran s (cs ++ ds) d t
  called_front s [] ds d t k = absurd k
  called_front s (c ∷ cs) ds d t (inl k) = inl k
  called_front s (c ∷ cs) ds d t (inr (v, after, r, k)) = inr (v, after, r, called_front after cs ds d t k)

  pub called_append : (s : State) (cs : List Call) (vs : List V) (t : State) (ds : List Call) (d : Call) (u : State) → RanInTurn Ran s cs vs t → CalledInTurn Ran t ds d u → CalledInTurn Ran s (cs ++ ds) d u
  called_append s [] [] t ds d u r k = subst (λ (z : State). CalledInTurn Ran z ds d u) (sym r) k
  called_append s (c ∷ cs) (v ∷ vs) t ds d u r k = inr (v, r.0, r.1, called_append r.0 cs vs t ds d u r.2 k)
  called_append s [] (v ∷ vs) t ds d u r k = absurd r
  called_append s (c ∷ cs) [] t ds d u r k = absurd r

  -- what is left is a rear part
  pub ran_rear : (s : State) (cs : List Call) (vs : List V) (t : State) → ((c : Call) (s' after : State) (v : V) → CalledInTurn Ran s cs c s' → Ran c s' (Ok v) after → IsRear s'.input after.input) → RanInTurn Ran s cs vs t → IsRear s.input t.input
  ran_rear s [] [] t keeps e = record { front = []; split = ap (λ (z : State). z.input) e }
  ran_rear s (c ∷ cs) (v ∷ vs) t keeps e =
      rear_trans s.input e.0.input t.input (keeps c s e.0 v (inl (refl, refl)) e.1) (ran_rear e.0 cs vs t (λ d s' after w k. keeps d s' after w (inr (v, e.0, e.1, k))) e.2)
  ran_rear s [] (v ∷ vs) t keeps e = absurd e
  ran_rear s (c ∷ cs) [] t keeps e = absurd e

-- Within a loop: what the calls that are left do from here, all of them do from the start.
pub record SoFar {V : Type 0} (Ran : Call → State → Result V DecodeError → State → Type 0) (start : State) (all : List Call) (before : List V) (here : State) (left : List Call) (now : List V) : Type 0 where
  pub ran : (vs : List V) (t : State) → RanInTurn Ran here left vs t → (ws : List V) × RanInTurn Ran start all ws t × (now ++ vs ≡ before ++ ws)
  pub refused : (e : DecodeError) → RefusedInTurn Ran here left e → RefusedInTurn Ran start all e
  pub called : (d : Call) (t : State) → CalledInTurn Ran here left d t → CalledInTurn Ran start all d t

module _ {V : Type 0} (Ran : Call → State → Result V DecodeError → State → Type 0) (start : State) (all : List Call) (before : List V) where
  -- one call more
  pub so_far_next : (here : State) (c : Call) (left : List Call) (now : List V) (v : V) (after : State) → SoFar Ran start all before here (c ∷ left) now → Ran c here (Ok v) after → SoFar Ran start all before after left (now ++ v ∷ [])
  so_far_next here c left now v after s k = record {
    ran = λ vs t r. let (ws, x, e) = s.ran (v ∷ vs) t (after, k, r) in (ws, x, append_assoc now (v ∷ []) vs ∙ e);
    refused = λ e r. s.refused e (inr (v, after, k, r));
    called = λ d t r. s.called d t (inr (v, after, k, r));
  }

  pub so_far_refused : {M : Type 0} → (here : State) (c : Call) (left : List Call) (now : List V) (e : DecodeError) → SoFar Ran start all before here (c ∷ left) now
      → (M × ((v : V) × (after : State) × Ran c here (Ok v) after)) ⊎ ((after : State) × Ran c here (Err e) after) → (M × AnsweredOne Ran start all) ⊎ RefusedInTurn Ran start all e
  so_far_refused here c left now e s (inl (m, (v, after, k))) = inl (m, record { call = c; here = here; called = s.called c here (inl (refl, refl)); value = v; after = after; ran = k })
  so_far_refused here c left now e s (inr (after, k)) = inr (s.refused e (inl (after, k)))

  so_far_called : (here : State) (c : Call) (left : List Call) (now : List V) → SoFar Ran start all before here (c ∷ left) now → CalledInTurn Ran start all c here
  so_far_called here c left now s = s.called c here (inl (refl, refl))

  -- no call is left
  pub so_far_done : (here : State) (now : List V) → SoFar Ran start all before here [] now → (vs : List V) × RanInTurn Ran start all vs here × (now ≡ before ++ vs)
  so_far_done here now s = let (ws, x, e) = s.ran [] here refl in (ws, x, sym (append-nil now) ∙ e)

-- ---- over the rows of a table

pub drop_next : (xs : List Field) (i : ℕ) (d : Field) → i < length xs → drop i xs ≡ get_or xs i d ∷ drop (i + 1) xs
drop_next xs i d h = rw (add-one, drop-cons xs i d)

pub drop_all : (xs : List Field) (i : ℕ) → length xs ≤ i → drop i xs ≡ []
drop_all [] i h = drop_nil i
drop_all (x ∷ xs) zero h = absurd (omega (arith, h))
drop_all (x ∷ xs) (suc i) h = drop_all xs i (omega (arith, h))

module _ {V : Type 0} (Ran : Call → State → Result V DecodeError → State → Type 0) (start : State) (all : List Call) (before : List V) where
  -- a root component that is there was read
  pub roots_next : (here : State) (rows : List Field) (f : Field) (more : List Field) (b behind : List Bool) (now : List V) (v : V) (after : State) → SoFar Ran start all before here (root_calls (map row rows) b) now → rows ≡ f ∷ more → is_there f.presence b ≡ true → behind ≡ bits_behind f.presence b
      → Ran (record { index = f.index; tag = f.tag }) here (Ok v) after → SoFar Ran start all before after (root_calls (map row more) behind) (now ++ v ∷ [])
  roots_next here rows f more b behind now v after s e there rest k =
      let c : Call = record { index = f.index; tag = f.tag } in
      let calls : root_calls (map row rows) b ≡ c ∷ root_calls (map row more) behind =
      ap (λ (z : List Field). root_calls (map row z) b) e ∙ calls_there (row f) (map row more) b there ∙ ap (λ (z : List Bool). c ∷ root_calls (map row more) z) (sym rest) in
      so_far_next Ran start all before here c (root_calls (map row more) behind) now v after (subst (λ (z : List Call). SoFar Ran start all before here z now) calls s) k

  pub roots_called : (here : State) (rows : List Field) (f : Field) (more : List Field) (b : List Bool) (now : List V) → SoFar Ran start all before here (root_calls (map row rows) b) now → rows ≡ f ∷ more → is_there f.presence b ≡ true → CalledInTurn Ran start all (record { index = f.index; tag = f.tag }) here
  roots_called here rows f more b now s e there =
      let c : Call = record { index = f.index; tag = f.tag } in
      let left : List Call = root_calls (map row more) (bits_behind f.presence b) in
      let calls : root_calls (map row rows) b ≡ c ∷ left = ap (λ (z : List Field). root_calls (map row z) b) e ∙ calls_there (row f) (map row more) b there in
      so_far_called Ran start all before here c left now (subst (λ (z : List Call). SoFar Ran start all before here z now) calls s)

  pub roots_refused : {M : Type 0} → (here : State) (rows : List Field) (f : Field) (more : List Field) (b : List Bool) (now : List V) (e : DecodeError) → SoFar Ran start all before here (root_calls (map row rows) b) now → rows ≡ f ∷ more → is_there f.presence b ≡ true
      → (M × ((v : V) × (after : State) × Ran (record { index = f.index; tag = f.tag }) here (Ok v) after)) ⊎ ((after : State) × Ran (record { index = f.index; tag = f.tag }) here (Err e) after) → (M × AnsweredOne Ran start all) ⊎ RefusedInTurn Ran start all e
  roots_refused here rows f more b now e s cons there k =
      let c : Call = record { index = f.index; tag = f.tag } in
      let left : List Call = root_calls (map row more) (bits_behind f.presence b) in
      let calls : root_calls (map row rows) b ≡ c ∷ left = ap (λ (z : List Field). root_calls (map row z) b) cons ∙ calls_there (row f) (map row more) b there in
      so_far_refused Ran start all before here c left now e (subst (λ (z : List Call). SoFar Ran start all before here z now) calls s) k

  pub roots_done : (here : State) (rows : List Field) (b : List Bool) (now : List V) → SoFar Ran start all before here (root_calls (map row rows) b) now → rows ≡ [] → (vs : List V) × RanInTurn Ran start all vs here × (now ≡ before ++ vs)
  roots_done here rows b now s e = so_far_done Ran start all before here now (subst (λ (z : List Field). SoFar Ran start all before here (root_calls (map row z) b) now) e s)

  -- an addition was read
  pub additions_next : (here : State) (rows : List Field) (f : Field) (more : List Field) (n m : ℕ) (now : List V) (v : V) (after : State) → SoFar Ran start all before here (addition_calls n (map row rows)) now → rows ≡ f ∷ more → m ≡ suc n
      → Ran (record { index = n; tag = f.tag }) here (Ok v) after → SoFar Ran start all before after (addition_calls m (map row more)) (now ++ v ∷ [])
  additions_next here rows f more n m now v after s e i k =
      let c : Call = record { index = n; tag = f.tag } in
      let calls : addition_calls n (map row rows) ≡ c ∷ addition_calls m (map row more) =
      ap (λ (z : List Field). addition_calls n (map row z)) e ∙ ap (λ (z : ℕ). c ∷ addition_calls z (map row more)) (sym i) in
      so_far_next Ran start all before here c (addition_calls m (map row more)) now v after (subst (λ (z : List Call). SoFar Ran start all before here z now) calls s) k

  pub additions_refused : {M : Type 0} → (here : State) (rows : List Field) (f : Field) (more : List Field) (n : ℕ) (now : List V) (e : DecodeError) → SoFar Ran start all before here (addition_calls n (map row rows)) now → rows ≡ f ∷ more
      → (M × ((v : V) × (after : State) × Ran (record { index = n; tag = f.tag }) here (Ok v) after)) ⊎ ((after : State) × Ran (record { index = n; tag = f.tag }) here (Err e) after) → (M × AnsweredOne Ran start all) ⊎ RefusedInTurn Ran start all e
  additions_refused here rows f more n now e s cons k =
      so_far_refused Ran start all before here (record { index = n; tag = f.tag }) (addition_calls (suc n) (map row more)) now e (subst (λ (z : List Field). SoFar Ran start all before here (addition_calls n (map row z)) now) cons s) k

  pub additions_called : (here : State) (rows : List Field) (f : Field) (more : List Field) (n : ℕ) (now : List V) → SoFar Ran start all before here (addition_calls n (map row rows)) now → rows ≡ f ∷ more → CalledInTurn Ran start all (record { index = n; tag = f.tag }) here
  additions_called here rows f more n now s e =
      so_far_called Ran start all before here (record { index = n; tag = f.tag }) (addition_calls (suc n) (map row more)) now (subst (λ (z : List Field). SoFar Ran start all before here (addition_calls n (map row z)) now) e s)

  pub additions_done : (here : State) (rows : List Field) (n : ℕ) (now : List V) → SoFar Ran start all before here (addition_calls n (map row rows)) now → rows ≡ [] → (vs : List V) × RanInTurn Ran start all vs here × (now ≡ before ++ vs)
  additions_done here rows n now s e = so_far_done Ran start all before here now (subst (λ (z : List Field). SoFar Ran start all before here (addition_calls n (map row z)) now) e s)

module _ {V : Type 0} (Ran : Call → State → Result V DecodeError → State → Type 0) where
  pub either_front : {M : Type 0} → (s : State) (cs ds : List Call) (e : DecodeError) → (M × AnsweredOne Ran s cs) ⊎ RefusedInTurn Ran s cs e → (M × AnsweredOne Ran s (cs ++ ds)) ⊎ RefusedInTurn Ran s (cs ++ ds) e
  either_front s cs ds e (inl (m, k)) = inl (m, record { call = k.call; here = k.here; called = called_front Ran s cs ds k.call k.here k.called; value = k.value; after = k.after; ran = k.ran })
  either_front s cs ds e (inr r) = inr (refused_front Ran s cs ds e r)

  pub either_append : {M : Type 0} → (s : State) (cs : List Call) (vs : List V) (t : State) (ds : List Call) (e : DecodeError) → RanInTurn Ran s cs vs t → (M × AnsweredOne Ran t ds) ⊎ RefusedInTurn Ran t ds e → (M × AnsweredOne Ran s (cs ++ ds)) ⊎ RefusedInTurn Ran s (cs ++ ds) e
  either_append s cs vs t ds e r (inl (m, k)) = inl (m, record { call = k.call; here = k.here; called = called_append Ran s cs vs t ds k.call k.here r k.called; value = k.value; after = k.after; ran = k.ran })
  either_append s cs vs t ds e r (inr k) = inr (refused_append Ran s cs vs t ds e r k)

-- ---- what is lent

-- a preamble stands at the front, and a level is left
pub record SetOpens (s : State) (extensible : Bool) (roots additions : List Row) (lent : State) (presence : List Bool) : Type 0 where
  pub level : 1 ≤ s.levels
  pub preamble : Octets
  pub bits : List Bool
  pub rest : Octets
  pub split : s.input ≡ preamble ++ rest
  pub spelled : IsPreamble preamble bits
  pub count : length bits ≡ bits_for extensible roots
  pub is : lent ≡ record { input = rest; codec = s.codec; levels = s.levels - 1; frame = set_frame extensible additions bits }
  pub shows : presence ≡ presence_in extensible bits

pub lent_is : (a b : State) (x y : List Bool) → ◌≡◌ {A = Result (State × List Bool) DecodeErrorKind} (Ok (a, x)) (Ok (b, y)) → (a ≡ b) × (x ≡ y)
lent_is a b x y e =
    let p : ◌≡◌ {A = State × List Bool} (a, x) (b, y) = cc e in
    (ap (λ (z : State × List Bool). z.0) p, ap (λ (z : State × List Bool). z.1) p)

pub set_opens : (s : State) (extensible : Bool) (roots additions : List Row) (lent : State) (presence : List Bool) → AreOctets s.input → set_opened_at s extensible roots additions ≡ Ok (lent, presence) → SetOpens s extensible roots additions lent presence
unfolding set_opened_at
set_opens s extensible roots additions lent presence fits e =
    let l = bind_ok (level_at s.levels) (λ (levels : ℕ). preamble_at (bits_for extensible roots) s.input >>= λ preamble. Ok (record { input = preamble.1; codec = s.codec; levels = levels; frame = set_frame extensible additions preamble.0 }, presence_in extensible preamble.0)) (lent, presence) e in
    let p = bind_ok (preamble_at (bits_for extensible roots) s.input) (λ preamble. Ok (record { input = preamble.1; codec = s.codec; levels = l.0; frame = set_frame extensible additions preamble.0 }, presence_in extensible preamble.0)) (lent, presence) l.2 in
    let f = (preamble_reads (bits_for extensible roots)).found s.input p.0.1 p.0.0 fits p.1 in
    let n = level_ok s.levels l.0 l.1 in
    let both = lent_is _ lent _ presence p.2 in
    record {
      level = n.0;
      preamble = f.0;
      bits = p.0.0;
      rest = p.0.1;
      split = f.1;
      spelled = f.2.0;
      count = f.2.1;
      is = sym both.0 ∙ ap (λ (m : ℕ). record { input = p.0.1; codec = s.codec; levels = m; frame = set_frame extensible additions p.0.0 }) n.1;
      shows = sym both.1;
    }

pub set_opened_rear : (s : State) (extensible : Bool) (roots additions : List Row) (lent : State) (presence : List Bool) → AreOctets s.input → set_opened_at s extensible roots additions ≡ Ok (lent, presence) → IsRear s.input lent.input
set_opened_rear s extensible roots additions lent presence fits e =
    let o = set_opens s extensible roots additions lent presence fits e in
    record { front = o.preamble; split = o.split ∙ ap (λ (t : State). o.preamble ++ t.input) (sym o.is) }

pub refused_or_memory : {A V : Type 0} (Ran : Call → State → Result V DecodeError → State → Type 0) (Makes : List V → Result A DecodeError → Type 0) (extensible : Bool) (roots additions : List Row) (old lent : State) (bits : List Bool) (e : DecodeError) → set_opened_at old extensible roots additions ≡ Ok (lent, bits)
    → (WantsMemory old e × AnsweredOne Ran lent (set_calls roots additions bits)) ⊎ RefusedInTurn Ran lent (set_calls roots additions bits) e → SetRefused Ran Makes extensible roots additions old e
refused_or_memory Ran Makes extensible roots additions old lent bits e o (inl (m, k)) = NoMemory lent bits o k m
refused_or_memory Ran Makes extensible roots additions old lent bits e o (inr r) = Stopped lent bits o r
