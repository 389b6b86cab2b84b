-- A set's components by the indexes of their rows.
use Rattle.std.proofs.Common.{◌≡◌, ◌==◌, ℕ, Bool, true, false, Option, Some, None, Result, List, [], ◌∷◌, ◌++◌, refl, sym, ap, ap₂, ◌∙◌, subst, append_assoc}
use Rattle.std.specs.Prelude.{⊤}
use Rattle.std.specs.List.{AllByRecursion}
use Rattle.std.proofs.lemmas.Bool.{eq-eqb}
use Rattle.asn1_core.specs.Rows.{Row}
use Rattle.asn1_core.specs.declared.error.DecodeError.{DecodeError}
use Rattle.asn1_core.specs.declared.fields.FieldPresence.{FieldPresence}
use Rattle.asn1_core.specs.declared.fields.FieldPresence.TheVariants as presence
use Rattle.oer_spec.specs.Tree.{Tree, Rows, NoRows, Slot}
use Rattle.oer_read.specs.Parts.{NoParts, Takes}
use Rattle.oer_read.specs.SetRows.{later, slot_of_found, found}
use Rattle.oer_read.specs.Sets.{Call, is_there, bits_behind, addition_calls, RanInTurn}
use Rattle.oer_read.specs.State.{State}
use Rattle.oer_read.proofs.SetLaw.{asking_on, slot_by, AgreesAt, Agrees, CameAt, Came, AdditionsRead}
use Rattle.oer_read.proofs.Steps.{done}

abbrev pub first_of_two : {V : Type 0} → Option V → Option V → Option V
first_of_two None q = q
first_of_two (Some v) q = Some v

first_none : {V : Type 0} (o : Option V) → first_of_two o None ≡ o
first_none None = refl
first_none (Some v) = refl

later_two : {V : Type 0} (o q : Option V) (b : Bool) (w : V) → later (first_of_two o q) b w ≡ first_of_two o (later q b w)
later_two None q b w = refl
later_two (Some v) q b w = refl

module _ {V : Type 0} (index : V → ℕ) where
  -- none of these is the row's
  abbrev pub Out : ℕ → List V → Type 0
  Out n vs = AllByRecursion (λ v. (index v == n) ≡ false) vs

  out_append : (n : ℕ) (vs ws : List V) → Out n vs → Out n ws → Out n (vs ++ ws)
  out_append n [] ws h k = k
  out_append n (v ∷ vs) ws h k = (h.0, out_append n vs ws h.1 k)

  found_none : (n : ℕ) (vs : List V) → Out n vs → found index n vs ≡ None
  found_none n [] h = refl
  found_none n (v ∷ vs) h = ap₂ (λ (o : Option V) (b : Bool). later o b v) (found_none n vs h.1) h.0

  pub found_behind : (n : ℕ) (vs ws : List V) (w : V) → found index n ws ≡ Some w → found index n (vs ++ ws) ≡ Some w
  found_behind n [] ws w e = e
  found_behind n (v ∷ vs) ws w e = ap (λ (o : Option V). later o (index v == n) v) (found_behind n vs ws w e)

  found_first : (n : ℕ) (v : V) (vs : List V) → index v ≡ n → Out n vs → found index n (v ∷ vs) ≡ Some v
  found_first n v vs e h = ap₂ (λ (o : Option V) (b : Bool). later o b v) (found_none n vs h) (eq-eqb (index v) n e)

  -- one component more
  pub found_push : (n : ℕ) (vs : List V) (v : V) → found index n (vs ++ v ∷ []) ≡ first_of_two (later None (index v == n) v) (found index n vs)
  found_push n [] v = sym (first_none (later None (index v == n) v))
  found_push n (w ∷ vs) v = ap (λ (o : Option V). later o (index w == n) w) (found_push n vs v) ∙ later_two (later None (index v == n) v) (found index n vs) (index w == n) w

  -- the indexes of rows differ
  abbrev pub AreApart : List Row → Type 0
  AreApart [] = ⊤
  AreApart (r ∷ rs) = AllByRecursion (λ q. ((r.index == q.index) ≡ false) × ((q.index == r.index) ≡ false)) rs × AreApart rs

  abbrev pub AllOut : List V → List Row → Type 0
  AllOut vs rs = AllByRecursion (λ r. Out r.index vs) rs

module _ {V : Type 0} (tree : V → Tree) (Is : ℕ → V → Type 0) (eq : V → V → Bool) (default : ℕ → V) (Ran : Call → State → Result V DecodeError → State → Type 0) (index : V → ℕ) (known : (n : ℕ) (v : V) → Is n v → index v ≡ n) where
  came_out_at : (x : Bool) (n m : ℕ) (vs : List V) (K : List V → Type 0) → CameAt tree Is eq default Ran x m vs K → (m == n) ≡ false → ((us : List V) → K us → Out index n us) → Out index n vs
  came_out_at false n m vs K c d ih = ih vs c
  came_out_at true n m [] K c d ih = absurd c
  came_out_at true n m (v ∷ vs) K c d ih = (ap (λ (z : ℕ). z == n) (known m v c.0) ∙ d, ih vs c.1)

  came_out : (n : ℕ) (rs : List Row) (b : List Bool) (vs : List V) → Came tree Is eq default Ran rs b vs → AllByRecursion (λ q. ((n == q.index) ≡ false) × ((q.index == n) ≡ false)) rs → Out index n vs
  came_out n [] b [] c d = tt
  came_out n [] b (v ∷ vs) c d = absurd c
  came_out n (r ∷ rs) b vs c d = came_out_at (is_there r.presence b) n r.index vs (Came tree Is eq default Ran rs (bits_behind r.presence b)) c d.0.1 (λ us k. came_out n rs (bits_behind r.presence b) us k d.1)

  -- a component is none of the other rows'
  one_out : (n : ℕ) (v : V) (pre : List V) (rs : List Row) → index v ≡ n → AllByRecursion (λ q. ((n == q.index) ≡ false) × ((q.index == n) ≡ false)) rs → AllOut index pre rs → AllOut index (pre ++ v ∷ []) rs
  one_out n v pre [] e d h = tt
  one_out n v pre (q ∷ rs) e d h = (out_append index q.index pre (v ∷ []) h.0 (ap (λ (z : ℕ). z == q.index) e ∙ d.0.0, tt), one_out n v pre rs e d.1 h.1)

  -- the slot of a row is that of the component found for it
  abbrev pub SlotIs : (ℕ → Slot) → List V → Row → Type 0
  SlotIs f vs r = f r.index ≡ slot_of_found (slot_by tree Is eq default Ran r.presence r.index) (found index r.index vs)

  agrees_at : (x : Bool) (p : FieldPresence) (n : ℕ) (f : ℕ → Slot) (rs : List Row) (b : List Bool) (pre vs ws : List V) → CameAt tree Is eq default Ran x n vs (Came tree Is eq default Ran rs b) → AllByRecursion (λ q. ((n == q.index) ≡ false) × ((q.index == n) ≡ false)) rs
      → Out index n pre → Out index n ws → AllOut index pre rs → f n ≡ slot_of_found (slot_by tree Is eq default Ran p n) (found index n (pre ++ (vs ++ ws)))
      → ((qre us : List V) → Came tree Is eq default Ran rs b us → AllOut index qre rs → qre ++ (us ++ ws) ≡ pre ++ (vs ++ ws) → Agrees tree Is eq default Ran f rs b us) → AgreesAt tree Is eq default Ran x p n f vs (Agrees tree Is eq default Ran f rs b)
  agrees_at false p n f rs b pre vs ws c d h k all e ih = (
    e ∙ ap (slot_of_found (slot_by tree Is eq default Ran p n)) (found_none index n (pre ++ (vs ++ ws)) (out_append index n pre (vs ++ ws) h (out_append index n vs ws (came_out n rs b vs c d) k))),
    ih pre vs c all refl,
  )
  agrees_at true p n f rs b pre [] ws c d h k all e ih = absurd c
  agrees_at true p n f rs b pre (v ∷ vs) ws c d h k all e ih =
      let i : index v ≡ n = known n v c.0 in (
        c.0,
        e ∙ ap (slot_of_found (slot_by tree Is eq default Ran p n)) (found_behind index n pre (v ∷ (vs ++ ws)) v (found_first index n v (vs ++ ws) i (out_append index n vs ws (came_out n rs b vs c.1 d) k))),
        ih (pre ++ v ∷ []) vs c.1 (one_out n v pre rs i d all) (append_assoc pre (v ∷ []) (vs ++ ws)),
      )

  agrees_from : (f : ℕ → Slot) (rs : List Row) (b : List Bool) (pre vs ws whole : List V) → Came tree Is eq default Ran rs b vs → AreApart index rs → AllOut index pre rs → AllOut index ws rs → pre ++ (vs ++ ws) ≡ whole → AllByRecursion (SlotIs f whole) rs → Agrees tree Is eq default Ran f rs b vs
  agrees_from f [] b pre [] ws whole c d h k e s = tt
  agrees_from f [] b pre (v ∷ vs) ws whole c d h k e s = absurd c
  agrees_from f (r ∷ rs) b pre vs ws whole c d h k e s =
      agrees_at (is_there r.presence b) r.presence r.index f rs (bits_behind r.presence b) pre vs ws c d.0 h.0 k.0 h.1 (subst (λ (z : List V). SlotIs f z r) (sym e) s.0)
      (λ qre us c' h' e'. agrees_from f rs (bits_behind r.presence b) qre us ws whole c' d.1 h' k.1 (e' ∙ e) s.1)

  no_out : (rs : List Row) → AllOut index [] rs
  no_out [] = tt
  no_out (r ∷ rs) = (tt, no_out rs)

  -- slots that are those of the components found for each row agree with the components as they were read
  pub found_agrees : (f : ℕ → Slot) (rs : List Row) (b : List Bool) (vs ws : List V) → Came tree Is eq default Ran rs b vs → AreApart index rs → AllOut index ws rs → AllByRecursion (SlotIs f (vs ++ ws)) rs → Agrees tree Is eq default Ran f rs b vs
  found_agrees f rs b vs ws c d k s = agrees_from f rs b [] vs ws (vs ++ ws) c d (no_out rs) k refl s

  -- ---- a required row's component is there

  head_at : (x : Bool) (n : ℕ) (rs : List Row) (b : List Bool) (pre vs ws : List V) → x ≡ true → CameAt tree Is eq default Ran x n vs (Came tree Is eq default Ran rs b) → AllByRecursion (λ q. ((n == q.index) ≡ false) × ((q.index == n) ≡ false)) rs → Out index n ws → found index n (pre ++ (vs ++ ws)) ≡ None → ⊥
  head_at false n rs b pre vs ws e c d k none = absurd (cc e)
  head_at true n rs b pre [] ws e c d k none = absurd c
  head_at true n rs b pre (v ∷ vs) ws e c d k none =
      let here : found index n (pre ++ (v ∷ (vs ++ ws))) ≡ Some v = found_behind index n pre (v ∷ (vs ++ ws)) v (found_first index n v (vs ++ ws) (known n v c.0) (out_append index n vs ws (came_out n rs b vs c.1 d) k)) in
      not_none v (sym here ∙ none)
    where
      not_none : (v : V) → ◌≡◌ {A = Option V} (Some v) None → ⊥
      not_none v e = cc e

  tail_at : (x : Bool) (n : ℕ) (K : List V → Type 0) (Z : Type 0) (pre vs ws : List V) → CameAt tree Is eq default Ran x n vs K → ((qre us : List V) → K us → qre ++ (us ++ ws) ≡ pre ++ (vs ++ ws) → Z) → Z
  tail_at false n K Z pre vs ws c ih = ih pre vs c refl
  tail_at true n K Z pre [] ws c ih = absurd c
  tail_at true n K Z pre (v ∷ vs) ws c ih = ih (pre ++ v ∷ []) vs c.1 (append_assoc pre (v ∷ []) (vs ++ ws))

  abbrev IsFound : List V → Row → Type 0
  IsFound whole r = r.presence ≡ presence.Required → found index r.index whole ≡ None → ⊥

  required_from : (rs : List Row) (b : List Bool) (pre vs ws whole : List V) → Came tree Is eq default Ran rs b vs → AreApart index rs → AllOut index ws rs → pre ++ (vs ++ ws) ≡ whole → AllByRecursion (IsFound whole) rs
  required_from [] b pre vs ws whole c d k e = tt
  required_from (r ∷ rs) b pre vs ws whole c d k e = (
    λ p none. head_at (is_there r.presence b) r.index rs (bits_behind r.presence b) pre vs ws (ap (λ (z : FieldPresence). is_there z b) p) c d.0 k.0 (ap (found index r.index) e ∙ none),
    tail_at (is_there r.presence b) r.index (Came tree Is eq default Ran rs (bits_behind r.presence b)) (AllByRecursion (IsFound whole) rs) pre vs ws c (λ qre us c' e'. required_from rs (bits_behind r.presence b) qre us ws whole c' d.1 k.1 (e' ∙ e)),
  )

  pub required_found : (rs : List Row) (b : List Bool) (vs ws : List V) → Came tree Is eq default Ran rs b vs → AreApart index rs → AllOut index ws rs → AllByRecursion (λ r. r.presence ≡ presence.Required → found index r.index (vs ++ ws) ≡ None → ⊥) rs
  required_found rs b vs ws c d k = required_from rs b [] vs ws (vs ++ ws) c d k refl

-- ---- a type without additions

abbrev pub NoneAdded : {V : Type 0} → List V → Rows → Type 0
NoneAdded ws a = (ws ≡ []) × (a ≡ NoRows)

none_taken : {V : Type 0} (Ran : Call → State → Result V DecodeError → State → Type 0) (n : ℕ) (s t : State) (ws : List V) → RanInTurn Ran s (addition_calls n []) ws t → s.frame.asks ≡ [] → (a : Rows) × NoneAdded ws a × Takes (asking_on s []) NoParts NoParts NoRows a (asking_on t []) × (t.frame.asks ≡ [])
none_taken Ran n s t [] r h = (
  NoRows,
  (refl, refl),
  subst (λ (z : State). Takes (asking_on s []) NoParts NoParts NoRows NoRows (asking_on z [])) r (done (asking_on s [])),
  ap (λ (z : State). z.frame.asks) (sym r) ∙ h,
)
none_taken Ran n s t (v ∷ ws) r h = absurd r

pub no_additions : {V : Type 0} (Ran : Call → State → Result V DecodeError → State → Type 0) (n : ℕ) → AdditionsRead Ran n [] NoParts NoneAdded
no_additions Ran n = record { takes = none_taken Ran n; mode = λ s e r. absurd r; stops = λ s e r m h. absurd r }

pub none_out : {V : Type 0} (index : V → ℕ) (rs : List Row) (ws : List V) (a : Rows) → NoneAdded ws a → AllOut index ws rs
none_out index [] ws a h = tt
none_out {V} index (r ∷ rs) ws a h = (subst (λ (z : List V). Out index r.index z) (sym h.0) tt, none_out index rs ws a h)
