-- From what a set does, and what its closures promise, to the law of reading.
use Rattle.std.proofs.Common.{◌≡◌, ℕ, ◌+◌, Bool, true, false, cond, Some, None, Result, Ok, Err, List, [], ◌∷◌, ◌++◌, length, ◌⊎◌, inl, inr, refl, sym, ap, ap₂, ◌∙◌, subst, get_or, drop}
use Rattle.std.specs.Prelude.{⊤}
use Rattle.std.specs.List.{AllByRecursion}
use Rattle.std.specs.Result.{IfOk, IfErr, OnErr}
use Rattle.asn1_core.specs.Octets.{Octets}
use Rattle.asn1_core.specs.Rows.{Row, may_be_absent}
use Rattle.asn1_core.specs.Tags.{by_tag}
use Rattle.asn1_core.specs.declared.codec.Codec.{Codec}
use Rattle.asn1_core.specs.declared.error.DecodeError.{DecodeError}
use Rattle.asn1_core.specs.declared.error.DecodeErrorKind.{DecodeErrorKind}
use Rattle.asn1_core.specs.declared.fields.FieldPresence.{FieldPresence}
use Rattle.asn1_core.specs.declared.fields.FieldPresence.TheVariants as presence
use Rattle.asn1_core.specs.declared.tag.Tag.{Tag}
use Rattle.oer_spec.specs.Encoding.{IsEncoding}
use Rattle.oer_spec.specs.Mode.{mode_of}
use Rattle.oer_spec.specs.Reading.{◌>>=◌, ◌>>◌}
use Rattle.oer_spec.specs.ReadingBits.{preamble_at}
use Rattle.oer_spec.specs.Tree.{Tree, Struct, Rows, NoRows, Required, Optional, Default, Slot, Absent, Present, present_unless}
use Rattle.asn1_core.specs.declared.codec.Codec.TheVariants.{Coer}
use Rattle.oer_read.specs.Components.{AskedAbsent, AskedPresent, Asked, AskRefused, Inside}
use Rattle.oer_read.specs.Defaults.{only_lenient, DefaultRefused, Unset, Set, NotRead, SpelledOut, IsDefault}
use Rattle.oer_read.specs.Law.{Reads, Decodes, NoEncoding, Fronts, IsForMemory}
use Rattle.oer_read.specs.Parts.{Parts, NoParts, RequiredPart, OptionalPart, DefaultPart, Admits, AreOf, IsTableOf, Takes, NoneCome, ReadsParts}
use Rattle.oer_read.specs.Scopes.{level_at, bits_for, all_asked, unknown_at, presence_in, frame_behind, opened_at, closed_at, SequenceRead, SequenceRefused, NotOpened as SequenceNotOpened, Stopped as SequenceStopped}
use Rattle.oer_read.specs.SetRows.{tree_in, row_at, rows_from, ReadsDefault, part_at, parts_of, Fits}
use Rattle.oer_read.specs.Sets.{Call, is_there, bits_behind, root_calls, addition_calls, set_calls, set_frame, set_opened_at, RanInTurn, RefusedInTurn, SetRead, SetRefused, NotOpened, Stopped, NotClosed, NotMade, NoMemory}
use Rattle.oer_read.specs.State.{Ask, State, Frame, asks_of}
use Rattle.oer_read.proofs.DefaultSteps.{asked_takes as default_takes, asked_refuses as default_refuses, refused_refuses as default_refused, default_slot}
use Rattle.oer_read.proofs.Openings.{comes_closed, opened_mode}
use Rattle.oer_read.proofs.OptionalSteps.{asked_takes, asked_refuses, refused_refuses as asked_refused}
use Rattle.oer_read.proofs.SequenceLaw.{sequence_law, not_both}
use Rattle.oer_read.proofs.SetOrder.{set_sorted, set_unsorted, sorted_from, all_by_tag, marked_by_tag, parts_table, fits_parts}
use Rattle.oer_spec.proofs.Steps.{bind_ok}
use Rattle.oer_read.proofs.SetSteps.{lent_is}
use Rattle.oer_read.proofs.Steps.{read_takes, read_refuses, refused_refuses}

-- the decoder of the sequence that has the rows in tag order, where these are still to be asked
abbrev pub asking_on : State → List Ask → State
asking_on s ks = record s { frame = record s.frame { is_set = false; asks = ks } }

module _ {V : Type 0} (tree : V → Tree) (IsPart : V → Type 0) where
  reads_on : (s t : State) (v : V) (ks : List Ask) → Reads tree IsPart s v t → Reads tree IsPart (asking_on s ks) v (asking_on t ks)
  reads_on s t v ks d = record {
    taken = d.taken;
    split = d.split;
    encoding = d.encoding;
    value = d.value;
    only = λ w o i f. d.only w o i (record { rest = f.rest; split = f.split; encoding = f.encoding });
    rest = ap (λ (z : State). asking_on z ks) d.rest;
  }

  none_on : (s : State) (ks : List Ask) → NoEncoding tree IsPart s → NoEncoding tree IsPart (asking_on s ks)
  none_on s ks n w o i f = n w o i (record { rest = f.rest; split = f.split; encoding = f.encoding })

abbrev Any : {V : Type 0} → State → Result V DecodeError → State → Type 0
Any s r t = ⊤

module _ {V : Type 0} (tree : V → Tree) (Is : ℕ → V → Type 0) (eq : V → V → Bool) (default : ℕ → V) (Ran : Call → State → Result V DecodeError → State → Type 0) where
  -- what a call for a root row promises
  abbrev pub LawAt : FieldPresence → ℕ → Tag → Type 0
  LawAt presence.Required n g = (s : State) (r : Result V DecodeError) (t : State) → Ran (record { index = n; tag = g }) s r t → Decodes tree (Is n) s r t
  LawAt presence.Optional n g = (s : State) (r : Result V DecodeError) (t : State) → Ran (record { index = n; tag = g }) s r t → Decodes tree (Is n) s r t
  LawAt presence.Default n g = ((s : State) (r : Result V DecodeError) (t : State) → Ran (record { index = n; tag = g }) s r t → ReadsDefault tree (Is n) eq (default n) s r t) × IsDefault tree (Is n) eq (default n)

  abbrev pub Law : Row → Type 0
  Law r = LawAt r.presence r.index r.tag

  -- the slots that components give
  abbrev pub slot_by : FieldPresence → ℕ → V → Slot
  slot_by presence.Required n v = Present (tree v)
  slot_by presence.Optional n v = Present (tree v)
  slot_by presence.Default n v = present_unless (eq v (default n)) (tree v)

  abbrev pub AgreesAt : Bool → FieldPresence → ℕ → (ℕ → Slot) → List V → (List V → Type 0) → Type 0
  AgreesAt false p n f vs K = (f n ≡ Absent) × K vs
  AgreesAt true p n f [] K = ⊥
  AgreesAt true p n f (v ∷ vs) K = Is n v × (f n ≡ slot_by p n v) × K vs

  -- the slots of these rows are those of the components that were read, in their order
  abbrev pub Agrees : (ℕ → Slot) → List Row → List Bool → List V → Type 0
  Agrees f [] b [] = ⊤
  Agrees f [] b (v ∷ vs) = ⊥
  Agrees f (r ∷ rs) b vs = AgreesAt (is_there r.presence b) r.presence r.index f vs (Agrees f rs (bits_behind r.presence b))

  abbrev rows : (ℕ → Slot) → List Row → Rows
  rows f rs = rows_from (λ n. tree (default n)) f rs

  abbrev parts : List Row → Parts
  parts rs = parts_of tree Is default rs

  abbrev calls_at : FieldPresence → Bool → ℕ → Tag → List Call → List Call
  calls_at p x n g cs = cond (cond (may_be_absent p) x true) (record { index = n; tag = g } ∷ cs) cs

  abbrev asks_at : FieldPresence → Bool → Tag → List Bool → List Row → List Ask
  asks_at p x g b rs = cond (may_be_absent p) (record { tag = g; bit = x } ∷ asks_of rs (drop 1 b)) (asks_of rs b)

  present_on : (n : ℕ) (s t : State) (g : Tag) (v : V) (ks : List Ask) → Reads tree (Is n) s v t → AskedPresent tree (Is n) Any (asking_on s (record { tag = g; bit = true } ∷ ks)) g v (asking_on t ks)
  present_on n s t g v ks d = record { more = ks; next = refl; reads = reads_on tree (Is n) s t v ks d; answered = tt }

  absent_on : (n : ℕ) (s : State) (g : Tag) (ks : List Ask) → AskedAbsent tree (Is n) Any (asking_on s (record { tag = g; bit = false } ∷ ks)) g (asking_on s ks)
  absent_on n s g ks = record { more = ks; next = refl; left = refl }

  -- ---- the components that were read
  takes_at : (p : FieldPresence) (n : ℕ) (g : Tag) (x : Bool) (b : List Bool) (rs : List Row) (s t w : State) (vs : List V) (qs : Parts) (a : Rows) (f : ℕ → Slot)
      → RanInTurn Ran s (calls_at p x n g (root_calls rs (bits_behind p b))) vs t → LawAt p n g → AgreesAt (cond (may_be_absent p) x true) p n f vs (Agrees f rs (bits_behind p b))
      → ((u : State) (us : List V) → RanInTurn Ran u (root_calls rs (bits_behind p b)) us t → Agrees f rs (bits_behind p b) us → Takes (asking_on u (asks_of rs (bits_behind p b))) (parts rs) qs (rows f rs) a w)
      → Takes (asking_on s (asks_at p x g b rs)) (part_at tree Is default p n g (parts rs)) qs (row_at p g (tree (default n)) (f n) (rows f rs)) a w
  takes_at presence.Required n g x b rs s t w [] qs a f e law h ih = absurd e
  takes_at presence.Required n g x b rs s t w (v ∷ vs) qs a f e law h ih =
      let ks : List Ask = asks_of rs b in
      subst (λ (z : Slot). Takes (asking_on s ks) (RequiredPart g (Admits tree (Is n)) (parts rs)) qs (Required g (tree_in z) (rows f rs)) a w) (sym h.1)
      (read_takes tree (Is n) (asking_on s ks) (asking_on e.0 ks) w v g (parts rs) qs (rows f rs) a (reads_on tree (Is n) s e.0 v ks (law s (Ok v) e.0 e.1).read) (ih e.0 vs e.2 h.2))
  takes_at presence.Optional n g true b rs s t w [] qs a f e law h ih = absurd e
  takes_at presence.Optional n g true b rs s t w (v ∷ vs) qs a f e law h ih =
      let ks : List Ask = asks_of rs (drop 1 b) in
      let here : State = asking_on s (record { tag = g; bit = true } ∷ ks) in
      subst (λ (z : Slot). Takes here (OptionalPart g (Admits tree (Is n)) (parts rs)) qs (Optional g z (rows f rs)) a w) (sym h.1)
      (asked_takes tree (Is n) Any here (asking_on e.0 ks) w (Some v) g (parts rs) qs (rows f rs) a (present_on n s e.0 g v ks (law s (Ok v) e.0 e.1).read) (ih e.0 vs e.2 h.2))
  takes_at presence.Optional n g false b rs s t w vs qs a f e law h ih =
      let ks : List Ask = asks_of rs (drop 1 b) in
      let here : State = asking_on s (record { tag = g; bit = false } ∷ ks) in
      subst (λ (z : Slot). Takes here (OptionalPart g (Admits tree (Is n)) (parts rs)) qs (Optional g z (rows f rs)) a w) (sym h.0)
      (asked_takes tree (Is n) Any here (asking_on s ks) w None g (parts rs) qs (rows f rs) a (absent_on n s g ks) (ih s vs e h.1))
  takes_at presence.Default n g true b rs s t w [] qs a f e law h ih = absurd e
  takes_at presence.Default n g true b rs s t w (v ∷ vs) qs a f e law h ih =
      let ks : List Ask = asks_of rs (drop 1 b) in
      let here : State = asking_on s (record { tag = g; bit = true } ∷ ks) in
      let d = (law.0 s (Ok v) e.0 e.1).read in
      subst (λ (z : Slot). Takes here (DefaultPart g (tree (default n)) (Admits tree (Is n)) (parts rs)) qs (Default g (tree (default n)) z (rows f rs)) a w) (sym h.1)
      (default_takes tree (Is n) Any eq (default n) law.1 here (asking_on e.0 ks) w v g (parts rs) qs (rows f rs) a (Set (present_on n s e.0 g v ks d.0) d.1) (ih e.0 vs e.2 h.2))
  takes_at presence.Default n g false b rs s t w vs qs a f e law h ih =
      let ks : List Ask = asks_of rs (drop 1 b) in
      let here : State = asking_on s (record { tag = g; bit = false } ∷ ks) in
      subst (λ (z : Slot). Takes here (DefaultPart g (tree (default n)) (Admits tree (Is n)) (parts rs)) qs (Default g (tree (default n)) z (rows f rs)) a w) (default_slot tree (Is n) Any eq (default n) law.1 (default n) refl ∙ sym h.0)
      (default_takes tree (Is n) Any eq (default n) law.1 here (asking_on s ks) w (default n) g (parts rs) qs (rows f rs) a (Unset (absent_on n s g ks) refl) (ih s vs e h.1))

  roots_take : (rs : List Row) (b : List Bool) (s t w : State) (vs : List V) (qs : Parts) (a : Rows) (f : ℕ → Slot) → AllByRecursion Law rs → RanInTurn Ran s (root_calls rs b) vs t → Agrees f rs b vs → Takes (asking_on t []) NoParts qs NoRows a w → Takes (asking_on s (asks_of rs b)) (parts rs) qs (rows f rs) a w
  roots_take [] b s t w [] qs a f law e h k = subst (λ (z : State). Takes (asking_on z []) NoParts qs NoRows a w) (sym e) k
  roots_take [] b s t w (v ∷ vs) qs a f law e h k = absurd e
  roots_take (r ∷ rs) b s t w vs qs a f law e h k =
      takes_at r.presence r.index r.tag (get_or b 0 false) b rs s t w vs qs a f e law.0 h (λ u us e' h'. roots_take rs (bits_behind r.presence b) u t w us qs a f law.1 e' h' k)

  -- nothing changes but what is left
  stays_at : (p : FieldPresence) (n : ℕ) (g : Tag) (x : Bool) (cs : List Call) (s t : State) (vs : List V) → RanInTurn Ran s (calls_at p x n g cs) vs t → LawAt p n g
      → ((u : State) (us : List V) → RanInTurn Ran u cs us t → t ≡ record u { input = t.input }) → t ≡ record s { input = t.input }
  stays_at presence.Required n g x cs s t [] e law ih = absurd e
  stays_at presence.Required n g x cs s t (v ∷ vs) e law ih = ih e.0 vs e.2 ∙ ap (λ (z : State). record z { input = t.input }) (law s (Ok v) e.0 e.1).read.rest
  stays_at presence.Optional n g true cs s t [] e law ih = absurd e
  stays_at presence.Optional n g true cs s t (v ∷ vs) e law ih = ih e.0 vs e.2 ∙ ap (λ (z : State). record z { input = t.input }) (law s (Ok v) e.0 e.1).read.rest
  stays_at presence.Optional n g false cs s t vs e law ih = ih s vs e
  stays_at presence.Default n g true cs s t [] e law ih = absurd e
  stays_at presence.Default n g true cs s t (v ∷ vs) e law ih = ih e.0 vs e.2 ∙ ap (λ (z : State). record z { input = t.input }) (law.0 s (Ok v) e.0 e.1).read.0.rest
  stays_at presence.Default n g false cs s t vs e law ih = ih s vs e

  stays : (rs : List Row) (b : List Bool) (s t : State) (vs : List V) → AllByRecursion Law rs → RanInTurn Ran s (root_calls rs b) vs t → t ≡ record s { input = t.input }
  stays [] b s t [] law e = sym e ∙ ap (λ (z : State). record s { input = z.input }) e
  stays [] b s t (v ∷ vs) law e = absurd e
  stays (r ∷ rs) b s t vs law e = stays_at r.presence r.index r.tag (get_or b 0 false) (root_calls rs (bits_behind r.presence b)) s t vs e law.0 (λ u us e'. stays rs (bits_behind r.presence b) u t us law.1 e')

  frame_stays : (rs : List Row) (b : List Bool) (s t : State) (vs : List V) → AllByRecursion Law rs → RanInTurn Ran s (root_calls rs b) vs t → t.frame ≡ s.frame
  frame_stays rs b s t vs law e = ap (λ (z : State). z.frame) (stays rs b s t vs law e)

  -- a call that refuses names the mode
  mode_at : (e : DecodeError) (p : FieldPresence) (n : ℕ) (g : Tag) (x : Bool) (cs : List Call) (s : State) → RefusedInTurn Ran s (calls_at p x n g cs) e → LawAt p n g → ((u : State) → RefusedInTurn Ran u cs e → e.codec ≡ u.codec) → e.codec ≡ s.codec
  mode_at e presence.Required n g x cs s (inl (after, ran)) law ih = (law s (Err e) after ran).refused.mode
  mode_at e presence.Required n g x cs s (inr (v, after, ran, k)) law ih = ih after k ∙ ap (λ (z : State). z.codec) (law s (Ok v) after ran).read.rest
  mode_at e presence.Optional n g true cs s (inl (after, ran)) law ih = (law s (Err e) after ran).refused.mode
  mode_at e presence.Optional n g true cs s (inr (v, after, ran, k)) law ih = ih after k ∙ ap (λ (z : State). z.codec) (law s (Ok v) after ran).read.rest
  mode_at e presence.Optional n g false cs s k law ih = ih s k
  mode_at e presence.Default n g true cs s (inl (after, ran)) law ih = default_mode s n e (law.0 s (Err e) after ran).refused
    where
      default_mode : (s : State) (n : ℕ) (e : DecodeError) → ((e.codec ≡ s.codec) × ((IsForMemory e → ⊥) → NoEncoding tree (Is n) s)) ⊎ ((v : V) × (u : State) × Reads tree (Is n) s v u × (s.codec ≡ Coer) × (eq v (default n) ≡ true) × (e ≡ only_lenient s)) → e.codec ≡ s.codec
      default_mode s n e (inl (mode, _)) = mode
      default_mode s n e (inr (_, _, _, _, _, is)) = ap (λ (z : DecodeError). z.codec) is
  mode_at e presence.Default n g true cs s (inr (v, after, ran, k)) law ih = ih after k ∙ ap (λ (z : State). z.codec) (law.0 s (Ok v) after ran).read.0.rest
  mode_at e presence.Default n g false cs s k law ih = ih s k

  roots_mode : (e : DecodeError) (rs : List Row) (b : List Bool) (s : State) → AllByRecursion Law rs → RefusedInTurn Ran s (root_calls rs b) e → e.codec ≡ s.codec
  roots_mode e [] b s law k = absurd k
  roots_mode e (r ∷ rs) b s law k = mode_at e r.presence r.index r.tag (get_or b 0 false) (root_calls rs (bits_behind r.presence b)) s k law.0 (λ u k'. roots_mode e rs (bits_behind r.presence b) u law.1 k')

  -- ---- a call that refused, or what comes after all of them

  module _ (qs : Parts) (e : DecodeError) where
    -- a call refused, or behind all of them no addition rows come
    abbrev pub Ends : State → List Call → Type 0
    Ends s [] = NoneCome (asking_on s []) NoParts qs
    Ends s (c ∷ cs) = ((after : State) × Ran c s (Err e) after) ⊎ ((v : V) × (after : State) × Ran c s (Ok v) after × Ends after cs)

    refuses_at : (p : FieldPresence) (n : ℕ) (g : Tag) (x : Bool) (b : List Bool) (rs : List Row) (s : State) → Ends s (calls_at p x n g (root_calls rs (bits_behind p b))) → LawAt p n g → (IsForMemory e → ⊥)
        → ((u : State) → Ends u (root_calls rs (bits_behind p b)) → NoneCome (asking_on u (asks_of rs (bits_behind p b))) (parts rs) qs)
        → NoneCome (asking_on s (asks_at p x g b rs)) (part_at tree Is default p n g (parts rs)) qs
    refuses_at presence.Required n g x b rs s (inl (after, ran)) law m ih =
        let ks : List Ask = asks_of rs b in
        refused_refuses tree (Is n) (asking_on s ks) g (parts rs) qs (none_on tree (Is n) s ks ((law s (Err e) after ran).refused.none m))
    refuses_at presence.Required n g x b rs s (inr (v, after, ran, k)) law m ih =
        let ks : List Ask = asks_of rs b in
        read_refuses tree (Is n) (asking_on s ks) (asking_on after ks) v g (parts rs) qs (reads_on tree (Is n) s after v ks (law s (Ok v) after ran).read) (ih after k)
    refuses_at presence.Optional n g true b rs s (inl (after, ran)) law m ih =
        let ks : List Ask = asks_of rs (drop 1 b) in
        asked_refused tree (Is n) Any (asking_on s (record { tag = g; bit = true } ∷ ks)) g e (parts rs) qs (Inside ks refl after tt (law s (Err e) after ran).refused.mode (λ m. none_on tree (Is n) s ks ((law s (Err e) after ran).refused.none m))) m
    refuses_at presence.Optional n g true b rs s (inr (v, after, ran, k)) law m ih =
        let ks : List Ask = asks_of rs (drop 1 b) in
        asked_refuses tree (Is n) Any (asking_on s (record { tag = g; bit = true } ∷ ks)) (asking_on after ks) (Some v) g (parts rs) qs (present_on n s after g v ks (law s (Ok v) after ran).read) (ih after k)
    refuses_at presence.Optional n g false b rs s k law m ih =
        let ks : List Ask = asks_of rs (drop 1 b) in
        asked_refuses tree (Is n) Any (asking_on s (record { tag = g; bit = false } ∷ ks)) (asking_on s ks) None g (parts rs) qs (absent_on n s g ks) (ih s k)
    refuses_at presence.Default n g true b rs s (inl (after, ran)) law m ih =
        let ks : List Ask = asks_of rs (drop 1 b) in
        default_refused tree (Is n) Any eq (default n) law.1 (asking_on s (record { tag = g; bit = true } ∷ ks)) g e (parts rs) qs (why ks (law.0 s (Err e) after ran).refused) m
      where
        why : (ks : List Ask) → ((e.codec ≡ s.codec) × ((IsForMemory e → ⊥) → NoEncoding tree (Is n) s)) ⊎ ((v : V) × (u : State) × Reads tree (Is n) s v u × (s.codec ≡ Coer) × (eq v (default n) ≡ true) × (e ≡ only_lenient s))
            → DefaultRefused eq (Asked tree (Is n) Any (asking_on s (record { tag = g; bit = true } ∷ ks)) g) (AskRefused tree (Is n) Any (asking_on s (record { tag = g; bit = true } ∷ ks)) g) (asking_on s (record { tag = g; bit = true } ∷ ks)) (default n) e
        why ks (inl (mode, none)) = NotRead (Inside ks refl after tt mode (λ m. none_on tree (Is n) s ks (none m)))
        why ks (inr (v, u, d, codec, equal, is)) = SpelledOut v (asking_on u ks) (present_on n s u g v ks d) codec equal is
    refuses_at presence.Default n g true b rs s (inr (v, after, ran, k)) law m ih =
        let ks : List Ask = asks_of rs (drop 1 b) in
        let d = (law.0 s (Ok v) after ran).read in
        default_refuses tree (Is n) Any eq (default n) law.1 (asking_on s (record { tag = g; bit = true } ∷ ks)) (asking_on after ks) v g (parts rs) qs (Set (present_on n s after g v ks d.0) d.1) (ih after k)
    refuses_at presence.Default n g false b rs s k law m ih =
        let ks : List Ask = asks_of rs (drop 1 b) in
        default_refuses tree (Is n) Any eq (default n) law.1 (asking_on s (record { tag = g; bit = false } ∷ ks)) (asking_on s ks) (default n) g (parts rs) qs (Unset (absent_on n s g ks) refl) (ih s k)

    roots_refuse : (rs : List Row) (b : List Bool) (s : State) → AllByRecursion Law rs → Ends s (root_calls rs b) → (IsForMemory e → ⊥) → NoneCome (asking_on s (asks_of rs b)) (parts rs) qs
    roots_refuse [] b s law k m = k
    roots_refuse (r ∷ rs) b s law k m = refuses_at r.presence r.index r.tag (get_or b 0 false) b rs s k law.0 m (λ u k'. roots_refuse rs (bits_behind r.presence b) u law.1 k' m)

    ends_behind : (s : State) (cs : List Call) (vs : List V) (t : State) → RanInTurn Ran s cs vs t → NoneCome (asking_on t []) NoParts qs → Ends s cs
    ends_behind s [] [] t r k = subst (λ (z : State). NoneCome (asking_on z []) NoParts qs) (sym r) k
    ends_behind s (c ∷ cs) (v ∷ vs) t r k = inr (v, r.0, r.1, ends_behind r.0 cs vs t r.2 k)
    ends_behind s [] (v ∷ vs) t r k = absurd r
    ends_behind s (c ∷ cs) [] t r k = absurd r

    ends_front : (s : State) (cs : List Call) → RefusedInTurn Ran s cs e → Ends s cs
    ends_front s [] r = absurd r
    ends_front s (c ∷ cs) (inl r) = inl r
    ends_front s (c ∷ cs) (inr (v, after, r, k)) = inr (v, after, r, ends_front after cs k)

  -- each component is one of its row
  abbrev pub CameAt : Bool → ℕ → List V → (List V → Type 0) → Type 0
  CameAt false n vs K = K vs
  CameAt true n [] K = ⊥
  CameAt true n (v ∷ vs) K = Is n v × K vs

  abbrev pub Came : List Row → List Bool → List V → Type 0
  Came [] b [] = ⊤
  Came [] b (v ∷ vs) = ⊥
  Came (r ∷ rs) b vs = CameAt (is_there r.presence b) r.index vs (Came rs (bits_behind r.presence b))

  came_at : (p : FieldPresence) (n : ℕ) (g : Tag) (x : Bool) (cs : List Call) (s t : State) (vs : List V) (K : List V → Type 0) → RanInTurn Ran s (calls_at p x n g cs) vs t → LawAt p n g → ((u : State) (us : List V) → RanInTurn Ran u cs us t → K us) → CameAt (cond (may_be_absent p) x true) n vs K
  came_at presence.Required n g x cs s t [] K e law ih = absurd e
  came_at presence.Required n g x cs s t (v ∷ vs) K e law ih = ((law s (Ok v) e.0 e.1).read.value, ih e.0 vs e.2)
  came_at presence.Optional n g true cs s t [] K e law ih = absurd e
  came_at presence.Optional n g true cs s t (v ∷ vs) K e law ih = ((law s (Ok v) e.0 e.1).read.value, ih e.0 vs e.2)
  came_at presence.Optional n g false cs s t vs K e law ih = ih s vs e
  came_at presence.Default n g true cs s t [] K e law ih = absurd e
  came_at presence.Default n g true cs s t (v ∷ vs) K e law ih = ((law.0 s (Ok v) e.0 e.1).read.0.value, ih e.0 vs e.2)
  came_at presence.Default n g false cs s t vs K e law ih = ih s vs e

  came : (rs : List Row) (b : List Bool) (s t : State) (vs : List V) → AllByRecursion Law rs → RanInTurn Ran s (root_calls rs b) vs t → Came rs b vs
  came [] b s t [] law e = tt
  came [] b s t (v ∷ vs) law e = absurd e
  came (r ∷ rs) b s t vs law e = came_at r.presence r.index r.tag (get_or b 0 false) (root_calls rs (bits_behind r.presence b)) s t vs (Came rs (bits_behind r.presence b)) e law.0 (λ u us e'. came rs (bits_behind r.presence b) u t us law.1 e')

module _ {V : Type 0} (Ran : Call → State → Result V DecodeError → State → Type 0) where
  -- what is read by the calls for additions, and that no such rows come where one refused
  pub record AdditionsRead (n : ℕ) (more : List Row) (qs : Parts) (AddOf : List V → Rows → Type 0) : Type 0 where
    pub takes : (s t : State) (ws : List V) → RanInTurn Ran s (addition_calls n more) ws t → s.frame.asks ≡ [] → (a : Rows) × AddOf ws a × Takes (asking_on s []) NoParts qs NoRows a (asking_on t []) × (t.frame.asks ≡ [])
    pub mode : (s : State) (e : DecodeError) → RefusedInTurn Ran s (addition_calls n more) e → e.codec ≡ s.codec
    pub stops : (s : State) (e : DecodeError) → RefusedInTurn Ran s (addition_calls n more) e → (IsForMemory e → ⊥) → s.frame.asks ≡ [] → NoneCome (asking_on s []) NoParts qs

  pub record RanSplit (s : State) (cs ds : List Call) (xs : List V) (u : State) : Type 0 where
    pub first : List V
    pub middle : State
    pub second : List V
    pub ran : RanInTurn Ran s cs first middle
    pub more : RanInTurn Ran middle ds second u
    pub same : xs ≡ first ++ second

  ran_split : (s : State) (cs ds : List Call) (xs : List V) (u : State) → RanInTurn Ran s (cs ++ ds) xs u → RanSplit s cs ds xs u
  ran_split s [] ds xs u r = record { first = []; middle = s; second = xs; ran = refl; more = r; same = refl }
  ran_split s (c ∷ cs) ds [] u r = absurd r
  ran_split s (c ∷ cs) ds (x ∷ xs) u r =
      let k = ran_split r.0 cs ds xs u r.2 in
      record { first = x ∷ k.first; middle = k.middle; second = k.second; ran = (r.0, r.1, k.ran); more = k.more; same = ap (λ (z : List V). x ∷ z) k.same }

  refused_split : (s : State) (cs ds : List Call) (e : DecodeError) → RefusedInTurn Ran s (cs ++ ds) e → RefusedInTurn Ran s cs e ⊎ ((vs : List V) × (t : State) × RanInTurn Ran s cs vs t × RefusedInTurn Ran t ds e)
  refused_split s [] ds e r = inr ([], s, refl, r)
  refused_split s (c ∷ cs) ds e (inl r) = inl (inl r)
  refused_split s (c ∷ cs) ds e (inr (v, after, r, k)) = go (refused_split after cs ds e k)
    where
      go : RefusedInTurn Ran after cs e ⊎ ((vs : List V) × (t : State) × RanInTurn Ran after cs vs t × RefusedInTurn Ran t ds e) → RefusedInTurn Ran s (c ∷ cs) e ⊎ ((vs : List V) × (t : State) × RanInTurn Ran s (c ∷ cs) vs t × RefusedInTurn Ran t ds e)
      go (inl q) = inl (inr (v, after, r, q))
      go (inr (vs, t, ran, q)) = inr (v ∷ vs, t, (after, r, ran), q)

-- ---- what is lent

two_steps : {Y Z : Type 0} (r : Result ℕ DecodeErrorKind) (q : Result (List Bool × Octets) DecodeErrorKind) (F : ℕ → List Bool × Octets → Y) (G : ℕ → List Bool × Octets → Z) (k : DecodeErrorKind) → (r >>= λ l. q >>= λ p. Ok (F l p)) ≡ Err k → (r >>= λ l. q >>= λ p. Ok (G l p)) ≡ Err k
two_steps (Err d) q F G k e = let s : d ≡ k = cc e in ap (λ (z : DecodeErrorKind). Err z) s
two_steps (Ok l) (Err d) F G k e = let s : d ≡ k = cc e in ap (λ (z : DecodeErrorKind). Err z) s
two_steps (Ok l) (Ok p) F G k e = absurd (cc e)

module _ (s : State) (extensible : Bool) (table more : List Row) where
  abbrev sorted : List Row
  sorted = by_tag (λ r. r.tag) table

  bits_same : bits_for extensible table ≡ bits_for extensible sorted
  bits_same = ap (λ (n : ℕ). cond extensible 1 0 + n) (sym (marked_by_tag table))

  abbrev lent_behind : ℕ → List Bool × Octets → State × List Bool
  lent_behind levels preamble = (record { input = preamble.1; codec = s.codec; levels = levels; frame = set_frame extensible more preamble.0 }, presence_in extensible preamble.0)

  abbrev lent_for : ℕ → Result (State × List Bool) DecodeErrorKind
  lent_for n = level_at s.levels >>= λ levels. preamble_at n s.input >>= λ preamble. Ok (lent_behind levels preamble)

  abbrev sequence_behind : ℕ → List Bool × Octets → State
  sequence_behind levels preamble = record { input = preamble.1; codec = s.codec; levels = levels; frame = frame_behind extensible sorted more preamble.0 }

  pub set_not_opened : (k : DecodeErrorKind) → set_opened_at s extensible table more ≡ Err k → opened_at s extensible sorted more ≡ Err k
  unfolding set_opened_at opened_at
  set_not_opened k e =
      two_steps (level_at s.levels) (preamble_at (bits_for extensible sorted) s.input) lent_behind sequence_behind k (subst (λ (n : ℕ). lent_for n ≡ Err k) bits_same e)

  pub set_lends : (lent : State) (bits : List Bool) → set_opened_at s extensible table more ≡ Ok (lent, bits) → (opened_at s extensible sorted more ≡ Ok (asking_on lent (asks_of sorted bits))) × (lent.frame.asks ≡ [])
  unfolding set_opened_at opened_at
  set_lends lent bits e =
      let l = bind_ok (level_at s.levels) (λ (levels : ℕ). preamble_at (bits_for extensible table) s.input >>= λ preamble. Ok (record { input = preamble.1; codec = s.codec; levels = levels; frame = set_frame extensible more preamble.0 }, presence_in extensible preamble.0)) (lent, bits) e in
      let p = bind_ok (preamble_at (bits_for extensible table) s.input) (λ preamble. Ok (record { input = preamble.1; codec = s.codec; levels = l.0; frame = set_frame extensible more preamble.0 }, presence_in extensible preamble.0)) (lent, bits) l.2 in
      let both = lent_is _ lent _ bits p.2 in
      let read : preamble_at (bits_for extensible sorted) s.input ≡ Ok p.0 = ap (λ (n : ℕ). preamble_at n s.input) (sym bits_same) ∙ p.1 in (
        rw (l.1, read) (ap₂ (λ (z : State) (c : List Bool). Ok (asking_on z (asks_of sorted c))) both.0 both.1),
        sym (ap (λ (z : State). z.frame.asks) both.0),
      )

closed_on : (s : State) → s.frame.asks ≡ [] → closed_at (asking_on s []) ≡ closed_at s
unfolding closed_at
closed_on s e = ap (λ (ks : List Ask). all_asked ks s.frame.additions >> unknown_at s) (sym e)

-- ---- the law
module _ {A V : Type 0} (tree : V → Tree) (Is : ℕ → V → Type 0) (eq : V → V → Bool) (default : ℕ → V) (Ran : Call → State → Result V DecodeError → State → Type 0) (Makes : List V → Result A DecodeError → Type 0) (extensible : Bool) (table more : List Row) (qs : Parts) (AddOf : List V → Rows → Type 0)
    (is_more : IsTableOf more qs) (only : extensible ≡ false → more ≡ [])
    (laws : AllByRecursion (Law tree Is eq default Ran) table)
    (adds : AdditionsRead Ran (length table) more qs AddOf)
    (whole : A → Tree) (IsValue : A → Type 0) (component : A → ℕ → Slot) (additions : A → Rows)
    (is : (v : A) → whole v ≡ Struct true extensible (rows_from (λ n. tree (default n)) (component v) table) (additions v))
    (made : (v : A) → AreOf (parts_of tree Is default (by_tag (λ r. r.tag) table)) (rows_from (λ n. tree (default n)) (component v) (by_tag (λ r. r.tag) table)) → AreOf qs (additions v) → IsValue v)
    (fits : (v : A) → IsValue v → AllByRecursion (Fits tree Is default (component v)) table × AreOf qs (additions v))
    (codec : Codec)
    (makes : (bits : List Bool) (vs ws : List V) (a : Rows) (r : Result A DecodeError) → Came tree Is eq default Ran (by_tag (λ r. r.tag) table) bits vs → AddOf ws a → Makes (vs ++ ws) r
    → IfOk r (λ v. Agrees tree Is eq default Ran (component v) (by_tag (λ r. r.tag) table) bits vs × (additions v ≡ a)) × IfErr r (λ e. IsForMemory e × (e.codec ≡ codec))) where
  abbrev in_order : List Row
  in_order = by_tag (λ r. r.tag) table

  abbrev roots : A → Rows
  roots v = rows_from (λ n. tree (default n)) (component v) in_order

  abbrev ps : Parts
  ps = parts_of tree Is default in_order

  abbrev as_sequence : A → Tree
  as_sequence v = Struct false extensible (roots v) (additions v)

  laws_in_order : AllByRecursion (Law tree Is eq default Ran) in_order
  laws_in_order = all_by_tag (Law tree Is eq default Ran) table laws

  -- what the calls did
  pub record Ran_all (lent : State) (bits : List Bool) (fields : List V) (after : State) : Type 0 where
    pub vs : List V
    pub middle : State
    pub ws : List V
    pub a : Rows
    pub ran : RanInTurn Ran lent (root_calls in_order bits) vs middle
    pub came : Came tree Is eq default Ran in_order bits vs
    pub added : AddOf ws a
    pub takes : Takes (asking_on middle []) NoParts qs NoRows a (asking_on after [])
    pub same : fields ≡ vs ++ ws
    pub asks : after.frame.asks ≡ []

  ran_all : (lent : State) (bits : List Bool) (fields : List V) (after : State) → lent.frame.asks ≡ [] → RanInTurn Ran lent (set_calls table more bits) fields after → Ran_all lent bits fields after
  ran_all lent bits fields after none r =
      let k = ran_split Ran lent (root_calls in_order bits) (addition_calls (length table) more) fields after r in
      let stays : k.middle.frame.asks ≡ [] = ap (λ (z : Frame). z.asks) (frame_stays tree Is eq default Ran in_order bits lent k.middle k.first laws_in_order k.ran) ∙ none in
      let (a, added, takes, asks) = adds.takes k.middle after k.second k.more stays in
      record { vs = k.first; middle = k.middle; ws = k.second; a = a; ran = k.ran; came = came tree Is eq default Ran in_order bits lent k.middle k.first laws_in_order k.ran; added = added; takes = takes; same = k.same; asks = asks }

  to_read : (old : State) (v : A) (new : State) → SetRead Ran Makes extensible table more old v new → SequenceRead (ReadsParts ps qs roots additions) extensible in_order more old v new
  to_read old v new k =
      let o = set_lends old extensible table more k.lent k.bits k.opened in
      let r = ran_all k.lent k.bits k.fields k.after o.1 k.ran in
      let m = (makes k.bits r.vs r.ws r.a (Ok v) r.came r.added (subst (λ (z : List V). Makes z (Ok v)) r.same k.made)).0 in
      let takes : Takes (asking_on k.lent (asks_of in_order k.bits)) ps qs (roots v) (additions v) (asking_on k.after []) =
      roots_take tree Is eq default Ran in_order k.bits k.lent r.middle (asking_on k.after []) r.vs qs (additions v) (component v) laws_in_order r.ran m.0 (subst (λ (z : Rows). Takes (asking_on r.middle []) NoParts qs NoRows z (asking_on k.after [])) (sym m.1) r.takes) in
      record {
        lent = asking_on k.lent (asks_of in_order k.bits);
        opened = o.0;
        after = asking_on k.after [];
        ran = record { read = takes; stops = record { mode = tt; none = tt } };
        rest = k.rest;
        closed = closed_on k.after r.asks ∙ k.closed;
        left = k.left;
        octets = k.octets;
      }

  -- the mode is lent on, and a call that refuses names it
  lent_mode : (old lent : State) (bits : List Bool) → set_opened_at old extensible table more ≡ Ok (lent, bits) → lent.codec ≡ old.codec
  lent_mode old lent bits x = opened_mode old extensible in_order more (asking_on lent (asks_of in_order bits)) (set_lends old extensible table more lent bits x).0

  stopped_mode : (lent : State) (bits : List Bool) (e : DecodeError) → RefusedInTurn Ran lent (set_calls table more bits) e → e.codec ≡ lent.codec
  stopped_mode lent bits e r = go (refused_split Ran lent (root_calls in_order bits) (addition_calls (length table) more) e r)
    where
      go : RefusedInTurn Ran lent (root_calls in_order bits) e ⊎ ((vs : List V) × (t : State) × RanInTurn Ran lent (root_calls in_order bits) vs t × RefusedInTurn Ran t (addition_calls (length table) more) e) → e.codec ≡ lent.codec
      go (inl q) = roots_mode tree Is eq default Ran e in_order bits lent laws_in_order q
      go (inr (vs, t, ran, q)) = adds.mode t e q ∙ ap (λ (z : State). z.codec) (stays tree Is eq default Ran in_order bits lent t vs laws_in_order ran)

  -- where the rows don't come, the closure of a sequence may refuse
  stop_at : (old : State) (e : DecodeError) (lent : State) (bits : List Bool) → opened_at old extensible in_order more ≡ Ok (asking_on lent (asks_of in_order bits)) → e.codec ≡ lent.codec → ((IsForMemory e → ⊥) → NoneCome (asking_on lent (asks_of in_order bits)) ps qs) → SequenceRefused (ReadsParts ps qs roots additions) extensible in_order more old e
  stop_at old e lent bits o mode none = SequenceStopped (asking_on lent (asks_of in_order bits)) (asking_on lent (asks_of in_order bits)) o (record { read = tt; stops = record { mode = mode; none = none } })

  to_refused : (old : State) (e : DecodeError) → (IsForMemory e → ⊥) → SetRefused Ran Makes extensible table more old e → SequenceRefused (ReadsParts ps qs roots additions) extensible in_order more old e
  to_refused old e not_memory (NotOpened x codec) = SequenceNotOpened (set_not_opened old extensible table more e.kind x) codec
  to_refused old e not_memory (Stopped lent bits x r) =
      let o = set_lends old extensible table more lent bits x in
      stop_at old e lent bits o.0 (stopped_mode lent bits e r) (λ m. roots_refuse tree Is eq default Ran qs e in_order bits lent laws_in_order (go o.1 m (refused_split Ran lent (root_calls in_order bits) (addition_calls (length table) more) e r)) m)
    where
      go : lent.frame.asks ≡ [] → (IsForMemory e → ⊥) → RefusedInTurn Ran lent (root_calls in_order bits) e ⊎ ((vs : List V) × (t : State) × RanInTurn Ran lent (root_calls in_order bits) vs t × RefusedInTurn Ran t (addition_calls (length table) more) e)
          → Ends tree Is eq default Ran qs e lent (root_calls in_order bits)
      go none m (inl q) = ends_front tree Is eq default Ran qs e lent (root_calls in_order bits) q
      go none m (inr (vs, t, ran, q)) =
          ends_behind tree Is eq default Ran qs e lent (root_calls in_order bits) vs t ran
          (adds.stops t e q m (ap (λ (z : Frame). z.asks) (frame_stays tree Is eq default Ran in_order bits lent t vs laws_in_order ran) ∙ none))
  to_refused old e not_memory (NotClosed lent bits fields after x ran closed codec) =
      let o = set_lends old extensible table more lent bits x in
      let r = ran_all lent bits fields after o.1 ran in
      stop_at old e lent bits o.0 (codec ∙ sym (lent_mode old lent bits x))
      (λ m. roots_refuse tree Is eq default Ran qs e in_order bits lent laws_in_order
      (ends_behind tree Is eq default Ran qs e lent (root_calls in_order bits) r.vs r.middle r.ran
      (λ q a rest f g c. not_both (closed_at after) rest e.kind (sym (closed_on after r.asks) ∙ comes_closed (asking_on after []) rest (r.takes.complete q a rest f g c)) closed)) m)
  to_refused old e not_memory (NotMade lent bits fields after rest x ran closed made) =
      let o = set_lends old extensible table more lent bits x in
      let r = ran_all lent bits fields after o.1 ran in
      absurd (not_memory (makes bits r.vs r.ws r.a (Err e) r.came r.added (subst (λ (z : List V). Makes z (Err e)) r.same made)).1.0)
  to_refused old e not_memory (NoMemory _ _ _ _ m) = absurd (not_memory m.0)

  refused_mode : (old : State) (e : DecodeError) → old.codec ≡ codec → SetRefused Ran Makes extensible table more old e → e.codec ≡ old.codec
  refused_mode old e same (NotOpened _ mode) = mode
  refused_mode old e same (Stopped lent bits x r) = stopped_mode lent bits e r ∙ lent_mode old lent bits x
  refused_mode old e same (NotClosed _ _ _ _ _ _ _ mode) = mode
  refused_mode old e same (NotMade lent bits fields after rest x ran closed made) =
      let o = set_lends old extensible table more lent bits x in
      let r = ran_all lent bits fields after o.1 ran in
      (makes bits r.vs r.ws r.a (Err e) r.came r.added (subst (λ (z : List V). Makes z (Err e)) r.same made)).1.1 ∙ sym same
  refused_mode old e same (NoMemory _ _ _ _ m) = m.1

  -- ---- a set, and the sequence that has its rows in tag order

  from_sequence : (s : State) (o : Octets) (v : A) → IsEncoding (mode_of s.codec) s.levels o (as_sequence v) → IsEncoding (mode_of s.codec) s.levels o (whole v)
  from_sequence s o v f =
      subst (λ (t : Tree). IsEncoding (mode_of s.codec) s.levels o t) (sym (is v))
      (set_unsorted (mode_of s.codec) s.levels o extensible (rows_from (λ n. tree (default n)) (component v) table) (additions v) (subst (λ (r : Rows). IsEncoding (mode_of s.codec) s.levels o (Struct false extensible r (additions v))) (sym (sorted_from (λ n. tree (default n)) (component v) table)) f))

  to_sequence : (s : State) (o : Octets) (v : A) → IsEncoding (mode_of s.codec) s.levels o (whole v) → IsEncoding (mode_of s.codec) s.levels o (as_sequence v)
  to_sequence s o v f =
      subst (λ (r : Rows). IsEncoding (mode_of s.codec) s.levels o (Struct false extensible r (additions v))) (sorted_from (λ n. tree (default n)) (component v) table)
      (set_sorted (mode_of s.codec) s.levels o extensible (rows_from (λ n. tree (default n)) (component v) table) (additions v) (subst (λ (t : Tree). IsEncoding (mode_of s.codec) s.levels o t) (is v) f))

  fronts : (s : State) (o : Octets) (v : A) → Fronts s o (whole v) → Fronts s o (as_sequence v)
  fronts s o v f = record { rest = f.rest; split = f.split; encoding = to_sequence s o v f.encoding }

  -- what a sequence's law says of the rows in tag order
  sequence : (old : State) (result : Result A DecodeError) (new : State) → IfOk result (λ v. SequenceRead (ReadsParts ps qs roots additions) extensible in_order more old v new) → IfErr result (λ e. SequenceRefused (ReadsParts ps qs roots additions) extensible in_order more old e) → OnErr result (new ≡ old) → Decodes as_sequence IsValue old result new
  sequence old result new read refused same =
      sequence_law ps qs roots additions extensible in_order more (parts_table tree Is default in_order) is_more only as_sequence IsValue (λ v. refl) made
      (λ v i. let f = fits v i in (fits_parts tree Is default (component v) in_order (all_by_tag (Fits tree Is default (component v)) table f.0), f.1)) (ReadsParts ps qs roots additions) (λ s r t k. k) old result new read refused same

  -- a set whose closures read its components, and make it of them, keeps the law of reading
  pub set_law : (old : State) (result : Result A DecodeError) (new : State) → old.codec ≡ codec → IfOk result (λ v. SetRead Ran Makes extensible table more old v new) → IfErr result (λ e. SetRefused Ran Makes extensible table more old e) → OnErr result (new ≡ old) → Decodes whole IsValue old result new
  set_law old (Ok v) new here read refused same =
      let d = (sequence old (Ok v) new (to_read old v new read) tt tt).read in
      record {
        read = record { taken = d.taken; split = d.split; encoding = from_sequence old d.taken v d.encoding; value = d.value; only = λ w o i f. d.only w o i (fronts old o w f); rest = d.rest };
        refused = tt;
      }
  set_law old (Err e) new here read refused same = record {
    read = tt;
    refused = record { same = same; mode = refused_mode old e here refused; none = λ m w o i f. (sequence old (Err e) new tt (to_refused old e m refused) same).refused.none m w o i (fronts old o w f) };
  }
