-- A closure's steps over extension additions, which it asks behind the root components.
use Rattle.std.proofs.Common.{◌≡◌, Bool, true, false, Option, Some, None, List, [], ◌∷◌, ◌++◌, Result, Ok, Err, refl, sym, ap, ◌∙◌, subst, Continue, Break, append_assoc, drop, inl}
use Rattle.std.specs.Prelude.{not}
use Rattle.std.specs.Result.{IfErr, IsErrAnd, result_from_control_flow}
use Rattle.std.proofs.lemmas.List.{append_cancel_left}
use Rattle.asn1_core.specs.Octets.{Octets, AreOctets}
use Rattle.asn1_core.specs.declared.codec.Codec.{Codec}
use Rattle.asn1_core.specs.declared.codec.Codec.TheVariants.{Oer, Coer}
use Rattle.asn1_core.specs.declared.error.DecodeError.{DecodeError}
use Rattle.asn1_core.specs.declared.error.DecodeErrorKind.{DecodeErrorKind}
use Rattle.asn1_core.specs.declared.tag.Tag.{Tag}
use Rattle.oer_spec.specs.Encoding.{IsEncoding, AreItems}
use Rattle.oer_spec.specs.Mode.{mode_of, InStrict}
use Rattle.oer_spec.specs.Places.{Item, needed, present, absent}
use Rattle.oer_spec.specs.Tree.{Tree, Rows, NoRows, Required, Optional, Default, Slot, Absent, Present, present_unless, slot_of}
use Rattle.oer_read.specs.Additions.{addition_at, OpenRead, OpenRefused, Within, LeftOver, Added, AddRefused, NotThere, Inside, Adds}
use Rattle.oer_read.specs.Defaults.{Defaulted, Unset, Set, DefaultRefused, NotRead, SpelledOut, AddsDefault, IsDefault}
use Rattle.oer_read.specs.Law.{IsForMemory}
use Rattle.oer_read.specs.Parts.{Comes, Admits, AreOf, Parts, NoParts, RequiredPart, OptionalPart, DefaultPart, part_places, OnPresent, Takes, NoneCome, Stops, ReadsParts}
use Rattle.oer_read.specs.State.{State}
use Rattle.oer_read.proofs.AdditionRows.{IsRow, IsHeld, IsAskedBy, NextAddition, next_addition, Passes, passes, addition_comes}
use Rattle.oer_read.proofs.Marked.{OptionalItem, DefaultItem, optional_items, cons_optional, item_marks, default_items, cons_default, default_marks, absent_item, present_item}
use Rattle.oer_read.proofs.DefaultSteps.{default_slot, slot_fits, slot_differs, set_before_item, spelled_value, not_spelled}
use Rattle.oer_read.proofs.Steps.{at_ok, at_err}

-- ---- rows

optional_row : (s : State) (g : Tag) (sl : Slot) → IsRow (mode_of s.codec) s.levels g false (λ a. Optional g sl a) (OptionalItem s g sl)
optional_row s g sl = record {
  first = λ a is h. optional_items (mode_of s.codec) s.levels g sl a is h;
  again = λ a i is p h. cons_optional (mode_of s.codec) s.levels g sl a i is p h;
  tag = λ i p. (item_marks (mode_of s.codec) s.levels g i sl p).1;
  marked = λ i p. ap not (item_marks (mode_of s.codec) s.levels g i sl p).0;
}

-- what a required row's item is
RequiredItem : State → Tag → Tree → Item → Type 0
RequiredItem s g t i = (i ≡ needed g i.octets) × IsEncoding (mode_of s.codec) s.levels i.octets t

required_row : (s : State) (g : Tag) (t : Tree) → IsRow (mode_of s.codec) s.levels g true (λ a. Required g t a) (RequiredItem s g t)
unfolding RequiredItem IsEncoding
required_row s g t = record {
  first = λ a is h. first a is h;
  again = λ a i is p h. again a i is p h;
  tag = λ i p. ap (λ (z : Item). z.tag) p.0;
  marked = λ i p. ap (λ (z : Item). not z.marked) p.0;
}
  where
    first : (a : Rows) (is : List Item) → AreItems (mode_of s.codec) s.levels is (Required g t a) → (i : Item) × (js : List Item) × (is ≡ i ∷ js) × ((i ≡ needed g i.octets) × IsEncoding (mode_of s.codec) s.levels i.octets t) × AreItems (mode_of s.codec) s.levels js a
    first a [] h = absurd h
    first a (i ∷ is) h = (i, is, refl, (h.0, h.1), h.2)

    again : (a : Rows) (i : Item) (is : List Item) → (i ≡ needed g i.octets) × IsEncoding (mode_of s.codec) s.levels i.octets t → AreItems (mode_of s.codec) s.levels is a → AreItems (mode_of s.codec) s.levels (i ∷ is) (Required g t a)
    again a i is p h = (p.0, p.1, h)

-- an answer is one
next_same : (s u v : State) (q : Option Tag) (x y : Option Octets) → addition_at s q ≡ Ok (x, u) → addition_at s q ≡ Ok (y, v) → (x ≡ y) × (u ≡ v)
next_same s u v q x y e f = go (sym e ∙ f)
  where
    go : ◌≡◌ {A = Result (Option Octets × State) DecodeErrorKind} (Ok (x, u)) (Ok (y, v)) → (x ≡ y) × (u ≡ v)
    go z =
        let p : ◌≡◌ {A = Option Octets × State} (x, u) (y, v) = cc z in
        (ap (λ (w : Option Octets × State). w.0) p, ap (λ (w : Option Octets × State). w.1) p)

not_both : {X : Type 0} (r : Result X DecodeErrorKind) (x : X) (k : DecodeErrorKind) → r ≡ Ok x → r ≡ Err k → ⊥
not_both {X} r x k e f = go (sym e ∙ f)
  where
    go : ◌≡◌ {A = Result X DecodeErrorKind} (Ok x) (Err k) → ⊥
    go h = cc h

strictly : (c : Codec) {P : Type 0} → (c ≡ Coer → P) → InStrict (mode_of c) P
strictly Oer h = tt
strictly Coer h = h refl

strict_at : (c : Codec) {P : Type 0} → c ≡ Coer → InStrict (mode_of c) P → P
strict_at Oer e h = absurd (cc e)
strict_at Coer e h = h

module _ {B : Type 0} (tree : B → Tree) (IsPart : B → Type 0) (Says : State → Result B DecodeError → State → Type 0) where
  -- an item whose bit is set spells a value of the part
  SpellsPart : State → Item → Type 0
  SpellsPart s i = i.bit ≡ true → (w : B) × IsPart w × IsEncoding (mode_of s.codec) s.levels i.octets (tree w)

  -- rows of that part first give an item of it, and then come rows of the others
  record Splits (s : State) (q : Option Tag) (qs : Parts) (rest : Octets) : Type 0 where
    pub more : Rows
    pub fit : AreOf qs more
    pub next : NextAddition s q more rest (SpellsPart s)

  split_by : (s : State) (q : Option Tag) (qs : Parts) (a : Rows) (rest : Octets) (P : Item → Type 0) → AreOf qs a → ((i : Item) → P i → SpellsPart s i) → NextAddition s q a rest P → Splits s q qs rest
  split_by s q qs a rest P f to n = record { more = a; fit = f; next = record { item = n.item; holds = to n.item n.holds; content = n.content; held = n.held; behind = n.behind; next = n.next; comes = n.comes } }

  AreSplit : State → Option Tag → Parts → Parts → Type 0
  AreSplit s q part qs = (a : Rows) (rest : Octets) → AreOf part a → Comes s NoRows a rest → Splits s q qs rest

  -- ---- what comes behind a row

  -- the mode stays, and a refusal names it
  next_mode : (s u : State) (q : Option Tag) (x : Option Octets) → AreOctets s.input → addition_at s q ≡ Ok (x, u) → u.codec ≡ s.codec
  next_mode s u q x octets e = let p : Passes s u x = passes s u q x octets e in ap (λ (z : State). z.codec) p.is

  open_mode : (s : State) (content : Octets) (e : DecodeError) → OpenRefused tree IsPart Says s content e → e.codec ≡ s.codec
  open_mode s content e (Within _ _ mode _) = mode
  open_mode s content e (LeftOver _ _ _ _ _ _ is) = ap (λ (z : DecodeError). z.codec) is

  pub addition_mode : (s : State) (q : Option Tag) (e : DecodeError) → AddRefused tree IsPart Says s q e → e.codec ≡ s.codec
  addition_mode s q e (NotThere _ mode) = mode
  addition_mode s q e (Inside content _ _ r) = open_mode s content e r

  behind_row : (s u : State) (q : Option Tag) (x : Option Octets) (part qs : Parts) (t : State) → AreSplit s q part qs → addition_at s q ≡ Ok (x, u)
      → ((r a : Rows) (rest : Octets) → AreOf NoParts r → AreOf qs a → Comes u r a rest → Comes t NoRows NoRows rest)
      → (r a : Rows) (rest : Octets) → AreOf NoParts r → AreOf part a → Comes s r a rest → Comes t NoRows NoRows rest
  unfolding AreSplit
  behind_row s u q x part qs t split next k NoRows a rest f f' c =
      let n = split a rest f' c in
      k NoRows n.more rest tt n.fit (subst (λ (z : State). Comes z NoRows n.more rest) (next_same s n.next.behind u q n.next.content x n.next.next next).1 n.next.comes)
  behind_row s u q x part qs t split next k (Required _ _ _) a rest f f' c = absurd f
  behind_row s u q x part qs t split next k (Optional _ _ _) a rest f f' c = absurd f
  behind_row s u q x part qs t split next k (Default _ _ _ _) a rest f f' c = absurd f

  passed_refuses : (s u : State) (q : Option Tag) (x : Option Octets) (part qs : Parts) → AreSplit s q part qs → addition_at s q ≡ Ok (x, u) → NoneCome u NoParts qs → NoneCome s NoParts part
  unfolding AreSplit
  passed_refuses s u q x part qs split next k NoRows a rest f f' c =
      let n = split a rest f' c in
      k NoRows n.more rest tt n.fit (subst (λ (z : State). Comes z NoRows n.more rest) (next_same s n.next.behind u q n.next.content x n.next.next next).1 n.next.comes)
  passed_refuses s u q x part qs split next k (Required _ _ _) a rest f f' c = absurd f
  passed_refuses s u q x part qs split next k (Optional _ _ _) a rest f f' c = absurd f
  passed_refuses s u q x part qs split next k (Default _ _ _ _) a rest f f' c = absurd f

  open_refused : (s : State) (content : Octets) (e : DecodeError) (i : Item) → OpenRefused tree IsPart Says s content e → (IsForMemory e → ⊥) → SpellsPart s i → IsHeld (mode_of s.codec) i (Some content) → ⊥
  unfolding SpellsPart
  open_refused s content e i (Within _ _ _ n) m spells (bit, left, split, strict) =
      let (w, is, f) = spells bit in
      n m w i.octets is (record { rest = left; split = split; encoding = f })
  open_refused s content e i (LeftOver v after reads _ some coer _) m spells (bit, left, split, strict) =
      let (w, is, f) = spells bit in
      let same : i.octets ≡ reads.taken = reads.only w i.octets is (record { rest = left; split = split; encoding = f }) in
      let rest : left ≡ after.input = append_cancel_left reads.taken left after.input (ap (λ (l : Octets). l ++ left) (sym same) ∙ sym split ∙ reads.split) in
      some (sym rest ∙ strict_at s.codec coer strict)

  refused_next : (s : State) (q : Option Tag) (e : DecodeError) (a : Rows) (rest : Octets) → AddRefused tree IsPart Says s q e → (IsForMemory e → ⊥) → NextAddition s q a rest (SpellsPart s) → ⊥
  refused_next s q e a rest (NotThere x _) m n = not_both (addition_at s q) (n.content, n.behind) e.kind n.next x
  refused_next s q e a rest (Inside content t next r) m n =
      let same : n.content ≡ Some content = (next_same s n.behind t q n.content (Some content) n.next next).0 in
      open_refused s content e n.item r m n.holds (subst (IsHeld (mode_of s.codec) n.item) same n.held)

  refused_refuses : (s : State) (q : Option Tag) (e : DecodeError) (part qs : Parts) → AreSplit s q part qs → AddRefused tree IsPart Says s q e → (IsForMemory e → ⊥) → NoneCome s NoParts part
  unfolding AreSplit
  refused_refuses s q e part qs split d m NoRows a rest f f' c = let n = split a rest f' c in refused_next s q e n.more rest d m n.next
  refused_refuses s q e part qs split d m (Required _ _ _) a rest f f' c = absurd f
  refused_refuses s q e part qs split d m (Optional _ _ _) a rest f f' c = absurd f
  refused_refuses s q e part qs split d m (Default _ _ _ _) a rest f f' c = absurd f

  -- ---- rows of each sort of part

  asked_as : (q : Option Tag) (g h : Tag) → h ≡ g → IsAskedBy q g → IsAskedBy q h
  asked_as None g h e a = tt
  asked_as (Some k) g h e a = a ∙ sym e

  slot_spells : (s : State) (g : Tag) (sl : Slot) (i : Item) → OnPresent (Admits tree IsPart) sl → OptionalItem s g sl i → SpellsPart s i
  unfolding SpellsPart IsEncoding
  slot_spells s g Absent i p f b = absurd (cc (ap (λ (z : Item). z.bit) f, b))
  slot_spells s g (Present t) i p f b = (p.value, p.is_value, subst (λ (z : Tree). IsEncoding (mode_of s.codec) s.levels i.octets z) p.is f.1)

  optional_split : (s : State) (q : Option Tag) (g : Tag) (qs : Parts) → IsAskedBy q g → AreSplit s q (OptionalPart g (Admits tree IsPart) qs) qs
  unfolding AreSplit
  optional_split s q g qs asked (Optional h sl a) rest (e, p, f) c =
      split_by s q qs a rest (OptionalItem s h sl) f (λ i x. slot_spells s h sl i p x) (next_addition s h false (λ a. Optional h sl a) (OptionalItem s h sl) q a rest (optional_row s h sl) (asked_as q g h e asked) c)
  optional_split s q g qs asked NoRows rest f c = absurd f
  optional_split s q g qs asked (Required _ _ _) rest f c = absurd f
  optional_split s q g qs asked (Default _ _ _ _) rest f c = absurd f

  required_spells : (s : State) (g : Tag) (t : Tree) (i : Item) → Admits tree IsPart t → RequiredItem s g t i → SpellsPart s i
  unfolding SpellsPart RequiredItem
  required_spells s g t i p f b = (p.value, p.is_value, subst (λ (z : Tree). IsEncoding (mode_of s.codec) s.levels i.octets z) p.is f.1)

  required_split : (s : State) (q : Option Tag) (g : Tag) (qs : Parts) → IsAskedBy q g → AreSplit s q (RequiredPart g (Admits tree IsPart) qs) qs
  unfolding AreSplit
  required_split s q g qs asked (Required h t a) rest (e, p, f) c =
      split_by s q qs a rest (RequiredItem s h t) f (λ i x. required_spells s h t i p x) (next_addition s h true (λ a. Required h t a) (RequiredItem s h t) q a rest (required_row s h t) (asked_as q g h e asked) c)
  required_split s q g qs asked NoRows rest f c = absurd f
  required_split s q g qs asked (Optional _ _ _) rest f c = absurd f
  required_split s q g qs asked (Default _ _ _ _) rest f c = absurd f

  -- rows of a required part have its bit set
  required_present : (s u : State) (q : Option Tag) (g : Tag) (qs : Parts) → IsAskedBy q g → addition_at s q ≡ Ok (None, u) → NoneCome s NoParts (RequiredPart g (Admits tree IsPart) qs)
  unfolding RequiredItem
  required_present s u q g qs asked next NoRows (Required h t a) rest f (e, p, f') c =
      let n = next_addition s h true (λ a. Required h t a) (RequiredItem s h t) q a rest (required_row s h t) (asked_as q g h e asked) c in
      let none : n.content ≡ None = (next_same s n.behind u q n.content None n.next next).0 in
      let unset : n.item.bit ≡ false = subst (IsHeld (mode_of s.codec) n.item) none n.held in
      absurd (cc (ap (λ (z : Item). z.bit) n.holds.0, unset))
  required_present s u q g qs asked next NoRows NoRows rest f f' c = absurd f'
  required_present s u q g qs asked next NoRows (Optional _ _ _) rest f f' c = absurd f'
  required_present s u q g qs asked next NoRows (Default _ _ _ _) rest f f' c = absurd f'
  required_present s u q g qs asked next (Required _ _ _) a rest f f' c = absurd f
  required_present s u q g qs asked next (Optional _ _ _) a rest f f' c = absurd f
  required_present s u q g qs asked next (Default _ _ _ _) a rest f f' c = absurd f

  -- ---- an addition that was read

  -- the item that it gives, which stands there
  record Gave (s u : State) (q : Option Tag) (P : Item → Type 0) : Type 0 where
    pub content : Option Octets
    pub next : addition_at s q ≡ Ok (content, u)
    pub item : Item
    pub holds : P item
    pub held : IsHeld (mode_of s.codec) item content

  open_held : (s : State) (content : Octets) (v : B) (i : Item) → (o : OpenRead tree IsPart Says s content v) → i.bit ≡ true → i.octets ≡ o.reads.taken → IsHeld (mode_of s.codec) i (Some content)
  open_held s content v i o b e = (b, o.after.input, o.reads.split ∙ ap (λ (l : Octets). l ++ o.after.input) (sym e), strictly s.codec o.whole)

  optional_gave : (s u : State) (q : Option Tag) (g : Tag) (o : Option B) → Added tree IsPart Says s q o u → Gave s u q (OptionalItem s g (slot_of tree o))
  optional_gave s u q g None d = record { content = None; next = d.next; item = absent g; holds = absent_item s g; held = refl }
  optional_gave s u q g (Some v) d = record {
    content = Some d.content;
    next = d.next;
    item = present g d.open_type.reads.taken;
    holds = present_item s g (tree v) d.open_type.reads.taken d.open_type.reads.encoding;
    held = open_held s d.content v (present g d.open_type.reads.taken) d.open_type refl refl;
  }

  required_gave : (s u : State) (q : Option Tag) (g : Tag) (v : B) → Added tree IsPart Says s q (Some v) u → Gave s u q (RequiredItem s g (tree v))
  unfolding RequiredItem
  required_gave s u q g v d = record {
    content = Some d.content;
    next = d.next;
    item = needed g d.open_type.reads.taken;
    holds = (refl, d.open_type.reads.encoding);
    held = open_held s d.content v (needed g d.open_type.reads.taken) d.open_type refl refl;
  }

  added_fits : (s u : State) (q : Option Tag) (o : Option B) → Added tree IsPart Says s q o u → OnPresent (Admits tree IsPart) (slot_of tree o)
  added_fits s u q None d = tt
  added_fits s u q (Some v) d = record { value = v; is_value = d.open_type.reads.value; is = refl }

  -- from what is read behind the row to what is read from it on
  row_takes : (s u t : State) (q : Option Tag) (g : Tag) (n : Bool) (part qs : Parts) (row : Rows → Rows) (P : Item → Type 0) (a : Rows) → AreOctets s.input → IsRow (mode_of s.codec) s.levels g n row P → part_places part ≡ record { tag = g; needed = n } ∷ part_places qs
      → Gave s u q P → AreSplit s q part qs → (AreOf qs a → AreOf part (row a)) → Takes u NoParts qs NoRows a t → Takes s NoParts part NoRows (row a) t
  row_takes s u t q g n part qs row P a octets is_row places gave split fits k =
      let p : Passes s u gave.content = passes s u q gave.content octets gave.next in
      record {
        fits = tt;
        more_fit = fits k.more_fit;
        rear = record { front = p.front ++ k.rear.front; split = p.split ∙ ap (λ (l : Octets). p.front ++ l) k.rear.split ∙ sym (append_assoc p.front k.rear.front t.input) };
        sound = λ placed rest c.
            let here : s.frame.additions ≡ record { tag = g; needed = n } ∷ part_places qs = placed ∙ places in
            addition_comes s u gave.content g n row P a rest gave.item (part_places qs) is_row p gave.holds gave.held here (k.sound (ap (λ (z : State). z.frame.additions) p.is ∙ ap (drop 1) here) rest c);
        complete = behind_row s u q gave.content part qs t split gave.next k.complete;
      }

  -- ---- an optional addition

  pub addition_read : (s u t : State) (answer : Result (Option B) DecodeError) (flow : _) (o : Option B) (q : Option Tag) (g : Tag) (sl : Slot) (qs : Parts) (a : Rows)
      → Adds tree IsPart Says s q answer u → answer ≡ result_from_control_flow flow → flow ≡ Continue o → IsAskedBy q g → sl ≡ slot_of tree o → Takes u NoParts qs NoRows a t
      → Takes s NoParts (OptionalPart g (Admits tree IsPart) qs) NoRows (Optional g sl a) t
  addition_read s u t answer flow o q g sl qs a d e f asked i k =
      let added = at_ok (λ o. Added tree IsPart Says s q o u) answer flow o e f d.read in
      subst (λ (z : Slot). Takes s NoParts (OptionalPart g (Admits tree IsPart) qs) NoRows (Optional g z a) t) (sym i)
      (row_takes s u t q g false (OptionalPart g (Admits tree IsPart) qs) qs (λ a. Optional g (slot_of tree o) a) (OptionalItem s g (slot_of tree o)) a d.octets (optional_row s g (slot_of tree o)) refl
      (optional_gave s u q g o added) (optional_split s q g qs asked) (λ x. (refl, added_fits s u q o added, x)) k)

  added_next : (s u : State) (q : Option Tag) (o : Option B) → Added tree IsPart Says s q o u → (x : Option Octets) × (addition_at s q ≡ Ok (x, u))
  added_next s u q None d = (None, d.next)
  added_next s u q (Some v) d = (Some d.content, d.next)

  pub addition_passed : {A : Type 0} (s u : State) (answer : Result (Option B) DecodeError) (flow : _) (o : Option B) (q : Option Tag) (g : Tag) (qs : Parts) (result : Result A DecodeError)
      → Adds tree IsPart Says s q answer u → answer ≡ result_from_control_flow flow → flow ≡ Continue o → IsAskedBy q g → Stops u NoParts qs result
      → Stops s NoParts (OptionalPart g (Admits tree IsPart) qs) result
  addition_passed s u answer flow o q g qs (Ok w) d e f asked k = record { mode = tt; none = tt }
  addition_passed s u answer flow o q g qs (Err x) d e f asked k =
      let n = added_next s u q o (at_ok (λ o. Added tree IsPart Says s q o u) answer flow o e f d.read) in
      record { mode = k.mode ∙ next_mode s u q n.0 d.octets n.1; none = λ m. passed_refuses s u q n.0 (OptionalPart g (Admits tree IsPart) qs) qs (optional_split s q g qs asked) n.1 (k.none m) }

  pub addition_stops : {A : Type 0} (Q : DecodeError → Type 0) (s u : State) (answer : Result (Option B) DecodeError) (flow : _) (x : _) (q : Option Tag) (g : Tag) (qs : Parts) (result : Result A DecodeError)
      → Adds tree IsPart Says s q answer u → answer ≡ result_from_control_flow flow → flow ≡ Break x → IsAskedBy q g → IsErrAnd result Q → ((y : DecodeError) → Q y → y ≡ x.0)
      → Stops s NoParts (OptionalPart g (Admits tree IsPart) qs) result
  addition_stops Q s u answer flow x q g qs (Ok w) d e f asked h k = absurd h
  addition_stops Q s u answer flow x q g qs (Err y) d e f asked h k =
      let n : AddRefused tree IsPart Says s q x.0 = at_err (λ y. AddRefused tree IsPart Says s q y) answer flow x e f d.refused in
      record { mode = ap (λ (w : DecodeError). w.codec) (k y h) ∙ addition_mode s q x.0 n; none = λ m. refused_refuses s q x.0 (OptionalPart g (Admits tree IsPart) qs) qs (optional_split s q g qs asked) n (λ z. m (ap (λ (w : DecodeError). w.kind) (k y h) ∙ z)) }

  -- ---- a required addition

  pub required_addition_read : (s u t : State) (answer : Result (Option B) DecodeError) (flow : _) (o : Option B) (v : B) (q : Option Tag) (g : Tag) (w : Tree) (qs : Parts) (a : Rows)
      → Adds tree IsPart Says s q answer u → answer ≡ result_from_control_flow flow → flow ≡ Continue o → o ≡ Some v → IsAskedBy q g → w ≡ tree v → Takes u NoParts qs NoRows a t
      → Takes s NoParts (RequiredPart g (Admits tree IsPart) qs) NoRows (Required g w a) t
  required_addition_read s u t answer flow o v q g w qs a d e f some asked i k =
      let added : Added tree IsPart Says s q (Some v) u = subst (λ (z : Option B). Added tree IsPart Says s q z u) some (at_ok (λ o. Added tree IsPart Says s q o u) answer flow o e f d.read) in
      subst (λ (z : Tree). Takes s NoParts (RequiredPart g (Admits tree IsPart) qs) NoRows (Required g z a) t) (sym i)
      (row_takes s u t q g true (RequiredPart g (Admits tree IsPart) qs) qs (λ a. Required g (tree v) a) (RequiredItem s g (tree v)) a d.octets (required_row s g (tree v)) refl
      (required_gave s u q g v added) (required_split s q g qs asked) (λ x. (refl, record { value = v; is_value = added.open_type.reads.value; is = refl }, x)) k)

  pub required_addition_passed : {A : Type 0} (s u : State) (answer : Result (Option B) DecodeError) (flow : _) (o : Option B) (q : Option Tag) (g : Tag) (qs : Parts) (result : Result A DecodeError)
      → Adds tree IsPart Says s q answer u → answer ≡ result_from_control_flow flow → flow ≡ Continue o → IsAskedBy q g → Stops u NoParts qs result
      → Stops s NoParts (RequiredPart g (Admits tree IsPart) qs) result
  required_addition_passed s u answer flow o q g qs (Ok w) d e f asked k = record { mode = tt; none = tt }
  required_addition_passed s u answer flow o q g qs (Err x) d e f asked k =
      let n = added_next s u q o (at_ok (λ o. Added tree IsPart Says s q o u) answer flow o e f d.read) in
      record { mode = k.mode ∙ next_mode s u q n.0 d.octets n.1; none = λ m. passed_refuses s u q n.0 (RequiredPart g (Admits tree IsPart) qs) qs (required_split s q g qs asked) n.1 (k.none m) }

  -- a closure that finds none may answer any error in the mode read in: the bit of a required addition is set in what comes
  pub required_addition_absent : {A : Type 0} (s u : State) (answer : Result (Option B) DecodeError) (flow : _) (o : Option B) (q : Option Tag) (g : Tag) (qs : Parts) (result : Result A DecodeError)
      → Adds tree IsPart Says s q answer u → answer ≡ result_from_control_flow flow → flow ≡ Continue o → o ≡ None → IsAskedBy q g → IfErr result (λ e. e.codec ≡ u.codec)
      → Stops s NoParts (RequiredPart g (Admits tree IsPart) qs) result
  required_addition_absent s u answer flow o q g qs (Ok w) d e f none asked mode = record { mode = tt; none = tt }
  required_addition_absent s u answer flow o q g qs (Err x) d e f none asked mode =
      let added : Added tree IsPart Says s q None u = subst (λ (z : Option B). Added tree IsPart Says s q z u) none (at_ok (λ o. Added tree IsPart Says s q o u) answer flow o e f d.read) in
      record { mode = mode ∙ next_mode s u q None d.octets added.next; none = λ m. required_present s u q g qs asked added.next }

  pub required_addition_stops : {A : Type 0} (Q : DecodeError → Type 0) (s u : State) (answer : Result (Option B) DecodeError) (flow : _) (x : _) (q : Option Tag) (g : Tag) (qs : Parts) (result : Result A DecodeError)
      → Adds tree IsPart Says s q answer u → answer ≡ result_from_control_flow flow → flow ≡ Break x → IsAskedBy q g → IsErrAnd result Q → ((y : DecodeError) → Q y → y ≡ x.0)
      → Stops s NoParts (RequiredPart g (Admits tree IsPart) qs) result
  required_addition_stops Q s u answer flow x q g qs (Ok w) d e f asked h k = absurd h
  required_addition_stops Q s u answer flow x q g qs (Err y) d e f asked h k =
      let n : AddRefused tree IsPart Says s q x.0 = at_err (λ y. AddRefused tree IsPart Says s q y) answer flow x e f d.refused in
      record { mode = ap (λ (w : DecodeError). w.codec) (k y h) ∙ addition_mode s q x.0 n; none = λ m. refused_refuses s q x.0 (RequiredPart g (Admits tree IsPart) qs) qs (required_split s q g qs asked) n (λ z. m (ap (λ (w : DecodeError). w.kind) (k y h) ∙ z)) }

-- ---- an addition with a default
module _ {B : Type 0} (tree : B → Tree) (IsPart : B → Type 0) (Says : State → Result B DecodeError → State → Type 0) (eq : B → B → Bool) (def : B) (known : IsDefault tree IsPart eq def) where
  default_row : (s : State) (g : Tag) (w : Tree) (sl : Slot) → IsRow (mode_of s.codec) s.levels g false (λ a. Default g w sl a) (DefaultItem s g w sl)
  default_row s g w sl = record {
    first = λ a is h. default_items (mode_of s.codec) s.levels g w sl a is h;
    again = λ a i is p h. cons_default (mode_of s.codec) s.levels g w sl a i is p h;
    tag = λ i p. (default_marks (mode_of s.codec) s.levels g w i sl p).1;
    marked = λ i p. ap not (default_marks (mode_of s.codec) s.levels g w i sl p).0;
  }

  -- the part
  abbrev ThePart : Tag → Parts → Parts
  ThePart g qs = DefaultPart g (tree def) (Admits tree IsPart) qs

  default_split : (s : State) (q : Option Tag) (g : Tag) (qs : Parts) → IsAskedBy q g → AreSplit tree IsPart Says s q (ThePart g qs) qs
  unfolding AreSplit SpellsPart
  default_split s q g qs asked (Default h w sl a) rest (e, z, p, x, f) c =
      split_by tree IsPart Says s q qs a rest (DefaultItem s h w sl) f (λ i y b. spelled_value tree IsPart Says eq def known s h w sl i z p y b)
      (next_addition s h false (λ a. Default h w sl a) (DefaultItem s h w sl) q a rest (default_row s h w sl) (asked_as tree IsPart Says q g h e asked) c)
  default_split s q g qs asked NoRows rest f c = absurd f
  default_split s q g qs asked (Required _ _ _) rest f c = absurd f
  default_split s q g qs asked (Optional _ _ _) rest f c = absurd f

  abbrev WasAdded : State → Tag → B → State → Type 0
  WasAdded s k v u = Defaulted eq (Added tree IsPart Says s (Some k)) (AddRefused tree IsPart Says s (Some k)) s def v u

  default_gave : (s u : State) (k g : Tag) (v : B) → WasAdded s k v u → Gave tree IsPart Says s u (Some k) (DefaultItem s g (tree def) (present_unless (eq v def) (tree v)))
  default_gave s u k g v (Unset d e) = record {
    content = None;
    next = d.next;
    item = absent g;
    holds = subst (λ (y : Slot). DefaultItem s g (tree def) y (absent g)) (sym (default_slot tree IsPart Says eq def known v e)) (inl (absent_item s g));
    held = refl;
  }
  default_gave s u k g v (Set d n) = record {
    content = Some d.content;
    next = d.next;
    item = present g d.open_type.reads.taken;
    holds = set_before_item tree IsPart Says eq def known s v g d.open_type.reads.taken (eq v def) refl d.open_type.reads.value n d.open_type.reads.encoding;
    held = open_held tree IsPart Says s d.content v (present g d.open_type.reads.taken) d.open_type refl refl;
  }

  default_value : (s u : State) (k : Tag) (v : B) → WasAdded s k v u → IsPart v
  default_value s u k v (Unset d e) = subst IsPart (sym e) known.value
  default_value s u k v (Set d n) = d.open_type.reads.value

  default_takes : (s u t : State) (k g : Tag) (v : B) (qs : Parts) (a : Rows) → AreOctets s.input → WasAdded s k v u → k ≡ g → Takes u NoParts qs NoRows a t
      → Takes s NoParts (ThePart g qs) NoRows (Default g (tree def) (present_unless (eq v def) (tree v)) a) t
  default_takes s u t k g v qs a octets d asked took =
      let i : IsPart v = default_value s u k v d in
      let sl : Slot = present_unless (eq v def) (tree v) in
      row_takes tree IsPart Says s u t (Some k) g false (ThePart g qs) qs (λ a. Default g (tree def) sl a) (DefaultItem s g (tree def) sl) a octets (default_row s g (tree def) sl) refl
      (default_gave s u k g v d) (default_split s (Some k) g qs asked)
      (λ x. (refl, refl, slot_fits tree IsPart Says eq def known v (eq v def) i, slot_differs tree IsPart Says eq def known v (eq v def) refl i, x)) took

  default_next : (s u : State) (k : Tag) (v : B) → WasAdded s k v u → (x : Option Octets) × (addition_at s (Some k) ≡ Ok (x, u))
  default_next s u k v (Unset d _) = (None, d.next)
  default_next s u k v (Set d _) = (Some d.content, d.next)

  default_mode : (s : State) (k : Tag) (e : DecodeError) → DefaultRefused eq (Added tree IsPart Says s (Some k)) (AddRefused tree IsPart Says s (Some k)) s def e → e.codec ≡ s.codec
  default_mode s k e (NotRead d) = addition_mode tree IsPart Says s (Some k) e d
  default_mode s k e (SpelledOut _ _ _ _ _ is) = ap (λ (z : DecodeError). z.codec) is

  default_refuses : (s : State) (k g : Tag) (e : DecodeError) (qs : Parts) → DefaultRefused eq (Added tree IsPart Says s (Some k)) (AddRefused tree IsPart Says s (Some k)) s def e → k ≡ g → (IsForMemory e → ⊥) → NoneCome s NoParts (ThePart g qs)
  default_refuses s k g e qs (NotRead x) asked m r a rest f f' c = refused_refuses tree IsPart Says s (Some k) e (ThePart g qs) qs (default_split s (Some k) g qs asked) x m r a rest f f' c
  default_refuses s k g e qs (SpelledOut v t d codec equal _) asked m NoRows (Default h w sl a) rest f (q, z, p, x, f') c =
      let n = next_addition s h false (λ a. Default h w sl a) (DefaultItem s h w sl) (Some k) a rest (default_row s h w sl) (asked ∙ sym q) c in
      let same : n.content ≡ Some d.content = (next_same s n.behind t (Some k) n.content (Some d.content) n.next d.next).0 in
      let (bit, left, split, strict) = subst (IsHeld (mode_of s.codec) n.item) same n.held in
      let y = spelled_value tree IsPart Says eq def known s h w sl n.item z p n.holds bit in
      let octets : n.item.octets ≡ d.open_type.reads.taken = d.open_type.reads.only y.0 n.item.octets y.1 (record { rest = left; split = split; encoding = y.2 }) in
      not_spelled tree IsPart Says eq def known s v h w sl d.open_type.reads.taken d.open_type.reads.value d.open_type.reads.encoding codec equal p x n.item n.holds bit octets
  default_refuses s k g e qs (SpelledOut v t d codec equal _) asked m NoRows NoRows rest f f' c = absurd f'
  default_refuses s k g e qs (SpelledOut v t d codec equal _) asked m NoRows (Required _ _ _) rest f f' c = absurd f'
  default_refuses s k g e qs (SpelledOut v t d codec equal _) asked m NoRows (Optional _ _ _) rest f f' c = absurd f'
  default_refuses s k g e qs (SpelledOut v t d codec equal _) asked m (Required _ _ _) a rest f f' c = absurd f
  default_refuses s k g e qs (SpelledOut v t d codec equal _) asked m (Optional _ _ _) a rest f f' c = absurd f
  default_refuses s k g e qs (SpelledOut v t d codec equal _) asked m (Default _ _ _ _) a rest f f' c = absurd f

module _ {B : Type 0} (tree : B → Tree) (IsPart : B → Type 0) (Says : State → Result B DecodeError → State → Type 0) (eq : B → B → Bool) where
  -- the default that was handed in is the row's
  as_handed : (s u : State) (answer : Result B DecodeError) (k : Tag) (def handed : B) → AddsDefault tree IsPart Says eq s k handed answer u → handed ≡ def → AddsDefault tree IsPart Says eq s k def answer u
  as_handed s u answer k def handed d p = subst (λ (z : B). AddsDefault tree IsPart Says eq s k z answer u) p d

  pub default_addition_read : (s u t : State) (answer : Result B DecodeError) (flow : _) (v def handed : B) (k g : Tag) (w : Tree) (sl : Slot) (qs : Parts) (a : Rows)
      → AddsDefault tree IsPart Says eq s k handed answer u → handed ≡ def → answer ≡ result_from_control_flow flow → flow ≡ Continue v → IsDefault tree IsPart eq def → k ≡ g → w ≡ tree def → sl ≡ present_unless (eq v def) (tree v) → Takes u NoParts qs NoRows a t
      → Takes s NoParts (DefaultPart g w (Admits tree IsPart) qs) NoRows (Default g w sl a) t
  default_addition_read s u t answer flow v def handed k g w sl qs a d p e f known asked i j took =
      let was = at_ok (λ v. Defaulted eq (Added tree IsPart Says s (Some k)) (AddRefused tree IsPart Says s (Some k)) s def v u) answer flow v e f (as_handed s u answer k def handed d p).read in
      subst (λ (y : Tree). Takes s NoParts (DefaultPart g y (Admits tree IsPart) qs) NoRows (Default g y sl a) t) (sym i)
      (subst (λ (y : Slot). Takes s NoParts (DefaultPart g (tree def) (Admits tree IsPart) qs) NoRows (Default g (tree def) y a) t) (sym j) (default_takes tree IsPart Says eq def known s u t k g v qs a d.octets was asked took))

  pub default_addition_passed : {A : Type 0} (s u : State) (answer : Result B DecodeError) (flow : _) (v def handed : B) (k g : Tag) (w : Tree) (qs : Parts) (result : Result A DecodeError)
      → AddsDefault tree IsPart Says eq s k handed answer u → handed ≡ def → answer ≡ result_from_control_flow flow → flow ≡ Continue v → IsDefault tree IsPart eq def → k ≡ g → w ≡ tree def → Stops u NoParts qs result
      → Stops s NoParts (DefaultPart g w (Admits tree IsPart) qs) result
  default_addition_passed s u answer flow v def handed k g w qs (Ok x) d p e f known asked i took = record { mode = tt; none = tt }
  default_addition_passed {A} s u answer flow v def handed k g w qs (Err x) d p e f known asked i took =
      let was = at_ok (λ v. Defaulted eq (Added tree IsPart Says s (Some k)) (AddRefused tree IsPart Says s (Some k)) s def v u) answer flow v e f (as_handed s u answer k def handed d p).read in
      let n = default_next tree IsPart Says eq def known s u k v was in
      subst (λ (y : Tree). Stops {A = A} s NoParts (DefaultPart g y (Admits tree IsPart) qs) (Err x)) (sym i)
      (record { mode = took.mode ∙ next_mode tree IsPart Says s u (Some k) n.0 d.octets n.1; none = λ m. passed_refuses tree IsPart Says s u (Some k) n.0 (DefaultPart g (tree def) (Admits tree IsPart) qs) qs (default_split tree IsPart Says eq def known s (Some k) g qs asked) n.1 (took.none m) })

  pub default_addition_stops : {A : Type 0} (Q : DecodeError → Type 0) (s u : State) (answer : Result B DecodeError) (flow : _) (x : _) (def handed : B) (k g : Tag) (w : Tree) (qs : Parts) (result : Result A DecodeError)
      → AddsDefault tree IsPart Says eq s k handed answer u → handed ≡ def → answer ≡ result_from_control_flow flow → flow ≡ Break x → IsDefault tree IsPart eq def → k ≡ g → w ≡ tree def → IsErrAnd result Q → ((y : DecodeError) → Q y → y ≡ x.0)
      → Stops s NoParts (DefaultPart g w (Admits tree IsPart) qs) result
  default_addition_stops Q s u answer flow x def handed k g w qs (Ok z) d p e f known asked i h q = absurd h
  default_addition_stops {A} Q s u answer flow x def handed k g w qs (Err y) d p e f known asked i h q =
      let n : DefaultRefused eq (Added tree IsPart Says s (Some k)) (AddRefused tree IsPart Says s (Some k)) s def x.0 = at_err (λ y. DefaultRefused eq (Added tree IsPart Says s (Some k)) (AddRefused tree IsPart Says s (Some k)) s def y) answer flow x e f (as_handed s u answer k def handed d p).refused in
      subst (λ (z : Tree). Stops {A = A} s NoParts (DefaultPart g z (Admits tree IsPart) qs) (Err y)) (sym i)
      (record { mode = ap (λ (w : DecodeError). w.codec) (q y h) ∙ default_mode tree IsPart Says eq def known s k x.0 n; none = λ m. default_refuses tree IsPart Says eq def known s k g x.0 qs n asked (λ z. m (ap (λ (w : DecodeError). w.kind) (q y h) ∙ z)) })

-- ---- an exit with an error of the closure's own
pub gives_up : {A : Type 0} (ps qs : Parts) (roots additions : A → Rows) (s : State) (e : DecodeError) (t : State) → Stops {A = A} s ps qs (Err e) → ReadsParts ps qs roots additions s (Err e) t
gives_up ps qs roots additions s e t k = record { read = tt; stops = k }
