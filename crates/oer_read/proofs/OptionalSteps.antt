-- A closure's steps over optional components.
use Rattle.std.proofs.Common.{◌≡◌, true, false, Option, Some, None, List, [], ◌∷◌, ◌++◌, Result, Ok, Err, refl, sym, ap, ap₂, ◌∙◌, subst, Continue, Break, append_assoc}
use Rattle.std.specs.Result.{IsErrAnd, result_from_control_flow}
use Rattle.std.proofs.lemmas.List.{append_cancel_left}
use Rattle.asn1_core.specs.Octets.{Octets}
use Rattle.asn1_core.specs.declared.error.DecodeError.{DecodeError}
use Rattle.asn1_core.specs.declared.tag.Tag.{Tag}
use Rattle.oer_spec.specs.Encoding.{IsEncoding}
use Rattle.oer_spec.specs.Mode.{mode_of}
use Rattle.oer_spec.specs.Places.{present, absent}
use Rattle.oer_spec.specs.Tree.{Tree, Rows, NoRows, Required, Optional, Default, Slot, Absent, Present, slot_of}
use Rattle.oer_read.specs.Components.{asking, AskedAbsent, AskedPresent, Asked, AskRefused, NotNext, Inside, Asks}
use Rattle.oer_read.specs.Law.{Fronts, IsForMemory, IsRear}
use Rattle.oer_read.specs.Parts.{Comes, Admits, AreOf, Parts, OptionalPart, OnPresent, Takes, NoneCome, Stops}
use Rattle.oer_read.specs.State.{Ask, State}
use Rattle.oer_read.proofs.Comes.{past}
use Rattle.oer_read.proofs.Marked.{mark_optional, unmark_optional, absent_item, present_item, unset_item, set_item, next_is}
use Rattle.oer_read.proofs.Steps.{at_ok, at_err}

module _ {B : Type 0} (tree : B → Tree) (IsPart : B → Type 0) (Says : State → Result B DecodeError → State → Type 0) where
  -- ---- the next bit is 0
  absent_before : (s u : State) (g : Tag) (r a : Rows) (rest : Octets) → AskedAbsent tree IsPart Says s g u → Comes u r a rest → Comes s (Optional g Absent r) a rest
  absent_before s u g r a rest d c =
      unmark_optional s g Absent r a rest (record {
        item = absent g;
        holds = absent_item s g;
        more = d.more;
        next = d.next;
        after = s.input;
        split = refl;
        comes = subst (λ (z : State). Comes z r a rest) d.left c;
      })

  absent_after : (s u : State) (g h : Tag) (sl : Slot) (r a : Rows) (rest : Octets) → AskedAbsent tree IsPart Says s g u → Comes s (Optional h sl r) a rest → (sl ≡ Absent) × Comes u r a rest
  absent_after s u g h sl r a rest d c =
      let k = mark_optional s h sl r a rest c in
      let n = next_is h g k.item.bit false k.more d.more s.frame.asks k.next d.next in
      let f = unset_item s h sl k.item k.holds n.0 in
      let after : k.after ≡ s.input = sym (k.split ∙ ap (λ (l : Octets). l ++ k.after) f.1) in
      (f.0, subst (λ (z : State). Comes z r a rest) (ap₂ (λ (ks : List Ask) (l : Octets). past (asking s ks) l) n.1 after ∙ sym d.left) k.comes)

  -- ---- the next bit is 1
  present_before : (s u : State) (v : B) (g : Tag) (r a : Rows) (rest : Octets) → AskedPresent tree IsPart Says s g v u → Comes u r a rest → Comes s (Optional g (Present (tree v)) r) a rest
  present_before s u v g r a rest d c =
      unmark_optional s g (Present (tree v)) r a rest (record {
        item = present g d.reads.taken;
        holds = present_item s g (tree v) d.reads.taken d.reads.encoding;
        more = d.more;
        next = d.next;
        after = u.input;
        split = d.reads.split;
        comes = subst (λ (z : State). Comes z r a rest) d.reads.rest c;
      })

  present_after : (s u : State) (v : B) (g h : Tag) (sl : Slot) (r a : Rows) (rest : Octets) → AskedPresent tree IsPart Says s g v u → OnPresent (Admits tree IsPart) sl → Comes s (Optional h sl r) a rest → Comes u r a rest
  present_after s u v g h sl r a rest d p c =
      let k = mark_optional s h sl r a rest c in
      let n = next_is h g k.item.bit true k.more d.more s.frame.asks k.next d.next in
      let (t, e, f) = set_item s h sl k.item k.holds n.0 in
      let q : Admits tree IsPart t = subst (OnPresent (Admits tree IsPart)) e p in
      let front : Fronts (asking s d.more) k.item.octets (tree q.value) = record { rest = k.after; split = k.split; encoding = subst (λ (z : Tree). IsEncoding (mode_of s.codec) s.levels k.item.octets z) q.is f } in
      let same : k.item.octets ≡ d.reads.taken = d.reads.only q.value k.item.octets q.is_value front in
      let after : k.after ≡ u.input = append_cancel_left d.reads.taken k.after u.input (ap (λ (l : Octets). l ++ k.after) (sym same) ∙ sym k.split ∙ d.reads.split) in
      subst (λ (z : State). Comes z r a rest) (ap₂ (λ (ks : List Ask) (l : Octets). past (asking s ks) l) n.1 after ∙ sym d.reads.rest) k.comes

  -- ---- either
  asked_before : (s u : State) (o : Option B) (g : Tag) (r a : Rows) (rest : Octets) → Asked tree IsPart Says s g o u → Comes u r a rest → Comes s (Optional g (slot_of tree o) r) a rest
  asked_before s u None g r a rest d c = absent_before s u g r a rest d c
  asked_before s u (Some v) g r a rest d c = present_before s u v g r a rest d c

  asked_after : (s u : State) (o : Option B) (g h : Tag) (sl : Slot) (r a : Rows) (rest : Octets) → Asked tree IsPart Says s g o u → OnPresent (Admits tree IsPart) sl → Comes s (Optional h sl r) a rest → Comes u r a rest
  asked_after s u None g h sl r a rest d p c = (absent_after s u g h sl r a rest d c).1
  asked_after s u (Some v) g h sl r a rest d p c = present_after s u v g h sl r a rest d p c

  asked_fits : (s u : State) (o : Option B) (g : Tag) → Asked tree IsPart Says s g o u → OnPresent (Admits tree IsPart) (slot_of tree o)
  asked_fits s u None g d = tt
  asked_fits s u (Some v) g d = record { value = v; is_value = d.reads.value; is = refl }

  asked_rear : (s u : State) (o : Option B) (g : Tag) → Asked tree IsPart Says s g o u → IsRear s.input u.input
  asked_rear s u None g d = record { front = []; split = sym (ap (λ (z : State). z.input) d.left) }
  asked_rear s u (Some v) g d = record { front = d.reads.taken; split = d.reads.split }

  asked_places : (s u : State) (o : Option B) (g : Tag) → Asked tree IsPart Says s g o u → u.frame.additions ≡ s.frame.additions
  asked_places s u None g d = ap (λ (z : State). z.frame.additions) d.left
  asked_places s u (Some v) g d = ap (λ (z : State). z.frame.additions) d.reads.rest

  pub asked_takes : (s u t : State) (o : Option B) (g : Tag) (ps qs : Parts) (r a : Rows) → Asked tree IsPart Says s g o u → Takes u ps qs r a t
      → Takes s (OptionalPart g (Admits tree IsPart) ps) qs (Optional g (slot_of tree o) r) a t
  asked_takes s u t o g ps qs r a d k = record {
    fits = (refl, asked_fits s u o g d, k.fits);
    more_fit = k.more_fit;
    rear = let h = asked_rear s u o g d in record { front = h.front ++ k.rear.front; split = h.split ∙ ap (λ (l : Octets). h.front ++ l) k.rear.split ∙ sym (append_assoc h.front k.rear.front t.input) };
    sound = λ p rest c. asked_before s u o g r a rest d (k.sound (asked_places s u o g d ∙ p) rest c);
    complete = complete;
  }
    where
      complete : (r' a' : Rows) (rest : Octets) → AreOf (OptionalPart g (Admits tree IsPart) ps) r' → AreOf qs a' → Comes s r' a' rest → Comes t NoRows NoRows rest
      complete (Optional h sl r') a' rest (e, p, f) f' c = k.complete r' a' rest f f' (asked_after s u o g h sl r' a' rest d p c)
      complete NoRows a' rest f f' c = absurd f
      complete (Required _ _ _) a' rest f f' c = absurd f
      complete (Default _ _ _ _) a' rest f f' c = absurd f

  pub asked_refuses : (s u : State) (o : Option B) (g : Tag) (ps qs : Parts) → Asked tree IsPart Says s g o u → NoneCome u ps qs → NoneCome s (OptionalPart g (Admits tree IsPart) ps) qs
  asked_refuses s u o g ps qs d k (Optional h sl r) a rest (e, p, f) f' c = k r a rest f f' (asked_after s u o g h sl r a rest d p c)
  asked_refuses s u o g ps qs d k NoRows a rest f f' c = absurd f
  asked_refuses s u o g ps qs d k (Required _ _ _) a rest f f' c = absurd f
  asked_refuses s u o g ps qs d k (Default _ _ _ _) a rest f f' c = absurd f

  pub refused_refuses : (s : State) (g : Tag) (e : DecodeError) (ps qs : Parts) → AskRefused tree IsPart Says s g e → (IsForMemory e → ⊥) → NoneCome s (OptionalPart g (Admits tree IsPart) ps) qs
  refused_refuses s g e ps qs (NotNext n _) m (Optional h sl r) a rest (q, p, f) f' c =
      let k = mark_optional s h sl r a rest c in
      n k.item.bit k.more (k.next ∙ ap (λ (z : Tag). record { tag = z; bit = k.item.bit } ∷ k.more) q)
  refused_refuses s g e ps qs (Inside more next _ _ _ n) m (Optional h sl r) a rest (q, p, f) f' c =
      let k = mark_optional s h sl r a rest c in
      let b = next_is h g k.item.bit true k.more more s.frame.asks k.next next in
      let (t, w, enc) = set_item s h sl k.item k.holds b.0 in
      let z : Admits tree IsPart t = subst (OnPresent (Admits tree IsPart)) w p in
      n m z.value k.item.octets z.is_value (record { rest = k.after; split = k.split; encoding = subst (λ (y : Tree). IsEncoding (mode_of s.codec) s.levels k.item.octets y) z.is enc })
  refused_refuses s g e ps qs d m NoRows a rest f f' c = absurd f
  refused_refuses s g e ps qs d m (Required _ _ _) a rest f f' c = absurd f
  refused_refuses s g e ps qs d m (Default _ _ _ _) a rest f f' c = absurd f

  -- ---- the mode stays, and a refusal names it

  pub asked_mode : (s u : State) (o : Option B) (g : Tag) → Asked tree IsPart Says s g o u → u.codec ≡ s.codec
  asked_mode s u None g d = ap (λ (z : State). z.codec) d.left
  asked_mode s u (Some v) g d = ap (λ (z : State). z.codec) d.reads.rest

  pub refused_mode : (s : State) (g : Tag) (e : DecodeError) → AskRefused tree IsPart Says s g e → e.codec ≡ s.codec
  refused_mode s g e (NotNext _ is) = ap (λ (z : DecodeError). z.codec) is
  refused_mode s g e (Inside _ _ _ _ mode _) = mode

  -- ---- an optional component, asked by a tag that is the row's

  as_row : (s u : State) (answer : Result (Option B) DecodeError) (g h : Tag) → Asks tree IsPart Says s h answer u → h ≡ g → Asks tree IsPart Says s g answer u
  as_row s u answer g h d e = subst (λ (z : Tag). Asks tree IsPart Says s z answer u) e d

  pub optional_read : (s u t : State) (answer : Result (Option B) DecodeError) (flow : _) (o : Option B) (g h : Tag) (sl : Slot) (ps qs : Parts) (r a : Rows)
      → Asks tree IsPart Says s h answer u → h ≡ g → answer ≡ result_from_control_flow flow → flow ≡ Continue o → sl ≡ slot_of tree o → Takes u ps qs r a t
      → Takes s (OptionalPart g (Admits tree IsPart) ps) qs (Optional g sl r) a t
  optional_read s u t answer flow o g h sl ps qs r a d p e f i k =
      subst (λ (z : Slot). Takes s (OptionalPart g (Admits tree IsPart) ps) qs (Optional g z r) a t) (sym i)
      (asked_takes s u t o g ps qs r a (at_ok (λ o. Asked tree IsPart Says s g o u) answer flow o e f (as_row s u answer g h d p).read) k)

  pub optional_passed : {A : Type 0} (s u : State) (answer : Result (Option B) DecodeError) (flow : _) (o : Option B) (g h : Tag) (ps qs : Parts) (result : Result A DecodeError)
      → Asks tree IsPart Says s h answer u → h ≡ g → answer ≡ result_from_control_flow flow → flow ≡ Continue o → Stops u ps qs result
      → Stops s (OptionalPart g (Admits tree IsPart) ps) qs result
  optional_passed s u answer flow o g h ps qs (Ok w) d p e f k = record { mode = tt; none = tt }
  optional_passed s u answer flow o g h ps qs (Err x) d p e f k =
      let r = at_ok (λ o. Asked tree IsPart Says s g o u) answer flow o e f (as_row s u answer g h d p).read in
      record { mode = k.mode ∙ asked_mode s u o g r; none = λ m. asked_refuses s u o g ps qs r (k.none m) }

  pub optional_stops : {A : Type 0} (Q : DecodeError → Type 0) (s u : State) (answer : Result (Option B) DecodeError) (flow : _) (x : _) (g h : Tag) (ps qs : Parts) (result : Result A DecodeError)
      → Asks tree IsPart Says s h answer u → h ≡ g → answer ≡ result_from_control_flow flow → flow ≡ Break x → IsErrAnd result Q → ((y : DecodeError) → Q y → y ≡ x.0)
      → Stops s (OptionalPart g (Admits tree IsPart) ps) qs result
  optional_stops Q s u answer flow x g h ps qs (Ok w) d p e f l q = absurd l
  optional_stops Q s u answer flow x g h ps qs (Err y) d p e f l q =
      let n : AskRefused tree IsPart Says s g x.0 = at_err (λ y. AskRefused tree IsPart Says s g y) answer flow x e f (as_row s u answer g h d p).refused in
      record { mode = ap (λ (z : DecodeError). z.codec) (q y l) ∙ refused_mode s g x.0 n; none = λ m. refused_refuses s g x.0 ps qs n (λ k. m (ap (λ (z : DecodeError). z.kind) (q y l) ∙ k)) }
