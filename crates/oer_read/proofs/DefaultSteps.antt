-- A closure's steps over components with a default.
use Rattle.std.proofs.Common.{◌≡◌, Bool, true, false, Some, None, List, [], ◌∷◌, ◌++◌, inl, inr, Result, Ok, Err, refl, sym, ap, ap₂, ◌∙◌, subst, Continue, Break, append_assoc}
use Rattle.std.specs.Result.{IsErrAnd, result_from_control_flow}
use Rattle.std.proofs.lemmas.List.{append_cancel_left}
use Rattle.asn1_core.specs.Octets.{Octets}
use Rattle.asn1_core.specs.declared.codec.Codec.{Codec}
use Rattle.asn1_core.specs.declared.codec.Codec.TheVariants.{Oer, Coer}
use Rattle.asn1_core.specs.declared.error.DecodeError.{DecodeError}
use Rattle.asn1_core.specs.declared.tag.Tag.{Tag}
use Rattle.oer_spec.proofs.Unambiguous.{unique}
use Rattle.oer_spec.specs.Encoding.{IsEncoding}
use Rattle.oer_spec.specs.Mode.{InLenient, mode_of}
use Rattle.oer_spec.specs.Places.{Item, present, absent}
use Rattle.oer_spec.specs.Same.{Same, SameSlot}
use Rattle.oer_spec.specs.Tree.{Tree, Rows, NoRows, Required, Optional, Default, Slot, Absent, Present, present_unless}
use Rattle.oer_read.specs.Components.{asking, AskedAbsent, AskedPresent, Asked, AskRefused, NotNext, Inside}
use Rattle.oer_read.specs.Defaults.{Defaulted, Unset, Set, DefaultRefused, NotRead, SpelledOut, AsksDefault, IsDefault}
use Rattle.oer_read.specs.Law.{IsForMemory, IsRear}
use Rattle.oer_read.specs.Parts.{Comes, Admits, AreOf, Parts, DefaultPart, OnPresent, Takes, NoneCome, Stops}
use Rattle.oer_read.specs.State.{Ask, State}
use Rattle.oer_read.proofs.Comes.{past}
use Rattle.oer_read.proofs.Marked.{Marked, DefaultItem, mark_default, unmark_default, absent_item, present_item, set_item, unset_default, next_is}
use Rattle.oer_read.proofs.OptionalSteps.{asked_mode, refused_mode}
use Rattle.oer_read.proofs.SameTrees.{same_self, same_encoding}
use Rattle.oer_read.proofs.Steps.{at_ok, at_err}

-- what isn't canonical is lenient
lenient_only : (codec : Codec) → (codec ≡ Coer → ⊥) → InLenient (mode_of codec)
lenient_only Oer n = tt
lenient_only Coer n = absurd (n refl)

not_lenient : (codec : Codec) → codec ≡ Coer → InLenient (mode_of codec) → ⊥
not_lenient Oer e n = absurd (cc e)
not_lenient Coer e n = n

module _ {B : Type 0} (tree : B → Tree) (IsPart : B → Type 0) (Says : State → Result B DecodeError → State → Type 0) (eq : B → B → Bool) (def : B) (known : IsDefault tree IsPart eq def) where
  -- ---- a value and its default

  equal_is_same : (v : B) → IsPart v → eq v def ≡ true → Same (tree v) (tree def)
  equal_is_same v i e = (known.decides v i).0 e

  same_is_equal : (v : B) → IsPart v → Same (tree v) (tree def) → eq v def ≡ true
  same_is_equal v i x = (known.decides v i).1 x

  -- octets of a value that is equal to the default are octets of the default
  spells_default : (s : State) (o : Octets) (v : B) → IsPart v → eq v def ≡ true → IsEncoding (mode_of s.codec) s.levels o (tree v) → IsEncoding (mode_of s.codec) s.levels o (tree def)
  spells_default s o v i e f = same_encoding s.codec s.levels o (tree v) (tree def) (known.is_tree v i) (known.is_tree def known.value) (equal_is_same v i e) f

  -- the slot of the default, and of any value
  pub default_slot : (v : B) → v ≡ def → present_unless (eq v def) (tree v) ≡ Absent
  default_slot v e = ap (λ (z : B). present_unless (eq z def) (tree z)) e ∙ ap (λ (b : Bool). present_unless b (tree def)) (same_is_equal def known.value (same_self (tree def)))

  pub slot_fits : (v : B) (b : Bool) → IsPart v → OnPresent (Admits tree IsPart) (present_unless b (tree v))
  slot_fits v true i = tt
  slot_fits v false i = record { value = v; is_value = i; is = refl }

  pub slot_differs : (v : B) (b : Bool) → eq v def ≡ b → IsPart v → SameSlot (present_unless b (tree v)) (Present (tree def)) → ⊥
  unfolding Rattle.oer_spec.specs.Same.Same
  slot_differs v true e i x = x
  slot_differs v false e i x = absurd (cc (e, same_is_equal v i x))

  -- ---- the next bit is 0

  unset_before : (s u : State) (g : Tag) (r a : Rows) (rest : Octets) → AskedAbsent tree IsPart Says s g u → Comes u r a rest → Comes s (Default g (tree def) Absent r) a rest
  unset_before s u g r a rest d c =
      unmark_default s g (tree def) Absent r a rest (record {
        item = absent g;
        holds = inl (absent_item s g);
        more = d.more;
        next = d.next;
        after = s.input;
        split = refl;
        comes = subst (λ (z : State). Comes z r a rest) d.left c;
      })

  unset_after : (s u : State) (g h : Tag) (w : Tree) (sl : Slot) (r a : Rows) (rest : Octets) → AskedAbsent tree IsPart Says s g u → Comes s (Default h w sl r) a rest → Comes u r a rest
  unset_after s u g h w sl r a rest d c =
      let k = mark_default s h w sl r a rest c in
      let n = next_is h g k.item.bit false k.more d.more s.frame.asks k.next d.next in
      let f = unset_default s h w sl k.item k.holds n.0 in
      let after : k.after ≡ s.input = sym (k.split ∙ ap (λ (l : Octets). l ++ k.after) f.1) in
      subst (λ (z : State). Comes z r a rest) (ap₂ (λ (ks : List Ask) (l : Octets). past (asking s ks) l) n.1 after ∙ sym d.left) k.comes

  -- ---- the next bit is 1

  pub set_before_item : (s : State) (v : B) (g : Tag) (o : Octets) (b : Bool) → eq v def ≡ b → IsPart v → (s.codec ≡ Coer → b ≡ false) → IsEncoding (mode_of s.codec) s.levels o (tree v) → DefaultItem s g (tree def) (present_unless b (tree v)) (present g o)
  set_before_item s v g o false e i n f = inl (present_item s g (tree v) o f)
  set_before_item s v g o true e i n f = inr (lenient_only s.codec (λ k. cc (n k)), refl, refl, spells_default s o v i e f)

  set_before : (s u : State) (v : B) (g : Tag) (r a : Rows) (rest : Octets) → AskedPresent tree IsPart Says s g v u → (s.codec ≡ Coer → eq v def ≡ false) → Comes u r a rest → Comes s (Default g (tree def) (present_unless (eq v def) (tree v)) r) a rest
  set_before s u v g r a rest d n c =
      unmark_default s g (tree def) (present_unless (eq v def) (tree v)) r a rest (record {
        item = present g d.reads.taken;
        holds = set_before_item s v g d.reads.taken (eq v def) refl d.reads.value n d.reads.encoding;
        more = d.more;
        next = d.next;
        after = u.input;
        split = d.reads.split;
        comes = subst (λ (z : State). Comes z r a rest) d.reads.rest c;
      })

  -- an item whose bit is 1 is octets of a value, if only of the default
  pub spelled_value : (s : State) (h : Tag) (w : Tree) (sl : Slot) (i : Item) → w ≡ tree def → OnPresent (Admits tree IsPart) sl → DefaultItem s h w sl i → i.bit ≡ true → (q : B) × IsPart q × IsEncoding (mode_of s.codec) s.levels i.octets (tree q)
  spelled_value s h w sl i e p (inl f) b =
      let (t, z, enc) = set_item s h sl i f b in
      let q : Admits tree IsPart t = subst (OnPresent (Admits tree IsPart)) z p in
      (q.value, q.is_value, subst (λ (y : Tree). IsEncoding (mode_of s.codec) s.levels i.octets y) q.is enc)
  spelled_value s h w sl i e p (inr (_, _, _, enc)) b = (def, known.value, subst (λ (y : Tree). IsEncoding (mode_of s.codec) s.levels i.octets y) e enc)

  -- and these are the octets that were read
  spelled_octets : (s u : State) (v : B) (g h : Tag) (w : Tree) (sl : Slot) (r a : Rows) (rest : Octets) (d : AskedPresent tree IsPart Says s g v u) → w ≡ tree def → OnPresent (Admits tree IsPart) sl → (k : Marked s h r a rest (DefaultItem s h w sl)) → k.item.bit ≡ true → k.item.octets ≡ d.reads.taken
  spelled_octets s u v g h w sl r a rest d e p k b =
      let q = spelled_value s h w sl k.item e p k.holds b in
      d.reads.only q.0 k.item.octets q.1 (record { rest = k.after; split = k.split; encoding = q.2 })

  set_after : (s u : State) (v : B) (g h : Tag) (w : Tree) (sl : Slot) (r a : Rows) (rest : Octets) → AskedPresent tree IsPart Says s g v u → w ≡ tree def → OnPresent (Admits tree IsPart) sl → Comes s (Default h w sl r) a rest → Comes u r a rest
  set_after s u v g h w sl r a rest d e p c =
      let k = mark_default s h w sl r a rest c in
      let n = next_is h g k.item.bit true k.more d.more s.frame.asks k.next d.next in
      let same = spelled_octets s u v g h w sl r a rest d e p k n.0 in
      let after : k.after ≡ u.input = append_cancel_left d.reads.taken k.after u.input (ap (λ (l : Octets). l ++ k.after) (sym same) ∙ sym k.split ∙ d.reads.split) in
      subst (λ (z : State). Comes z r a rest) (ap₂ (λ (ks : List Ask) (l : Octets). past (asking s ks) l) n.1 after ∙ sym d.reads.rest) k.comes

  -- canonically the octets of a value that is equal to the default are no item
  pub not_spelled : (s : State) (v : B) (h : Tag) (w : Tree) (sl : Slot) (o : Octets) → IsPart v → IsEncoding (mode_of s.codec) s.levels o (tree v) → s.codec ≡ Coer → eq v def ≡ true → OnPresent (Admits tree IsPart) sl → (SameSlot sl (Present (tree def)) → ⊥) → (i : Item) → DefaultItem s h w sl i → i.bit ≡ true → i.octets ≡ o → ⊥
  unfolding Rattle.oer_spec.specs.Same.Same
  not_spelled s v h w sl o part enc codec equal p x i (inr (l, _, _, _)) b same = not_lenient s.codec codec l
  not_spelled s v h w sl o part enc codec equal p x i (inl f) b same =
      let (t, z, own) = set_item s h sl i f b in
      let q : Admits tree IsPart t = subst (OnPresent (Admits tree IsPart)) z p in
      let first : IsEncoding (mode_of s.codec) s.levels i.octets (tree q.value) = subst (λ (y : Tree). IsEncoding (mode_of s.codec) s.levels i.octets y) q.is own in
      let second : IsEncoding (mode_of s.codec) s.levels o (tree def) = spells_default s o v part equal enc in
      let equals : Same (tree q.value) (tree def) =
      (unique (tree q.value) (tree def) (mode_of s.codec) s.levels s.levels i.octets o [] [] (known.is_tree q.value q.is_value) (known.is_tree def known.value) (known.alike q.value def q.is_value known.value) first second (ap (λ (y : Octets). y ++ []) same)).1 in
      let here : SameSlot (Present t) (Present (tree def)) = subst (λ (y : Tree). Same y (tree def)) (sym q.is) equals in
      x (subst (λ (y : Slot). SameSlot y (Present (tree def))) (sym z) here)

  -- ---- either

  abbrev Was : State → Tag → B → State → Type 0
  Was s g v u = Defaulted eq (Asked tree IsPart Says s g) (AskRefused tree IsPart Says s g) s def v u

  abbrev WasRefused : State → Tag → DecodeError → Type 0
  WasRefused s g e = DefaultRefused eq (Asked tree IsPart Says s g) (AskRefused tree IsPart Says s g) s def e

  asked_before : (s u : State) (v : B) (g : Tag) (r a : Rows) (rest : Octets) → Was s g v u → Comes u r a rest → Comes s (Default g (tree def) (present_unless (eq v def) (tree v)) r) a rest
  asked_before s u v g r a rest (Unset d e) c = subst (λ (y : Slot). Comes s (Default g (tree def) y r) a rest) (sym (default_slot v e)) (unset_before s u g r a rest d c)
  asked_before s u v g r a rest (Set d n) c = set_before s u v g r a rest d n c

  asked_after : (s u : State) (v : B) (g h : Tag) (w : Tree) (sl : Slot) (r a : Rows) (rest : Octets) → Was s g v u → w ≡ tree def → OnPresent (Admits tree IsPart) sl → Comes s (Default h w sl r) a rest → Comes u r a rest
  asked_after s u v g h w sl r a rest (Unset d _) e p c = unset_after s u g h w sl r a rest d c
  asked_after s u v g h w sl r a rest (Set d _) e p c = set_after s u v g h w sl r a rest d e p c

  asked_value : (s u : State) (v : B) (g : Tag) → Was s g v u → IsPart v
  asked_value s u v g (Unset d e) = subst IsPart (sym e) known.value
  asked_value s u v g (Set d n) = d.reads.value

  asked_rear : (s u : State) (v : B) (g : Tag) → Was s g v u → IsRear s.input u.input
  asked_rear s u v g (Unset d e) = record { front = []; split = sym (ap (λ (z : State). z.input) d.left) }
  asked_rear s u v g (Set d n) = record { front = d.reads.taken; split = d.reads.split }

  asked_places : (s u : State) (v : B) (g : Tag) → Was s g v u → u.frame.additions ≡ s.frame.additions
  asked_places s u v g (Unset d e) = ap (λ (z : State). z.frame.additions) d.left
  asked_places s u v g (Set d n) = ap (λ (z : State). z.frame.additions) d.reads.rest

  pub asked_takes : (s u t : State) (v : B) (g : Tag) (ps qs : Parts) (r a : Rows) → Was s g v u → Takes u ps qs r a t
      → Takes s (DefaultPart g (tree def) (Admits tree IsPart) ps) qs (Default g (tree def) (present_unless (eq v def) (tree v)) r) a t
  asked_takes s u t v g ps qs r a d k =
      let i = asked_value s u v g d in
      let h = asked_rear s u v g d in
      record {
        fits = (refl, refl, slot_fits v (eq v def) i, slot_differs v (eq v def) refl i, k.fits);
        more_fit = k.more_fit;
        rear = record { front = h.front ++ k.rear.front; split = h.split ∙ ap (λ (l : Octets). h.front ++ l) k.rear.split ∙ sym (append_assoc h.front k.rear.front t.input) };
        sound = λ p rest c. asked_before s u v g r a rest d (k.sound (asked_places s u v g d ∙ p) rest c);
        complete = complete;
      }
    where
      complete : (r' a' : Rows) (rest : Octets) → AreOf (DefaultPart g (tree def) (Admits tree IsPart) ps) r' → AreOf qs a' → Comes s r' a' rest → Comes t NoRows NoRows rest
      complete (Default h w sl r') a' rest (e, z, p, x, f) f' c = k.complete r' a' rest f f' (asked_after s u v g h w sl r' a' rest d z p c)
      complete NoRows a' rest f f' c = absurd f
      complete (Required _ _ _) a' rest f f' c = absurd f
      complete (Optional _ _ _) a' rest f f' c = absurd f

  pub asked_refuses : (s u : State) (v : B) (g : Tag) (ps qs : Parts) → Was s g v u → NoneCome u ps qs → NoneCome s (DefaultPart g (tree def) (Admits tree IsPart) ps) qs
  asked_refuses s u v g ps qs d k (Default h w sl r) a rest (e, z, p, x, f) f' c = k r a rest f f' (asked_after s u v g h w sl r a rest d z p c)
  asked_refuses s u v g ps qs d k NoRows a rest f f' c = absurd f
  asked_refuses s u v g ps qs d k (Required _ _ _) a rest f f' c = absurd f
  asked_refuses s u v g ps qs d k (Optional _ _ _) a rest f f' c = absurd f

  pub refused_refuses : (s : State) (g : Tag) (e : DecodeError) (ps qs : Parts) → WasRefused s g e → (IsForMemory e → ⊥) → NoneCome s (DefaultPart g (tree def) (Admits tree IsPart) ps) qs
  refused_refuses s g e ps qs (NotRead (NotNext n _)) m (Default h w sl r) a rest (q, z, p, x, f) f' c =
      let k = mark_default s h w sl r a rest c in
      n k.item.bit k.more (k.next ∙ ap (λ (y : Tag). record { tag = y; bit = k.item.bit } ∷ k.more) q)
  refused_refuses s g e ps qs (NotRead (Inside more next _ _ _ n)) m (Default h w sl r) a rest (q, z, p, x, f) f' c =
      let k = mark_default s h w sl r a rest c in
      let b = next_is h g k.item.bit true k.more more s.frame.asks k.next next in
      let y = spelled_value s h w sl k.item z p k.holds b.0 in
      n m y.0 k.item.octets y.1 (record { rest = k.after; split = k.split; encoding = y.2 })
  refused_refuses s g e ps qs (SpelledOut v t d codec equal _) m (Default h w sl r) a rest (q, z, p, x, f) f' c =
      let k = mark_default s h w sl r a rest c in
      let b = next_is h g k.item.bit true k.more d.more s.frame.asks k.next d.next in
      not_spelled s v h w sl d.reads.taken d.reads.value d.reads.encoding codec equal p x k.item k.holds b.0 (spelled_octets s t v g h w sl r a rest d z p k b.0)
  refused_refuses s g e ps qs d m NoRows a rest f f' c = absurd f
  refused_refuses s g e ps qs d m (Required _ _ _) a rest f f' c = absurd f
  refused_refuses s g e ps qs d m (Optional _ _ _) a rest f f' c = absurd f

  -- the mode stays, and a refusal names it
  pub was_mode : (s u : State) (v : B) (g : Tag) → Was s g v u → u.codec ≡ s.codec
  was_mode s u v g (Unset d _) = asked_mode tree IsPart Says s u None g d
  was_mode s u v g (Set d _) = asked_mode tree IsPart Says s u (Some v) g d

  pub was_refused_mode : (s : State) (g : Tag) (e : DecodeError) → WasRefused s g e → e.codec ≡ s.codec
  was_refused_mode s g e (NotRead d) = refused_mode tree IsPart Says s g e d
  was_refused_mode s g e (SpelledOut _ _ _ _ _ is) = ap (λ (z : DecodeError). z.codec) is

-- ---- a component with a default, asked by a tag and a default that are the row's
module _ {B : Type 0} (tree : B → Tree) (IsPart : B → Type 0) (Says : State → Result B DecodeError → State → Type 0) (eq : B → B → Bool) where
  as_row : (s u : State) (answer : Result B DecodeError) (g h : Tag) (d e : B) → AsksDefault tree IsPart Says eq s h e answer u → h ≡ g → e ≡ d → AsksDefault tree IsPart Says eq s g d answer u
  as_row s u answer g h d e k p q = subst (λ (z : Tag). AsksDefault tree IsPart Says eq s z d answer u) p (subst (λ (z : B). AsksDefault tree IsPart Says eq s h z answer u) q k)

  pub default_read : (s u t : State) (answer : Result B DecodeError) (flow : _) (v def handed : B) (g h : Tag) (w : Tree) (sl : Slot) (ps qs : Parts) (r a : Rows)
      → AsksDefault tree IsPart Says eq s h handed answer u → h ≡ g → handed ≡ def → answer ≡ result_from_control_flow flow → flow ≡ Continue v → IsDefault tree IsPart eq def → w ≡ tree def → sl ≡ present_unless (eq v def) (tree v) → Takes u ps qs r a t
      → Takes s (DefaultPart g w (Admits tree IsPart) ps) qs (Default g w sl r) a t
  default_read s u t answer flow v def handed g h w sl ps qs r a d p q e f known i j k =
      let was = at_ok (λ v. Defaulted eq (Asked tree IsPart Says s g) (AskRefused tree IsPart Says s g) s def v u) answer flow v e f (as_row s u answer g h def handed d p q).read in
      subst (λ (y : Tree). Takes s (DefaultPart g y (Admits tree IsPart) ps) qs (Default g y sl r) a t) (sym i)
      (subst (λ (y : Slot). Takes s (DefaultPart g (tree def) (Admits tree IsPart) ps) qs (Default g (tree def) y r) a t) (sym j) (asked_takes tree IsPart Says eq def known s u t v g ps qs r a was k))

  pub default_passed : {A : Type 0} (s u : State) (answer : Result B DecodeError) (flow : _) (v def handed : B) (g h : Tag) (w : Tree) (ps qs : Parts) (result : Result A DecodeError)
      → AsksDefault tree IsPart Says eq s h handed answer u → h ≡ g → handed ≡ def → answer ≡ result_from_control_flow flow → flow ≡ Continue v → IsDefault tree IsPart eq def → w ≡ tree def → Stops u ps qs result
      → Stops s (DefaultPart g w (Admits tree IsPart) ps) qs result
  default_passed s u answer flow v def handed g h w ps qs (Ok x) d p q e f known i k = record { mode = tt; none = tt }
  default_passed {A} s u answer flow v def handed g h w ps qs (Err x) d p q e f known i k =
      let was = at_ok (λ v. Defaulted eq (Asked tree IsPart Says s g) (AskRefused tree IsPart Says s g) s def v u) answer flow v e f (as_row s u answer g h def handed d p q).read in
      subst (λ (y : Tree). Stops {A = A} s (DefaultPart g y (Admits tree IsPart) ps) qs (Err x)) (sym i)
      (record { mode = k.mode ∙ was_mode tree IsPart Says eq def known s u v g was; none = λ m. asked_refuses tree IsPart Says eq def known s u v g ps qs was (k.none m) })

  pub default_stops : {A : Type 0} (Q : DecodeError → Type 0) (s u : State) (answer : Result B DecodeError) (flow : _) (x : _) (def handed : B) (g h : Tag) (w : Tree) (ps qs : Parts) (result : Result A DecodeError)
      → AsksDefault tree IsPart Says eq s h handed answer u → h ≡ g → handed ≡ def → answer ≡ result_from_control_flow flow → flow ≡ Break x → IsDefault tree IsPart eq def → w ≡ tree def → IsErrAnd result Q → ((y : DecodeError) → Q y → y ≡ x.0)
      → Stops s (DefaultPart g w (Admits tree IsPart) ps) qs result
  default_stops Q s u answer flow x def handed g h w ps qs (Ok z) d p q e f known i l b = absurd l
  default_stops {A} Q s u answer flow x def handed g h w ps qs (Err y) d p q e f known i l b =
      let n : DefaultRefused eq (Asked tree IsPart Says s g) (AskRefused tree IsPart Says s g) s def x.0 =
      at_err (λ y. DefaultRefused eq (Asked tree IsPart Says s g) (AskRefused tree IsPart Says s g) s def y) answer flow x e f (as_row s u answer g h def handed d p q).refused in
      subst (λ (z : Tree). Stops {A = A} s (DefaultPart g z (Admits tree IsPart) ps) qs (Err y)) (sym i)
      (record { mode = ap (λ (z : DecodeError). z.codec) (b y l) ∙ was_refused_mode tree IsPart Says eq def known s g x.0 n; none = λ m. refused_refuses tree IsPart Says eq def known s g x.0 ps qs n (λ k. m (ap (λ (z : DecodeError). z.kind) (b y l) ∙ k)) })
