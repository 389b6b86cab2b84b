-- How far a closure has read the components of a value.
use Rattle.std.proofs.Common.{◌≡◌, [], ◌++◌, append_assoc, Result, Ok, Err, refl, sym, ap, ◌∙◌, subst, Continue, Break}
use Rattle.std.specs.Result.{IsErrAnd, IfOk, IfErr, result_from_control_flow}
use Rattle.std.proofs.lemmas.List.{append_cancel_left}
use Rattle.asn1_core.specs.Octets.{Octets}
use Rattle.asn1_core.specs.declared.error.DecodeError.{DecodeError}
use Rattle.asn1_core.specs.declared.tag.Tag.{Tag}
use Rattle.oer_spec.specs.Encoding.{IsEncoding}
use Rattle.oer_spec.specs.Mode.{mode_of}
use Rattle.oer_spec.specs.Tree.{Tree, Rows, NoRows, Required, Optional, Default}
use Rattle.oer_read.specs.Law.{Reads, RefusedBy, Decodes, NoEncoding, Fronts}
use Rattle.oer_read.specs.Parts.{Comes, Admits, AreOf, Parts, NoParts, RequiredPart, Takes, NoneCome, Stops, ReadsParts, part_places}
use Rattle.oer_read.specs.State.{State}
use Rattle.oer_read.proofs.Comes.{past, ComesRequired, comes_required, required_comes}

-- ---- what an answer says behind a `?`

pub at_ok : {A E : Type 0} (P : A → Type 0) (r : Result A E) (b : _) (v : A) → r ≡ result_from_control_flow b → b ≡ Continue v → IfOk r P → P v
at_ok P r b v e f h = subst (λ (z : Result _ _). IfOk z P) (e ∙ ap result_from_control_flow f) h

pub at_err : {A E : Type 0} (P : E → Type 0) (r : Result A E) (b : _) (x : _) → r ≡ result_from_control_flow b → b ≡ Break x → IfErr r P → P x.0
at_err P r b x e f h = subst (λ (z : Result _ _). IfErr z P) (e ∙ ap result_from_control_flow f) h

-- ---- the end

pub done : (s : State) → Takes s NoParts NoParts NoRows NoRows s
done s = record { fits = tt; more_fit = tt; rear = record { front = []; split = refl }; sound = λ p rest c. c; complete = complete }
  where
    complete : (r a : Rows) (rest : Octets) → AreOf NoParts r → AreOf NoParts a → Comes s r a rest → Comes s NoRows NoRows rest
    complete NoRows NoRows rest f g c = c
    complete (Required _ _ _) a rest f g c = absurd f
    complete (Optional _ _ _) a rest f g c = absurd f
    complete (Default _ _ _ _) a rest f g c = absurd f
    complete NoRows (Required _ _ _) rest f g c = absurd g
    complete NoRows (Optional _ _ _) rest f g c = absurd g
    complete NoRows (Default _ _ _ _) rest f g c = absurd g

module _ {B : Type 0} (tree : B → Tree) (IsPart : B → Type 0) where
  -- where a component was read, what comes after it is what comes at the new state
  after : (s u : State) (v : B) (t : Tree) (r a : Rows) (rest : Octets) → Reads tree IsPart s v u → Admits tree IsPart t → ComesRequired s t r a rest → Comes u r a rest
  after s u v t r a rest d p c =
      let front : Fronts s c.octets (tree p.value) = record { rest = c.more; split = c.split; encoding = subst (λ (z : Tree). IsEncoding (mode_of s.codec) s.levels c.octets z) p.is c.encoding } in
      let same : c.octets ≡ d.taken = d.only p.value c.octets p.is_value front in
      let more : c.more ≡ u.input = append_cancel_left d.taken c.more u.input (ap (λ (l : Octets). l ++ c.more) (sym same) ∙ sym c.split ∙ d.split) in
      subst (λ (z : State). Comes z r a rest) (ap (λ (l : Octets). past s l) more ∙ sym d.rest) c.comes

  pub read_takes : (s u t : State) (v : B) (g : Tag) (ps qs : Parts) (r a : Rows) → Reads tree IsPart s v u → Takes u ps qs r a t
      → Takes s (RequiredPart g (Admits tree IsPart) ps) qs (Required g (tree v) r) a t
  read_takes s u t v g ps qs r a d k = record { fits = (refl, record { value = v; is_value = d.value; is = refl }, k.fits); more_fit = k.more_fit; rear = record { front = d.taken ++ k.rear.front; split = d.split ∙ ap (λ (l : Octets). d.taken ++ l) k.rear.split ∙ sym (append_assoc d.taken k.rear.front t.input) }; sound = sound; complete = complete }
    where
      sound : s.frame.additions ≡ part_places qs → (rest : Octets) → Comes t NoRows NoRows rest → Comes s (Required g (tree v) r) a rest
      sound p rest c =
          required_comes s g (tree v) r a rest d.taken u.input d.split d.encoding (subst (λ (z : State). Comes z r a rest) d.rest (k.sound (ap (λ (z : State). z.frame.additions) d.rest ∙ p) rest c))

      complete : (r' a' : Rows) (rest : Octets) → AreOf (RequiredPart g (Admits tree IsPart) ps) r' → AreOf qs a' → Comes s r' a' rest → Comes t NoRows NoRows rest
      complete (Required h w r') a' rest (e, p, f) f' c = k.complete r' a' rest f f' (after s u v w r' a' rest d p (comes_required s h w r' a' rest c))
      complete NoRows a' rest f f' c = absurd f
      complete (Optional _ _ _) a' rest f f' c = absurd f
      complete (Default _ _ _ _) a' rest f f' c = absurd f

  pub read_refuses : (s u : State) (v : B) (g : Tag) (ps qs : Parts) → Reads tree IsPart s v u → NoneCome u ps qs → NoneCome s (RequiredPart g (Admits tree IsPart) ps) qs
  read_refuses s u v g ps qs d k (Required h w r) a rest (e, p, f) f' c = k r a rest f f' (after s u v w r a rest d p (comes_required s h w r a rest c))
  read_refuses s u v g ps qs d k NoRows a rest f f' c = absurd f
  read_refuses s u v g ps qs d k (Optional _ _ _) a rest f f' c = absurd f
  read_refuses s u v g ps qs d k (Default _ _ _ _) a rest f f' c = absurd f

  pub refused_refuses : (s : State) (g : Tag) (ps qs : Parts) → NoEncoding tree IsPart s → NoneCome s (RequiredPart g (Admits tree IsPart) ps) qs
  refused_refuses s g ps qs n (Required h w r) a rest (e, p, f) f' c =
      let q : ComesRequired s w r a rest = comes_required s h w r a rest c in
      n p.value q.octets p.is_value (record { rest = q.more; split = q.split; encoding = subst (λ (z : Tree). IsEncoding (mode_of s.codec) s.levels q.octets z) p.is q.encoding })
  refused_refuses s g ps qs n NoRows a rest f f' c = absurd f
  refused_refuses s g ps qs n (Optional _ _ _) a rest f f' c = absurd f
  refused_refuses s g ps qs n (Default _ _ _ _) a rest f f' c = absurd f

  -- ---- a required component

  pub required_read : (s u t : State) (answer : Result B DecodeError) (flow : _) (v : B) (g : Tag) (w : Tree) (ps qs : Parts) (r a : Rows)
      → Decodes tree IsPart s answer u → answer ≡ result_from_control_flow flow → flow ≡ Continue v → w ≡ tree v → Takes u ps qs r a t
      → Takes s (RequiredPart g (Admits tree IsPart) ps) qs (Required g w r) a t
  required_read s u t answer flow v g w ps qs r a d e f i k =
      subst (λ (z : Tree). Takes s (RequiredPart g (Admits tree IsPart) ps) qs (Required g z r) a t) (sym i) (read_takes s u t v g ps qs r a (at_ok (λ v. Reads tree IsPart s v u) answer flow v e f d.read) k)

  pub required_passed : {A : Type 0} (s u : State) (answer : Result B DecodeError) (flow : _) (v : B) (g : Tag) (ps qs : Parts) (result : Result A DecodeError)
      → Decodes tree IsPart s answer u → answer ≡ result_from_control_flow flow → flow ≡ Continue v → Stops u ps qs result
      → Stops s (RequiredPart g (Admits tree IsPart) ps) qs result
  required_passed s u answer flow v g ps qs (Ok w) d e f k = record { mode = tt; none = tt }
  required_passed s u answer flow v g ps qs (Err x) d e f k =
      let r = at_ok (λ v. Reads tree IsPart s v u) answer flow v e f d.read in
      record { mode = k.mode ∙ ap (λ (z : State). z.codec) r.rest; none = λ m. read_refuses s u v g ps qs r (k.none m) }

  pub required_stops : {A : Type 0} (Q : DecodeError → Type 0) (s u : State) (answer : Result B DecodeError) (flow : _) (x : _) (g : Tag) (ps qs : Parts) (result : Result A DecodeError)
      → Decodes tree IsPart s answer u → answer ≡ result_from_control_flow flow → flow ≡ Break x → IsErrAnd result Q → ((y : DecodeError) → Q y → y ≡ x.0)
      → Stops s (RequiredPart g (Admits tree IsPart) ps) qs result
  required_stops Q s u answer flow x g ps qs (Ok w) d e f h q = absurd h
  required_stops Q s u answer flow x g ps qs (Err y) d e f h q =
      let n : RefusedBy tree IsPart x.0 s u = at_err (λ y. RefusedBy tree IsPart y s u) answer flow x e f d.refused in
      record { mode = ap (λ (z : DecodeError). z.codec) (q y h) ∙ n.mode; none = λ m. refused_refuses s g ps qs (n.none (λ k. m (ap (λ (z : DecodeError). z.kind) (q y h) ∙ k))) }

-- ---- the exits of a closure

pub ends : {A : Type 0} (ps qs : Parts) (roots additions : A → Rows) (s : State) (v : A) (t : State) → Takes s ps qs (roots v) (additions v) t → ReadsParts ps qs roots additions s (Ok v) t
ends ps qs roots additions s v t k = record { read = k; stops = record { mode = tt; none = tt } }

pub leaves : {A : Type 0} (Q : DecodeError → Type 0) (ps qs : Parts) (roots additions : A → Rows) (s : State) (result : Result A DecodeError) (t : State) → IsErrAnd result Q → Stops s ps qs result → ReadsParts ps qs roots additions s result t
leaves Q ps qs roots additions s (Ok v) t h k = absurd h
leaves Q ps qs roots additions s (Err e) t h k = record { read = tt; stops = k }
