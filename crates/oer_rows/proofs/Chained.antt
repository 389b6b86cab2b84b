-- What the rest of the components was read as, or why it was refused, of a call that reads all of them.
use Rattle.std.proofs.Common.{◌≡◌, Bool, true, false, List, Option, Some, None, ◌⊎◌, inl, inr, Result, Ok, Err, Continue, Break, refl, ap, ◌∙◌, subst, sym}
use Rattle.std.specs.Bool.{Decides}
use Rattle.std.specs.Result.{IfOk, IfErr, OnErr, IsErrAnd, result_from_control_flow}
use Rattle.asn1_core.specs.Octets.{AreOctets}
use Rattle.asn1_core.specs.Rows.{Row}
use Rattle.asn1_core.specs.declared.codec.Codec.{Codec}
use Rattle.asn1_core.specs.declared.codec.Codec.TheVariants.{Coer}
use Rattle.asn1_core.specs.declared.constraints.Constraints.{Constraints}
use Rattle.asn1_core.specs.declared.tag.Tag.{Tag}
use Rattle.asn1_core.specs.declared.error.DecodeError.{DecodeError}
use Rattle.asn1_core.specs.declared.error.DecodeErrorKind.TheVariants.{NotValidCanonicalEncoding}
use Rattle.oer_spec.specs.Encoding.{IsTree}
use Rattle.oer_spec.specs.Same.{Same, Alike}
use Rattle.oer_spec.specs.Spelled.{IsConsistent}
use Rattle.oer_spec.specs.Tree.{Tree, Rows, NoRows, Required, Optional, Default, Slot, present_unless, slot_of}
use Rattle.oer_read.specs.Law.{Decodes, WantsMemory}
use Rattle.oer_read.specs.Parts.{Parts, NoParts, RequiredPart, OptionalPart, DefaultPart, Admits, AreOf, IsTableOf, Takes, Stops, ReadsParts}
use Rattle.oer_read.specs.State.{State}
use Rattle.oer_rows.specs.Schema.{Schema, IsSchema, IsOf, HasTables, tree_of}
use Rattle.oer_read.specs.Additions.{Adds, Added, AddRefused}
use Rattle.oer_rows.specs.Slots.{IfThere}
use Rattle.oer_rows.specs.DefaultValues.{Settles, AsksDefaultValue, AddsDefaultValue}
use Rattle.oer_read.specs.Components.{Asked, AskRefused, Asks}
use Rattle.oer_read.specs.Defaults.{AsksDefault, AddsDefault, IsDefault, Defaulted, Unset, Set, DefaultRefused, NotRead, SpelledOut}
use Rattle.oer_read.specs.Scopes.{SequenceRead, SequenceRefused}
use Rattle.oer_read.proofs.DefaultSteps.{default_read, default_passed, default_stops}
use Rattle.oer_read.proofs.AdditionSteps.{default_addition_read, default_addition_passed, default_addition_stops, addition_read, addition_passed, addition_stops, required_addition_read, required_addition_passed, required_addition_absent, required_addition_stops}
use Rattle.oer_read.proofs.SequenceLaw.{sequence_law}
use Rattle.oer_read.proofs.Reading.{reading}
use Rattle.oer_read.proofs.Steps.{at_ok, at_err}

-- why a call stopped, of what it was a part
broke : {R : Type 0} (s : State) (ps qs : Parts) (answer : Result R DecodeError) (flow : _) (x : _) → Stops s ps qs answer → answer ≡ result_from_control_flow flow → flow ≡ Break x → Stops {A = R} s ps qs (Err x.0)
broke {R} s ps qs answer flow x k e f = subst (λ (z : Result R DecodeError). Stops s ps qs z) (e ∙ ap result_from_control_flow f) k

pub rest_stops : {A R : Type 0} (Q : DecodeError → Type 0) (ps qs : Parts) (s : State) (answer : Result R DecodeError) (flow : _) (x : _) (result : Result A DecodeError)
    → Stops s ps qs answer → answer ≡ result_from_control_flow flow → flow ≡ Break x → IsErrAnd result Q → ((y : DecodeError) → Q y → y ≡ x.0)
    → Stops s ps qs result
rest_stops Q ps qs s answer flow x (Ok w) d e f h q = absurd h
rest_stops Q ps qs s answer flow x (Err y) d e f h q =
    let k = broke s ps qs answer flow x d e f in
    record { mode = ap (λ (z : DecodeError). z.codec) (q y h) ∙ k.mode; none = λ m. k.none (λ k. m (ap (λ (z : DecodeError). z.kind) (q y h) ∙ k)) }

-- ---- an addition, asked by a tag that is the row's
module _ {B : Type 0} (tree : B → Tree) (IsPart : B → Type 0) (Says : State → Result B DecodeError → State → Type 0) where
  pub added_read : (s u t : State) (answer : Result (Option B) DecodeError) (flow : _) (o : Option B) (k g : Tag) (sl : Slot) (qs : Parts) (a : Rows)
      → Adds tree IsPart Says s (Some k) answer u → answer ≡ result_from_control_flow flow → flow ≡ Continue o → k ≡ g → sl ≡ slot_of tree o → Takes u NoParts qs NoRows a t
      → Takes s NoParts (OptionalPart g (Admits tree IsPart) qs) NoRows (Optional g sl a) t
  added_read s u t answer flow o k g sl qs a d e f asked i took = addition_read tree IsPart Says s u t answer flow o (Some k) g sl qs a d e f asked i took

  pub added_passed : {A : Type 0} (s u : State) (answer : Result (Option B) DecodeError) (flow : _) (o : Option B) (k g : Tag) (qs : Parts) (result : Result A DecodeError)
      → Adds tree IsPart Says s (Some k) answer u → answer ≡ result_from_control_flow flow → flow ≡ Continue o → k ≡ g → Stops u NoParts qs result
      → Stops s NoParts (OptionalPart g (Admits tree IsPart) qs) result
  added_passed s u answer flow o k g qs result d e f asked stops = addition_passed tree IsPart Says s u answer flow o (Some k) g qs result d e f asked stops

  pub added_stops : {A : Type 0} (Q : DecodeError → Type 0) (s u : State) (answer : Result (Option B) DecodeError) (flow : _) (x : _) (k g : Tag) (qs : Parts) (result : Result A DecodeError)
      → Adds tree IsPart Says s (Some k) answer u → answer ≡ result_from_control_flow flow → flow ≡ Break x → k ≡ g → IsErrAnd result Q → ((y : DecodeError) → Q y → y ≡ x.0)
      → Stops s NoParts (OptionalPart g (Admits tree IsPart) qs) result
  added_stops Q s u answer flow x k g qs result d e f asked h q = addition_stops tree IsPart Says Q s u answer flow x (Some k) g qs result d e f asked h q

  -- a required addition
  pub required_added_read : (s u t : State) (answer : Result (Option B) DecodeError) (flow : _) (o : Option B) (v : B) (k g : Tag) (w : Tree) (qs : Parts) (a : Rows)
      → Adds tree IsPart Says s (Some k) answer u → answer ≡ result_from_control_flow flow → flow ≡ Continue o → o ≡ Some v → k ≡ g → w ≡ tree v → Takes u NoParts qs NoRows a t
      → Takes s NoParts (RequiredPart g (Admits tree IsPart) qs) NoRows (Required g w a) t
  required_added_read s u t answer flow o v k g w qs a d e f some asked i took = required_addition_read tree IsPart Says s u t answer flow o v (Some k) g w qs a d e f some asked i took

  pub required_added_passed : {A : Type 0} (s u : State) (answer : Result (Option B) DecodeError) (flow : _) (o : Option B) (k g : Tag) (qs : Parts) (result : Result A DecodeError)
      → Adds tree IsPart Says s (Some k) answer u → answer ≡ result_from_control_flow flow → flow ≡ Continue o → k ≡ g → Stops u NoParts qs result
      → Stops s NoParts (RequiredPart g (Admits tree IsPart) qs) result
  required_added_passed s u answer flow o k g qs result d e f asked stops = required_addition_passed tree IsPart Says s u answer flow o (Some k) g qs result d e f asked stops

  pub required_added_absent : {A : Type 0} (s u : State) (answer : Result (Option B) DecodeError) (flow : _) (o : Option B) (k g : Tag) (qs : Parts) (result : Result A DecodeError)
      → Adds tree IsPart Says s (Some k) answer u → answer ≡ result_from_control_flow flow → flow ≡ Continue o → o ≡ None → k ≡ g → IfErr result (λ e. e.codec ≡ u.codec)
      → Stops s NoParts (RequiredPart g (Admits tree IsPart) qs) result
  required_added_absent s u answer flow o k g qs result d e f none asked mode = required_addition_absent tree IsPart Says s u answer flow o (Some k) g qs result d e f none asked mode

  pub required_added_stops : {A : Type 0} (Q : DecodeError → Type 0) (s u : State) (answer : Result (Option B) DecodeError) (flow : _) (x : _) (k g : Tag) (qs : Parts) (result : Result A DecodeError)
      → Adds tree IsPart Says s (Some k) answer u → answer ≡ result_from_control_flow flow → flow ≡ Break x → k ≡ g → IsErrAnd result Q → ((y : DecodeError) → Q y → y ≡ x.0)
      → Stops s NoParts (RequiredPart g (Admits tree IsPart) qs) result
  required_added_stops Q s u answer flow x k g qs result d e f asked h q = required_addition_stops tree IsPart Says Q s u answer flow x (Some k) g qs result d e f asked h q

-- ---- a component with a default

-- what makes a value a default, of what its type promises
pub default_known : {B : Type 0} (tree : Constraints → B → Tree) (IsPart : B → Type 0) (eq : B → B → Bool) (def : B) → ((c : Constraints) → IsConsistent c → (v : B) → IsPart v → IsTree (tree c v))
    → ((c : Constraints) → IsConsistent c → (v w : B) → IsPart v → IsPart w → Alike (tree c v) (tree c w))
    → ((c : Constraints) → IsConsistent c → (v : B) → IsPart v → Decides (eq v def) (Same (tree c v) (tree c def)))
    → (c : Constraints) → IsConsistent c → IsPart def → IsDefault (tree c) IsPart eq def
default_known tree IsPart eq def is like decides c k i = record { value = i; is_tree = is c k; alike = like c k; decides = decides c k }

pub default_value : {B : Type 0} (tree : B → Tree) (IsPart : B → Type 0) (Says : State → Result B DecodeError → State → Type 0) (eq : B → B → Bool) (s u : State) (answer : Result B DecodeError) (flow : _) (v def handed : B) (g : Tag)
    → AsksDefault tree IsPart Says eq s g handed answer u → handed ≡ def → IsPart def → answer ≡ result_from_control_flow flow → flow ≡ Continue v → IsPart v
default_value {B} tree IsPart Says eq s u answer flow v def handed g d p i e f = go (at_ok (λ v. Defaulted eq (Asked tree IsPart Says s g) (AskRefused tree IsPart Says s g) s handed v u) answer flow v e f d.read)
  where
    go : Defaulted eq (Asked tree IsPart Says s g) (AskRefused tree IsPart Says s g) s handed v u → IsPart v
    go (Unset _ q) = subst IsPart (sym (q ∙ p)) i
    go (Set asked _) = asked.reads.value

pub added_default_value : {B : Type 0} (tree : B → Tree) (IsPart : B → Type 0) (Says : State → Result B DecodeError → State → Type 0) (eq : B → B → Bool) (s u : State) (answer : Result B DecodeError) (flow : _) (v def handed : B) (g : Tag)
    → AddsDefault tree IsPart Says eq s g handed answer u → handed ≡ def → IsPart def → answer ≡ result_from_control_flow flow → flow ≡ Continue v → IsPart v
added_default_value {B} tree IsPart Says eq s u answer flow v def handed g d p i e f = go (at_ok (λ v. Defaulted eq (Added tree IsPart Says s (Some g)) (AddRefused tree IsPart Says s (Some g)) s handed v u) answer flow v e f d.read)
  where
    go : Defaulted eq (Added tree IsPart Says s (Some g)) (AddRefused tree IsPart Says s (Some g)) s handed v u → IsPart v
    go (Unset _ q) = subst IsPart (sym (q ∙ p)) i
    go (Set asked _) = asked.open_type.reads.value

-- ---- a component whose default may want memory

-- the answer of a component that was asked, settled
pub asks_default_value : {B : Type 0} (tree : B → Tree) (IsPart : B → Type 0) (Says : State → Result B DecodeError → State → Type 0) (eq : B → B → Bool) (takes : Bool) (s u : State) (g : Tag) (def : B) (codec : Codec) (o : Option B) (result : Result B DecodeError)
    → Asked tree IsPart Says s g o u → codec ≡ s.codec → Settles takes eq def codec o result → AsksDefaultValue tree IsPart Says eq takes s g def result u
asks_default_value tree IsPart Says eq takes s u g def codec None (Ok v) a c k = record { read = record { read = Unset a k; same = tt; refused = tt }; refused = tt }
asks_default_value tree IsPart Says eq takes s u g def codec None (Err e) a c k = record { read = tt; refused = inl (k.0, (k.1.0, k.1.1 ∙ c)) }
asks_default_value tree IsPart Says eq takes s u g def codec (Some w) (Ok v) a c k =
    let other : s.codec ≡ Coer → eq w def ≡ false = λ e. k.1 (c ∙ e) in
    subst (λ (z : _). AsksDefaultValue tree IsPart Says eq takes s g def (Ok z) u) (sym k.0) (record { read = record { read = Set a other; same = tt; refused = tt }; refused = tt })
asks_default_value tree IsPart Says eq takes s u g def codec (Some w) (Err e) a c k = record { read = tt; refused = inr (SpelledOut w u a (sym c ∙ k.0) k.1 (k.2 ∙ ap (λ (z : Codec). record { kind = NotValidCanonicalEncoding; codec = z }) c)) }

pub asks_default_value_not : {B : Type 0} (tree : B → Tree) (IsPart : B → Type 0) (Says : State → Result B DecodeError → State → Type 0) (eq : B → B → Bool) (takes : Bool) (Q : DecodeError → Type 0) (s u : State) (g : Tag) (def : B) (answer : Result (Option B) DecodeError) (flow : _) (x : _) (result : Result B DecodeError)
    → Asks tree IsPart Says s g answer u → answer ≡ result_from_control_flow flow → flow ≡ Break x → IsErrAnd result Q → ((y : DecodeError) → Q y → y ≡ x.0) → AsksDefaultValue tree IsPart Says eq takes s g def result u
asks_default_value_not tree IsPart Says eq takes Q s u g def answer flow x (Ok v) d e f h q = absurd h
asks_default_value_not tree IsPart Says eq takes Q s u g def answer flow x (Err y) d e f h q =
    let n = at_err (λ y. AskRefused tree IsPart Says s g y) answer flow x e f d.refused in
    record { read = tt; refused = inr (NotRead (subst (λ (z : DecodeError). AskRefused tree IsPart Says s g z) (sym (q y h)) n)) }

pub adds_default_value : {B : Type 0} (tree : B → Tree) (IsPart : B → Type 0) (Says : State → Result B DecodeError → State → Type 0) (eq : B → B → Bool) (takes : Bool) (s u : State) (g : Tag) (def : B) (codec : Codec) (o : Option B) (result : Result B DecodeError)
    → Added tree IsPart Says s (Some g) o u → AreOctets s.input → codec ≡ s.codec → Settles takes eq def codec o result → AddsDefaultValue tree IsPart Says eq takes s g def result u
adds_default_value tree IsPart Says eq takes s u g def codec None (Ok v) a i c k = record { read = record { read = Unset a k; same = tt; refused = tt; octets = i }; refused = tt; octets = i }
adds_default_value tree IsPart Says eq takes s u g def codec None (Err e) a i c k = record { read = tt; refused = inl (k.0, (k.1.0, k.1.1 ∙ c)); octets = i }
adds_default_value tree IsPart Says eq takes s u g def codec (Some w) (Ok v) a i c k =
    let other : s.codec ≡ Coer → eq w def ≡ false = λ e. k.1 (c ∙ e) in
    subst (λ (z : _). AddsDefaultValue tree IsPart Says eq takes s g def (Ok z) u) (sym k.0) (record { read = record { read = Set a other; same = tt; refused = tt; octets = i }; refused = tt; octets = i })
adds_default_value tree IsPart Says eq takes s u g def codec (Some w) (Err e) a i c k = record { read = tt; refused = inr (SpelledOut w u a (sym c ∙ k.0) k.1 (k.2 ∙ ap (λ (z : Codec). record { kind = NotValidCanonicalEncoding; codec = z }) c)); octets = i }

pub adds_default_value_not : {B : Type 0} (tree : B → Tree) (IsPart : B → Type 0) (Says : State → Result B DecodeError → State → Type 0) (eq : B → B → Bool) (takes : Bool) (Q : DecodeError → Type 0) (s u : State) (g : Tag) (def : B) (answer : Result (Option B) DecodeError) (flow : _) (x : _) (result : Result B DecodeError)
    → Adds tree IsPart Says s (Some g) answer u → answer ≡ result_from_control_flow flow → flow ≡ Break x → IsErrAnd result Q → ((y : DecodeError) → Q y → y ≡ x.0) → AddsDefaultValue tree IsPart Says eq takes s g def result u
adds_default_value_not tree IsPart Says eq takes Q s u g def answer flow x (Ok v) d e f h q = absurd h
adds_default_value_not tree IsPart Says eq takes Q s u g def answer flow x (Err y) d e f h q =
    let n = at_err (λ y. AddRefused tree IsPart Says s (Some g) y) answer flow x e f d.refused in
    record { read = tt; refused = inr (NotRead (subst (λ (z : DecodeError). AddRefused tree IsPart Says s (Some g) z) (sym (q y h)) n)); octets = d.octets }

-- a default that wants memory says nothing of what comes
memory_stops : {A : Type 0} (s : State) (ps qs : Parts) (x y : DecodeError) → WantsMemory s x → y ≡ x → Stops {A = A} s ps qs (Err y)
memory_stops s ps qs x y m e = record { mode = ap (λ (z : DecodeError). z.codec) e ∙ m.1; none = λ n. absurd (n (ap (λ (z : DecodeError). z.kind) e ∙ m.0)) }

module _ {B : Type 0} (tree : B → Tree) (IsPart : B → Type 0) (Says : State → Result B DecodeError → State → Type 0) (eq : B → B → Bool) (takes : Bool) where
  pub default_value_read : (s u t : State) (answer : Result B DecodeError) (flow : _) (v def : B) (k g : Tag) (w : Tree) (sl : Slot) (ps qs : Parts) (r a : Rows)
      → AsksDefaultValue tree IsPart Says eq takes s k def answer u → answer ≡ result_from_control_flow flow → flow ≡ Continue v → k ≡ g → IsDefault tree IsPart eq def → w ≡ tree def → sl ≡ present_unless (eq v def) (tree v) → Takes u ps qs r a t
      → Takes s (DefaultPart g w (Admits tree IsPart) ps) qs (Default g w sl r) a t
  default_value_read s u t answer flow v def k g w sl ps qs r a d e f p known i j took =
      default_read tree IsPart Says eq s u t (Ok v) (Continue v) v def def g k w sl ps qs r a (at_ok (λ v. AsksDefault tree IsPart Says eq s k def (Ok v) u) answer flow v e f d.read) p refl refl refl known i j took

  pub default_value_passed : {A : Type 0} (s u : State) (answer : Result B DecodeError) (flow : _) (v def : B) (k g : Tag) (w : Tree) (ps qs : Parts) (result : Result A DecodeError)
      → AsksDefaultValue tree IsPart Says eq takes s k def answer u → answer ≡ result_from_control_flow flow → flow ≡ Continue v → k ≡ g → IsDefault tree IsPart eq def → w ≡ tree def → Stops u ps qs result
      → Stops s (DefaultPart g w (Admits tree IsPart) ps) qs result
  default_value_passed s u answer flow v def k g w ps qs result d e f p known i took =
      default_passed tree IsPart Says eq s u (Ok v) (Continue v) v def def g k w ps qs result (at_ok (λ v. AsksDefault tree IsPart Says eq s k def (Ok v) u) answer flow v e f d.read) p refl refl refl known i took

  pub default_value_stops : {A : Type 0} (Q : DecodeError → Type 0) (s u : State) (answer : Result B DecodeError) (flow : _) (x : _) (def : B) (k g : Tag) (w : Tree) (ps qs : Parts) (result : Result A DecodeError)
      → AsksDefaultValue tree IsPart Says eq takes s k def answer u → answer ≡ result_from_control_flow flow → flow ≡ Break x → k ≡ g → IsDefault tree IsPart eq def → w ≡ tree def → IsErrAnd result Q → ((y : DecodeError) → Q y → y ≡ x.0)
      → Stops s (DefaultPart g w (Admits tree IsPart) ps) qs result
  default_value_stops Q s u answer flow x def k g w ps qs (Ok z) d e f p known i l b = absurd l
  default_value_stops {A} Q s u answer flow x def k g w ps qs (Err y) d e f p known i l b = go (at_err (λ y. ((takes ≡ true) × WantsMemory s y) ⊎ WasRefused y) answer flow x e f d.refused)
    where
      WasRefused : DecodeError → Type 0
      WasRefused y = DefaultRefused eq (Asked tree IsPart Says s k) (AskRefused tree IsPart Says s k) s def y

      go : ((takes ≡ true) × WantsMemory s x.0) ⊎ WasRefused x.0 → Stops {A = A} s (DefaultPart g w (Admits tree IsPart) ps) qs (Err y)
      go (inl m) = memory_stops s (DefaultPart g w (Admits tree IsPart) ps) qs x.0 y m.1 (b y l)
      go (inr n) = default_stops tree IsPart Says eq Q s s (Err x.0) (Break x) x def def g k w ps qs (Err y) (record { read = tt; same = refl; refused = n }) p refl refl refl known i l b

  pub default_value_admitted : (s u : State) (answer : Result B DecodeError) (flow : _) (v def : B) (g : Tag)
      → AsksDefaultValue tree IsPart Says eq takes s g def answer u → IsPart def → answer ≡ result_from_control_flow flow → flow ≡ Continue v → IsPart v
  default_value_admitted s u answer flow v def g d i e f =
      default_value tree IsPart Says eq s u (Ok v) (Continue v) v def def g (at_ok (λ v. AsksDefault tree IsPart Says eq s g def (Ok v) u) answer flow v e f d.read) refl i refl refl

  -- the same of an addition
  pub added_default_value_read : (s u t : State) (answer : Result B DecodeError) (flow : _) (v def : B) (k g : Tag) (w : Tree) (sl : Slot) (qs : Parts) (a : Rows)
      → AddsDefaultValue tree IsPart Says eq takes s k def answer u → answer ≡ result_from_control_flow flow → flow ≡ Continue v → IsDefault tree IsPart eq def → k ≡ g → w ≡ tree def → sl ≡ present_unless (eq v def) (tree v) → Takes u NoParts qs NoRows a t
      → Takes s NoParts (DefaultPart g w (Admits tree IsPart) qs) NoRows (Default g w sl a) t
  added_default_value_read s u t answer flow v def k g w sl qs a d e f known p i j took =
      default_addition_read tree IsPart Says eq s u t (Ok v) (Continue v) v def def k g w sl qs a (at_ok (λ v. AddsDefault tree IsPart Says eq s k def (Ok v) u) answer flow v e f d.read) refl refl refl known p i j took

  pub added_default_value_passed : {A : Type 0} (s u : State) (answer : Result B DecodeError) (flow : _) (v def : B) (k g : Tag) (w : Tree) (qs : Parts) (result : Result A DecodeError)
      → AddsDefaultValue tree IsPart Says eq takes s k def answer u → answer ≡ result_from_control_flow flow → flow ≡ Continue v → IsDefault tree IsPart eq def → k ≡ g → w ≡ tree def → Stops u NoParts qs result
      → Stops s NoParts (DefaultPart g w (Admits tree IsPart) qs) result
  added_default_value_passed s u answer flow v def k g w qs result d e f known p i took =
      default_addition_passed tree IsPart Says eq s u (Ok v) (Continue v) v def def k g w qs result (at_ok (λ v. AddsDefault tree IsPart Says eq s k def (Ok v) u) answer flow v e f d.read) refl refl refl known p i took

  pub added_default_value_stops : {A : Type 0} (Q : DecodeError → Type 0) (s u : State) (answer : Result B DecodeError) (flow : _) (x : _) (def : B) (k g : Tag) (w : Tree) (qs : Parts) (result : Result A DecodeError)
      → AddsDefaultValue tree IsPart Says eq takes s k def answer u → answer ≡ result_from_control_flow flow → flow ≡ Break x → IsDefault tree IsPart eq def → k ≡ g → w ≡ tree def → IsErrAnd result Q → ((y : DecodeError) → Q y → y ≡ x.0)
      → Stops s NoParts (DefaultPart g w (Admits tree IsPart) qs) result
  added_default_value_stops Q s u answer flow x def k g w qs (Ok z) d e f known p i l b = absurd l
  added_default_value_stops {A} Q s u answer flow x def k g w qs (Err y) d e f known p i l b = go (at_err (λ y. ((takes ≡ true) × WantsMemory s y) ⊎ WasRefused y) answer flow x e f d.refused)
    where
      WasRefused : DecodeError → Type 0
      WasRefused y = DefaultRefused eq (Added tree IsPart Says s (Some k)) (AddRefused tree IsPart Says s (Some k)) s def y

      go : ((takes ≡ true) × WantsMemory s x.0) ⊎ WasRefused x.0 → Stops {A = A} s NoParts (DefaultPart g w (Admits tree IsPart) qs) (Err y)
      go (inl m) = memory_stops s NoParts (DefaultPart g w (Admits tree IsPart) qs) x.0 y m.1 (b y l)
      go (inr n) = default_addition_stops tree IsPart Says eq Q s s (Err x.0) (Break x) x def def k g w qs (Err y) (record { read = tt; same = refl; refused = n; octets = d.octets }) refl refl refl known p i l b

  pub added_default_value_admitted : (s u : State) (answer : Result B DecodeError) (flow : _) (v def : B) (g : Tag)
      → AddsDefaultValue tree IsPart Says eq takes s g def answer u → IsPart def → answer ≡ result_from_control_flow flow → flow ≡ Continue v → IsPart v
  added_default_value_admitted s u answer flow v def g d i e f =
      added_default_value tree IsPart Says eq s u (Ok v) (Continue v) v def def g (at_ok (λ v. AddsDefault tree IsPart Says eq s g def (Ok v) u) answer flow v e f d.read) refl i refl refl

-- ---- what is admitted of a component that may be absent

pub asked_there : {B : Type 0} (tree : B → Tree) (IsPart : B → Type 0) (Says : State → Result B DecodeError → State → Type 0) (s : State) (g : Tag) (o : Option B) (t : State) → Asked tree IsPart Says s g o t → IfThere IsPart o
asked_there tree IsPart Says s g None t k = tt
asked_there tree IsPart Says s g (Some v) t k = k.reads.value

pub added_there : {B : Type 0} (tree : B → Tree) (IsPart : B → Type 0) (Says : State → Result B DecodeError → State → Type 0) (s : State) (g : Option Tag) (o : Option B) (t : State) → Added tree IsPart Says s g o t → IfThere IsPart o
added_there tree IsPart Says s g None t k = tt
added_there tree IsPart Says s g (Some v) t k = k.open_type.reads.value

pub added_value : {B : Type 0} (tree : B → Tree) (IsPart : B → Type 0) (Says : State → Result B DecodeError → State → Type 0) (s : State) (g : Option Tag) (o : Option B) (v : B) (t : State) → Added tree IsPart Says s g o t → o ≡ Some v → IsPart v
added_value tree IsPart Says s g o v t k e = subst (λ (z : Option _). IfThere IsPart z) e (added_there tree IsPart Says s g o t k)

-- ---- a value made of its components

pub made_read : {A R : Type 0} (k : Schema R) (of : A → R) (s t : State) (row : R) (v : A) → of v ≡ row → Takes s k.roots.parts k.additions.parts (k.roots.rows row) (k.additions.rows row) t
    → ReadsParts k.roots.parts k.additions.parts (λ v. k.roots.rows (of v)) (λ v. k.additions.rows (of v)) s (Ok v) t
made_read k of s t row v e d = record {
  read = subst (λ (z : _). Takes s k.roots.parts k.additions.parts (k.roots.rows z) (k.additions.rows z) t) (sym e) d;
  stops = record { mode = tt; none = tt };
}

pub made_value : {A R : Type 0} (k : Schema R) (of : A → R) (row : R) (v : A) → of v ≡ row → IsOf k row → IsOf k (of v)
made_value k of row v e i = subst (λ (z : _). IsOf k z) (sym e) i

-- ---- the law of a sequence by its schema

-- the values are those whose rows are of the parts, and of these the admitted ones
decodes_as : {A : Type 0} (tree : A → Tree) (IsPart IsValue : A → Type 0) → ((v : A) → IsValue v → IsPart v) → (s : State) (r : Result A DecodeError) (t : State) → IfOk r IsValue → Decodes tree IsPart s r t → Decodes tree IsValue s r t
decodes_as tree IsPart IsValue in_part s (Ok v) t i d = record {
  read = record {
    taken = d.read.taken;
    split = d.read.split;
    encoding = d.read.encoding;
    value = i;
    only = λ w o j f. d.read.only w o (in_part w j) f;
    rest = d.read.rest;
  };
  refused = tt;
}
decodes_as tree IsPart IsValue in_part s (Err e) t i d = record { read = tt; refused = record { same = d.refused.same; mode = d.refused.mode; none = λ m w o j f. d.refused.none m w o (in_part w j) f } }

pub schema_law : {A R : Type 0} (k : Schema R) (of_row : Bool) (is_schema : IsSchema k of_row) (of : A → R) (extensible : Bool) (table more : List Row) (tables : HasTables k of_row extensible table more)
    (tree : A → Tree) (IsValue : A → Type 0) (is : (v : A) → tree v ≡ tree_of k extensible (of v)) (within : (v : A) → IsValue v → IsOf k (of v)) (back : (v : A) → IsOf k (of v) → IsValue v)
    (Ran : State → Result A DecodeError → State → Type 0)
    (promise : (s : State) (r : Result A DecodeError) (t : State) → Ran s r t → ReadsParts k.roots.parts k.additions.parts (λ v. k.roots.rows (of v)) (λ v. k.additions.rows (of v)) s r t)
    (values : (s : State) (r : Result A DecodeError) (t : State) → Ran s r t → IfOk r (λ v. IsOf k (of v)))
    (old : State) (result : Result A DecodeError) (new : State) → IfOk result (λ v. SequenceRead Ran extensible table more old v new)
    → IfErr result (λ e. SequenceRefused Ran extensible table more old e) → OnErr result (new ≡ old) → Decodes tree IsValue old result new
schema_law {A} k of_row is_schema of extensible table more tables tree IsValue is within back Ran promise values old result new read refused same =
    decodes_as tree IsPart IsValue in_part old result new (ran result read)
    (sequence_law k.roots.parts k.additions.parts (λ v. k.roots.rows (of v)) (λ v. k.additions.rows (of v)) extensible table more
    (subst (λ (z : List Row). IsTableOf z k.roots.parts) (sym tables.roots_are) (is_schema.roots.is_table 0))
    (subst (λ (z : List Row). IsTableOf z k.additions.parts) (sym tables.additions_are) (is_schema.additions.is_table 0))
    (λ e. tables.additions_are ∙ is_schema.no_fields (tables.same ∙ e)) tree IsPart is (λ v a b. (a, b)) (λ v i. i) Ran promise old result new read refused same)
  where
    IsPart : A → Type 0
    IsPart v = AreOf k.roots.parts (k.roots.rows (of v)) × AreOf k.additions.parts (k.additions.rows (of v))

    in_part : (v : A) → IsValue v → IsPart v
    in_part v i = let j = within v i in (is_schema.roots.made (of v) j.0, is_schema.additions.made (of v) j.1)

    ran : (r : Result A DecodeError) → IfOk r (λ v. SequenceRead Ran extensible table more old v new) → IfOk r IsValue
    ran (Ok v) d = back v (values d.lent (Ok v) d.after d.ran)
    ran (Err e) d = tt

-- the components before, and the rest
pub ruleset chained = (asked_there, added_there, reading, default_value_read, default_value_passed, default_value_stops, added_default_value_read, added_default_value_passed, added_default_value_stops, added_read, added_passed, added_stops, required_added_read, required_added_passed, required_added_absent, required_added_stops, rest_stops)
