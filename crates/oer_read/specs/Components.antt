-- What the calls of a closure do that ask a root component by the next presence bit.
use Rattle.std.specs.Prelude.{◌≡◌, Bool, true, false, List, ◌∷◌, Option, Some, None, Result, Ok, Err, IfOk, IfErr}
use Rattle.asn1_core.specs.declared.error.DecodeError.{DecodeError}
use Rattle.asn1_core.specs.declared.tag.Tag.{Tag}
use Rattle.oer_spec.specs.Tree.{Tree}
use Rattle.oer_read.specs.Law.{Reads, NoEncoding, IsForMemory}
use Rattle.oer_read.specs.Scopes.{missing}
use Rattle.oer_read.specs.State.{Ask, State}

-- the same decoder with these rows left to ask
abbrev pub asking : State → List Ask → State
asking s ks = record s { frame = record s.frame { asks = ks } }

module _ {A : Type 0} (tree : A → Tree) (IsValue : A → Type 0) (Answered : State → Result A DecodeError → State → Type 0) (s : State) (g : Tag) where
  -- the next row has that tag, and its bit is 0
  pub record AskedAbsent (t : State) : Type 0 where
    pub more : List Ask
    pub next : s.frame.asks ≡ record { tag = g; bit = false } ∷ more
    pub left : t ≡ asking s more

  -- the next row has that tag, its bit is 1, and its value was read
  pub record AskedPresent (v : A) (t : State) : Type 0 where
    pub more : List Ask
    pub next : s.frame.asks ≡ record { tag = g; bit = true } ∷ more
    pub reads : Reads tree IsValue (asking s more) v t
    pub answered : Answered (asking s more) (Ok v) t

  abbrev pub Asked : Option A → State → Type 0
  Asked None t = AskedAbsent t
  Asked (Some v) t = AskedPresent v t

  -- The first that applies: no row is left or the next one has another tag, which is missing; or its bit is 1, and the
  -- value is refused with that very error by its type.
  pub data AskRefused (e : DecodeError) : Type 0 where
    NotNext : ((b : Bool) (more : List Ask) → ◌≡◌ {A = List Ask} s.frame.asks (record { tag = g; bit = b } ∷ more) → ⊥) → e ≡ record { kind = missing g; codec = s.codec } → AskRefused e
    Inside : (more : List Ask) → s.frame.asks ≡ record { tag = g; bit = true } ∷ more → (after : State) → Answered (asking s more) (Err e) after → e.codec ≡ s.codec → ((IsForMemory e → ⊥) → NoEncoding tree IsValue (asking s more)) → AskRefused e

  -- An optional component: absent or read by its bit; a refusal changes nothing.
  pub record Asks (answer : Result (Option A) DecodeError) (t : State) : Type 0 where
    pub read : IfOk answer (λ o. Asked o t)
    pub same : IfErr answer (λ e. t ≡ s)
    pub refused : IfErr answer (λ e. AskRefused e)
