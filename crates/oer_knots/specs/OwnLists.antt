-- What a list of itself promises of its answers, and what reading one as an element of a list does.
use Rattle.std.specs.Prelude.{◌≡◌, ◌<◌, ℕ, zero, suc, List, [], ◌∷◌, ◌++◌, Ok, Err}
use Rattle.asn1_core.specs.Octets.{Octets, AreOctets}
use Rattle.asn1_core.specs.declared.error.DecodeError.{DecodeError}
use Rattle.oer_spec.specs.Tree.{Tree}
use Rattle.oer_read.specs.Law.{WantsMemory}
use Rattle.oer_read.specs.Lists.{lent_element, list_opened_at}
use Rattle.oer_read.specs.State.{State}
use Rattle.oer_knots.specs.Answering.{Beside, Answering, promised, bare, of_list, within}

module _ {K B : Type 0} (tree : B → Tree) (IsValue : B → Type 0) (held : B → K) where
  -- the list, by what is said of the knots that its elements hold
  abbrev pub own_list : Answering K (List B)
  own_list = of_list (λ vs. vs) (promised tree IsValue (bare held))

  -- an element of the list, whose knot is read within so many levels
  abbrev pub OwnElement : (K → List B) → ℕ → Beside B
  OwnElement items n s r t = (promised tree IsValue (bare held)).Answered (within items own_list n) s r t

module _ {A : Type 0} (Ran : Beside A) (old : State) where
  -- a value was read, and stands behind those that were there
  pub record Pushed (before after : List A) (new : State) : Type 0 where
    pub value : A
    pub kept : after ≡ before ++ value ∷ []
    pub read : Ran old (Ok value) new

  -- none was read, or one was and memory was refused for it
  pub data NotPushed (e : DecodeError) : Type 0 where
    NotRead : (new : State) → Ran old (Err e) new → NotPushed e
    NoMemory : (value : A) (new : State) → Ran old (Ok value) new → WantsMemory old e → NotPushed e

-- a list of one element, which begins at `start`
pub record HoldsOne (list : State) (start : Octets) : Type 0 where
  pub opened : list_opened_at list ≡ Ok (1, start)
  pub level : 0 < list.levels
  pub octets : AreOctets list.input

-- so many lists of one list each stand around the list that is read from the second state, the outermost from the first
abbrev pub LiesWithin : State → ℕ → State → Type 0
LiesWithin outer zero inner = inner ≡ outer
LiesWithin outer (suc n) inner = (list : State) × (start : Octets) × HoldsOne list start × (inner ≡ lent_element list start) × LiesWithin outer n list
