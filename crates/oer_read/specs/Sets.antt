-- What a set does, by what its closures do.
use Rattle.std.specs.Prelude.{◌≡◌, ℕ, suc, Bool, true, false, cond, List, [], ◌∷◌, ◌++◌, length, None, Result, Ok, Err, get_or, drop, ◌⊎◌, Vec}
use Rattle.std.specs.Borrow.{MutBor}
use Rattle.std.specs.declared.alloc.Global.{Global}
use denote.Param.Members.{Once, Shared}
use Rattle.asn1_core.specs.Octets.{Octets, AreOctets}
use Rattle.asn1_core.specs.Rows.{Row, may_be_absent}
use Rattle.asn1_core.specs.Tags.{by_tag}
use Rattle.asn1_core.specs.declared.error.DecodeError.{DecodeError}
use Rattle.asn1_core.specs.declared.error.DecodeErrorKind.{DecodeErrorKind}
use Rattle.asn1_core.specs.declared.fields.FieldPresence.{FieldPresence}
use Rattle.asn1_core.specs.declared.tag.Tag.{Tag}
use Rattle.oer_spec.specs.Reading.{◌>>=◌}
use Rattle.oer_spec.specs.ReadingBits.{preamble_at}
use Rattle.oer_read.specs.Law.{WantsMemory}
use Rattle.oer_read.specs.Scopes.{level_at, bits_for, extension_in, presence_in, closed_at}
use Rattle.oer_read.specs.State.{Frame, State, places_of}

-- ---- which components are read, in which order

-- what a call reads: the component's index, an addition's counted on from the root rows, and its tag
pub record Call : Type 0 where
  pub index : ℕ
  pub tag : Tag

-- whether a row's component is there, by the presence bits from its own on; and the bits behind it
abbrev pub is_there : FieldPresence → List Bool → Bool
is_there p b = cond (may_be_absent p) (get_or b 0 false) true

abbrev pub bits_behind : FieldPresence → List Bool → List Bool
bits_behind p b = cond (may_be_absent p) (drop 1 b) b

-- the root components that are there
abbrev pub root_calls : List Row → List Bool → List Call
root_calls [] b = []
root_calls (r ∷ rs) b = cond (is_there r.presence b) (record { index = r.index; tag = r.tag } ∷ root_calls rs (bits_behind r.presence b)) (root_calls rs (bits_behind r.presence b))

-- the additions, whether they are there or not
abbrev pub addition_calls : ℕ → List Row → List Call
addition_calls n [] = []
addition_calls n (r ∷ rs) = record { index = n; tag = r.tag } ∷ addition_calls (suc n) rs

-- Each root component that is there, in tag order, and then each addition, in the order of the table.
abbrev pub set_calls : List Row → List Row → List Bool → List Call
set_calls roots additions b = root_calls (by_tag (λ r. r.tag) roots) b ++ addition_calls (length roots) additions

-- ---- what is lent

-- the frame of a set behind a preamble of these bits: no root row is asked by it
abbrev pub set_frame : Bool → List Row → List Bool → Frame
set_frame extensible additions b = record {
  is_set = true;
  asks = [];
  extensible = extensible;
  extended = extension_in extensible b;
  additions = places_of additions;
  bitmap = None;
}

-- What a set lends to its closure: a decoder behind the preamble, within one level less; and the presence bits.
unfoldable pub set_opened_at : State → Bool → List Row → List Row → Result (State × List Bool) DecodeErrorKind
set_opened_at s extensible roots additions = do
  levels ← level_at s.levels
  preamble ← preamble_at (bits_for extensible roots) s.input
  Ok (record { input = preamble.1; codec = s.codec; levels = levels; frame = set_frame extensible additions preamble.0 }, presence_in extensible preamble.0)

-- ---- calls of the closures

-- a call of `decode_fn` may give r, and leave the decoder so
pub record FieldReturns {F V : Type 0} (g : Shared F (MutBor State × (ℕ × (Tag × Unit {0}))) (Result V DecodeError × (MutBor State × Unit {0}))) (f : F) (c : Call) (s : State) (r : Result V DecodeError) (t : State) : Type 0 where
  pub shown : MutBor State
  pub shows : shown.now ≡ s
  pub left : MutBor State
  pub met : g.post f (shown, (c.index, (c.tag, tt))) (r, (left, tt))
  pub leaves : left.now ≡ t

-- `decode_fn` may be called so, at a `&mut` to s
abbrev pub FieldTakes : {F V : Type 0} → Shared F (MutBor State × (ℕ × (Tag × Unit {0}))) (Result V DecodeError × (MutBor State × Unit {0})) → F → Call → State → Type 0
FieldTakes g f c s = (p : MutBor State) → p.now ≡ s → g.pre f (p, (c.index, (c.tag, tt)))

-- `field_fn` may be called with these components
abbrev pub FieldsTaken : {F V A : Type 0} → Once F (Vec V Global × Unit {0}) (Result A DecodeError) → F → List V → Type 0
FieldsTaken {F} {V} g f fields = (handed : Vec V Global) → handed.items ≡ fields → g.pre f (handed, tt)

-- `field_fn` may answer r of these components
pub record FieldsMake {F V A : Type 0} (g : Once F (Vec V Global × Unit {0}) (Result A DecodeError)) (f : F) (fields : List V) (r : Result A DecodeError) : Type 0 where
  pub handed : Vec V Global
  pub holds : handed.items ≡ fields
  pub met : g.post f (handed, tt) r

module _ {V : Type 0} (Ran : Call → State → Result V DecodeError → State → Type 0) where
  -- the calls answered these in turn, from s to t
  abbrev pub RanInTurn : State → List Call → List V → State → Type 0
  RanInTurn s [] [] t = s ≡ t
  RanInTurn s (c ∷ cs) (v ∷ vs) t = (after : State) × Ran c s (Ok v) after × RanInTurn after cs vs t
  RanInTurn s _ _ t = ⊥

  -- each call answered until one refused with that very error
  abbrev pub RefusedInTurn : State → List Call → DecodeError → Type 0
  RefusedInTurn s [] e = ⊥
  RefusedInTurn s (c ∷ cs) e = ((after : State) × Ran c s (Err e) after) ⊎ ((v : V) × (after : State) × Ran c s (Ok v) after × RefusedInTurn after cs e)

  -- this call is the next at t, where those before it answered from s on
  abbrev pub CalledInTurn : State → List Call → Call → State → Type 0
  CalledInTurn s [] d t = ⊥
  CalledInTurn s (c ∷ cs) d t = ((c ≡ d) × (s ≡ t)) ⊎ ((v : V) × (after : State) × Ran c s (Ok v) after × CalledInTurn after cs d t)

-- One of the calls answered a component, and those before it did.
pub record AnsweredOne {V : Type 0} (Ran : Call → State → Result V DecodeError → State → Type 0) (start : State) (calls : List Call) : Type 0 where
  pub call : Call
  pub here : State
  pub called : CalledInTurn Ran start calls call here
  pub value : V
  pub after : State
  pub ran : Ran call here (Ok value) after

-- What a set lends to a call of its closure: the decoder that the calls before it left.
pub record SetLends {V : Type 0} (Ran : Call → State → Result V DecodeError → State → Type 0) (extensible : Bool) (roots additions : List Row) (old : State) (c : Call) (s : State) : Type 0 where
  pub lent : State
  pub bits : List Bool
  pub opened : set_opened_at old extensible roots additions ≡ Ok (lent, bits)
  pub called : CalledInTurn Ran lent (set_calls roots additions bits) c s

-- What a set hands to `field_fn`: what the calls answered on the decoder that was lent, where what they left was closed.
pub record SetHands {V : Type 0} (Ran : Call → State → Result V DecodeError → State → Type 0) (extensible : Bool) (roots additions : List Row) (old : State) (fields : List V) : Type 0 where
  pub lent : State
  pub bits : List Bool
  pub opened : set_opened_at old extensible roots additions ≡ Ok (lent, bits)
  pub after : State
  pub ran : RanInTurn Ran lent (set_calls roots additions bits) fields after
  pub rest : Octets
  pub closed : closed_at after ≡ Ok rest

-- ---- the set
module _ {A V : Type 0} (Ran : Call → State → Result V DecodeError → State → Type 0) (Makes : List V → Result A DecodeError → Type 0) (extensible : Bool) (roots additions : List Row) (old : State) where
  -- The calls answered on the decoder that was lent, what they left was closed, and the set was made of their answers.
  pub record SetRead (v : A) (new : State) : Type 0 where
    pub lent : State
    pub bits : List Bool
    pub opened : set_opened_at old extensible roots additions ≡ Ok (lent, bits)
    pub fields : List V
    pub after : State
    pub ran : RanInTurn Ran lent (set_calls roots additions bits) fields after
    pub rest : Octets
    pub closed : closed_at after ≡ Ok rest
    pub made : Makes fields (Ok v)
    pub left : new ≡ record old { input = rest }
    pub octets : AreOctets old.input

  -- The first that applies: the scope could not be opened, a call refused with that very error, what they left could not
  -- be closed, or `field_fn` refused with that very error. Or memory was refused for a component that was read.
  pub data SetRefused (e : DecodeError) : Type 0 where
    NotOpened : set_opened_at old extensible roots additions ≡ Err e.kind → e.codec ≡ old.codec → SetRefused e
    Stopped : (lent : State) (bits : List Bool) → set_opened_at old extensible roots additions ≡ Ok (lent, bits) → RefusedInTurn Ran lent (set_calls roots additions bits) e → SetRefused e
    NotClosed : (lent : State) (bits : List Bool) (fields : List V) (after : State) → set_opened_at old extensible roots additions ≡ Ok (lent, bits) → RanInTurn Ran lent (set_calls roots additions bits) fields after
        → closed_at after ≡ Err e.kind → e.codec ≡ old.codec → SetRefused e
    NotMade : (lent : State) (bits : List Bool) (fields : List V) (after : State) (rest : Octets) → set_opened_at old extensible roots additions ≡ Ok (lent, bits) → RanInTurn Ran lent (set_calls roots additions bits) fields after
        → closed_at after ≡ Ok rest → Makes fields (Err e) → SetRefused e
    NoMemory : (lent : State) (bits : List Bool) → set_opened_at old extensible roots additions ≡ Ok (lent, bits) → AnsweredOne Ran lent (set_calls roots additions bits) → WantsMemory old e → SetRefused e
