-- What a list does, by what its closure does.
use Rattle.std.specs.Prelude.{◌≡◌, ℕ, suc, ◌-◌, ◌<◌, ◌≤◌, cond, ◌==◌, List, [], ◌∷◌, length, Result, Ok, Err, IfOk, IfErr}
use Rattle.std.specs.Borrow.{MutBor}
use denote.Param.Members.{Shared}
use Rattle.asn1_core.specs.Octets.{Octets, AreOctets}
use Rattle.asn1_core.specs.declared.error.DecodeError.{DecodeError}
use Rattle.asn1_core.specs.declared.error.DecodeErrorKind.{DecodeErrorKind}
use Rattle.asn1_core.specs.declared.error.DecodeErrorKind.TheVariants.{TooManyEmptyElements}
use Rattle.oer_spec.specs.Reading.{◌>>◌, quantity_at}
use Rattle.oer_read.specs.Law.{WantsMemory}
use Rattle.oer_read.specs.Scopes.{level_at}
use Rattle.oer_read.specs.State.{State, closed}

-- what a list lends for an element: a decoder of what is left, within one level less
abbrev pub lent_element : State → Octets → State
lent_element s rest = record { input = rest; codec = s.codec; levels = s.levels - 1; frame = closed }

-- a level, and how many elements follow
unfoldable pub list_opened_at : State → Result (ℕ × Octets) DecodeErrorKind
list_opened_at s = do
  level_at s.levels
  quantity_at s.codec s.input

-- one more element without octets, where the octets that are left are as many as before
abbrev pub count_empty : ℕ → Octets → Octets → ℕ
count_empty n before after = cond (length before == length after) (suc n) n

-- `f` may be called at a `&mut` to x
abbrev pub FnTakesAtMut : {F T R : Type 0} → Shared F (MutBor T × Unit {0}) (R × (MutBor T × Unit {0})) → F → T → Type 0
FnTakesAtMut {F} {T} g f x = (p : MutBor T) → p.now ≡ x → g.pre f (p, tt)

-- at a `&mut` to x, it may give r and leave y there
pub record FnReturnsAtMut {F T R : Type 0} (g : Shared F (MutBor T × Unit {0}) (R × (MutBor T × Unit {0}))) (f : F) (x : T) (r : R) (y : T) : Type 0 where
  pub shown : MutBor T
  pub shows : shown.now ≡ x
  pub left : MutBor T
  pub met : g.post f (shown, tt) (r, (left, tt))
  pub leaves : left.now ≡ y

module _ {A : Type 0} (Ran : State → Result A DecodeError → State → Type 0) (old : State) where
  -- The closure answered these in turn, from r to q, and there were n elements without octets before and k after.
  abbrev pub RanEach : Octets → ℕ → List A → Octets → ℕ → Type 0
  RanEach r n [] q k = (r ≡ q) × (n ≡ k)
  RanEach r n (v ∷ vs) q k = (after : State) × Ran (lent_element old r) (Ok v) after × RanEach after.input (count_empty n r after.input) vs q k

  -- As many elements as stated were answered, at most 65,536 of them without octets, and what is left is what the last left.
  pub record ListRead (vs : List A) (new : State) : Type 0 where
    pub rest : Octets
    pub opened : list_opened_at old ≡ Ok (length vs, rest)
    pub end : Octets
    pub empties : ℕ
    pub ran : RanEach rest 0 vs end empties
    pub few : empties ≤ 65536
    pub left : new ≡ record old { input = end }
    pub octets : AreOctets old.input

  -- Fewer elements than stated were answered, at most 65,536 of them without octets, and one more is read from `end` on.
  pub record SoFar (n : ℕ) (rest : Octets) (before : List A) (end : Octets) (empties : ℕ) : Type 0 where
    pub more : length before < n
    pub ran : RanEach rest 0 before end empties
    pub few : empties ≤ 65536

  -- What a list lends for an element: a decoder of what those before it left.
  pub record ListLends (end : Octets) : Type 0 where
    pub quantity : ℕ
    pub rest : Octets
    pub opened : list_opened_at old ≡ Ok (quantity, rest)
    pub before : List A
    pub empties : ℕ
    pub so_far : SoFar quantity rest before end empties
    pub level : 0 < old.levels

  -- The first that applies: the closure refused the next element with that very error; the next has no octets, and exactly
  -- 65,536 before it had none; memory was refused for the next, which was read.
  pub data ElementsStopped (n : ℕ) (rest : Octets) (e : DecodeError) : Type 0 where
    ElementRefused : (before : List A) (end : Octets) (empties : ℕ) (after : State) → SoFar n rest before end empties → Ran (lent_element old end) (Err e) after → ElementsStopped n rest e
    TooManyEmpty : (before : List A) (end : Octets) (empties : ℕ) (v : A) (after : State) → SoFar n rest before end empties → Ran (lent_element old end) (Ok v) after
        → empties ≡ 65536 → length after.input ≡ length end → e ≡ record { kind = TooManyEmptyElements; codec = old.codec } → ElementsStopped n rest e
    NoMemory : (before : List A) (end : Octets) (empties : ℕ) (v : A) (after : State) → SoFar n rest before end empties → Ran (lent_element old end) (Ok v) after
        → count_empty empties end after.input ≤ 65536 → WantsMemory old e → ElementsStopped n rest e

  -- The first that applies: no level is left or the quantity is refused; an element is.
  pub data ListRefused (e : DecodeError) : Type 0 where
    NotOpened : list_opened_at old ≡ Err e.kind → e.codec ≡ old.codec → ListRefused e
    Stopped : (n : ℕ) (rest : Octets) → list_opened_at old ≡ Ok (n, rest) → ElementsStopped n rest e → ListRefused e

  -- a list was read or refused, by what its closure promises
  pub record ListAnswers {L : Type 0} (items : L → List A) (result : Result L DecodeError) (new : State) : Type 0 where
    pub read : IfOk result (λ l. ListRead (items l) new)
    pub refused : IfErr result (λ e. ListRefused e)
