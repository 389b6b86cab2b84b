-- What reading an unordered list does, by what reading an element promises.
use Rattle.std.specs.Prelude.{◌≡◌, ℕ, ◌+◌, ◌<◌, ◌≤◌, true, false, List, [], ◌∷◌, ◌++◌, length, Result, Ok, Err, IfOk, IfErr}
use Rattle.asn1_core.specs.Octets.{Octets, AreOctets}
use Rattle.asn1_core.specs.declared.codec.Codec.TheVariants.{Coer}
use Rattle.asn1_core.specs.declared.error.DecodeError.{DecodeError}
use Rattle.asn1_core.specs.declared.error.DecodeErrorKind.TheVariants.{TooManyEmptyElements, NotValidCanonicalEncoding}
use Rattle.oer_spec.specs.Encoding.{empties}
use Rattle.oer_spec.specs.Orders.{octets_le, Ascends}
use Rattle.oer_read.specs.Law.{WantsMemory}
use Rattle.oer_read.specs.Lists.{lent_element, list_opened_at}
use Rattle.oer_read.specs.State.{State}

-- the last of these, none where there is none: nothing is less than that
abbrev pub last_of : List Octets → Octets
last_of [] = []
last_of (o ∷ []) = o
last_of (o ∷ p ∷ os) = last_of (p ∷ os)

module _ {A : Type 0} (Ran : State → Result A DecodeError → State → Type 0) (old : State) where
  -- these elements were read in turn, from r to q, and took these octets
  abbrev pub TookEach : Octets → List A → List Octets → Octets → Type 0
  TookEach r [] [] q = r ≡ q
  TookEach r (v ∷ vs) (o ∷ os) q = (after : State) × Ran (lent_element old r) (Ok v) after × (r ≡ o ++ after.input) × TookEach after.input vs os q
  TookEach r _ _ q = ⊥

  -- The same, at most 65,536 of them without octets, and in canonical mode each with no less octets than the one before.
  pub record SoFar (r : Octets) (vs : List A) (os : List Octets) (q : Octets) : Type 0 where
    pub took : TookEach r vs os q
    pub few : empties os ≤ 65536
    pub ordered : old.codec ≡ Coer → Ascends os

  -- Behind n elements without octets, and one of the octets `last`, the next was read, and took these octets.
  pub record NextRead (n : ℕ) (last q : Octets) (v : A) (o p : Octets) (m : ℕ) : Type 0 where
    pub after : State
    pub ran : Ran (lent_element old q) (Ok v) after
    pub split : q ≡ o ++ p
    pub left : p ≡ after.input
    pub counted : m ≡ n + empties (o ∷ [])
    pub few : m ≤ 65536
    pub ordered : old.codec ≡ Coer → octets_le last o ≡ true

  -- The first that applies: the next is refused with that very error; it is the 65,537th without octets; canonically,
  -- its octets are less than those of the one before.
  pub data NextRefused (n : ℕ) (last q : Octets) (e : DecodeError) : Type 0 where
    ElementRefused : (after : State) → Ran (lent_element old q) (Err e) after → NextRefused n last q e
    TooManyEmpty : (v : A) (after : State) → Ran (lent_element old q) (Ok v) after → q ≡ after.input → n ≡ 65536
        → e ≡ record { kind = TooManyEmptyElements; codec = old.codec } → NextRefused n last q e
    OutOfOrder : (v : A) (after : State) (o : Octets) → Ran (lent_element old q) (Ok v) after → q ≡ o ++ after.input → n + empties (o ∷ []) ≤ 65536 → old.codec ≡ Coer → octets_le last o ≡ false
        → e ≡ record { kind = NotValidCanonicalEncoding; codec = old.codec } → NextRefused n last q e

  -- What a list of n elements lends for one: a decoder of what fewer before it left.
  pub record Lends (n : ℕ) (rest end : Octets) : Type 0 where
    pub before : List A
    pub elements : List Octets
    pub so_far : SoFar rest before elements end
    pub more : length before < n

  -- the same, where the list is at the front
  pub record UnorderedLends (end : Octets) : Type 0 where
    pub quantity : ℕ
    pub rest : Octets
    pub opened : list_opened_at old ≡ Ok (quantity, rest)
    pub lends : Lends quantity rest end
    pub level : 0 < old.levels

  -- As many elements as stated were read, and what is left is what the last left.
  pub record UnorderedRead (vs : List A) (new : State) : Type 0 where
    pub rest : Octets
    pub opened : list_opened_at old ≡ Ok (length vs, rest)
    pub elements : List Octets
    pub end : Octets
    pub so_far : SoFar rest vs elements end
    pub left : new ≡ record old { input = end }
    pub octets : AreOctets old.input

  -- After fewer elements than stated the next was refused; or memory was for the next, which was read.
  pub data ElementsStopped (n : ℕ) (rest : Octets) (e : DecodeError) : Type 0 where
    AtNext : (before : List A) (elements : List Octets) (end : Octets) → length before < n → SoFar rest before elements end → NextRefused (empties elements) (last_of elements) end e → ElementsStopped n rest e
    NoMemory : (before : List A) (elements : List Octets) (end : Octets) (v : A) (o left : Octets) (m : ℕ) → length before < n → SoFar rest before elements end → NextRead (empties elements) (last_of elements) end v o left m
        → WantsMemory old e → ElementsStopped n rest e

  -- The first that applies: no level is left or the quantity is refused; an element is.
  pub data UnorderedRefused (e : DecodeError) : Type 0 where
    NotOpened : list_opened_at old ≡ Err e.kind → e.codec ≡ old.codec → UnorderedRefused e
    Stopped : (n : ℕ) (rest : Octets) → list_opened_at old ≡ Ok (n, rest) → ElementsStopped n rest e → UnorderedRefused e

  -- an unordered list was read or refused
  pub record UnorderedAnswers (result : Result (List A) DecodeError) (new : State) : Type 0 where
    pub read : IfOk result (λ vs. UnorderedRead vs new)
    pub refused : IfErr result (λ e. UnorderedRefused e)
