-- What types that hold values of a knot K promise of their answers beside the law, by what is said of the answers of the knots.
use Rattle.std.specs.Prelude.{◌≤◌, ℕ, zero, suc, Bool, List, Option, Some, Result, Ok, Err, IfErr}
use Rattle.std.specs.Result.{result_map_both}
use Rattle.std.proofs.Common.{inl, inr, arith}
use Rattle.asn1_core.specs.Rows.{Row}
use Rattle.asn1_core.specs.declared.error.DecodeError.{DecodeError}
use Rattle.asn1_core.specs.declared.tag.Tag.{Tag}
use Rattle.oer_spec.specs.Tree.{Tree}
use Rattle.oer_choices.specs.Refusals.{AlternativeRefused, First, Other}
use Rattle.oer_read.proofs.AddedAlso.{adds_also}
use Rattle.oer_read.proofs.AskedAlso.{asks_also}
use Rattle.oer_read.proofs.ChoiceLaw.{choice_answers}
use Rattle.oer_read.proofs.ListSteps.{list_answers}
use Rattle.oer_read.proofs.UnorderedSteps.{unordered_answers}
use Rattle.oer_read.specs.Additions.{Adds}
use Rattle.oer_read.specs.Answers.{BoxAnswers}
use Rattle.oer_read.specs.Choices.{ChoiceAnswers}
use Rattle.oer_read.specs.Components.{Asks}
use Rattle.oer_read.specs.Law.{Promised}
use Rattle.oer_read.specs.Lists.{ListAnswers}
use Rattle.oer_read.specs.Scopes.{SequenceRefused, NotOpened, Stopped, NotClosed}
use Rattle.oer_read.specs.State.{State}
use Rattle.oer_read.specs.Unordered.{UnorderedAnswers}
use Rattle.oer_rows.specs.Refusals.{RowRefused, Here, Behind, RowRan, RowAnswers}
use Rattle.oer_rows.specs.Schema.{Schema}

-- what is said of a type's answers beside the law
abbrev pub Beside : Type 0 → Type 1
Beside A = State → Result A DecodeError → State → Type 0

-- the second follows from the first
abbrev pub Follows : {A : Type 0} → Beside A → Beside A → Type 0
Follows {A} P Q = (s : State) (r : Result A DecodeError) (t : State) → P s r t → Q s r t

-- What a type promises, by what is said of the knots in it: what follows from that may stand in its place.
pub record Answering (K A : Type 0) : Type 1 where
  pub Answered : Beside K → Beside A
  pub also : (P Q : Beside K) → Follows P Q → Follows (Answered P) (Answered Q)

-- Why a row is not read, the same way.
pub record Refusing (K : Type 0) : Type 1 where
  pub Refuses : Beside K → State → DecodeError → Type 0
  pub also : (P Q : Beside K) → Follows P Q → (s : State) (e : DecodeError) → Refuses P s e → Refuses Q s e

-- ---- components
module _ {K A : Type 0} where
  -- without knots
  abbrev pub plain : Beside A → Answering K A
  plain Said = record { Answered = λ P. Said; also = λ P Q h s r t k. k }

  -- required
  abbrev pub promised : (A → Tree) → (A → Type 0) → Answering K A → Answering K A
  promised tree IsValue a = record { Answered = λ P s r t. Promised tree IsValue (a.Answered P) s r t; also = λ P Q h s r t k. record { law = k.law; answered = a.also P Q h s r t k.answered } }

  -- optional
  abbrev pub asked : (A → Tree) → (A → Type 0) → Tag → Answering K A → Answering K (Option A)
  asked tree IsValue g a = record { Answered = λ P s r t. Asks tree IsValue (a.Answered P) s g r t; also = λ P Q h s r t k. asks_also tree IsValue (a.Answered P) (a.Answered Q) (a.also P Q h) s g r t k }

  -- an extension addition
  abbrev pub added : (A → Tree) → (A → Type 0) → Tag → Answering K A → Answering K (Option A)
  added tree IsValue g a = record { Answered = λ P s r t. Adds tree IsValue (a.Answered P) s (Some g) r t; also = λ P Q h s r t k. adds_also tree IsValue (a.Answered P) (a.Answered Q) (a.also P Q h) s (Some g) r t k }

-- ---- what holds a knot and no more
module _ {K B : Type 0} (content : B → K) where
  -- as it is
  abbrev pub bare : Answering K B
  bare = record { Answered = λ P s r t. P s (result_map_both content (λ e. e) r) t; also = λ P Q h s r t k. h s (result_map_both content (λ e. e) r) t k }

  pub box_also : (P Q : Beside K) → Follows P Q → (s : State) (r : Result B DecodeError) (t : State) → BoxAnswers P content s r t → BoxAnswers Q content s r t
  box_also P Q h s (Ok b) t k = h s (Ok (content b)) t k
  box_also P Q h s (Err e) t (inl k) = inl (k.0, k.1, h s (Ok k.0) k.1 k.2, k.3)
  box_also P Q h s (Err e) t (inr k) = inr (h s (Err e) t k)

  -- in a box
  abbrev pub boxed : Answering K B
  boxed = record { Answered = λ P s r t. BoxAnswers P content s r t; also = box_also }

-- ---- rows
pub row_also : {X : Type 0} (Did Also : Result X DecodeError → State → Type 0) (Rest More : State → DecodeError → Type 0) (e : DecodeError) → ((r : Result X DecodeError) (t : State) → Did r t → Also r t) → ((t : State) → Rest t e → More t e)
    → RowRefused Did Rest e → RowRefused Also More e
row_also Did Also Rest More e did rest (Here t k) = Here t (did (Err e) t k)
row_also Did Also Rest More e did rest (Behind x t k m) = Behind x t (did (Ok x) t k) (rest t m)

module _ {K : Type 0} where
  -- without knots
  abbrev pub unknotted : (State → DecodeError → Type 0) → Refusing K
  unknotted Refuses = record { Refuses = λ P. Refuses; also = λ P Q h s e k. k }

  -- a component and the row behind it
  abbrev pub before : {X : Type 0} → Answering K X → Refusing K → Refusing K
  before a rest = record { Refuses = λ P s e. RowRefused (λ r t. a.Answered P s r t) (rest.Refuses P) e; also = λ P Q h s e k. row_also (a.Answered P s) (a.Answered Q s) (rest.Refuses P) (rest.Refuses Q) e (λ r t. a.also P Q h s r t) (λ t. rest.also P Q h t e) k }

-- ---- a sequence or a set of a row
module _ {K V : Type 0} (schema : Schema V) (extensible : Bool) (row : Refusing K) where
  sequence_also : (P Q : Beside K) → Follows P Q → (roots additions : List Row) (s : State) (e : DecodeError) → SequenceRefused (RowRan schema (row.Refuses P)) extensible roots additions s e → SequenceRefused (RowRan schema (row.Refuses Q)) extensible roots additions s e
  sequence_also P Q h roots additions s e (NotOpened p c) = NotOpened p c
  sequence_also P Q h roots additions s e (Stopped lent after p k) = Stopped lent after p (row.also P Q h lent e k)
  sequence_also P Q h roots additions s e (NotClosed lent after v p k q c) = NotClosed lent after v p k q c

  pub answers_also : {A : Type 0} (P Q : Beside K) → Follows P Q → (s : State) (r : Result A DecodeError) → RowAnswers schema extensible (row.Refuses P) s r → RowAnswers schema extensible (row.Refuses Q) s r
  answers_also P Q h s (Ok v) k = tt
  answers_also P Q h s (Err e) k = sequence_also P Q h (schema.roots.fields 0) (schema.additions.fields 0) s e k

  abbrev pub of_row : {A : Type 0} → Answering K A
  of_row = record { Answered = λ P s r t. RowAnswers schema extensible (row.Refuses P) s r; also = λ P Q h s r t k. answers_also P Q h s r k }

-- ---- lists: one whose order counts, and one whose doesn't
abbrev pub of_list : {K A L : Type 0} → (L → List A) → Answering K A → Answering K L
of_list items a = record { Answered = λ P s r t. ListAnswers (a.Answered P) s items r t; also = λ P Q h s r t k. list_answers (a.Answered P) (a.Answered Q) (a.also P Q h) s items r t k.read k.refused }

abbrev pub of_set : {K A : Type 0} → Answering K A → Answering K (List A)
of_set a = record { Answered = λ P s r t. UnorderedAnswers (a.Answered P) s r t; also = λ P Q h s r t k. unordered_answers (a.Answered P) (a.Answered Q) (a.also P Q h) s r t k.read k.refused }

-- ---- alternatives
pub alternative_also : {B : Type 0} (tag : Tag) (Did Also : Beside B) (Others More : Tag → State → DecodeError → Type 0) (g : Tag) (s : State) (e : DecodeError) → Follows Did Also → (Others g s e → More g s e) → AlternativeRefused tag Did Others g s e → AlternativeRefused tag Also More g s e
alternative_also tag Did Also Others More g s e did others (First p t k) = First p t (did s (Err e) t k)
alternative_also tag Did Also Others More g s e did others (Other p k) = Other p (others k)

module _ {K : Type 0} where
  -- an alternative and the row behind it
  abbrev pub alternative_before : {B : Type 0} → Tag → Answering K B → (Tag → Refusing K) → Tag → Refusing K
  alternative_before tag a rest g = record {
    Refuses = λ P s e. AlternativeRefused tag (a.Answered P) (λ g s e. (rest g).Refuses P s e) g s e;
    also = λ P Q h s e k. alternative_also tag (a.Answered P) (a.Answered Q) (λ g s e. (rest g).Refuses P s e) (λ g s e. (rest g).Refuses Q s e) g s e (a.also P Q h) ((rest g).also P Q h s e) k;
  }

-- ---- a choice of a row
module _ {K A : Type 0} (child : A → Tree) (IsOf : Tag → A → Type 0) (roots additions : List Tag) (extensible : Bool) (row : Tag → Refusing K) where
  -- what reading the alternative with that tag promises
  abbrev pub Taken : Beside K → Tag → Beside A
  Taken P g s r t = Promised child (IsOf g) (λ s r t. IfErr r (λ e. (row g).Refuses P s e)) s r t

  pub refused_also : (P Q : Beside K) → Follows P Q → (g : Tag) (s : State) (r : Result A DecodeError) → IfErr r (λ e. (row g).Refuses P s e) → IfErr r (λ e. (row g).Refuses Q s e)
  refused_also P Q h g s (Ok v) k = tt
  refused_also P Q h g s (Err e) k = (row g).also P Q h s e k

  abbrev pub of_choice : Answering K A
  of_choice = record {
    Answered = λ P s r t. ChoiceAnswers (Taken P) roots additions extensible s r t;
    also = λ P Q h s r t k. choice_answers (Taken P) (Taken Q) (λ g s r t d. record { law = d.law; answered = refused_also P Q h g s r d.answered }) roots additions extensible s r t k.read k.refused;
  }

-- ---- the knot
module _ {K C : Type 0} (content : K → C) (c : Answering K C) where
  -- What is promised of a knot that is read within so many levels: its content answers so, with knots in it that are read within
  -- fewer. Within none there is no answer.
  unfoldable pub within : ℕ → Beside K
  within zero s r t = ⊥
  within (suc n) s r t = c.Answered (within n) s (result_map_both content (λ e. e) r) t

  -- what a knot promises of its answers: a knot takes a level, so that within those left it has an end
  abbrev pub KnotAnswers : Beside K
  KnotAnswers s r t = within (suc s.levels) s r t

  -- more levels say less
  pub within_more : (m n : ℕ) → m ≤ n → Follows (within m) (within n)
  unfolding within
  within_more zero n l s r t k = absurd k
  within_more (suc m) zero l s r t k = absurd (omega (arith, l))
  within_more (suc m) (suc n) l s r t k = c.also (within m) (within n) (within_more m n (omega (arith, l))) s (result_map_both content (λ e. e) r) t k
