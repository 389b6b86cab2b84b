-- Elements that were read in turn.
use Rattle.std.proofs.Common.{ℕ, suc, ◌+◌, ◌≤◌, ◌==◌, Bool, true, false, cond, List, [], ◌∷◌, ◌++◌, length, Result, Ok, Err, refl, sym, ap₂, subst, arith, length-append}
use Rattle.asn1_core.specs.Octets.{Octets}
use Rattle.asn1_core.specs.declared.error.DecodeError.{DecodeError}
use Rattle.std.specs.Result.{IfOk, IfErr}
use Rattle.oer_read.specs.Lists.{lent_element, count_empty, RanEach, SoFar, ListRead, ElementsStopped, ElementRefused, TooManyEmpty, NoMemory, ListRefused, NotOpened, Stopped, ListAnswers}
use Rattle.oer_read.specs.Law.{IsRear}
use Rattle.oer_read.specs.State.{State}
use Rattle.oer_read.proofs.Openings.{rear_trans}

-- one more element was read
pub RanEach-push : {A : Type 0} (Ran : State → Result A DecodeError → State → Type 0) (old : State) (r : Octets) (n : ℕ) (vs : List A) (q : Octets) (k : ℕ) (v : A) (after : State) → RanEach Ran old r n vs q k → Ran (lent_element old q) (Ok v) after
    → RanEach Ran old r n (vs ++ v ∷ []) after.input (count_empty k q after.input)
RanEach-push Ran old r n [] q k v after e x =
    (after, subst (λ (z : Octets). Ran (lent_element old z) (Ok v) after) (sym e.0) x, (refl, ap₂ (λ (m : ℕ) (z : Octets). count_empty m z after.input) e.1 e.0))
RanEach-push Ran old r n (w ∷ vs) q k v after e x = (e.0, e.1, RanEach-push Ran old e.0.input (count_empty n r e.0.input) vs q k v after e.2 x)

-- the count of elements without octets only grows
one_grows : (n : ℕ) (before after : Octets) → n ≤ count_empty n before after
one_grows n before after = grows (length before == length after)
  where
    grows : (b : Bool) → n ≤ cond b (suc n) n
    grows true = omega arith
    grows false = omega arith

each_grows : {A : Type 0} (Ran : State → Result A DecodeError → State → Type 0) (old : State) (r : Octets) (n : ℕ) (vs : List A) (q : Octets) (k : ℕ) → RanEach Ran old r n vs q k → n ≤ k
each_grows Ran old r n [] q k e = omega (arith, e.1)
each_grows Ran old r n (v ∷ vs) q k e = omega (arith, one_grows n r e.0.input, each_grows Ran old e.0.input (count_empty n r e.0.input) vs q k e.2)

-- Behind those that were read, what is left of each is a rear part, where the closure keeps so at what the list lends.
pub each_rear : {A : Type 0} (Ran : State → Result A DecodeError → State → Type 0) (old : State) (quantity : ℕ) (start : Octets) → ((before : List A) (end : Octets) (empties : ℕ) (v : A) (after : State) → SoFar Ran old quantity start before end empties → Ran (lent_element old end) (Ok v) after → IsRear end after.input)
    → (before : List A) (r : Octets) (n : ℕ) (vs : List A) (q : Octets) (k : ℕ) → RanEach Ran old start 0 before r n → RanEach Ran old r n vs q k → length before + length vs ≤ quantity → k ≤ 65536 → IsRear r q
each_rear Ran old quantity start keeps before r n [] q k done e fits few = record { front = []; split = e.0 }
each_rear Ran old quantity start keeps before r n (v ∷ vs) q k done e fits few =
    let so_far : SoFar Ran old quantity start before r n = record { more = omega (arith, fits); ran = done; few = omega (arith, each_grows Ran old r n (v ∷ vs) q k e, few) } in
    let later = each_rear Ran old quantity start keeps (before ++ v ∷ []) e.0.input (count_empty n r e.0.input) vs q k (RanEach-push Ran old start 0 before r n v e.0 done e.1) e.2 (omega (arith, fits, length-append before (v ∷ []))) few in
    rear_trans r e.0.input q (keeps before r n v e.0 so_far e.1) later

-- ---- what a closure did, by what it promises of it
module _ {A : Type 0} (Ran Says : State → Result A DecodeError → State → Type 0) (tells : (s : State) (r : Result A DecodeError) (t : State) → Ran s r t → Says s r t) (old : State) where
  each_tells : (r : Octets) (n : ℕ) (vs : List A) (q : Octets) (k : ℕ) → RanEach Ran old r n vs q k → RanEach Says old r n vs q k
  each_tells r n [] q k e = e
  each_tells r n (v ∷ vs) q k e = (e.0, tells (lent_element old r) (Ok v) e.0 e.1, each_tells e.0.input (count_empty n r e.0.input) vs q k e.2)

  read_tells : (vs : List A) (new : State) → ListRead Ran old vs new → ListRead Says old vs new
  read_tells vs new k = record { rest = k.rest; opened = k.opened; end = k.end; empties = k.empties; ran = each_tells k.rest 0 vs k.end k.empties k.ran; few = k.few; left = k.left; octets = k.octets }

  so_far_tells : (n : ℕ) (rest : Octets) (before : List A) (end : Octets) (k : ℕ) → SoFar Ran old n rest before end k → SoFar Says old n rest before end k
  so_far_tells n rest before end k s = record { more = s.more; ran = each_tells rest 0 before end k s.ran; few = s.few }

  stopped_tells : (n : ℕ) (rest : Octets) (e : DecodeError) → ElementsStopped Ran old n rest e → ElementsStopped Says old n rest e
  stopped_tells n rest e (ElementRefused before end k after s bad) = ElementRefused before end k after (so_far_tells n rest before end k s) (tells (lent_element old end) (Err e) after bad)
  stopped_tells n rest e (TooManyEmpty before end k v after s good full none is) = TooManyEmpty before end k v after (so_far_tells n rest before end k s) (tells (lent_element old end) (Ok v) after good) full none is
  stopped_tells n rest e (NoMemory before end k v after s good few m) = NoMemory before end k v after (so_far_tells n rest before end k s) (tells (lent_element old end) (Ok v) after good) few m

  refused_tells : (e : DecodeError) → ListRefused Ran old e → ListRefused Says old e
  refused_tells e (NotOpened x c) = NotOpened x c
  refused_tells e (Stopped n rest x s) = Stopped n rest x (stopped_tells n rest e s)

  pub list_answers : {L : Type 0} (items : L → List A) (result : Result L DecodeError) (new : State) → IfOk result (λ l. ListRead Ran old (items l) new) → IfErr result (λ e. ListRefused Ran old e) → ListAnswers Says old items result new
  list_answers items (Ok l) new k e = record { read = read_tells (items l) new k; refused = tt }
  list_answers items (Err x) new k e = record { read = tt; refused = refused_tells x e }
