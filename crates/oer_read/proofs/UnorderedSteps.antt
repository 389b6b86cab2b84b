-- Elements of an unordered list that were read in turn.
use Rattle.std.proofs.Common.{◌≡◌, ℕ, suc, ◌+◌, true, cond, List, [], ◌∷◌, ◌++◌, length, Result, Ok, Err, refl, sym, ap, ◌∙◌, subst, arith, append_assoc, length-append}
use Rattle.std.specs.Result.{IfOk, IfErr}
use Rattle.asn1_core.specs.Octets.{Octets}
use Rattle.asn1_core.specs.declared.error.DecodeError.{DecodeError}
use Rattle.oer_spec.proofs.Skips.{is_nil}
use Rattle.oer_spec.specs.Encoding.{empties}
use Rattle.oer_spec.specs.Orders.{octets_le, Ascends}
use Rattle.oer_read.specs.Law.{IsRear}
use Rattle.oer_read.specs.Lists.{lent_element, count_empty}
use Rattle.oer_read.specs.State.{State}
use Rattle.oer_read.specs.Unordered.{last_of, TookEach, SoFar, NextRead, NextRefused, ElementRefused, TooManyEmpty, OutOfOrder, UnorderedRead, ElementsStopped, AtNext, NoMemory, UnorderedRefused, NotOpened, Stopped, UnorderedAnswers}
use Rattle.oer_read.proofs.ListLaw.{count_is}

-- ---- one element without octets more

one_more : (n : ℕ) (o : Octets) → cond (is_nil o) (suc n) n ≡ n + empties (o ∷ [])
one_more n [] = omega arith
one_more n (x ∷ o) = omega arith

pub count_more : (n : ℕ) (o p r : Octets) → r ≡ o ++ p → count_empty n r p ≡ n + empties (o ∷ [])
count_more n o p r e = ap (λ (z : Octets). count_empty n z p) e ∙ count_is n o p ∙ one_more n o

-- where as many octets are left, none was taken
pub none_taken : (o p r : Octets) → r ≡ o ++ p → length p ≡ length r → r ≡ p
none_taken [] p r e l = e
none_taken (x ∷ o) p r e l = absurd (omega (arith, l, ap length e, length-append (x ∷ o) p))

pub empties_push : (os : List Octets) (o : Octets) → empties (os ++ o ∷ []) ≡ empties os + empties (o ∷ [])
empties_push [] o = omega arith
empties_push ([] ∷ os) o = let e = empties_push os o in omega (arith, e)
empties_push ((x ∷ p) ∷ os) o = empties_push os o

-- ---- the order

pub last_push : (os : List Octets) (o : Octets) → last_of (os ++ o ∷ []) ≡ o
last_push [] o = refl
last_push (p ∷ []) o = refl
last_push (p ∷ q ∷ os) o = last_push (q ∷ os) o

pub ascends_push : (os : List Octets) (o : Octets) → Ascends os → octets_le (last_of os) o ≡ true → Ascends (os ++ o ∷ [])
ascends_push [] o a h = tt
ascends_push (p ∷ []) o a h = (h, tt)
ascends_push (p ∷ q ∷ os) o a h = (a.0, ascends_push (q ∷ os) o a.1 h)

module _ {A : Type 0} (Ran : State → Result A DecodeError → State → Type 0) (old : State) where
  took_push : (r : Octets) (vs : List A) (os : List Octets) (q : Octets) (v : A) (o : Octets) (after : State) → TookEach Ran old r vs os q → Ran (lent_element old q) (Ok v) after → q ≡ o ++ after.input
      → TookEach Ran old r (vs ++ v ∷ []) (os ++ o ∷ []) after.input
  took_push r [] [] q v o after e x s = (after, subst (λ (z : Octets). Ran (lent_element old z) (Ok v) after) (sym e) x, e ∙ s, refl)
  took_push r (w ∷ vs) (p ∷ os) q v o after e x s = (e.0, e.1, e.2, took_push e.0.input vs os q v o after e.3 x s)
  took_push r [] (p ∷ os) q v o after e x s = absurd e
  took_push r (w ∷ vs) [] q v o after e x s = absurd e

  -- one more element was read
  pub push : (r : Octets) (vs : List A) (os : List Octets) (q : Octets) (v : A) (o p : Octets) (m : ℕ) → SoFar Ran old r vs os q → NextRead Ran old (empties os) (last_of os) q v o p m → SoFar Ran old r (vs ++ v ∷ []) (os ++ o ∷ []) p
  push r vs os q v o p m s k = record {
    took = subst (λ (z : Octets). TookEach Ran old r (vs ++ v ∷ []) (os ++ o ∷ []) z) (sym k.left) (took_push r vs os q v o k.after s.took k.ran (k.split ∙ ap (λ (z : Octets). o ++ z) k.left));
    few = let e = empties_push os o in let n = k.few in let c = k.counted in omega (arith, e, n, c);
    ordered = λ c. ascends_push os o (s.ordered c) (k.ordered c);
  }

  -- what is left is a rear part
  pub took_rear : (r : Octets) (vs : List A) (os : List Octets) (q : Octets) → TookEach Ran old r vs os q → IsRear r q
  took_rear r [] [] q e = record { front = []; split = e }
  took_rear r (v ∷ vs) (o ∷ os) q e =
      let k = took_rear e.0.input vs os q e.3 in
      record { front = o ++ k.front; split = e.2 ∙ ap (λ (z : Octets). o ++ z) k.split ∙ sym (append_assoc o k.front q) }
  took_rear r [] (o ∷ os) q e = absurd e
  took_rear r (v ∷ vs) [] q e = absurd e

-- ---- what a closure did, by what it promises of it
module _ {A : Type 0} (Ran Says : State → Result A DecodeError → State → Type 0) (tells : (s : State) (r : Result A DecodeError) (t : State) → Ran s r t → Says s r t) (old : State) where
  each_tells : (r : Octets) (vs : List A) (os : List Octets) (q : Octets) → TookEach Ran old r vs os q → TookEach Says old r vs os q
  each_tells r [] [] q e = e
  each_tells r (v ∷ vs) (o ∷ os) q e = (e.0, tells (lent_element old r) (Ok v) e.0 e.1, e.2, each_tells e.0.input vs os q e.3)
  each_tells r [] (o ∷ os) q e = absurd e
  each_tells r (v ∷ vs) [] q e = absurd e

  so_far_tells : (r : Octets) (vs : List A) (os : List Octets) (q : Octets) → SoFar Ran old r vs os q → SoFar Says old r vs os q
  so_far_tells r vs os q s = record { took = each_tells r vs os q s.took; few = s.few; ordered = s.ordered }

  next_tells : (n : ℕ) (last q : Octets) (v : A) (o p : Octets) (m : ℕ) → NextRead Ran old n last q v o p m → NextRead Says old n last q v o p m
  next_tells n last q v o p m k = record { after = k.after; ran = tells (lent_element old q) (Ok v) k.after k.ran; split = k.split; left = k.left; counted = k.counted; few = k.few; ordered = k.ordered }

  next_refused_tells : (n : ℕ) (last q : Octets) (e : DecodeError) → NextRefused Ran old n last q e → NextRefused Says old n last q e
  next_refused_tells n last q e (ElementRefused after bad) = ElementRefused after (tells (lent_element old q) (Err e) after bad)
  next_refused_tells n last q e (TooManyEmpty v after good none full is) = TooManyEmpty v after (tells (lent_element old q) (Ok v) after good) none full is
  next_refused_tells n last q e (OutOfOrder v after o good split few codec less is) = OutOfOrder v after o (tells (lent_element old q) (Ok v) after good) split few codec less is

  read_tells : (vs : List A) (new : State) → UnorderedRead Ran old vs new → UnorderedRead Says old vs new
  read_tells vs new k = record { rest = k.rest; opened = k.opened; elements = k.elements; end = k.end; so_far = so_far_tells k.rest vs k.elements k.end k.so_far; left = k.left; octets = k.octets }

  stopped_tells : (n : ℕ) (rest : Octets) (e : DecodeError) → ElementsStopped Ran old n rest e → ElementsStopped Says old n rest e
  stopped_tells n rest e (AtNext before os end more s bad) = AtNext before os end more (so_far_tells rest before os end s) (next_refused_tells (empties os) (last_of os) end e bad)
  stopped_tells n rest e (NoMemory before os end v o left m more s good want) = NoMemory before os end v o left m more (so_far_tells rest before os end s) (next_tells (empties os) (last_of os) end v o left m good) want

  refused_tells : (e : DecodeError) → UnorderedRefused Ran old e → UnorderedRefused Says old e
  refused_tells e (NotOpened x c) = NotOpened x c
  refused_tells e (Stopped n rest x s) = Stopped n rest x (stopped_tells n rest e s)

  pub unordered_answers : (result : Result (List A) DecodeError) (new : State) → IfOk result (λ vs. UnorderedRead Ran old vs new) → IfErr result (λ e. UnorderedRefused Ran old e) → UnorderedAnswers Says old result new
  unordered_answers (Ok vs) new k e = record { read = read_tells vs new k; refused = tt }
  unordered_answers (Err x) new k e = record { read = tt; refused = refused_tells x e }
