-- What is said of the answer of an optional component's type may be said by what follows of it.
use Rattle.std.proofs.Common.{Option, Some, None, Result, Ok, Err}
use Rattle.asn1_core.specs.declared.error.DecodeError.{DecodeError}
use Rattle.asn1_core.specs.declared.tag.Tag.{Tag}
use Rattle.oer_spec.specs.Tree.{Tree}
use Rattle.oer_read.specs.Components.{Asked, AskRefused, NotNext, Inside, Asks}
use Rattle.oer_read.specs.State.{State}

module _ {A : Type 0} (tree : A → Tree) (IsValue : A → Type 0) (Says Also : State → Result A DecodeError → State → Type 0) (h : (s : State) (r : Result A DecodeError) (t : State) → Says s r t → Also s r t) (s : State) (g : Tag) where
  asked_also : (o : Option A) (t : State) → Asked tree IsValue Says s g o t → Asked tree IsValue Also s g o t
  asked_also None t d = record { more = d.more; next = d.next; left = d.left }
  asked_also (Some v) t d = record { more = d.more; next = d.next; reads = d.reads; answered = h _ _ _ d.answered }

  refused_also : (e : DecodeError) → AskRefused tree IsValue Says s g e → AskRefused tree IsValue Also s g e
  refused_also e (NotNext n is) = NotNext n is
  refused_also e (Inside more next after says mode none) = Inside more next after (h _ _ _ says) mode none

  pub asks_also : (answer : Result (Option A) DecodeError) (t : State) → Asks tree IsValue Says s g answer t → Asks tree IsValue Also s g answer t
  asks_also (Ok o) t d = record { read = asked_also o t d.read; same = tt; refused = tt }
  asks_also (Err e) t d = record { read = tt; same = d.same; refused = refused_also e d.refused }
