-- What is said of the answer of an addition's type may be said by what follows of it.
use Rattle.std.proofs.Common.{Option, Some, None, Result, Ok, Err}
use Rattle.asn1_core.specs.Octets.{Octets}
use Rattle.asn1_core.specs.declared.error.DecodeError.{DecodeError}
use Rattle.asn1_core.specs.declared.tag.Tag.{Tag}
use Rattle.oer_spec.specs.Tree.{Tree}
use Rattle.oer_read.specs.Additions.{OpenRead, OpenRefused, Within, LeftOver, Added, AddRefused, NotThere, Inside, Adds}
use Rattle.oer_read.specs.State.{State}

module _ {A : Type 0} (tree : A → Tree) (IsValue : A → Type 0) (Says Also : State → Result A DecodeError → State → Type 0) (h : (s : State) (r : Result A DecodeError) (t : State) → Says s r t → Also s r t) (s : State) where
  open_read : (content : Octets) (v : A) → OpenRead tree IsValue Says s content v → OpenRead tree IsValue Also s content v
  open_read content v d = record { after = d.after; reads = d.reads; answered = h _ _ _ d.answered; whole = d.whole }

  open_refused : (content : Octets) (e : DecodeError) → OpenRefused tree IsValue Says s content e → OpenRefused tree IsValue Also s content e
  open_refused content e (Within after a m n) = Within after (h _ _ _ a) m n
  open_refused content e (LeftOver v after r a o c k) = LeftOver v after r (h _ _ _ a) o c k

  module _ (g : Option Tag) where
    added_also : (o : Option A) (t : State) → Added tree IsValue Says s g o t → Added tree IsValue Also s g o t
    added_also None t d = record { next = d.next }
    added_also (Some v) t d = record { content = d.content; next = d.next; open_type = open_read d.content v d.open_type }

    refused_also : (e : DecodeError) → AddRefused tree IsValue Says s g e → AddRefused tree IsValue Also s g e
    refused_also e (NotThere n m) = NotThere n m
    refused_also e (Inside content t n r) = Inside content t n (open_refused content e r)

    pub adds_also : (answer : Result (Option A) DecodeError) (t : State) → Adds tree IsValue Says s g answer t → Adds tree IsValue Also s g answer t
    adds_also (Ok o) t d = record { read = added_also o t d.read; same = tt; refused = tt; octets = d.octets }
    adds_also (Err e) t d = record { read = tt; same = d.same; refused = refused_also e d.refused; octets = d.octets }
