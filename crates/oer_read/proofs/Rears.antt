-- What a component, or an addition, leaves of the octets that its reader was lent: what a closure by hand has to say of its answer.
use Rattle.std.proofs.Common.{[], Bool, Option, Some, None, Result, Ok, Err, sym, ap}
use Rattle.std.specs.Result.{OnOk}
use Rattle.asn1_core.specs.Octets.{AreOctets}
use Rattle.asn1_core.specs.declared.error.DecodeError.{DecodeError}
use Rattle.asn1_core.specs.declared.tag.Tag.{Tag}
use Rattle.oer_spec.specs.Tree.{Tree}
use Rattle.oer_read.proofs.AdditionRows.{passes}
use Rattle.oer_read.specs.Additions.{Added, AddRefused, Adds}
use Rattle.oer_read.specs.Components.{Asks}
use Rattle.oer_read.specs.Defaults.{Defaulted, Unset, Set, AddsDefault}
use Rattle.oer_read.specs.Law.{IsRear}
use Rattle.oer_read.specs.State.{State}

pub asks_rear : {A : Type 0} (tree : A → Tree) (IsValue : A → Type 0) (Says : State → Result A DecodeError → State → Type 0) (s : State) (g : Tag) (answer : Result (Option A) DecodeError) (t : State)
    → Asks tree IsValue Says s g answer t → OnOk answer (IsRear s.input t.input)
asks_rear tree IsValue Says s g (Ok None) t k = record { front = []; split = sym (ap (λ (z : State). z.input) k.read.left) }
asks_rear tree IsValue Says s g (Ok (Some v)) t k = record { front = k.read.reads.taken; split = k.read.reads.split }
asks_rear tree IsValue Says s g (Err e) t k = tt

-- the same of an addition
pub adds_rear : {A : Type 0} (tree : A → Tree) (IsValue : A → Type 0) (Says : State → Result A DecodeError → State → Type 0) (s : State) (g : Option Tag) (answer : Result (Option A) DecodeError) (t : State)
    → Adds tree IsValue Says s g answer t → OnOk answer (IsRear s.input t.input)
adds_rear tree IsValue Says s g (Ok None) t k = let p = passes s t g None k.octets k.read.next in record { front = p.front; split = p.split }
adds_rear tree IsValue Says s g (Ok (Some v)) t k = let p = passes s t g (Some k.read.content) k.octets k.read.next in record { front = p.front; split = p.split }
adds_rear tree IsValue Says s g (Err e) t k = tt

added_defaulted_rear : {A : Type 0} (tree : A → Tree) (IsValue : A → Type 0) (Says : State → Result A DecodeError → State → Type 0) (eq : A → A → Bool) (s : State) (g : Tag) (default v : A) (t : State)
    → AreOctets s.input → Defaulted eq (Added tree IsValue Says s (Some g)) (AddRefused tree IsValue Says s (Some g)) s default v t → IsRear s.input t.input
added_defaulted_rear tree IsValue Says eq s g default v t o (Unset a e) = let p = passes s t (Some g) None o a.next in record { front = p.front; split = p.split }
added_defaulted_rear tree IsValue Says eq s g default v t o (Set a e) = let p = passes s t (Some g) (Some a.content) o a.next in record { front = p.front; split = p.split }

-- the same of an addition with a default
pub added_defaults_rear : {A : Type 0} (tree : A → Tree) (IsValue : A → Type 0) (Says : State → Result A DecodeError → State → Type 0) (eq : A → A → Bool) (s : State) (g : Tag) (default : A) (answer : Result A DecodeError) (t : State)
    → AddsDefault tree IsValue Says eq s g default answer t → OnOk answer (IsRear s.input t.input)
added_defaults_rear tree IsValue Says eq s g default (Ok v) t k = added_defaulted_rear tree IsValue Says eq s g default v t k.octets k.read
added_defaults_rear tree IsValue Says eq s g default (Err e) t k = tt
