-- What a closure's promise says of a run.
use Rattle.std.proofs.Common.{Result, Ok, subst}
use Rattle.std.specs.Fn.{FnOnceReturnsAtMut}
use Rattle.std.specs.Borrow.{MutBor}
use denote.Param.Members.{Once, Shared}
use Rattle.asn1_core.specs.declared.error.DecodeError.{DecodeError}
use Rattle.oer_spec.specs.Tree.{Tree}
use Rattle.oer_read.specs.Law.{Reads, Decodes, IsRear}
use Rattle.oer_read.specs.Lists.{FnReturnsAtMut}
use Rattle.oer_read.specs.State.{State}

pub promise_of : {F A : Type 0} (g : Once F (MutBor State × Unit {0}) (Result A DecodeError × (MutBor State × Unit {0}))) (f : F) (P : State → Result A DecodeError → State → Type 0) → ((p q : MutBor State) (r : Result A DecodeError) → g.post f (p, tt) (r, (q, tt)) → P p.now r q.now)
    → (s : State) (r : Result A DecodeError) (t : State) → FnOnceReturnsAtMut g f s r t → P s r t
promise_of g f P h s r t k =
    subst (λ (x : State). P s r x) k.leaves (subst (λ (x : State). P x r k.left.now) k.shows (h k.shown k.left r k.met))

pub promise_of_fn : {F A : Type 0} (g : Shared F (MutBor State × Unit {0}) (Result A DecodeError × (MutBor State × Unit {0}))) (f : F) (P : State → Result A DecodeError → State → Type 0) → ((p q : MutBor State) (r : Result A DecodeError) → g.post f (p, tt) (r, (q, tt)) → P p.now r q.now)
    → (s : State) (r : Result A DecodeError) (t : State) → FnReturnsAtMut g f s r t → P s r t
promise_of_fn g f P h s r t k =
    subst (λ (x : State). P s r x) k.leaves (subst (λ (x : State). P x r k.left.now) k.shows (h k.shown k.left r k.met))

pub reads_rear : {A : Type 0} (tree : A → Tree) (IsValue : A → Type 0) (s : State) (v : A) (t : State) → Reads tree IsValue s v t → IsRear s.input t.input
reads_rear tree IsValue s v t d = record { front = d.taken; split = d.split }

pub decodes_rear : {A : Type 0} (tree : A → Tree) (IsValue : A → Type 0) (s : State) (v : A) (t : State) → Decodes tree IsValue s (Ok v) t → IsRear s.input t.input
decodes_rear tree IsValue s v t d = reads_rear tree IsValue s v t d.read
