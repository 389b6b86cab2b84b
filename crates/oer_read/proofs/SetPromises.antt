-- What the promises of a set's closures say of their runs.
use Rattle.std.proofs.Common.{ℕ, Result, List, Vec, subst}
use Rattle.std.specs.Borrow.{MutBor}
use Rattle.std.specs.declared.alloc.Global.{Global}
use denote.Param.Members.{Once, Shared}
use Rattle.asn1_core.specs.declared.error.DecodeError.{DecodeError}
use Rattle.asn1_core.specs.declared.tag.Tag.{Tag}
use Rattle.oer_read.specs.Sets.{Call, FieldReturns, FieldsMake}
use Rattle.oer_read.specs.State.{State}

pub promise_of_field : {F V : Type 0} (g : Shared F (MutBor State × (ℕ × (Tag × Unit {0}))) (Result V DecodeError × (MutBor State × Unit {0}))) (f : F) (P : Call → State → Result V DecodeError → State → Type 0) → ((p q : MutBor State) (n : ℕ) (tag : Tag) (r : Result V DecodeError) → g.post f (p, (n, (tag, tt))) (r, (q, tt)) → P (record { index = n; tag = tag }) p.now r q.now)
    → (c : Call) (s : State) (r : Result V DecodeError) (t : State) → FieldReturns g f c s r t → P c s r t
promise_of_field g f P h c s r t k =
    subst (λ (x : State). P c s r x) k.leaves (subst (λ (x : State). P c x r k.left.now) k.shows (h k.shown k.left c.index c.tag r k.met))

pub promise_of_fields : {F V A : Type 0} (g : Once F (Vec V Global × Unit {0}) (Result A DecodeError)) (f : F) (P : List V → Result A DecodeError → Type 0) → ((handed : Vec V Global) (r : Result A DecodeError) → g.post f (handed, tt) r → P handed.items r)
    → (fields : List V) (r : Result A DecodeError) → FieldsMake g f fields r → P fields r
promise_of_fields g f P h fields r k = subst (λ (x : List _). P x r) k.holds (h k.handed r k.met)
