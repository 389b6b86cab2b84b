-- What a closure that keeps the law of reading did, where it was called.
use Rattle.std.proofs.Common.{◌≡◌, true, List, ◌∷◌, Some, Result, Ok, Err, refl}
use Rattle.std.specs.Borrow.{MutBor}
use Rattle.std.specs.Fn.{FnOnceReturnsAtMut}
use denote.Param.Members.{Once}
use Rattle.asn1_core.specs.declared.error.DecodeError.{DecodeError}
use Rattle.asn1_core.specs.declared.tag.Tag.{Tag}
use Rattle.oer_spec.specs.Tree.{Tree}
use Rattle.oer_read.specs.Components.{asking, Asks, Inside}
use Rattle.oer_read.specs.Law.{Decodes}
use Rattle.oer_read.specs.State.{Ask, State}

pub called_at : {F A : Type 0} (g : Once F (MutBor State × Unit {0}) (Result A DecodeError × (MutBor State × Unit {0}))) (f : F) (p q : MutBor State) (r : Result A DecodeError) (s : State) → p.now ≡ s → g.post f (p, tt) (r, (q, tt)) → FnOnceReturnsAtMut g f s r q.now
called_at g f p q r s e k = record { shown = p; shows = e; left = q; met = k; leaves = refl }

module _ {A : Type 0} (tree : A → Tree) (IsValue : A → Type 0) (Says : State → Result A DecodeError → State → Type 0) (s : State) (g : Tag) (more : List Ask) (next : s.frame.asks ≡ record { tag = g; bit = true } ∷ more) where
  pub optional_there : (v : A) (t : State) → Decodes tree IsValue (asking s more) (Ok v) t → Says (asking s more) (Ok v) t → Asks tree IsValue Says s g (Ok (Some v)) t
  optional_there v t d says = record { read = record { more = more; next = next; reads = d.read; answered = says }; same = tt; refused = tt }

  pub optional_not_there : (e : DecodeError) (t new : State) → Decodes tree IsValue (asking s more) (Err e) t → Says (asking s more) (Err e) t → new ≡ s → Asks tree IsValue Says s g (Err e) new
  optional_not_there e t new d says same = record { read = tt; same = same; refused = Inside more next t says d.refused.mode d.refused.none }
