-- A sequence's refusal, by what its closure promises.
use Rattle.std.proofs.Common.{Bool, List, Result, Ok, Err}
use Rattle.std.specs.Result.{IfErr}
use Rattle.asn1_core.specs.Rows.{Row}
use Rattle.asn1_core.specs.declared.error.DecodeError.{DecodeError}
use Rattle.oer_read.specs.Parts.{ReadsParts}
use Rattle.oer_read.specs.Scopes.{SequenceRefused, NotOpened, Stopped, NotClosed}
use Rattle.oer_read.specs.State.{State}
use Rattle.oer_rows.specs.Refusals.{RowRan}
use Rattle.oer_rows.specs.Schema.{Schema}

module _ {A V : Type 0} (k : Schema V) (of : A → V) (Refuses : State → DecodeError → Type 0) (Ran : State → Result A DecodeError → State → Type 0)
    (read : (s : State) (r : Result A DecodeError) (t : State) → Ran s r t → ReadsParts k.roots.parts k.additions.parts (λ v. k.roots.rows (of v)) (λ v. k.additions.rows (of v)) s r t)
    (refused : (s : State) (r : Result A DecodeError) (t : State) → Ran s r t → IfErr r (λ e. Refuses s e)) (extensible : Bool) (table more : List Row) (old : State) where
  row_refused : (e : DecodeError) → SequenceRefused Ran extensible table more old e → SequenceRefused (RowRan k Refuses) extensible table more old e
  row_refused e (NotOpened p c) = NotOpened p c
  row_refused e (Stopped lent after p ran) = Stopped lent after p (refused lent (Err e) after ran)
  row_refused e (NotClosed lent after v p ran q c) = NotClosed lent after (of v) p (read lent (Ok v) after ran).read q c

  pub row_answers : (result : Result A DecodeError) → IfErr result (λ e. SequenceRefused Ran extensible table more old e) → IfErr result (λ e. SequenceRefused (RowRan k Refuses) extensible table more old e)
  row_answers (Ok v) r = tt
  row_answers (Err e) r = row_refused e r
