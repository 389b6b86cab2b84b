-- Why the components of a row were not read: which of them was refused, and by what.
use Rattle.std.specs.Prelude.{◌≡◌, ◌⊎◌, Bool, Option, Some, None, Result, Ok, Err, IfErr}
use Rattle.asn1_core.specs.declared.error.DecodeError.{DecodeError}
use Rattle.asn1_core.specs.declared.error.DecodeErrorKind.TheVariants.{RequiredExtensionNotPresent}
use Rattle.asn1_core.specs.declared.tag.Tag.{Tag}
use Rattle.oer_spec.specs.Tree.{Tree}
use Rattle.oer_read.specs.Additions.{Adds}
use Rattle.oer_read.specs.Parts.{Takes}
use Rattle.oer_read.specs.Scopes.{SequenceRefused}
use Rattle.oer_read.specs.State.{State}
use Rattle.oer_rows.specs.Schema.{Schema}

-- The first that applies, of a component and the row behind it: the component was refused with that very error; or it was read, and
-- the row was refused at what it left.
pub data RowRefused {X : Type 0} (Did : Result X DecodeError → State → Type 0) (Rest : State → DecodeError → Type 0) (e : DecodeError) : Type 0 where
  Here : (t : State) → Did (Err e) t → RowRefused Did Rest e
  Behind : (x : X) (t : State) → Did (Ok x) t → Rest t e → RowRefused Did Rest e

-- A required addition: it was read as an optional one is, and was there.
abbrev pub AddsRequired : {A : Type 0} → (A → Tree) → (A → Type 0) → (State → Result A DecodeError → State → Type 0) → State → Tag → Result A DecodeError → State → Type 0
AddsRequired tree IsValue Answered s g (Ok v) t = Adds tree IsValue Answered s (Some g) (Ok (Some v)) t
AddsRequired tree IsValue Answered s g (Err e) t = Adds tree IsValue Answered s (Some g) (Err e) t ⊎ (Adds tree IsValue Answered s (Some g) (Ok None) t × (e ≡ record { kind = RequiredExtensionNotPresent g; codec = t.codec }))

-- What reading the components of a value did inside a scope: their rows were read, or the row's reading was refused.
abbrev pub RowRan : {V : Type 0} → Schema V → (State → DecodeError → Type 0) → State → Result V DecodeError → State → Type 0
RowRan k Refuses s (Ok v) t = Takes s k.roots.parts k.additions.parts (k.roots.rows v) (k.additions.rows v) t
RowRan k Refuses s (Err e) t = Refuses s e

-- What a sequence's refusal is, the first that applies: of the scope that couldn't be opened, of a component, or of the scope that
-- couldn't be closed.
abbrev pub RowAnswers : {A V : Type 0} → Schema V → Bool → (State → DecodeError → Type 0) → State → Result A DecodeError → Type 0
RowAnswers k extensible Refuses s r = IfErr r (λ e. SequenceRefused (RowRan k Refuses) extensible (k.roots.fields 0) (k.additions.fields 0) s e)
