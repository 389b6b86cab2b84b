-- What reading a component with a default does, where the default may want memory.
use Rattle.std.specs.Prelude.{◌≡◌, Bool, true, false, ◌⊎◌, Option, Some, None, Result, Ok, Err, IfOk, IfErr}
use Rattle.asn1_core.specs.Octets.{AreOctets}
use Rattle.asn1_core.specs.declared.codec.Codec.{Codec}
use Rattle.asn1_core.specs.declared.codec.Codec.TheVariants.{Coer}
use Rattle.asn1_core.specs.declared.error.DecodeError.{DecodeError}
use Rattle.asn1_core.specs.declared.error.DecodeErrorKind.TheVariants.{NotValidCanonicalEncoding}
use Rattle.asn1_core.specs.declared.tag.Tag.{Tag}
use Rattle.oer_spec.specs.Tree.{Tree}
use Rattle.oer_read.specs.Additions.{Added, AddRefused}
use Rattle.oer_read.specs.Components.{Asked, AskRefused}
use Rattle.oer_read.specs.Defaults.{AsksDefault, AddsDefault, DefaultRefused}
use Rattle.oer_read.specs.Law.{WantsMemoryIn, WantsMemory}
use Rattle.oer_read.specs.State.{State}

-- Of what is spelled: nothing stands for the default, or wants memory for it, where that takes any; a value for itself, but canonically not where it
-- is equal to the default.
abbrev pub Settles : {A : Type 0} → Bool → (A → A → Bool) → A → Codec → Option A → Result A DecodeError → Type 0
Settles takes eq default codec None (Ok v) = v ≡ default
Settles takes eq default codec None (Err e) = (takes ≡ true) × WantsMemoryIn codec e
Settles takes eq default codec (Some w) (Ok v) = (v ≡ w) × (codec ≡ Coer → eq w default ≡ false)
Settles takes eq default codec (Some w) (Err e) = (codec ≡ Coer) × (eq w default ≡ true) × (e ≡ record { kind = NotValidCanonicalEncoding; codec = codec })

module _ {A : Type 0} (tree : A → Tree) (IsValue : A → Type 0) (Answered : State → Result A DecodeError → State → Type 0) (eq : A → A → Bool) (takes : Bool) (s : State) where
  -- A root component: its answer is that of a default that is there, or the default takes memory and wants it.
  pub record AsksDefaultValue (g : Tag) (default : A) (answer : Result A DecodeError) (t : State) : Type 0 where
    pub read : IfOk answer (λ v. AsksDefault tree IsValue Answered eq s g default (Ok v) t)
    pub refused : IfErr answer (λ e. ((takes ≡ true) × WantsMemory s e) ⊎ DefaultRefused eq (Asked tree IsValue Answered s g) (AskRefused tree IsValue Answered s g) s default e)

  -- An extension addition: the same.
  pub record AddsDefaultValue (g : Tag) (default : A) (answer : Result A DecodeError) (t : State) : Type 0 where
    pub read : IfOk answer (λ v. AddsDefault tree IsValue Answered eq s g default (Ok v) t)
    pub refused : IfErr answer (λ e. ((takes ≡ true) × WantsMemory s e) ⊎ DefaultRefused eq (Added tree IsValue Answered s (Some g)) (AddRefused tree IsValue Answered s (Some g)) s default e)
    pub octets : AreOctets s.input
