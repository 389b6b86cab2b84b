-- What the calls of a closure do that ask a component with a default.
use Rattle.std.specs.Prelude.{◌≡◌, Bool, true, false, Option, Some, None, Result, IfOk, IfErr}
use Rattle.std.specs.Bool.{Decides}
use Rattle.asn1_core.specs.Octets.{AreOctets}
use Rattle.asn1_core.specs.declared.codec.Codec.TheVariants.{Coer}
use Rattle.asn1_core.specs.declared.error.DecodeError.{DecodeError}
use Rattle.asn1_core.specs.declared.error.DecodeErrorKind.TheVariants.{NotValidCanonicalEncoding}
use Rattle.asn1_core.specs.declared.tag.Tag.{Tag}
use Rattle.oer_spec.specs.Encoding.{IsTree}
use Rattle.oer_spec.specs.Same.{Same, Alike}
use Rattle.oer_spec.specs.Tree.{Tree}
use Rattle.oer_read.specs.Additions.{Added, AddRefused}
use Rattle.oer_read.specs.Components.{Asked, AskRefused}
use Rattle.oer_read.specs.State.{State}

-- the refusal of a form that is only lenient
abbrev pub only_lenient : State → DecodeError
only_lenient s = record { kind = NotValidCanonicalEncoding; codec = s.codec }

-- ---- a component that was asked, and its default
module _ {A : Type 0} (eq : A → A → Bool) (Asked : Option A → State → Type 0) (Refused : DecodeError → Type 0) (s : State) (default : A) where
  -- the default where nothing is spelled; else the value that was read, which canonically isn't equal to the default
  pub data Defaulted (v : A) (t : State) : Type 0 where
    Unset : Asked None t → v ≡ default → Defaulted v t
    Set : Asked (Some v) t → (s.codec ≡ Coer → eq v default ≡ false) → Defaulted v t

  -- The first that applies: the component is refused; its value is equal to the default, in canonical mode.
  pub data DefaultRefused (e : DecodeError) : Type 0 where
    NotRead : Refused e → DefaultRefused e
    SpelledOut : (v : A) (t : State) → Asked (Some v) t → s.codec ≡ Coer → eq v default ≡ true → e ≡ only_lenient s → DefaultRefused e

module _ {A : Type 0} (tree : A → Tree) (IsValue : A → Type 0) (Answered : State → Result A DecodeError → State → Type 0) (eq : A → A → Bool) (s : State) where
  -- A root component with a default: by its bit the default or what was read; a refusal changes nothing.
  pub record AsksDefault (g : Tag) (default : A) (answer : Result A DecodeError) (t : State) : Type 0 where
    pub read : IfOk answer (λ v. Defaulted eq (Asked tree IsValue Answered s g) (AskRefused tree IsValue Answered s g) s default v t)
    pub same : IfErr answer (λ e. t ≡ s)
    pub refused : IfErr answer (λ e. DefaultRefused eq (Asked tree IsValue Answered s g) (AskRefused tree IsValue Answered s g) s default e)

  -- An extension addition with a default: the same by its bit of the bitmap.
  pub record AddsDefault (g : Tag) (default : A) (answer : Result A DecodeError) (t : State) : Type 0 where
    pub read : IfOk answer (λ v. Defaulted eq (Added tree IsValue Answered s (Some g)) (AddRefused tree IsValue Answered s (Some g)) s default v t)
    pub same : IfErr answer (λ e. t ≡ s)
    pub refused : IfErr answer (λ e. DefaultRefused eq (Added tree IsValue Answered s (Some g)) (AddRefused tree IsValue Answered s (Some g)) s default e)
    pub octets : AreOctets s.input

-- What a type's default has to be: a value that the type admits, and that is equal to just those whose trees are same.
pub record IsDefault {A : Type 0} (tree : A → Tree) (IsValue : A → Type 0) (eq : A → A → Bool) (default : A) : Type 0 where
  pub value : IsValue default
  pub is_tree : (v : A) → IsValue v → IsTree (tree v)
  pub alike : (v w : A) → IsValue v → IsValue w → Alike (tree v) (tree w)
  pub decides : (v : A) → IsValue v → Decides (eq v default) (Same (tree v) (tree default))
