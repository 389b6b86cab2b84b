-- From what the reader of integers promises to the law of reading.
use Rattle.std.proofs.Common.{◌≡◌, ℤ, Bool, true, List, Result, refl}
use Rattle.std.specs.Borrow.{Bor}
use Rattle.std.specs.Prelude.{ℕ}
use Rattle.asn1_core.specs.Bounds.{value_bounds}
use Rattle.asn1_core.specs.declared.constraints.Constraints.{Constraints}
use Rattle.asn1_core.specs.declared.error.DecodeError.{DecodeError}
use Rattle.asn1_core.specs.declared.error.DecodeErrorKind.{DecodeErrorKind}
use Rattle.oer_spec.specs.Mode.{mode_of}
use Rattle.oer_spec.specs.Reading.{ReadsFront, seen}
use Rattle.oer_spec.specs.ReadingIntegers.{IsIntegerOf}
use Rattle.oer_spec.specs.Spelled.{integer, integer_is, integers_alike}
use Rattle.oer_spec.specs.Tree.{Tree, Int}
use Rattle.oer_read.specs.Answers.{Took}
use Rattle.oer_read.specs.Law.{Decodes}
use Rattle.oer_read.specs.State.{State}
use Rattle.oer_read.proofs.LeafLaws.{leaf_law}

module _ {A : Type 0} (number : A → ℤ) (admits : ℤ → Bool) (c : Constraints) where
  abbrev IsNumber : A → Type 0
  IsNumber v = admits (number v) ≡ true

  abbrev tree : A → Tree
  tree v = integer c (number v)

  pub integer_law : (old : State) (answer : Result (A × Bor (List ℕ)) DecodeErrorKind) (result : Result A DecodeError) (new : State)
      → ReadsFront (IsIntegerOf admits (value_bounds c) (mode_of old.codec)) old.input (seen (λ (x : A × Bor (List ℕ)). (number x.0, x.1.now)) answer)
      → Took answer old result new → Decodes tree IsNumber old result new
  unfolding integer
  integer_law old =
      leaf_law tree IsNumber (λ v. Int (value_bounds c) (number v)) (λ v. refl) number (IsIntegerOf admits (value_bounds c) (mode_of old.codec)) old
      (record { is_tree = λ v j. integer_is c (number v); alike = λ v w j k. integers_alike c (number v) (number w) }) (λ o v s. s) (λ o v j s. (j, s))
