-- What a value of `TopLevel` holds weighs less than it does.
use Rattle.std.specs.Prelude.{◌<◌, ℕ, max}
use Rattle.std.proofs.Common.{arith}
use Rattle.example_words.specs.declared.types_03.TestChoiceAlternatives.{TestChoiceAlternatives}
use Rattle.example_words.specs.declared.types_03.TestChoiceAlternatives.TheVariants.{Number3 as TestChoiceNumber3}
use Rattle.example_words.specs.declared.types_03.top_level_components.TopLevel.{TopLevel as TopLevelComponents}
use Rattle.example_words.specs.declared.types_03.TopLevel.{TopLevel, out-TopLevel, size-TopLevel, size_is-TopLevel}

abbrev pub test_choice_weight : {K : Type 0} → (K → ℕ) → TestChoiceAlternatives K → ℕ
test_choice_weight size (TestChoiceNumber3 x) = size x.0.value
test_choice_weight size _ = 0

abbrev pub top_level_weight : {K : Type 0} → (K → ℕ) → TopLevelComponents K → ℕ
top_level_weight size v = max (test_choice_weight size v.choice.0) 0

pub top_level_smaller : (v : TopLevel) → top_level_weight size-TopLevel (out-TopLevel v).0.0 < size-TopLevel v
top_level_smaller v = grind (arith, size_is-TopLevel v)
