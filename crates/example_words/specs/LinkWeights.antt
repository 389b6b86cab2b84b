-- What a value of `Link` holds weighs less than it does.
use Rattle.std.specs.Prelude.{◌<◌, ℕ, max}
use Rattle.std.proofs.Common.{arith}
use Rattle.example_words.specs.declared.types_02.LinkChoiceAlternatives.{LinkChoiceAlternatives}
use Rattle.example_words.specs.declared.types_02.LinkChoiceAlternatives.TheVariants.{B as LinkChoiceB}
use Rattle.example_words.specs.declared.types_02.link_components.Link.{Link as LinkComponents}
use Rattle.example_words.specs.declared.types_02.Link.{Link, out-Link, size-Link, size_is-Link}

abbrev pub link_choice_weight : {K : Type 0} → (K → ℕ) → LinkChoiceAlternatives K → ℕ
link_choice_weight size (LinkChoiceB x) = size x.0.value
link_choice_weight size _ = 0

abbrev pub link_weight : {K : Type 0} → (K → ℕ) → LinkComponents K → ℕ
link_weight size v = max (link_choice_weight size v.b.0) 0

pub link_smaller : (v : Link) → link_weight size-Link (out-Link v).0.0 < size-Link v
link_smaller v = grind (arith, size_is-Link v)
