-- What a value of `Chain` holds weighs less than it does.
use Rattle.std.specs.Prelude.{◌<◌, ℕ, max}
use Rattle.std.proofs.Common.{arith}
use Rattle.rasn_oer.specs.Ties.{option_weight}
use Rattle.example_words.specs.declared.types_02.chain_components.Chain.{Chain as ChainComponents}
use Rattle.example_words.specs.declared.types_02.Chain.{Chain, out-Chain, size-Chain, size_is-Chain}

abbrev pub chain_weight : {K : Type 0} → (K → ℕ) → ChainComponents K → ℕ
chain_weight size v = max (option_weight (λ w. size w.0.value) v.next) 0

pub chain_smaller : (v : Chain) → chain_weight size-Chain (out-Chain v).0.0 < size-Chain v
chain_smaller v = grind (arith, size_is-Chain v)
