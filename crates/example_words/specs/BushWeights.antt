-- What a value of `Bush` holds weighs less than it does.
use Rattle.std.specs.Prelude.{◌<◌, ℕ, max}
use Rattle.std.proofs.Common.{arith}
use denote.Param.Weighed.{most}
use Rattle.example_words.specs.declared.types_01.bush_components.Bush.{Bush as BushComponents}
use Rattle.example_words.specs.declared.types_01.Bush.{Bush, out-Bush, size-Bush, size_is-Bush}

abbrev pub bush_weight : {K : Type 0} → (K → ℕ) → BushComponents K → ℕ
bush_weight size v = max (most (λ h. size h.0) v.b) 0

pub bush_smaller : (v : Bush) → bush_weight size-Bush (out-Bush v).0.0 < size-Bush v
bush_smaller v = grind (arith, size_is-Bush v)
