-- What a value of `Filter` holds weighs less than it does.
use Rattle.std.specs.Prelude.{◌<◌, ℕ}
use Rattle.std.proofs.Common.{arith}
use denote.Param.Weighed.{most}
use Rattle.example_recursive.specs.declared.types_03.FilterAlternatives.{FilterAlternatives}
use Rattle.example_recursive.specs.declared.types_03.FilterAlternatives.TheVariants.{And as FilterAnd, Or as FilterOr, Not as FilterNot}
use Rattle.example_recursive.specs.declared.types_03.Filter.{Filter, out-Filter, size-Filter, size_is-Filter}

abbrev pub filter_weight : {K : Type 0} → (K → ℕ) → FilterAlternatives K → ℕ
filter_weight size (FilterAnd x) = most (λ h. size h.0) x
filter_weight size (FilterOr x) = most (λ h. size h.0) x
filter_weight size (FilterNot x) = size x.0.value
filter_weight size _ = 0

pub filter_smaller : (v : Filter) → filter_weight size-Filter (out-Filter v).0.0 < size-Filter v
filter_smaller v = grind (arith, size_is-Filter v)
