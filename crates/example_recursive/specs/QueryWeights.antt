-- What a value of `Query` holds weighs less than it does.
use Rattle.std.specs.Prelude.{◌<◌, ℕ}
use Rattle.std.proofs.Common.{arith}
use denote.Param.Weighed.{most}
use Rattle.oer_kept.specs.KeptKnots.{kept_weight as weight-kept}
use Rattle.example_recursive.specs.declared.types_03.QueryAlternatives.{QueryAlternatives}
use Rattle.example_recursive.specs.declared.types_03.QueryAlternatives.TheVariants.{All as QueryAll, Except as QueryExcept}
use Rattle.example_recursive.specs.declared.types_03.Query.{Query, out-Query, size-Query, size_is-Query}

abbrev pub query_weight : {K : Type 0} → (K → ℕ) → QueryAlternatives K → ℕ
query_weight size (QueryAll x) = most (λ h. size h.0) x
query_weight size (QueryExcept x) = size x.0.value
query_weight size _ = 0

pub query_smaller : (v : Query) → weight-kept (query_weight size-Query) (out-Query v).0 < size-Query v
query_smaller v = grind (arith, size_is-Query v)
