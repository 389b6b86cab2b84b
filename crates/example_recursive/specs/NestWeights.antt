-- What a value of `Nest` holds weighs less than it does.
use Rattle.std.specs.Prelude.{◌<◌, ℕ}
use Rattle.std.proofs.Common.{arith}
use denote.Param.Weighed.{most}
use Rattle.example_recursive.specs.declared.types_02.Nest.{Nest, out-Nest, size-Nest, size_is-Nest}

pub nest_smaller : (v : Nest) → most (λ h. size-Nest h.0) (out-Nest v).0 < size-Nest v
nest_smaller v = grind (arith, size_is-Nest v)
