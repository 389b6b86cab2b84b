-- What a value of `Bag` holds weighs less than it does.
use Rattle.std.specs.Prelude.{◌<◌, ℕ}
use Rattle.std.proofs.Common.{arith}
use denote.Param.Weighed.{most}
use Rattle.example_recursive.specs.declared.types_03.Bag.{Bag, out-Bag, size-Bag, size_is-Bag}

pub bag_smaller : (v : Bag) → most (λ h. size-Bag h.0) (out-Bag v).0 < size-Bag v
bag_smaller v = grind (arith, size_is-Bag v)
