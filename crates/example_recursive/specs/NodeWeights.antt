-- What a value of `Node` holds weighs less than it does.
use Rattle.std.specs.Prelude.{◌<◌, ℕ, max}
use Rattle.std.proofs.Common.{arith}
use Rattle.rasn_oer.specs.Ties.{option_weight}
use Rattle.example_recursive.specs.declared.types_01.node_components.Node.{Node as NodeComponents}
use Rattle.example_recursive.specs.declared.types_01.Node.{Node, out-Node, size-Node, size_is-Node}

abbrev pub node_weight : {K : Type 0} → (K → ℕ) → NodeComponents K → ℕ
node_weight size v = max (option_weight (λ w. size w.0.value) v.next) 0

pub node_smaller : (v : Node) → node_weight size-Node (out-Node v).0.0 < size-Node v
node_smaller v = grind (arith, size_is-Node v)
