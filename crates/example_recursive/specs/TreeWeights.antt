-- What a value of `Tree` holds weighs less than it does.
use Rattle.std.specs.Prelude.{◌<◌, ℕ, max}
use Rattle.std.proofs.Common.{arith}
use denote.Param.Weighed.{most}
use Rattle.rasn_oer.specs.Ties.{option_weight}
use Rattle.example_recursive.specs.declared.types_02.tree_components.Tree.{Tree as TreeComponents}
use Rattle.example_recursive.specs.declared.types_02.Tree.{Tree, out-Tree, size-Tree, size_is-Tree}

abbrev pub tree_weight : {K : Type 0} → (K → ℕ) → TreeComponents K → ℕ
tree_weight size v = max (most (λ h. size h.0) v.leaves) (max (option_weight (λ w. most (λ h. size h.0) w) v.shade) 0)

pub tree_smaller : (v : Tree) → tree_weight size-Tree (out-Tree v).0.0 < size-Tree v
tree_smaller v = grind (arith, size_is-Tree v)
