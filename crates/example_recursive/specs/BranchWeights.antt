-- What a value of `Branch` holds weighs less than it does.
use Rattle.std.specs.Prelude.{◌<◌, ℕ, max}
use Rattle.std.proofs.Common.{arith}
use Rattle.rasn_oer.specs.Ties.{option_weight}
use Rattle.example_recursive.specs.declared.types_08.branch_components.Branch.{Branch as BranchComponents}
use Rattle.example_recursive.specs.declared.types_08.Branch.{Branch, out-Branch, size-Branch, size_is-Branch}

abbrev pub branch_weight : {K : Type 0} → (K → ℕ) → BranchComponents K → ℕ
branch_weight size v = max (option_weight (λ w. size w.0.value) v.left) (max (option_weight (λ w. size w.0.value) v.right) 0)

pub branch_smaller : (v : Branch) → branch_weight size-Branch (out-Branch v).0.0 < size-Branch v
branch_smaller v = grind (arith, size_is-Branch v)
