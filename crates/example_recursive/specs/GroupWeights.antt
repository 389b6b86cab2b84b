-- What a value of `Group` holds weighs less than it does.
use Rattle.std.specs.Prelude.{◌<◌, ℕ, max}
use Rattle.std.proofs.Common.{arith}
use denote.Param.Weighed.{most}
use Rattle.rasn_oer.specs.Ties.{option_weight}
use Rattle.example_recursive.specs.declared.types_02.group_components.Group.{Group as GroupComponents}
use Rattle.example_recursive.specs.declared.types_02.Group.{Group, out-Group, size-Group, size_is-Group}

abbrev pub group_weight : {K : Type 0} → (K → ℕ) → GroupComponents K → ℕ
group_weight size v = max (most (λ h. size h.0) v.members) (max (option_weight (λ w. most (λ h. size h.0) w) v.guests) 0)

pub group_smaller : (v : Group) → group_weight size-Group (out-Group v).0.0 < size-Group v
group_smaller v = grind (arith, size_is-Group v)
