-- The range of a constrained integer.
use Rattle.std.specs.Prelude.{◌≡◌, ℤ, int_le, true}
use Rattle.std.proofs.Common.{refl}
use Rattle.asn1_core.specs.Bounds.{is_consistent, values_between}

pub range_is_consistent : (low high : ℤ) → int_le low high ≡ true → is_consistent (values_between low high) ≡ true
range_is_consistent low high h = rw h refl
