use Rattle.std.proofs.Common.{◌≡◌, ℕ, ◌+◌, ◌==◌, Some, None, arith}
use Rattle.std.proofs.lemmas.Bool.Decides.{nat_tests}
use Rattle.asn1_core.specs.Bounds.{Size, size_bounds, size_fits, fixed_size}
use Rattle.asn1_core.proofs.laws.fixed_sizes.Goals as goal

only : (s : Size) (n : ℕ) → fixed_size s ≡ Some n → (m : ℕ) → size_fits s m ≡ (m == n)
only None n h m = cc
only (Some (low, high)) n h m = grind (arith, nat_tests)

fixed : (s : Size) (n : ℕ) → ((m : ℕ) → size_fits s m ≡ (m == n)) → fixed_size s ≡ Some n
fixed None n h = let e = h (n + 1) in grind (arith, nat_tests)
fixed (Some (low, high)) n h = let e = h low in let f = h high in let g = h n in grind (arith, nat_tests)

pub returns : goal.returns
returns c = λ c n. record { only = only (size_bounds c) n; fixed = fixed (size_bounds c) n }
