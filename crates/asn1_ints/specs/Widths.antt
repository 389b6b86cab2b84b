-- The numbers of the types within i128.
use Rattle.std.proofs.Common.{◌≡◌, ℕ, ◌^◌, true, false, leb, arith}
use Rattle.std.specs.Prelude.{ℤ}
use Rattle.std.proofs.lemmas.Int.{ints}
use Rattle.std.proofs.lemmas.Bool.{leb-true}
use Rattle.asn1_core.specs.Numbers.{in_i128}
use Rattle.asn1_ints.specs.Numbers.{is_below, is_within}

pub is_below-within : (limit : ℕ) → leb limit (2 ^ 127) ≡ true → (n : ℤ) → in_i128 n ≡ false → is_below limit n ≡ false
is_below-within limit le n h = let k = leb-true limit (2 ^ 127) le in grind (arith, ints, h, k)

pub is_within-within : (limit : ℕ) → leb limit (2 ^ 127) ≡ true → (n : ℤ) → in_i128 n ≡ false → is_within limit n ≡ false
is_within-within limit le n h = let k = leb-true limit (2 ^ 127) le in grind (arith, ints, h, k)
