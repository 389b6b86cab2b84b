-- Ranges of values and of sizes (X.680, 51.4 and 51.5) by their ends: each holds a number.
use Rattle.std.proofs.Common.{arith, ap}
use Rattle.std.proofs.lemmas.Bool.Decides.{nat_tests}
use Rattle.std.specs.Prelude.{◌≡◌, ℕ, Bool, true, false, ◌&&◌, cond, ℤ, pos, negsuc, int_le, nat_le, Some, None, refl}
use Rattle.asn1_core.specs.Bounds.{is_consistent, values_between}
use Rattle.asn1_core.specs.declared.constraints.Bounded.TheVariants as bounded
use Rattle.asn1_core.specs.declared.constraints.Constraints.{Constraints}

-- the values from the less of two numbers to the other
abbrev pub values_of : ℤ → ℤ → Constraints
values_of a b = values_between (cond (int_le a b) a b) (cond (int_le a b) b a)

-- the sizes from the less of two to the other
abbrev pub sizes_of : ℕ → ℕ → Constraints
sizes_of a b = record { value = None; size = Some (bounded.Range (Some (cond (nat_le a b) a b)) (Some (cond (nat_le a b) b a)), false) }

-- one size
abbrev pub size_of : ℕ → Constraints
size_of n = record { value = None; size = Some (bounded.Single n, false) }

int_total : (a b : ℤ) → int_le a b ≡ false → int_le b a ≡ true
int_total (pos a) (pos b) e = grind (arith, nat_tests)
int_total (pos a) (negsuc b) e = refl
int_total (negsuc a) (pos b) e = cc
int_total (negsuc a) (negsuc b) e = grind (arith, nat_tests)

pub values_hold : (a b : ℤ) → is_consistent (values_of a b) ≡ true
values_hold a b = ap (λ it. it && true) (by (int_le a b) refl)
  where
    by : (t : Bool) → int_le a b ≡ t → int_le (cond t a b) (cond t b a) ≡ true
    by true e = e
    by false e = int_total a b e

pub sizes_hold : (a b : ℕ) → is_consistent (sizes_of a b) ≡ true
sizes_hold a b = by (nat_le a b) refl
  where
    by : (t : Bool) → nat_le a b ≡ t → nat_le (cond t a b) (cond t b a) ≡ true
    by true e = e
    by false e = grind (arith, nat_tests)

pub size_holds : (n : ℕ) → is_consistent (size_of n) ≡ true
size_holds n = grind (arith, nat_tests)
