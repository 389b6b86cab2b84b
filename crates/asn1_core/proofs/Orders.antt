-- `<=` of i128 and of usize is the order of the numbers.
use Rattle.std.proofs.Common.{◌≡◌, ℕ, true, false, ℤ, pos, negsuc, int_le, nat_le, refl, arith}
use Rattle.std.specs.Ordering.{partial_le, as_partial_cmp, nat_cmp, int_cmp}
use Rattle.std.proofs.lemmas.Bool.Decides.{nat_tests}
use Rattle.asn1_core.proofs.Narrowed.{IsOrder}

pub nat_order : (x y : ℕ) → partial_le (as_partial_cmp nat_cmp) x y ≡ nat_le x y
nat_order x y = grind (arith, nat_tests)

pub int_order : (x y : ℤ) → partial_le (as_partial_cmp int_cmp) x y ≡ int_le x y
int_order (pos x) (pos y) = grind (arith, nat_tests)
int_order (pos x) (negsuc y) = refl
int_order (negsuc x) (pos y) = refl
int_order (negsuc x) (negsuc y) = grind (arith, nat_tests)

pub nat_orders : partial_le (as_partial_cmp nat_cmp) ≡ nat_le
nat_orders = λ i x y. nat_order x y i

pub int_orders : partial_le (as_partial_cmp int_cmp) ≡ int_le
int_orders = λ i x y. int_order x y i

pub nat_le-order : IsOrder nat_le
nat_le-order = record {
  total = λ a b h. grind (arith, nat_tests);
  trans = λ a b c p q. grind (arith, nat_tests);
}

int_le-total : (a b : ℤ) → int_le a b ≡ false → int_le b a ≡ true
int_le-total (pos a) (pos b) h = grind (arith, nat_tests)
int_le-total (pos a) (negsuc b) h = refl
int_le-total (negsuc a) (pos b) h = cc
int_le-total (negsuc a) (negsuc b) h = grind (arith, nat_tests)

int_le-trans : (a b c : ℤ) → int_le a b ≡ true → int_le b c ≡ true → int_le a c ≡ true
int_le-trans (pos a) (pos b) (pos c) p q = grind (arith, nat_tests)
int_le-trans (pos a) (pos b) (negsuc c) p q = q
int_le-trans (pos a) (negsuc b) c p q = cc
int_le-trans (negsuc a) b (pos c) p q = refl
int_le-trans (negsuc a) (pos b) (negsuc c) p q = cc
int_le-trans (negsuc a) (negsuc b) (negsuc c) p q = grind (arith, nat_tests)

pub int_le-order : IsOrder int_le
int_le-order = record { total = int_le-total; trans = int_le-trans }
