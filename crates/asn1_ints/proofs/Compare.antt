-- Comparing numbers as they are kept.
use Rattle.std.proofs.Common.{◌≡◌, ℕ, ◌<◌, ◌^◌, Bool, true, false, leb, length, get_or, sym, ap, subst, ◌∙◌, arith, inl, inr, ℤ, pos, negsuc}
use Rattle.std.specs.Prelude.{◌<ℤ◌, ◌≤ℤ◌, FitsSigned, nat_eq}
use Rattle.std.specs.Int.{w128}
use Rattle.std.specs.Global.{Vec}
use Rattle.std.specs.declared.cmp.Ordering.TheVariants.{Less, Greater}
use Rattle.std.specs.Ordering.{nat_cmp, int_cmp, int_eq}
use Rattle.std.specs.Cmp.Lexicographic.{slice_cmp, same_text, other_text}
use Rattle.std.proofs.lemmas.Int.{ints}
use Rattle.std.proofs.lemmas.Bool.{leb-true, leb-false, false_from_ne_true}
use Rattle.std.proofs.lemmas.Bool.Decides.{Decides-int_eq}
use lib.Pointwise.{pointwise}
use Rattle.asn1_core.specs.Octets.{Octets, AreOctets, unsigned, signed}
use Rattle.asn1_core.specs.Numbers.{in_i128, signed_octets, complement}
use Rattle.asn1_core.proofs.Shortest.{IsTight, signed_octets_are}
use Rattle.asn1_ints.specs.Numbers.{AreLarge, IsNumber, number_value}
use Rattle.asn1_ints.specs.declared.number.Number.{Number}
use Rattle.asn1_ints.specs.declared.number.Number.TheVariants.{Small, Large}
use Rattle.asn1_ints.proofs.Limits.{fits_within, outside_sides}
use Rattle.asn1_ints.proofs.Order.{AreKept, int_less, int_greater, not_negative, is_negative, signs_differ, shorter_positive, shorter_negative, same_count}

pub kept : (o : Octets) → AreLarge o → AreKept o
kept o p = let s = signed_octets_are (signed o) in record { octets = subst AreOctets p.shortest s.octets; tight = subst IsTight p.shortest s.tight }

pub signs_less : (x y : Octets) → AreLarge x → AreLarge y → true ≡ leb 128 (get_or x 0 0) → false ≡ leb 128 (get_or y 0 0) → Less ≡ int_cmp (signed x) (signed y)
signs_less x y p q hx ly = sym (int_less (signed x) (signed y) (signs_differ x y (kept x p) (kept y q) (leb-true 128 (get_or x 0 0) (sym hx)) (leb-false 128 (get_or y 0 0) (sym ly))))

pub signs_greater : (x y : Octets) → AreLarge x → AreLarge y → false ≡ leb 128 (get_or x 0 0) → true ≡ leb 128 (get_or y 0 0) → Greater ≡ int_cmp (signed x) (signed y)
signs_greater x y p q lx hy = sym (int_greater (signed x) (signed y) (signs_differ y x (kept y q) (kept x p) (leb-true 128 (get_or y 0 0) (sym hy)) (leb-false 128 (get_or x 0 0) (sym lx))))

pub short_negative : (x y : Octets) → AreLarge x → AreLarge y → true ≡ leb 128 (get_or x 0 0) → true ≡ leb 128 (get_or y 0 0) → length x < length y → Greater ≡ int_cmp (signed x) (signed y)
short_negative x y p q hx hy lt = sym (int_greater (signed x) (signed y) (shorter_negative x y (kept x p) (kept y q) (leb-true 128 (get_or x 0 0) (sym hx)) (leb-true 128 (get_or y 0 0) (sym hy)) lt))

pub short_positive : (x y : Octets) → AreLarge x → AreLarge y → false ≡ leb 128 (get_or x 0 0) → false ≡ leb 128 (get_or y 0 0) → length x < length y → Less ≡ int_cmp (signed x) (signed y)
short_positive x y p q lx ly lt = sym (int_less (signed x) (signed y) (shorter_positive x y (kept x p) (kept y q) (leb-false 128 (get_or x 0 0) (sym lx)) (leb-false 128 (get_or y 0 0) (sym ly)) lt))

pub long_negative : (x y : Octets) → AreLarge x → AreLarge y → true ≡ leb 128 (get_or x 0 0) → true ≡ leb 128 (get_or y 0 0) → length y < length x → Less ≡ int_cmp (signed x) (signed y)
long_negative x y p q hx hy lt = sym (int_less (signed x) (signed y) (shorter_negative y x (kept y q) (kept x p) (leb-true 128 (get_or y 0 0) (sym hy)) (leb-true 128 (get_or x 0 0) (sym hx)) lt))

pub long_positive : (x y : Octets) → AreLarge x → AreLarge y → false ≡ leb 128 (get_or x 0 0) → false ≡ leb 128 (get_or y 0 0) → length y < length x → Greater ≡ int_cmp (signed x) (signed y)
long_positive x y p q lx ly lt = sym (int_greater (signed x) (signed y) (shorter_positive y x (kept y q) (kept x p) (leb-false 128 (get_or y 0 0) (sym ly)) (leb-false 128 (get_or x 0 0) (sym lx)) lt))

pub one_length : (x y : Octets) (negative : Bool) → AreLarge x → AreLarge y → negative ≡ leb 128 (get_or x 0 0) → negative ≡ leb 128 (get_or y 0 0) → length x ≡ length y → slice_cmp nat_cmp x y ≡ int_cmp (signed x) (signed y)
one_length x y negative p q sx sy len = same_count x y (kept x p) (kept y q) (sym sx ∙ sy) len

-- ---- a number of i128 beside a large one

from_zero : (z : ℤ) (n : ℕ) → z ≡ pos n → in_i128 z ≡ false → pos (2 ^ 127) ≤ℤ z
from_zero z n e out =
    elim (outside_sides z out) [
      | inl high ↦ high
      | inr low ↦ let low' = rw e at low in absurd (omega (arith, ints, low'))
    ]

under_zero : (z : ℤ) (n : ℕ) → z ≡ negsuc n → in_i128 z ≡ false → z ≤ℤ negsuc (2 ^ 127)
under_zero z n e out =
    elim (outside_sides z out) [
      | inl high ↦ let high' = rw e at high in absurd (omega (arith, ints, high'))
      | inr low ↦ low
    ]

fits_below : (a : ℤ) → FitsSigned w128 a → a <ℤ pos (2 ^ 127)
fits_below (pos n) fits = let h : n < 2 ^ 127 = fits.sfits in omega (arith, ints, h)
fits_below (negsuc n) fits = omega (arith, ints)

fits_above : (a : ℤ) → FitsSigned w128 a → negsuc (2 ^ 127) <ℤ a
fits_above (pos n) fits = omega (arith, ints)
fits_above (negsuc n) fits = let h : n < 2 ^ 127 = fits.sfits in omega (arith, ints, h)

below_large : (a : ℤ) (y : Octets) → FitsSigned w128 a → AreLarge y → false ≡ leb 128 (get_or y 0 0) → a <ℤ signed y
below_large a y fits q sign =
    let e = not_negative y (kept y q) (leb-false 128 (get_or y 0 0) (sym sign)) in
    omega (arith, ints, from_zero (signed y) (unsigned y) e q.outside, fits_below a fits)

above_large : (a : ℤ) (y : Octets) → FitsSigned w128 a → AreLarge y → true ≡ leb 128 (get_or y 0 0) → signed y <ℤ a
above_large a y fits q sign =
    let e = is_negative y (kept y q) (leb-true 128 (get_or y 0 0) (sym sign)) in
    omega (arith, ints, under_zero (signed y) (unsigned (complement y)) e q.outside, fits_above a fits)

pub small_before : (a : ℤ) (y : Octets) → FitsSigned w128 a → AreLarge y → false ≡ leb 128 (get_or y 0 0) → Less ≡ int_cmp a (signed y)
small_before a y fits q sign = sym (int_less a (signed y) (below_large a y fits q sign))

pub small_after : (a : ℤ) (y : Octets) → FitsSigned w128 a → AreLarge y → true ≡ leb 128 (get_or y 0 0) → Greater ≡ int_cmp a (signed y)
small_after a y fits q sign = sym (int_greater a (signed y) (above_large a y fits q sign))

pub large_after : (y : Octets) (a : ℤ) → FitsSigned w128 a → AreLarge y → false ≡ leb 128 (get_or y 0 0) → Greater ≡ int_cmp (signed y) a
large_after y a fits q sign = sym (int_greater (signed y) a (below_large a y fits q sign))

pub large_before : (y : Octets) (a : ℤ) → FitsSigned w128 a → AreLarge y → true ≡ leb 128 (get_or y 0 0) → Less ≡ int_cmp (signed y) a
large_before y a fits q sign = sym (int_less (signed y) a (above_large a y fits q sign))

-- ---- equality

same_large : (x y : Octets) → AreLarge x → AreLarge y → signed x ≡ signed y → x ≡ y
same_large x y p q e = sym p.shortest ∙ ap signed_octets e ∙ q.shortest

int_eq-same : (a b : ℤ) → a ≡ b → int_eq a b ≡ true
int_eq-same a b e = (Decides-int_eq a b).1 e

int_eq-other : (a b : ℤ) → (a ≡ b → ⊥) → false ≡ int_eq a b
int_eq-other a b h = sym (false_from_ne_true (int_eq a b) (λ t. h ((Decides-int_eq a b).0 t)))

differ : (a b : ℤ) → in_i128 a ≡ true → in_i128 b ≡ false → a ≡ b → ⊥
differ a b p q e = clash (sym p ∙ ap in_i128 e ∙ q)
  where
    clash : true ≡ false → ⊥
    clash h = absurd cc

small_large : (a : ℤ) (y : Octets) → FitsSigned w128 a → AreLarge y → false ≡ int_eq a (signed y)
small_large a y fits q = int_eq-other a (signed y) (differ a (signed y) (fits_within a fits) q.outside)

large_small : (x : Octets) (b : ℤ) → AreLarge x → FitsSigned w128 b → false ≡ int_eq (signed x) b
large_small x b p fits = int_eq-other (signed x) b (λ e. differ b (signed x) (fits_within b fits) p.outside (sym e))

large_large : (x y : Octets) (r : Bool) → AreLarge x → AreLarge y → r ≡ pointwise nat_eq x y → r ≡ int_eq (signed x) (signed y)
large_large x y true p q h = sym (int_eq-same (signed x) (signed y) (ap signed (same_text x y h)))
large_large x y false p q h = int_eq-other (signed x) (signed y) (λ e. other_text x y h (same_large x y p q e))

-- two numbers as they are kept
pub kept_small_large : (m n : Number) (a : ℤ) (y : Vec ℕ) → m ≡ Small a → n ≡ Large y → IsNumber m → IsNumber n → false ≡ int_eq (number_value m) (number_value n)
kept_small_large m n a y m-is n-is p q =
    let p' : IsNumber (Small a) = subst IsNumber m-is p in
    let q' : IsNumber (Large y) = subst IsNumber n-is q in
    rw (m-is, n-is) (small_large a y.items p' q')

pub kept_large_small : (m n : Number) (x : Vec ℕ) (b : ℤ) → m ≡ Large x → n ≡ Small b → IsNumber m → IsNumber n → false ≡ int_eq (number_value m) (number_value n)
kept_large_small m n x b m-is n-is p q =
    let p' : IsNumber (Large x) = subst IsNumber m-is p in
    let q' : IsNumber (Small b) = subst IsNumber n-is q in
    rw (m-is, n-is) (large_small x.items b p' q')

pub kept_large_large : (m n : Number) (x y : Vec ℕ) (r : Bool) → m ≡ Large x → n ≡ Large y → IsNumber m → IsNumber n → r ≡ pointwise nat_eq x.items y.items → r ≡ int_eq (number_value m) (number_value n)
kept_large_large m n x y r m-is n-is p q h =
    let p' : IsNumber (Large x) = subst IsNumber m-is p in
    let q' : IsNumber (Large y) = subst IsNumber n-is q in
    rw (m-is, n-is) (large_large x.items y.items r p' q' h)
