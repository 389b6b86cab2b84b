-- The order of numbers, by their shortest octets.
use Rattle.std.proofs.Common.{◌≡◌, ℕ, suc, ◌+◌, ◌-◌, ◌*◌, ◌^◌, ◌<◌, ◌≤◌, true, false, leb, [], ◌∷◌, length, get_or, ◌⊎◌, inl, inr, refl, sym, ap, ◌∙◌, subst, arith, ℤ, pos, negsuc}
use Rattle.std.specs.Prelude.{◌<ℤ◌, int_lt}
use Rattle.std.specs.declared.cmp.Ordering.TheVariants.{Less, Equal, Greater}
use Rattle.std.specs.Ordering.{nat_cmp, int_cmp}
use Rattle.std.specs.Cmp.Lexicographic.{slice_cmp}
use Rattle.std.proofs.lemmas.Int.{ints}
use Rattle.std.proofs.lemmas.Bool.{cases_lt, cases_eq, cases_order, lt-ltb, le-ltb, eq-eqb, ne_eqb, leb-true, leb-false, le-leb, lt-leb}
use Rattle.std.proofs.Math.Nat.{mul-le-mul_right, pow-le-pow_right}
use Rattle.asn1_core.specs.Octets.{Octets, AreOctets, unsigned, signed}
use Rattle.asn1_core.specs.Numbers.{complement}
use Rattle.asn1_core.proofs.Digits.{powers, unsigned_cons, unsigned_below}
use Rattle.asn1_core.proofs.Complement.{length-complement, complement_octets, complement_sum, signed_low, signed_complement}
use Rattle.asn1_core.proofs.Shortest.{IsTight, tight_complement}

pub int_less : (a b : ℤ) → a <ℤ b → int_cmp a b ≡ Less
int_less a b h = let t : int_lt a b ≡ true = grind (arith, ints, h) in rw t refl

pub int_greater : (a b : ℤ) → b <ℤ a → int_cmp a b ≡ Greater
int_greater a b h =
    let t : int_lt b a ≡ true = grind (arith, ints, h) in
    let f : int_lt a b ≡ false = grind (arith, ints, h) in
    rw (f, t) refl

int_same : (a : ℤ) → int_cmp a a ≡ Equal
int_same a = let f : int_lt a a ≡ false = grind (arith, ints) in rw f refl

nat_less : (a b : ℕ) → a < b → nat_cmp a b ≡ Less
nat_less a b h = rw (lt-ltb a b h) refl

nat_greater : (a b : ℕ) → b < a → nat_cmp a b ≡ Greater
nat_greater a b h = rw (le-ltb a b (omega arith), ne_eqb a b (λ e. omega arith)) refl

nat_same : (a b : ℕ) → a ≡ b → nat_cmp a b ≡ Equal
nat_same a b e = rw (le-ltb a b (omega arith), eq-eqb a b e) refl

-- octets of one count are ordered as their numbers
by_octets : (xs ys : Octets) → length xs ≡ length ys → AreOctets xs → AreOctets ys → slice_cmp nat_cmp xs ys ≡ nat_cmp (unsigned xs) (unsigned ys)
by_octets [] [] e f g = sym (nat_same (unsigned []) (unsigned []) refl)
by_octets [] (y ∷ ys) e f g = absurd (omega arith)
by_octets (x ∷ xs) [] e f g = absurd (omega arith)
by_octets (x ∷ xs) (y ∷ ys) e (f, fs) (g, gs) =
    let len : length xs ≡ length ys = omega arith in
    let p : 256 ^ length ys ≡ 256 ^ length xs = ap (λ (k : ℕ). 256 ^ k) (sym len) in
    let vx = unsigned_cons x xs in
    let vy : unsigned (y ∷ ys) ≡ y * 256 ^ length xs + unsigned ys = unsigned_cons y ys ∙ ap (λ (q : ℕ). y * q + unsigned ys) p in
    let bx = unsigned_below xs fs in
    let by : unsigned ys < 256 ^ length xs = omega (arith, p, unsigned_below ys gs) in
    elim (cases_order x y) [
      | inl same ↦
          let first : nat_cmp x y ≡ Equal = nat_same x y same in
          let product : x * 256 ^ length xs ≡ y * 256 ^ length xs = ap (λ (k : ℕ). k * 256 ^ length xs) same in
          rw first (by_octets xs ys len fs gs ∙ shifted (x * 256 ^ length xs) (unsigned xs) (unsigned ys) (unsigned (x ∷ xs)) (unsigned (y ∷ ys)) vx (vy ∙ ap (λ (k : ℕ). k + unsigned ys) (sym product)))
      | inr (inl less) ↦ rw (nat_less x y less) (sym (nat_less (unsigned (x ∷ xs)) (unsigned (y ∷ ys)) (omega (arith, vx, vy, bx, mul-le-mul_right (256 ^ length xs) less))))
      | inr (inr more) ↦ rw (nat_greater x y more) (sym (nat_greater (unsigned (x ∷ xs)) (unsigned (y ∷ ys)) (omega (arith, vx, vy, by, mul-le-mul_right (256 ^ length xs) more))))
    ]
  where
    shifted : (k u v m n : ℕ) → m ≡ k + u → n ≡ k + v → nat_cmp u v ≡ nat_cmp m n
    shifted k u v m n e f =
        elim (cases_order u v) [
          | inl same ↦ nat_same u v same ∙ sym (nat_same m n (omega (arith, e, f, same)))
          | inr (inl less) ↦ nat_less u v less ∙ sym (nat_less m n (omega (arith, e, f, less)))
          | inr (inr more) ↦ nat_greater u v more ∙ sym (nat_greater m n (omega (arith, e, f, more)))
        ]

-- ---- by sign and count

-- octets of which none is superfluous
pub record AreKept (o : Octets) : Type 0 where
  pub octets : AreOctets o
  pub tight : IsTight o

-- a number that takes that many octets beside the sign, and no fewer
record IsSized (k m : ℕ) : Type 0 where
  below : 2 * m < 256 ^ suc k
  above : 0 < k → 256 ^ k ≤ 2 * m

half : (x p q u m : ℕ) → m ≡ x * p + u → u < p → x < 128 → 256 * p ≡ q → 2 * m < q
half x p q u m e f h r = let k : (x + 1) * p ≤ 128 * p = mul-le-mul_right p (le x h) in omega (arith, e, f, r, k)
  where
    le : (x : ℕ) → x < 128 → x + 1 ≤ 128
    le x h = omega arith

sized : (x : ℕ) (xs : Octets) → AreOctets (x ∷ xs) → IsTight (x ∷ xs) → x < 128 → IsSized (length xs) (unsigned (x ∷ xs))
sized x xs f t h = record {
  below = half x (256 ^ length xs) (256 ^ suc (length xs)) (unsigned xs) (unsigned (x ∷ xs)) (unsigned_cons x xs) (unsigned_below xs f.1) h (powers (length xs));
  above = λ some. at_least xs t some;
}
  where
    large : (x p u m : ℕ) → m ≡ x * p + u → 1 ≤ x → p ≤ 2 * m
    large x p u m e h = omega (arith, e, mul-le-mul_right p h)

    larger : (x y p q u v m : ℕ) → m ≡ x * q + v → v ≡ y * p + u → 256 * p ≡ q → 128 ≤ y → q ≤ 2 * m
    larger x y p q u v m e f r h = omega (arith, e, f, r, mul-le-mul_right p h)

    at_least : (xs : Octets) → IsTight (x ∷ xs) → 0 < length xs → 256 ^ length xs ≤ 2 * unsigned (x ∷ xs)
    at_least [] t some = absurd (omega arith)
    at_least (y ∷ ys) t some = go (cases_eq x 0)
      where
        go : (x ≡ 0) ⊎ (x ≡ 0 → ⊥) → 256 ^ length (y ∷ ys) ≤ 2 * unsigned (x ∷ y ∷ ys)
        go (inl none) = larger x y (256 ^ length ys) (256 ^ length (y ∷ ys)) (unsigned ys) (unsigned (y ∷ ys)) (unsigned (x ∷ y ∷ ys)) (unsigned_cons x (y ∷ ys)) (unsigned_cons y ys) (powers (length ys)) (t.0 none)
        go (inr other) = large x (256 ^ length (y ∷ ys)) (unsigned (y ∷ ys)) (unsigned (x ∷ y ∷ ys)) (unsigned_cons x (y ∷ ys)) (omega (arith, other))

shorter_less : (j k m n : ℕ) → IsSized j m → IsSized k n → j < k → m < n
shorter_less j k m n p q h =
    let long : 256 ^ k ≤ 2 * n = q.above (omega arith) in
    let step : 256 ^ suc j ≤ 256 ^ k = pow-le-pow_right (omega arith) (omega arith) in
    omega (arith, p.below, long, step)

-- a number that isn't negative: its octets' number, and how many they are
record IsLow (o : Octets) (m : ℕ) : Type 0 where
  value : signed o ≡ pos m
  sized : IsSized (length o - 1) m
  is : m ≡ unsigned o

record IsHigh (o : Octets) (m : ℕ) : Type 0 where
  value : signed o ≡ negsuc m
  sized : IsSized (length o - 1) m
  is : m + unsigned o + 1 ≡ 256 ^ length o

low : (o : Octets) → AreKept o → get_or o 0 0 < 128 → IsLow o (unsigned o)
low [] k h = absurd k.tight
low (x ∷ xs) k h = record { value = signed_low x xs h; sized = subst (λ j. IsSized j (unsigned (x ∷ xs))) (less_one (length xs)) (sized x xs k.octets k.tight h); is = refl }
  where
    less_one : (n : ℕ) → n ≡ suc n - 1
    less_one n = omega arith

high : (o : Octets) → AreKept o → 128 ≤ get_or o 0 0 → IsHigh o (unsigned (complement o))
high [] k h = absurd k.tight
high (x ∷ xs) k h = record {
  value = signed_complement x xs k.octets h;
  sized = subst (λ j. IsSized j (unsigned (complement (x ∷ xs)))) (length-complement xs ∙ less_one (length xs)) (sized (255 - x) (complement xs) (complement_octets (x ∷ xs)) (tight_complement (x ∷ xs) k.octets k.tight) (omega (arith, k.octets.0, h)));
  is = complement_sum (x ∷ xs) k.octets;
}
  where
    less_one : (n : ℕ) → n ≡ suc n - 1
    less_one n = omega arith

some : (o : Octets) → AreKept o → 0 < length o
some [] k = absurd k.tight
some (x ∷ xs) k = omega arith

pub not_negative : (o : Octets) → AreKept o → get_or o 0 0 < 128 → signed o ≡ pos (unsigned o)
not_negative o k h = (low o k h).value

pub is_negative : (o : Octets) → AreKept o → 128 ≤ get_or o 0 0 → signed o ≡ negsuc (unsigned (complement o))
is_negative o k h = (high o k h).value

pub signs_differ : (x y : Octets) → AreKept x → AreKept y → 128 ≤ get_or x 0 0 → get_or y 0 0 < 128 → signed x <ℤ signed y
signs_differ x y p q hx ly = rw (is_negative x p hx, not_negative y q ly) (omega (arith, ints))

pub shorter_positive : (x y : Octets) → AreKept x → AreKept y → get_or x 0 0 < 128 → get_or y 0 0 < 128 → length x < length y → signed x <ℤ signed y
shorter_positive x y p q lx ly lt =
    let a = low x p lx in
    let b = low y q ly in
    let less : unsigned x < unsigned y = shorter_less (length x - 1) (length y - 1) (unsigned x) (unsigned y) a.sized b.sized (omega (arith, some x p)) in
    rw (a.value, b.value) (omega (arith, ints, less))

pub shorter_negative : (x y : Octets) → AreKept x → AreKept y → 128 ≤ get_or x 0 0 → 128 ≤ get_or y 0 0 → length x < length y → signed y <ℤ signed x
shorter_negative x y p q hx hy lt =
    let a = high x p hx in
    let b = high y q hy in
    let less : unsigned (complement x) < unsigned (complement y) = shorter_less (length x - 1) (length y - 1) (unsigned (complement x)) (unsigned (complement y)) a.sized b.sized (omega (arith, some x p)) in
    rw (a.value, b.value) (omega (arith, ints, less))

nat_as_int : (m n : ℕ) (a b : ℤ) → (m < n → a <ℤ b) → (n < m → b <ℤ a) → (m ≡ n → a ≡ b) → nat_cmp m n ≡ int_cmp a b
nat_as_int m n a b less more same =
    elim (cases_order m n) [
      | inl e ↦ nat_same m n e ∙ sym (rw (same e) (int_same b))
      | inr (inl lt) ↦ nat_less m n lt ∙ sym (int_less a b (less lt))
      | inr (inr gt) ↦ nat_greater m n gt ∙ sym (int_greater a b (more gt))
    ]

-- octets of one count and sign are ordered as their numbers
pub same_count : (x y : Octets) → AreKept x → AreKept y → leb 128 (get_or x 0 0) ≡ leb 128 (get_or y 0 0) → length x ≡ length y → slice_cmp nat_cmp x y ≡ int_cmp (signed x) (signed y)
same_count x y p q sign len =
    by_octets x y len p.octets q.octets ∙ elim (cases_lt (get_or x 0 0) 128) [
      | inl lx ↦
          let ly : get_or y 0 0 < 128 = leb-false 128 (get_or y 0 0) (sym sign ∙ lt-leb 128 (get_or x 0 0) lx) in
          let a = not_negative x p lx in
          let b = not_negative y q ly in
          nat_as_int (unsigned x) (unsigned y) (signed x) (signed y) (λ h. rw (a, b) (omega (arith, ints, h))) (λ h. rw (a, b) (omega (arith, ints, h))) (λ h. a ∙ ap pos h ∙ sym b)
      | inr hx ↦
          let hy : 128 ≤ get_or y 0 0 = leb-true 128 (get_or y 0 0) (sym sign ∙ le-leb 128 (get_or x 0 0) hx) in
          let a = high x p hx in
          let b = high y q hy in
          let width : 256 ^ length x ≡ 256 ^ length y = ap (λ (k : ℕ). 256 ^ k) len in
          let total : unsigned (complement x) + unsigned x + 1 ≡ unsigned (complement y) + unsigned y + 1 = a.is ∙ width ∙ sym b.is in
          nat_as_int (unsigned x) (unsigned y) (signed x) (signed y) (λ h. rw (a.value, b.value) (omega (arith, ints, h, total))) (λ h. rw (a.value, b.value) (omega (arith, ints, h, total)))
          (λ h. let m : unsigned (complement x) ≡ unsigned (complement y) = omega (arith, total, h) in a.value ∙ ap negsuc m ∙ sym b.value)
    ]
