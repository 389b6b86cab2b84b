-- When the number of octets is one of i128, or of u128.
use Rattle.std.proofs.Common.{◌≡◌, ℕ, zero, suc, ◌+◌, ◌-◌, ◌*◌, ◌^◌, ◌<◌, ◌≤◌, Bool, true, false, cond, leb, [], ◌∷◌, length, get_or, take, refl, sym, ap, subst, ◌∙◌, arith, inl, inr, Option, option_map}
use Rattle.std.specs.Prelude.{◌⊎◌, Some, None, FitsSigned, ℤ, pos, negsuc, ◌+ℤ◌, ◌-ℤ◌, ◌*ℤ◌, ◌≤ℤ◌, ◌<ℤ◌}
use Rattle.std.specs.Int.{w128}
use Rattle.std.proofs.Math.Nat.{pow-suc}
use Rattle.std.proofs.lemmas.Int.{ints}
use Rattle.std.proofs.lemmas.Int.Digits.{number_more}
use Rattle.std.proofs.lemmas.Bool.{cases_lt, lt-ltb, le-ltb, le-leb, lt-leb, leb-true, leb-false}
use Rattle.std.proofs.lemmas.List.{take_all, length-take-le}
use Rattle.asn1_core.specs.Octets.{Octets, AreOctets, unsigned, signed}
use Rattle.asn1_core.specs.Numbers.{in_i128}
use Rattle.asn1_core.proofs.Digits.{unsigned_below, octets_from_each}
use Rattle.asn1_core.proofs.Complement.{signed_low, signed_high}
use Rattle.asn1_ints.specs.Numbers.{if_in_i128, if_below}
use Rattle.asn1_ints.specs.Octets.{in_complement, if_in_u128}

-- ---- two's complement, one octet at a time

pub complement_none : (negative : Bool) → in_complement negative [] ≡ cond negative (negsuc 0) (pos 0)
complement_none false = refl
complement_none true = refl

pub complement_more : (negative : Bool) (xs : Octets) (i : ℕ) → i < length xs → in_complement negative (take (i + 1) xs) ≡ in_complement negative (take i xs) *ℤ pos 256 +ℤ pos (get_or xs i 0)
complement_more false xs i h = omega (arith, ints, number_more 256 xs i h)
complement_more true xs i h =
    let one : length (take (i + 1) xs) ≡ suc (length (take i xs)) = omega (arith, length-take-le (i + 1) xs (omega arith), length-take-le i xs (omega arith)) in
    let p : 256 ^ length (take (i + 1) xs) ≡ 256 ^ length (take i xs) * 256 = ap (λ (k : ℕ). 256 ^ k) one ∙ pow-suc 256 (length (take i xs)) in
    omega (arith, ints, number_more 256 xs i h, p)

pub signed_is : (xs : Octets) → AreOctets xs → signed xs ≡ in_complement (leb 128 (get_or xs 0 0)) xs
signed_is [] f = refl
signed_is (x ∷ xs) f =
    elim (cases_lt x 128) [
      | inl lt ↦ rw (lt-leb 128 x lt) (signed_low x xs lt)
      | inr le ↦ rw (le-leb 128 x le) (signed_high x xs le ∙ minus (256 ^ length (x ∷ xs)) (unsigned (x ∷ xs)) (unsigned_below (x ∷ xs) f))
    ]
  where
    minus : (p u : ℕ) → u < p → negsuc (p - 1 - u) ≡ pos u -ℤ pos p
    minus p u h = omega (arith, ints, h)

-- ---- i128

pub within : (z : ℤ) → negsuc (2 ^ 127 - 1) ≤ℤ z → z <ℤ pos (2 ^ 127) → in_i128 z ≡ true
within z low high = grind (arith, ints, low, high)

pub fits_within : (z : ℤ) → FitsSigned w128 z → in_i128 z ≡ true
fits_within (pos n) fits = let h : n < 2 ^ 127 = fits.sfits in within (pos n) (omega (arith, ints)) (omega (arith, ints, h))
fits_within (negsuc n) fits = let h : n < 2 ^ 127 = fits.sfits in within (negsuc n) (omega (arith, ints, h)) (omega (arith, ints))

above : (z : ℤ) → pos (2 ^ 127) ≤ℤ z → in_i128 z ≡ false
above z h = grind (arith, ints, h)

below : (z : ℤ) → z ≤ℤ negsuc (2 ^ 127) → in_i128 z ≡ false
below z h = grind (arith, ints, h)

pub outside_sides : (z : ℤ) → in_i128 z ≡ false → (pos (2 ^ 127) ≤ℤ z) ⊎ (z ≤ℤ negsuc (2 ^ 127))
outside_sides (pos n) h = inl (grind (arith, ints, h))
outside_sides (negsuc n) h = inr (grind (arith, ints, h))

stays_above : (negative : Bool) (xs : Octets) (i j : ℕ) → i + j ≤ length xs → pos (2 ^ 127) ≤ℤ in_complement negative (take i xs) → pos (2 ^ 127) ≤ℤ in_complement negative (take (i + j) xs)
stays_above negative xs i zero fits h = let e : i + 0 ≡ i = omega arith in rw e h
stays_above negative xs i (suc j) fits h =
    let e : i + suc j ≡ (i + j) + 1 = omega arith in
    rw e (omega (arith, ints, complement_more negative xs (i + j) (omega arith), stays_above negative xs i j (omega arith) h))

stays_below : (negative : Bool) (xs : Octets) (i j : ℕ) → ((k : ℕ) → get_or xs k 0 < 256) → i + j ≤ length xs → in_complement negative (take i xs) ≤ℤ negsuc (2 ^ 127) → in_complement negative (take (i + j) xs) ≤ℤ negsuc (2 ^ 127)
stays_below negative xs i zero octets fits h = let e : i + 0 ≡ i = omega arith in rw e h
stays_below negative xs i (suc j) octets fits h =
    let e : i + suc j ≡ (i + j) + 1 = omega arith in
    let octet : get_or xs (i + j) 0 < 256 = octets (i + j) in
    rw e (omega (arith, ints, octet, complement_more negative xs (i + j) (omega arith), stays_below negative xs i j octets (omega arith) h))

whole_from : (negative : Bool) (xs : Octets) (i : ℕ) → i ≤ length xs → in_complement negative (take (i + (length xs - i)) xs) ≡ in_complement negative xs
whole_from negative xs i le = ap (in_complement negative) (take_all (i + (length xs - i)) xs (omega arith))

-- a front outside the range leaves the whole outside
stays_outside : (negative : Bool) (xs : Octets) (i : ℕ) → i ≤ length xs → ((k : ℕ) → get_or xs k 0 < 256) → in_i128 (in_complement negative (take i xs)) ≡ false → in_i128 (in_complement negative xs) ≡ false
stays_outside negative xs i le octets h =
    elim (outside_sides (in_complement negative (take i xs)) h) [
      | inl high ↦ above (in_complement negative xs) (subst (λ (z : ℤ). pos (2 ^ 127) ≤ℤ z) (whole_from negative xs i le) (stays_above negative xs i (length xs - i) (omega arith) high))
      | inr low ↦ below (in_complement negative xs) (subst (λ (z : ℤ). z ≤ℤ negsuc (2 ^ 127)) (whole_from negative xs i le) (stays_below negative xs i (length xs - i) octets (omega arith) low))
    ]

pub outside_is : (z : ℤ) → None ≡ if_in_i128 z → in_i128 z ≡ false
outside_is z h = go (in_i128 z) h
  where
    go : (b : Bool) → None ≡ cond b (Some z) None → b ≡ false
    go true e = absurd cc
    go false e = refl

none_outside : (z : ℤ) → in_i128 z ≡ false → None ≡ if_in_i128 z
none_outside z h = rw h refl

pub inside_is : (m z : ℤ) → Some m ≡ if_in_i128 z → m ≡ z
inside_is m z h = go (in_i128 z) h
  where
    go : (b : Bool) → Some m ≡ cond b (Some z) None → m ≡ z
    go true e = cc
    go false e = absurd cc

some_inside : (z : ℤ) → in_i128 z ≡ true → Some z ≡ if_in_i128 z
some_inside z h = rw h refl

-- the steps of the loop
pub front_more : (negative : Bool) (xs : Octets) (i : ℕ) (n m : ℤ) → i < length xs → n ≡ in_complement negative (take i xs) → Some m ≡ if_in_i128 (n *ℤ pos 256 +ℤ pos (get_or xs i 0)) → m ≡ in_complement negative (take (i + 1) xs)
front_more negative xs i n m lt e h = inside_is m (n *ℤ pos 256 +ℤ pos (get_or xs i 0)) h ∙ ap (λ (z : ℤ). z *ℤ pos 256 +ℤ pos (get_or xs i 0)) e ∙ sym (complement_more negative xs i lt)

pub whole_is : (negative : Bool) (xs : Octets) (i : ℕ) (n : ℤ) → length xs ≤ i → ((k : ℕ) → get_or xs k 0 < 256) → negative ≡ leb 128 (get_or xs 0 0) → n ≡ in_complement negative (take i xs) → FitsSigned w128 n → Some n ≡ if_in_i128 (signed xs)
whole_is negative xs i n le octets sign e fits =
    some_inside n (fits_within n fits) ∙ ap if_in_i128 (e ∙ ap (in_complement negative) (take_all i xs le) ∙ ap (λ (b : Bool). in_complement b xs) sign ∙ sym (signed_is xs (octets_from_each xs octets)))

pub ends_outside : (negative : Bool) (xs : Octets) (i : ℕ) (n : ℤ) → i < length xs → ((k : ℕ) → get_or xs k 0 < 256) → negative ≡ leb 128 (get_or xs 0 0) → n ≡ in_complement negative (take i xs) → None ≡ if_in_i128 (n *ℤ pos 256 +ℤ pos (get_or xs i 0)) → None ≡ if_in_i128 (signed xs)
ends_outside negative xs i n lt octets sign e none =
    let next : in_complement negative (take (i + 1) xs) ≡ n *ℤ pos 256 +ℤ pos (get_or xs i 0) = complement_more negative xs i lt ∙ ap (λ (z : ℤ). z *ℤ pos 256 +ℤ pos (get_or xs i 0)) (sym e) in
    let front : in_i128 (in_complement negative (take (i + 1) xs)) ≡ false = ap in_i128 next ∙ outside_is (n *ℤ pos 256 +ℤ pos (get_or xs i 0)) none in
    let whole = stays_outside negative xs (i + 1) (omega arith) octets front in
    none_outside (signed xs) (ap in_i128 (signed_is xs (octets_from_each xs octets) ∙ ap (λ (b : Bool). in_complement b xs) (sym sign)) ∙ whole)

-- ---- u128

unsigned_grows : (xs : Octets) (i j : ℕ) → i + j ≤ length xs → unsigned (take i xs) ≤ unsigned (take (i + j) xs)
unsigned_grows xs i zero fits = let e : i + 0 ≡ i = omega arith in rw e (omega arith)
unsigned_grows xs i (suc j) fits =
    let e : i + suc j ≡ (i + j) + 1 = omega arith in
    rw e (omega (arith, number_more 256 xs (i + j) (omega arith), unsigned_grows xs i j (omega arith)))

pub unsigned_front_more : (xs : Octets) (i n m : ℕ) → i < length xs → n ≡ unsigned (take i xs) → Some m ≡ if_in_u128 (n * 256 + get_or xs i 0) → (m < 2 ^ 128) × (m ≡ unsigned (take (i + 1) xs))
unsigned_front_more xs i n m lt e h =
    let r = go (n * 256 + get_or xs i 0) (cases_lt (n * 256 + get_or xs i 0) (2 ^ 128)) h in
    (r.0, r.1 ∙ omega (arith, e, number_more 256 xs i lt))
  where
    go : (k : ℕ) → (k < 2 ^ 128) ⊎ (2 ^ 128 ≤ k) → Some m ≡ if_in_u128 k → (m < 2 ^ 128) × (m ≡ k)
    go k (inl small) f = let t = rw (lt-ltb k (2 ^ 128) small) at f in let e : m ≡ k = cc in (omega (arith, e, small), e)
    go k (inr large) f = let t = rw (le-ltb k (2 ^ 128) large) at f in absurd cc

pub unsigned_whole_is : (xs : Octets) (i n : ℕ) → length xs ≤ i → n ≡ unsigned (take i xs) → n < 2 ^ 128 → Some n ≡ if_in_u128 (unsigned xs)
unsigned_whole_is xs i n le e small =
    let whole : n ≡ unsigned xs = e ∙ ap unsigned (take_all i xs le) in
    rw (← whole) (rw (lt-ltb n (2 ^ 128) small) refl)

pub unsigned_ends_outside : (xs : Octets) (i n : ℕ) → i < length xs → n ≡ unsigned (take i xs) → None ≡ if_in_u128 (n * 256 + get_or xs i 0) → None ≡ if_in_u128 (unsigned xs)
unsigned_ends_outside xs i n lt e none =
    let large : 2 ^ 128 ≤ n * 256 + get_or xs i 0 = go (cases_lt (n * 256 + get_or xs i 0) (2 ^ 128)) in
    let grown : unsigned (take (i + 1) xs) ≤ unsigned (take ((i + 1) + (length xs - (i + 1))) xs) = unsigned_grows xs (i + 1) (length xs - (i + 1)) (omega arith) in
    let whole : unsigned (take ((i + 1) + (length xs - (i + 1))) xs) ≡ unsigned xs = ap unsigned (take_all ((i + 1) + (length xs - (i + 1))) xs (omega arith)) in
    let past : 2 ^ 128 ≤ unsigned xs = omega (arith, large, grown, whole, e, number_more 256 xs i lt) in
    rw (le-ltb (unsigned xs) (2 ^ 128) past) refl
  where
    go : (n * 256 + get_or xs i 0 < 2 ^ 128) ⊎ (2 ^ 128 ≤ n * 256 + get_or xs i 0) → 2 ^ 128 ≤ n * 256 + get_or xs i 0
    go (inr h) = h
    go (inl h) = let t = rw (lt-ltb (n * 256 + get_or xs i 0) (2 ^ 128) h) at none in absurd cc

low_value : (xs : Octets) → get_or xs 0 0 < 128 → signed xs ≡ pos (unsigned xs)
low_value [] h = refl
low_value (x ∷ xs) h = signed_low x xs h

pub signed_below : (xs : Octets) (o : Option ℕ) → false ≡ leb 128 (get_or xs 0 0) → o ≡ if_in_u128 (unsigned xs) → option_map pos o ≡ if_below (2 ^ 128) (signed xs)
signed_below xs o h e = ap (option_map pos) e ∙ go (cases_lt (unsigned xs) (2 ^ 128)) ∙ ap (if_below (2 ^ 128)) (sym (low_value xs (leb-false 128 (get_or xs 0 0) (sym h))))
  where
    go : (unsigned xs < 2 ^ 128) ⊎ (2 ^ 128 ≤ unsigned xs) → option_map pos (if_in_u128 (unsigned xs)) ≡ if_below (2 ^ 128) (pos (unsigned xs))
    go (inl small) = rw (lt-ltb (unsigned xs) (2 ^ 128) small, le-leb 0 (unsigned xs) (omega arith)) refl
    go (inr large) = rw (le-ltb (unsigned xs) (2 ^ 128) large, le-leb 0 (unsigned xs) (omega arith)) refl

pub signed_not_below : (xs : Octets) → true ≡ leb 128 (get_or xs 0 0) → None ≡ if_below (2 ^ 128) (signed xs)
signed_not_below [] h = absurd cc
signed_not_below (x ∷ xs) h = rw (signed_high x xs (leb-true 128 x (sym h))) refl
