-- What is written of a leaf is a canonical encoding.
use Rattle.std.proofs.Common.{◌≡◌, ℕ, zero, suc, ◌+◌, ◌-◌, ◌*◌, ◌/◌, ◌%◌, ◌^◌, ◌<◌, ◌≤◌, Bool, true, false, cond, ◌&&◌, nat_lt, List, [], ◌∷◌, length, replicate, get_or, ◌⊎◌, inl, inr, refl, sym, ap, ◌∙◌, subst, arith, ℤ, pos, negsuc, int_le, int_lt, Option, Some, None}
use Rattle.std.specs.Prelude.{⊤}
use Rattle.std.specs.Int.Digits.{digits_of}
use Rattle.std.proofs.lemmas.Int.{ints}
use native.Mathlib.Nat.{mul-le-mul_right}
use Rattle.std.proofs.lemmas.Bool.{ltb-true, ltb-false, lt-ltb, cases_lt, cond-true, cond-false, cond_both, cases_Bool, and_parts, not-false}
use Rattle.asn1_core.specs.Bounds.{in_range, fixed_size, Range}
use Rattle.asn1_core.specs.Numbers.{number_octets, in_i128, complement, with_sign, low_octets, signed_octets}
use Rattle.asn1_core.specs.Octets.{Octets, AreOctets, unsigned, signed, usize_max, octets_for}
use Rattle.asn1_core.specs.Texts.{Rule}
use Rattle.oer_spec.specs.Leaves.{Width, Fixed, Counted, width_of, signed_width, unsigned_width, holds_signed, IsShort, value_of, fixed_octets, unsigned_octets, counted_octets, int_octets, enum_octets, bits_octets, text_octets, leaf_octets, leaf_fails, count_too_long, string_too_long, least_size, named_bits, is_small, IsInteger, IsEnumerated, IsBitString, IsText, IsLeafEncoding, IsLeaf, Failure, BadValue, BadTime, TooLong}
use Rattle.oer_spec.specs.Lengths.{NoLeadingZero, behind_length}
use Rattle.oer_spec.specs.Mode.{OwnSized}
use Rattle.oer_spec.specs.Tree.{InOctets, Civil, Leaf, Boolean, Null, Enum, Int, Bits, Named, Text}
use Rattle.asn1_core.proofs.Digits.{powers, power_pos, unsigned_cons}
use Rattle.asn1_core.proofs.Complement.{complement_octets, length-complement, signed_low, signed_high, signed_complement}
use Rattle.asn1_core.proofs.Fixed.{low_length, low_are_octets, low_value}
use Rattle.asn1_core.proofs.Shortest.{IsTight, tight_some, signed_octets_are, signed_of_low, signed_of_complement}
use Rattle.oer_spec.proofs.Named.{all_false}
use Rattle.oer_spec.proofs.Written.{number_is, behind_form, behind_are_octets, packed_is, counted_bits_form, counted_bits_are_octets, few_digits}

lead_zero : (x p u : ℕ) → 0 < p → x * p + u ≡ u → x ≡ 0
lead_zero zero p u h e = refl
lead_zero (suc k) p u h e = absurd (omega arith)

pub short_from_tight : (c : Octets) → AreOctets c → IsTight c → IsShort true c
short_from_tight [] f t = t
short_from_tight (x ∷ []) f t = tt
short_from_tight (x ∷ y ∷ ys) (f, fs) (low, high) = λ e. go e (cases_lt x 128) (cases_lt y 128)
  where
    go : signed (y ∷ ys) ≡ signed (x ∷ y ∷ ys) → (x < 128) ⊎ (128 ≤ x) → (y < 128) ⊎ (128 ≤ y) → ⊥
    go e (inl a) (inl b) =
        let n : unsigned (y ∷ ys) ≡ unsigned (x ∷ y ∷ ys) = cc (e, signed_low y ys b, signed_low x (y ∷ ys) a) in
        let z : x ≡ 0 = lead_zero x (256 ^ length (y ∷ ys)) (unsigned (y ∷ ys)) (power_pos (length (y ∷ ys))) (sym (n ∙ unsigned_cons x (y ∷ ys))) in
        let w : 128 ≤ y = low z in absurd (omega (arith, w, b))
    go e (inl a) (inr b) = absurd (cc (e, signed_high y ys b, signed_low x (y ∷ ys) a))
    go e (inr a) (inl b) = absurd (cc (e, signed_low y ys b, signed_high x (y ∷ ys) a))
    go e (inr a) (inr b) =
        let n : unsigned (complement (y ∷ ys)) ≡ unsigned (complement (x ∷ y ∷ ys)) = cc (e, signed_complement y ys fs b, signed_complement x (y ∷ ys) (f, fs) a) in
        let z : 255 - x ≡ 0 = lead_zero (255 - x) (256 ^ length (complement (y ∷ ys))) (unsigned (complement (y ∷ ys))) (power_pos (length (complement (y ∷ ys)))) (sym (n ∙ unsigned_cons (255 - x) (complement (y ∷ ys)))) in
        let w : y < 128 = high (omega (arith, z, f)) in absurd (omega (arith, w, b))

-- the octets of a signed number behind a length
pub record IsSigned (z : ℤ) (c : Octets) : Type 0 where
  pub octets : AreOctets c
  pub some : 1 ≤ length c
  pub value : z ≡ signed c
  pub short : IsShort true c

pub signed_is : (z : ℤ) → IsSigned z (signed_octets z)
signed_is z =
    let r = signed_octets_are z in
    record { octets = r.octets; some = omega (arith, tight_some (signed_octets z) r.tight); value = sym r.value; short = short_from_tight (signed_octets z) r.octets r.tight }

-- ---- a fixed count of octets
abbrev pub magnitude : ℤ → ℕ
magnitude (pos n) = n
magnitude (negsuc n) = n

-- what a width holds
abbrev pub Holds : Width → ℤ → Type 0
Holds (Fixed false k) z = (n : ℕ) × (z ≡ pos n) × (n < 256 ^ k)
Holds (Fixed true k) z = (j : ℕ) × (k ≡ suc j) × (magnitude z < 128 * 256 ^ j)
Holds (Counted false) z = (n : ℕ) × (z ≡ pos n)
Holds (Counted true) z = ⊤

pub first_low : (c : Octets) (j : ℕ) → length c ≡ suc j → unsigned c < 128 * 256 ^ j → get_or c 0 255 < 128
first_low [] j l h = absurd (omega arith)
first_low (x ∷ xs) j l h = below x (256 ^ length xs) (256 ^ j) (unsigned xs) (unsigned (x ∷ xs)) (ap (λ z. 256 ^ z) (same (length xs) j l)) (unsigned_cons x xs) h (cases_lt x 128)
  where
    same : (a b : ℕ) → suc a ≡ suc b → a ≡ b
    same a b e = omega arith

    below : (x p q u v : ℕ) → p ≡ q → v ≡ x * p + u → v < 128 * q → (x < 128) ⊎ (128 ≤ x) → x < 128
    below x p q u v e f h (inl l) = l
    below x p q u v e f h (inr l) = absurd (omega (arith, e, f, h, mul-le-mul_right p l))

pub low_sized : (j n : ℕ) → n < 128 * 256 ^ j → n < 256 ^ suc j
low_sized j n h = room n (256 ^ j) (256 ^ suc j) (powers j) h
  where
    room : (n p q : ℕ) → 256 * p ≡ q → n < 128 * p → n < q
    room n p q e l = omega arith

pub fixed_value : (sign : Bool) (k : ℕ) (z : ℤ) → Holds (Fixed sign k) z → (length (fixed_octets k z) ≡ k) × AreOctets (fixed_octets k z) × (z ≡ value_of sign (fixed_octets k z))
fixed_value false k z (n, e, h) =
    subst (λ y. (length (fixed_octets k y) ≡ k) × AreOctets (fixed_octets k y) × (y ≡ value_of false (fixed_octets k y))) (sym e)
    (low_length k n, low_are_octets k n, ap pos (sym (low_value k n h)))
fixed_value true k (pos n) (j, e, h) =
    subst (λ y. (length (fixed_octets y (pos n)) ≡ y) × AreOctets (fixed_octets y (pos n)) × (pos n ≡ value_of true (fixed_octets y (pos n)))) (sym e)
    (let v : unsigned (low_octets (suc j) n) ≡ n = low_value (suc j) n (low_sized j n h) in (
      low_length (suc j) n,
      low_are_octets (suc j) n,
      ap pos (sym v) ∙ sym (signed_of_low (low_octets (suc j) n) (first_low (low_octets (suc j) n) j (low_length (suc j) n) (subst (λ y. y < 128 * 256 ^ j) (sym v) h))),
    ))
fixed_value true k (negsuc n) (j, e, h) =
    subst (λ y. (length (fixed_octets y (negsuc n)) ≡ y) × AreOctets (fixed_octets y (negsuc n)) × (negsuc n ≡ value_of true (fixed_octets y (negsuc n)))) (sym e)
    (let v : unsigned (low_octets (suc j) n) ≡ n = low_value (suc j) n (low_sized j n h) in (
      length-complement (low_octets (suc j) n) ∙ low_length (suc j) n,
      complement_octets (low_octets (suc j) n),
      ap negsuc (sym v) ∙ sym (signed_of_complement (low_octets (suc j) n) (low_are_octets (suc j) n) (first_low (low_octets (suc j) n) j (low_length (suc j) n) (subst (λ y. y < 128 * 256 ^ j) (sym v) h))),
    ))

-- ---- a number within its range is held by its width
held_signed : (h : ℕ) (low high z : ℤ) → (int_le (negsuc h) low && int_lt high (pos (suc h))) ≡ true → int_le low z ≡ true → int_le z high ≡ true → magnitude z < suc h
held_signed h low high z e f g = grind (arith, ints)

held_unsigned : (h : ℕ) (low high z : ℤ) → int_lt low (pos 0) ≡ false → int_lt high (pos h) ≡ true → int_le low z ≡ true → int_le z high ≡ true → (n : ℕ) × (z ≡ pos n) × (n < h)
held_unsigned h low high (pos n) e f g k = (n, refl, under h low high n e f g k)
  where
    under : (h : ℕ) (low high : ℤ) (n : ℕ) → int_lt low (pos 0) ≡ false → int_lt high (pos h) ≡ true → int_le low (pos n) ≡ true → int_le (pos n) high ≡ true → n < h
    under h low high n e f g k = grind (arith, ints)
held_unsigned h low high (negsuc n) e f g k = absurd (never low n e g)
  where
    never : (low : ℤ) (n : ℕ) → int_lt low (pos 0) ≡ false → int_le low (negsuc n) ≡ true → ⊥
    never low n e g = grind (arith, ints)

held_plain : (low z : ℤ) → int_lt low (pos 0) ≡ false → int_le low z ≡ true → (n : ℕ) × (z ≡ pos n)
held_plain low (pos n) e g = (n, refl)
held_plain low (negsuc n) e g = absurd (never low n e g)
  where
    never : (low : ℤ) (n : ℕ) → int_lt low (pos 0) ≡ false → int_le low (negsuc n) ≡ true → ⊥
    never low n e g = grind (arith, ints)

holds_cond : (b : Bool) (v w : Width) (z : ℤ) → (b ≡ true → Holds v z) → (b ≡ false → Holds w z) → Holds (cond b v w) z
holds_cond b v w z f g = cond_both b v w (λ y. Holds y z) f g

holds_signed_width : (low high z : ℤ) → int_le low z ≡ true → int_le z high ≡ true → Holds (signed_width low high) z
holds_signed_width low high z g k =
    holds_cond (holds_signed 1 low high) (Fixed true 1) (cond (holds_signed 2 low high) (Fixed true 2) (cond (holds_signed 4 low high) (Fixed true 4) (cond (holds_signed 8 low high) (Fixed true 8) (Counted true)))) z
    (λ e. (0, refl, held_signed 127 low high z e g k))
    (λ _. holds_cond (holds_signed 2 low high) (Fixed true 2) (cond (holds_signed 4 low high) (Fixed true 4) (cond (holds_signed 8 low high) (Fixed true 8) (Counted true))) z
    (λ e. (1, refl, held_signed (2 ^ 15 - 1) low high z e g k))
    (λ _. holds_cond (holds_signed 4 low high) (Fixed true 4) (cond (holds_signed 8 low high) (Fixed true 8) (Counted true)) z
    (λ e. (3, refl, held_signed (2 ^ 31 - 1) low high z e g k))
    (λ _. holds_cond (holds_signed 8 low high) (Fixed true 8) (Counted true) z
    (λ e. (7, refl, held_signed (2 ^ 63 - 1) low high z e g k))
    (λ _. tt))))

holds_unsigned_width : (low high z : ℤ) → int_lt low (pos 0) ≡ false → int_le low z ≡ true → int_le z high ≡ true → Holds (unsigned_width high) z
holds_unsigned_width low high z p g k =
    holds_cond (int_lt high (pos (2 ^ 8))) (Fixed false 1) (cond (int_lt high (pos (2 ^ 16))) (Fixed false 2) (cond (int_lt high (pos (2 ^ 32))) (Fixed false 4) (cond (int_lt high (pos (2 ^ 64))) (Fixed false 8) (Counted false)))) z
    (λ e. held_unsigned (2 ^ 8) low high z p e g k)
    (λ _. holds_cond (int_lt high (pos (2 ^ 16))) (Fixed false 2) (cond (int_lt high (pos (2 ^ 32))) (Fixed false 4) (cond (int_lt high (pos (2 ^ 64))) (Fixed false 8) (Counted false))) z
    (λ e. held_unsigned (2 ^ 16) low high z p e g k)
    (λ _. holds_cond (int_lt high (pos (2 ^ 32))) (Fixed false 4) (cond (int_lt high (pos (2 ^ 64))) (Fixed false 8) (Counted false)) z
    (λ e. held_unsigned (2 ^ 32) low high z p e g k)
    (λ _. holds_cond (int_lt high (pos (2 ^ 64))) (Fixed false 8) (Counted false) z
    (λ e. held_unsigned (2 ^ 64) low high z p e g k)
    (λ _. held_plain low z p g))))

pub holds_width : (r : Range) (z : ℤ) → in_range r z ≡ true → Holds (width_of r) z
holds_width None z f = tt
holds_width (Some (None, high)) z f = tt
holds_width (Some (Some low, None)) z f =
    holds_cond (int_lt low (pos 0)) (Counted true) (Counted false) z (λ _. tt) (λ e. held_plain low z e (and_parts (int_le low z) (true && in_i128 z) f).0)
holds_width (Some (Some low, Some high)) z f =
    let a : (int_le low z ≡ true) × ((int_le z high && in_i128 z) ≡ true) = and_parts (int_le low z) (int_le z high && in_i128 z) f in
    let b : (int_le z high ≡ true) × (in_i128 z ≡ true) = and_parts (int_le z high) (in_i128 z) a.1 in
    holds_cond (int_lt low (pos 0)) (signed_width low high) (unsigned_width high) z
    (λ _. holds_signed_width low high z a.0 b.0)
    (λ e. holds_unsigned_width low high z e a.0 b.0)

-- ---- leaves
pub plain_short : (c : Octets) → AreOctets c → NoLeadingZero c → IsShort false c
plain_short [] f p = absurd p
plain_short (x ∷ []) f p = tt
plain_short (x ∷ y ∷ ys) f p = λ e. p (lead_zero x (256 ^ length (y ∷ ys)) (unsigned (y ∷ ys)) (power_pos (length (y ∷ ys))) (sym (unsigned_cons x (y ∷ ys)) ∙ cc e))

not_long : (n : ℕ) → nat_lt usize_max n ≡ false → n ≤ usize_max
not_long n e = ltb-false usize_max n e

counted_form : (sign : Bool) (z : ℤ) → Holds (Counted sign) z → nat_lt usize_max (length (counted_octets sign z)) ≡ false → IsInteger OwnSized (behind_length (counted_octets sign z)) (Counted sign) z × AreOctets (behind_length (counted_octets sign z))
counted_form true z h l =
    let r = signed_is z in
    ((signed_octets z, behind_form (signed_octets z) r.octets (not_long (length (signed_octets z)) l), r.some, r.value, r.short), behind_are_octets (signed_octets z) r.octets (not_long (length (signed_octets z)) l))
counted_form false z (n, e) l =
    subst (λ y. IsInteger OwnSized (behind_length (unsigned_octets y)) (Counted false) y × AreOctets (behind_length (unsigned_octets y))) (sym e)
    (let r = number_is n in
    let k : length (number_octets n) ≤ usize_max = not_long (length (number_octets n)) (subst (λ y. nat_lt usize_max (length (unsigned_octets y)) ≡ false) e l) in
    ((number_octets n, behind_form (number_octets n) r.octets k, r.some, ap pos r.value, plain_short (number_octets n) r.octets r.plain), behind_are_octets (number_octets n) r.octets k))

int_form : (w : Width) (z : ℤ) → Holds w z → count_too_long w z ≡ false → IsInteger OwnSized (int_octets w z) w z × AreOctets (int_octets w z)
int_form (Fixed sign k) z h l = let r = fixed_value sign k z h in ((r.0, r.1, r.2), r.1)
int_form (Counted sign) z h l = counted_form sign z h l

pub small_magnitude : (h : ℕ) (z : ℤ) → (int_le (negsuc h) z && int_lt z (pos (suc h))) ≡ true → magnitude z < suc h
small_magnitude h z f = grind (arith, ints)

pub length-with_sign : (c : Octets) → length (with_sign c) ≤ length c + 1
length-with_sign c = go (nat_lt (get_or c 0 255) 128)
  where
    go : (b : Bool) → length (cond b c (0 ∷ c)) ≤ length c + 1
    go true = omega arith
    go false = omega arith

pub signed_few : (z : ℤ) → magnitude z < 2 ^ 63 → length (signed_octets z) ≤ 9
signed_few (pos n) h = let a : length (digits_of 256 n) ≤ 8 = few_digits n (omega arith) in omega (arith, length-with_sign (digits_of 256 n), a)
signed_few (negsuc n) h =
    let a : length (digits_of 256 n) ≤ 8 = few_digits n (omega arith) in
    omega (arith, length-complement (with_sign (digits_of 256 n)), length-with_sign (digits_of 256 n), a)

abbrev EnumWritten : ℤ → Octets → Type 0
EnumWritten z o = IsEnumerated OwnSized o z × AreOctets o

enum_form : (z : ℤ) → (int_le (negsuc (2 ^ 63 - 1)) z && int_lt z (pos (2 ^ 63))) ≡ true → IsEnumerated OwnSized (enum_octets z) z × AreOctets (enum_octets z)
enum_form z f = go z (cases_Bool (is_small z)) (signed_few z (small_magnitude (2 ^ 63 - 1) z f))
  where
    long : (z : ℤ) → is_small z ≡ false → length (signed_octets z) ≤ 9 → EnumWritten z (enum_octets z)
    long z e l =
        let r = signed_is z in
        subst (EnumWritten z) (sym (cond-false (is_small z) (fixed_octets 1 z) ((128 + length (signed_octets z)) ∷ signed_octets z) e))
        (inr (omega (arith, r.some), omega arith, omega arith, r.octets, r.value, (e, r.short)), (omega arith, r.octets))

    short : (n : ℕ) → n < 128 → EnumWritten (pos n) (enum_octets (pos n))
    short n h =
        subst (EnumWritten (pos n)) (sym (cond-true (nat_lt n 128) (fixed_octets 1 (pos n)) ((128 + length (signed_octets (pos n))) ∷ signed_octets (pos n)) (lt-ltb n 128 h)))
        (let e : n ≡ n % 256 = omega arith in (inl (omega arith, refl, ap pos e), (omega arith, tt)))

    go : (z : ℤ) → (is_small z ≡ true) ⊎ (is_small z ≡ false) → length (signed_octets z) ≤ 9 → EnumWritten z (enum_octets z)
    go (pos n) (inl e) l = short n (ltb-true n 128 e)
    go (negsuc n) (inl e) l = absurd (cc e)
    go z (inr e) l = long z e l

bits_form : (s : Option ℕ) (b : List Bool) → string_too_long s (octets_for (length b)) ≡ false → IsBitString OwnSized (bits_octets s b) s b × AreOctets (bits_octets s b)
bits_form (Some n) b l = let r = packed_is b in ((r.octets, r.unused, r.few, r.bits, r.zeros), r.octets)
bits_form None b l =
    let k : 1 + octets_for (length b) ≤ usize_max = room (octets_for (length b)) (ltb-false (usize_max / 8) (octets_for (length b)) l) in
    (inl (counted_bits_form b k), counted_bits_are_octets b k)
  where
    room : (n : ℕ) → n ≤ usize_max / 8 → 1 + n ≤ usize_max
    room n h = omega arith

text_form : (r : Rule) (s : Option ℕ) (c : Octets) → AreOctets c → string_too_long s (length c) ≡ false → IsText OwnSized (text_octets s (InOctets c)) s (InOctets c) × AreOctets (text_octets s (InOctets c))
text_form r (Some n) c f l = ((refl, f), f)
text_form r None c f l = let k : length c ≤ usize_max = room (length c) (ltb-false (usize_max / 8) (length c) l) in (behind_form c f k, behind_are_octets c f k)
  where
    room : (n : ℕ) → n ≤ usize_max / 8 → n ≤ usize_max
    room n h = omega arith

pub leaf_form : (l : Leaf) → IsLeaf l → ((k : Failure) → leaf_fails l k ≡ false) → IsLeafEncoding OwnSized (leaf_octets l) l × AreOctets (leaf_octets l)
leaf_form (Boolean true) i f = ((f, (255, refl, omega arith, refl, inr refl)), (omega arith, tt))
leaf_form (Boolean false) i f = ((f, (0, refl, omega arith, refl, inl refl)), (omega arith, tt))
leaf_form Null i f = ((f, refl), tt)
leaf_form (Enum n) i f = let r = enum_form n i in ((f, r.0), r.1)
leaf_form (Int r n) i f = let q = int_form (width_of r) n (holds_width r n (not-false (in_range r n) (f BadValue))) (f TooLong) in ((f, q.0), q.1)
leaf_form (Bits s b) i f = let q = bits_form (fixed_size s) b (f TooLong) in ((f, q.0), q.1)
leaf_form (Named s b) i f =
    let n = least_size s - length b in
    let q = bits_form (fixed_size s) (named_bits s b) (f TooLong) in
    ((f, (replicate n false, all_false n, f, q.0, refl)), q.1)
leaf_form (Text r s (InOctets c)) i f = let q = text_form r (fixed_size s) c i.0 (f TooLong) in ((f, q.0), q.1)
leaf_form (Text r s (Civil c)) i f = absurd (cc (f BadTime))
