-- The unused bits at the end of octets.
use Rattle.std.proofs.Common.{◌≡◌, ℕ, zero, suc, ◌+◌, ◌-◌, ◌*◌, ◌%◌, ◌^◌, ◌<◌, ◌≤◌, Bool, true, false, ltb, List, [], ◌∷◌, ◌++◌, length, get_or, take, drop, refl, sym, ap, ◌∙◌, subst, arith, length-append, length-drop}
use Rattle.std.specs.Prelude.{◌&&◌, not}
use Rattle.std.proofs.lemmas.Bool.{agree_below_at}
use Rattle.std.proofs.lemmas.List.{take-append-drop, length-take-le, drop-drop, take_at, drop_at}
use Rattle.asn1_core.specs.Octets.{Octets, AreOctets, bits8, bits_of, AllFalse}
use Rattle.oer_spec.specs.Bits.{front_bits, has_set_fill}
use Rattle.oer_spec.proofs.Unique.{length-bits_of}

-- ---- the low bits of one octet

abbrev all_false : List Bool → Bool
all_false [] = true
all_false (b ∷ bs) = not b && all_false bs

all_false-true : (bs : List Bool) → all_false bs ≡ true → AllFalse bs
all_false-true [] h = tt
all_false-true (true ∷ bs) h = absurd cc
all_false-true (false ∷ bs) h = (refl, all_false-true bs h)

true-all_false : (bs : List Bool) → AllFalse bs → all_false bs ≡ true
true-all_false [] h = refl
true-all_false (true ∷ bs) (f, fs) = absurd cc
true-all_false (false ∷ bs) (f, fs) = true-all_false bs fs

-- the low bits of an octet are all 0 where it leaves no remainder
abbrev low_are_zero : ℕ → ℕ → Bool
low_are_zero u b = all_false (drop (8 - u) (bits8 b))

abbrev no_remainder : ℕ → ℕ → Bool
no_remainder u b = not (ltb 0 (b % 2 ^ u))

low_bits : (u b : ℕ) → u < 8 → b < 256 → low_are_zero u b ≡ no_remainder u b
low_bits zero b h fits = agree_below_at (low_are_zero 0) (no_remainder 0) 256 b refl fits
low_bits (suc zero) b h fits = agree_below_at (low_are_zero 1) (no_remainder 1) 256 b refl fits
low_bits (suc (suc zero)) b h fits = agree_below_at (low_are_zero 2) (no_remainder 2) 256 b refl fits
low_bits (suc (suc (suc zero))) b h fits = agree_below_at (low_are_zero 3) (no_remainder 3) 256 b refl fits
low_bits (suc (suc (suc (suc zero)))) b h fits = agree_below_at (low_are_zero 4) (no_remainder 4) 256 b refl fits
low_bits (suc (suc (suc (suc (suc zero))))) b h fits = agree_below_at (low_are_zero 5) (no_remainder 5) 256 b refl fits
low_bits (suc (suc (suc (suc (suc (suc zero)))))) b h fits = agree_below_at (low_are_zero 6) (no_remainder 6) 256 b refl fits
low_bits (suc (suc (suc (suc (suc (suc (suc zero))))))) b h fits = agree_below_at (low_are_zero 7) (no_remainder 7) 256 b refl fits
low_bits (suc (suc (suc (suc (suc (suc (suc (suc u)))))))) b h fits = absurd (omega arith)

-- ---- the unused bits of octets

-- the bits behind the front ones
abbrev pub unused_bits : ℕ → Octets → List Bool
unused_bits u o = drop (8 * length o - u) (bits_of o)

fill_is_last : (u : ℕ) (o : Octets) → u < 8 → u ≤ 8 * length o → AreOctets o → all_false (unused_bits u o) ≡ not (has_set_fill u o)
unfolding has_set_fill
fill_is_last zero [] h le fits = refl
fill_is_last (suc u) [] h le fits = absurd (omega arith)
fill_is_last u (x ∷ []) h le (f, fs) = low_bits u x h f
fill_is_last u (x ∷ y ∷ o) h le (f, fs) =
    let k = 8 * length (y ∷ o) - u in
    let n : 8 * length (x ∷ y ∷ o) - u ≡ 8 + (8 * length (y ∷ o) - u) = omega arith in
    let last : length (x ∷ y ∷ o) - 1 ≡ suc (length (y ∷ o) - 1) = omega arith in
    ap (λ i. all_false (drop i (bits_of (x ∷ y ∷ o)))) n ∙ ap all_false (sym (drop-drop k 8 (bits_of (x ∷ y ∷ o)))) ∙ fill_is_last u (y ∷ o) h (omega arith) fs ∙ ap (λ i. not (ltb 0 (get_or (x ∷ y ∷ o) i 0 % 2 ^ u))) (sym last)

not-back : (x y : Bool) → x ≡ not y → y ≡ false → x ≡ true
not-back x y e h = rw h at e

not-fill : (x y : Bool) → x ≡ not y → x ≡ true → y ≡ false
not-fill x true e h = absurd cc
not-fill x false e h = refl

pub all_unset : (u : ℕ) (o : Octets) → u < 8 → u ≤ 8 * length o → AreOctets o → has_set_fill u o ≡ false → AllFalse (unused_bits u o)
all_unset u o few enough f e = all_false-true (unused_bits u o) (not-back (all_false (unused_bits u o)) (has_set_fill u o) (fill_is_last u o few enough f) e)

pub none_set : (u : ℕ) (o : Octets) → u < 8 → u ≤ 8 * length o → AreOctets o → AllFalse (unused_bits u o) → has_set_fill u o ≡ false
none_set u o few enough f e = not-fill (all_false (unused_bits u o)) (has_set_fill u o) (fill_is_last u o few enough f) (true-all_false (unused_bits u o) e)

-- ---- octets are their front bits and the unused ones

pub parts_of_bits : (u : ℕ) (o : Octets) → bits_of o ≡ front_bits u o ++ unused_bits u o
parts_of_bits u o = sym (take-append-drop (8 * length o - u) (bits_of o))

pub length-unused : (u : ℕ) (o : Octets) → u ≤ 8 * length o → length (unused_bits u o) ≡ u
length-unused u o h = omega (arith, length-drop (8 * length o - u) (bits_of o), length-bits_of o)

pub length-front : (u : ℕ) (o : Octets) → length (front_bits u o) ≡ 8 * length o - u
length-front u o = let n : length (bits_of o) ≡ 8 * length o = length-bits_of o in length-take-le (8 * length o - u) (bits_of o) (omega arith)

-- what the bits of octets are is known from the count of unused ones
count_of_front : (o : Octets) (b v : List Bool) → bits_of o ≡ b ++ v → length b ≡ 8 * length o - length v
count_of_front o b v e =
    let n : 8 * length o ≡ length b + length v = sym (length-bits_of o) ∙ ap length e ∙ length-append b v in
    omega arith

pub unused_enough : (o : Octets) (b v : List Bool) → bits_of o ≡ b ++ v → length v ≤ 8 * length o
unused_enough o b v e =
    let n : 8 * length o ≡ length b + length v = sym (length-bits_of o) ∙ ap length e ∙ length-append b v in
    omega arith

pub front_is : (o : Octets) (b v : List Bool) → bits_of o ≡ b ++ v → front_bits (length v) o ≡ b
front_is o b v e = ap (take (8 * length o - length v)) e ∙ take_at b v (8 * length o - length v) (count_of_front o b v e)

pub unused_is : (o : Octets) (b v : List Bool) → bits_of o ≡ b ++ v → unused_bits (length v) o ≡ v
unused_is o b v e = ap (drop (8 * length o - length v)) e ∙ drop_at b v (8 * length o - length v) (count_of_front o b v e)

pub unset_again : (o : Octets) (b v : List Bool) → AreOctets o → length v < 8 → bits_of o ≡ b ++ v → AllFalse v → has_set_fill (length v) o ≡ false
unset_again o b v f few e g = none_set (length v) o few (unused_enough o b v e) f (subst AllFalse (sym (unused_is o b v e)) g)
