-- Numbers and their decimal digits.
use Rattle.std.proofs.Common.{◌≡◌, ℕ, zero, suc, ◌+◌, ◌-◌, ◌*◌, ◌/◌, ◌%◌, ◌^◌, ◌<◌, ◌≤◌, true, leb, [], ◌∷◌, length, map, take, get_or, refl, sym, ap, ap₂, ◌∙◌, arith, add-one, length-append}
use Rattle.std.specs.List.{list_all}
use Rattle.std.specs.Int.Digits.{number_from_digits}
use Rattle.std.proofs.Math.Nat.{pow-succ', pow-le-pow_right}
use Rattle.std.proofs.lemmas.Bool.{and_parts, leb-true}
use Rattle.std.proofs.lemmas.Int.Digits.{number_more}
use Rattle.asn1_core.specs.Octets.{Octets}
use Rattle.asn1_core.specs.Texts.{is_digit}
use Rattle.asn1_times.specs.Times.{decimal}

pub length-decimal : (k n : ℕ) → length (decimal k n) ≡ k
length-decimal zero n = refl
length-decimal (suc k) n = omega (arith, length-append (decimal k (n / 10)) ((0x30 + n % 10) ∷ []), length-decimal k (n / 10))

-- the number that digits write
abbrev pub value : Octets → ℕ
value c = number_from_digits 10 (map (λ x. x - 0x30) c)

map-take : (i : ℕ) (c : Octets) → map (λ x. x - 0x30) (take i c) ≡ take i (map (λ x. x - 0x30) c)
map-take zero c = refl
map-take (suc i) [] = refl
map-take (suc i) (x ∷ c) = ap (λ z. (x - 0x30) ∷ z) (map-take i c)

map-at : (i : ℕ) (c : Octets) → get_or (map (λ x. x - 0x30) c) i 0 ≡ get_or c i 0 - 0x30
map-at i [] = refl
map-at zero (x ∷ c) = refl
map-at (suc i) (x ∷ c) = map-at i c

length-map : (c : Octets) → length (map (λ x. x - 0x30) c) ≡ length c
length-map [] = refl
length-map (x ∷ c) = ap suc (length-map c)

pub value_more : (c : Octets) (i : ℕ) → i < length c → value (take (i + 1) c) ≡ value (take i c) * 10 + (get_or c i 0 - 0x30)
value_more c i lt =
    ap (number_from_digits 10) (map-take (i + 1) c) ∙ number_more 10 (map (λ x. x - 0x30) c) i (omega (arith, length-map c))
    ∙ ap₂ (λ n d. n * 10 + d) (ap (number_from_digits 10) (sym (map-take i c))) (map-at i c)

pub digit_parts : (x : ℕ) → is_digit x ≡ true → (0x30 ≤ x) × (x ≤ 0x39)
digit_parts x h = let both = and_parts (leb 0x30 x) (leb x 0x39) h in (leb-true 0x30 x both.0, leb-true x 0x39 both.1)

pub digit_at : (c : Octets) (i : ℕ) → list_all is_digit c ≡ true → i < length c → is_digit (get_or c i 0) ≡ true
digit_at [] i h lt = absurd (omega arith)
digit_at (x ∷ c) zero h lt = (and_parts (is_digit x) (list_all is_digit c) h).0
digit_at (x ∷ c) (suc i) h lt = digit_at c i (and_parts (is_digit x) (list_all is_digit c) h).1 (omega arith)

pub power_more : (n d i : ℕ) → n < 10 ^ i → d ≤ 9 → n * 10 + d < 10 ^ (i + 1)
power_more n d i lt le = let e : 10 ^ (i + 1) ≡ 10 * 10 ^ i = ap (λ k. 10 ^ k) (add-one i) ∙ pow-succ' 10 i in omega (arith, e)

pub power_small : (n i : ℕ) → n < 10 ^ i → i ≤ 8 → n < 10 ^ 8
power_small n i lt le = let e : 10 ^ i ≤ 10 ^ 8 = pow-le-pow_right (omega arith) le in omega (arith, e)

pub digit_below : (c : Octets) (i : ℕ) → list_all is_digit c ≡ true → i < length c → get_or c i 0 - 0x30 ≤ 9
digit_below c i h lt = let parts = digit_parts (get_or c i 0) (digit_at c i h lt) in omega arith
