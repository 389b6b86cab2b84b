-- Numbers of at most eight octets.
use Rattle.std.proofs.Common.{◌≡◌, ℕ, zero, suc, ◌+◌, ◌*◌, ◌%◌, ◌^◌, ◌<◌, ◌≤◌, Bool, true, false, leb, length, get_or, take, refl, ap, ◌∙◌, arith}
use Rattle.std.specs.Prelude.{pos, ◌-ℤ◌}
use Rattle.std.proofs.Math.Nat.{pow-suc, pow-le-pow_right}
use Rattle.std.proofs.lemmas.Nat.{one_shl, pow-add}
use Rattle.std.proofs.lemmas.Int.Digits.{number_more}
use Rattle.asn1_core.specs.Octets.{Octets, unsigned, signed}
use Rattle.asn1_core.proofs.Digits.{octets_from_each}
use Rattle.asn1_ints.proofs.Limits.{signed_is}
use Rattle.asn1_ints.specs.Octets.{in_complement}

-- one octet more, in less than nine
pub short_next : (xs : Octets) (i n : ℕ) → i < length xs → n ≡ unsigned (take i xs) → n * 256 + get_or xs i 0 ≡ unsigned (take (i + 1) xs)
short_next xs i n lt e = omega (arith, e, number_more 256 xs i lt)

pub short_below : (i n x : ℕ) → x < 256 → n < 256 ^ i → n * 256 + x < 256 ^ (i + 1)
short_below i n x octet small =
    let one : i + 1 ≡ suc i = omega arith in
    let p : 256 ^ (i + 1) ≡ 256 ^ i * 256 = ap (λ (k : ℕ). 256 ^ k) one ∙ pow-suc 256 i in
    omega (arith, p, small, octet)

pub short_fits : (i n x : ℕ) → i < 8 → x < 256 → n < 256 ^ i → n * 256 + x < 2 ^ 64
short_fits i n x lt octet small =
    let below = short_below i n x octet small in
    let le : i + 1 ≤ 8 = omega arith in
    let most : 256 ^ (i + 1) ≤ 256 ^ 8 = pow-le-pow_right (omega arith) le in
    omega (arith, below, most)

-- a bit behind so many octets
pub short_shift : (k : ℕ) → k ≤ 8 → (1 * 2 ^ (8 * k)) % 2 ^ 128 ≡ 2 ^ (8 * k)
short_shift k le = one_shl (8 * k) 128 (omega arith)

pub short_most : (k : ℕ) → k ≤ 8 → 2 ^ (8 * k) ≤ 2 ^ 64
short_most k le =
    let most : 8 * k ≤ 64 = omega arith in
    pow-le-pow_right (omega arith) most

-- two to the power of eight times a count of octets
pub octet_powers : (k : ℕ) → 256 ^ k ≡ 2 ^ (8 * k)
octet_powers zero = refl
octet_powers (suc k) =
    let e : 8 * suc k ≡ 8 * k + 8 = omega arith in
    let q : 2 ^ (8 * k + 8) ≡ 2 ^ (8 * k) * 2 ^ 8 = pow-add 2 (8 * k) 8 in
    omega (arith, pow-suc 256 k, octet_powers k, ap (λ (n : ℕ). 2 ^ n) e, q)

-- the number in two's complement by the unsigned one
pub short_negative : (xs : Octets) → ((k : ℕ) → get_or xs k 0 < 256) → leb 128 (get_or xs 0 0) ≡ true → signed xs ≡ pos (unsigned xs) -ℤ pos (2 ^ (8 * length xs))
short_negative xs octets sign =
    signed_is xs (octets_from_each xs octets) ∙ ap (λ (b : Bool). in_complement b xs) sign ∙ ap (λ (p : ℕ). pos (unsigned xs) -ℤ pos p) (octet_powers (length xs))

pub short_positive : (xs : Octets) → ((k : ℕ) → get_or xs k 0 < 256) → leb 128 (get_or xs 0 0) ≡ false → signed xs ≡ pos (unsigned xs)
short_positive xs octets sign = signed_is xs (octets_from_each xs octets) ∙ ap (λ (b : Bool). in_complement b xs) sign
