-- Bits and their octets; tags in groups.
use Rattle.std.proofs.Common.{◌≡◌, ◌≢◌, ℕ, zero, suc, ◌+◌, ◌-◌, ◌*◌, ◌/◌, ◌%◌, ◌<◌, ◌≤◌, Bool, true, false, cond, List, [], ◌∷◌, ◌++◌, map, length, drop, get_or, refl, sym, ap, ap₂, ◌∙◌, arith, append_assoc, append-nil, length-append}
use Rattle.std.specs.List.{AllByRecursion}
use Rattle.std.specs.Int.Digits.{number_from_digits_after, digits_of}
use Rattle.std.proofs.lemmas.Int.Digits.{digits_of_step}
use Rattle.std.proofs.lemmas.Nat.{div-mul-add, mod-mul-add}
use Rattle.std.proofs.lemmas.Bool.{eqb-true, eqb-false}
use Rattle.asn1_core.specs.Octets.{Octets, AreOctets, is_odd, bits8, bits_of, octet_of, pack_into, octets_for, pack, AllFalse}
use Rattle.asn1_strings.proofs.ZeroBits.{pack_false}
use Rattle.oer_spec.specs.Lengths.{AreGroups, groups_number, with_top_bits}
use Rattle.oer_spec.proofs.Unique.{length-bits_of}

odd_is : (n : ℕ) → cond (is_odd n) 1 0 ≡ n % 2
odd_is n = go (is_odd n) refl
  where
    go : (b : Bool) → is_odd n ≡ b → cond b 1 0 ≡ n % 2
    go true e = sym (eqb-true (n % 2) 1 e)
    go false e = let h : n % 2 ≡ 1 → ⊥ = eqb-false (n % 2) 1 e in omega (arith, h)

octet_bits : (x : ℕ) (b : List Bool) → x < 256 → octet_of (bits8 x ++ b) ≡ x
octet_bits x b f =
    sum (cond (is_odd (x / 128)) 1 0) (cond (is_odd (x / 64)) 1 0) (cond (is_odd (x / 32)) 1 0) (cond (is_odd (x / 16)) 1 0) (cond (is_odd (x / 8)) 1 0) (cond (is_odd (x / 4)) 1 0) (cond (is_odd (x / 2)) 1 0) (cond (is_odd x) 1 0)
    (odd_is (x / 128)) (odd_is (x / 64)) (odd_is (x / 32)) (odd_is (x / 16)) (odd_is (x / 8)) (odd_is (x / 4)) (odd_is (x / 2)) (odd_is x)
  where
    sum : (a b c d e g h i : ℕ) → a ≡ x / 128 % 2 → b ≡ x / 64 % 2 → c ≡ x / 32 % 2 → d ≡ x / 16 % 2 → e ≡ x / 8 % 2 → g ≡ x / 4 % 2 → h ≡ x / 2 % 2 → i ≡ x % 2
        → a * 128 + b * 64 + c * 32 + d * 16 + e * 8 + g * 4 + h * 2 + i ≡ x
    sum a b c d e g h i p q r s t u v w = omega arith

pack_bits : (c : Octets) → AreOctets c → pack_into (length c) (bits_of c) ≡ c
pack_bits [] f = refl
pack_bits (x ∷ c) (f, fs) = ap₂ ◌∷◌ (octet_bits x (bits_of c) f) (pack_bits c fs)

octets_count : (c n u : ℕ) → 8 * c ≡ n + u → u < 8 → octets_for n ≡ c
octets_count c n u e f = omega arith

-- octets whose unused bits are zero are their bits, packed
pub packed : (c : Octets) (b u : List Bool) → AreOctets c → AllFalse u → length u < 8 → bits_of c ≡ b ++ u → c ≡ pack b
packed c b u f g l e =
    let n : 8 * length c ≡ length b + length u = sym (length-bits_of c) ∙ ap length e ∙ length-append b u in
    sym (pack_bits c f) ∙ ap (pack_into (length c)) e ∙ pack_false (length c) b u g ∙ ap (λ z. pack_into z b) (sym (octets_count (length c) (length b) (length u) n l))

-- their count of unused bits
pub unused_count : (c : Octets) (b u : List Bool) → length u < 8 → bits_of c ≡ b ++ u → 8 * octets_for (length b) - length b ≡ length u
unused_count c b u l e =
    let n : 8 * length c ≡ length b + length u = sym (length-bits_of c) ∙ ap length e ∙ length-append b u in
    count (length c) (length b) (length u) n l
  where
    count : (c n u : ℕ) → 8 * c ≡ n + u → u < 8 → 8 * octets_for n - n ≡ u
    count c n u e f = omega arith

-- ---- seven-bit groups
digits_after : (b n : ℕ) (ds : Octets) → 2 ≤ b → 0 < n → AllByRecursion (λ d. d < b) ds → digits_of b (number_from_digits_after b n ds) ≡ digits_of b n ++ ds
digits_after b n [] t p f = sym (append-nil (digits_of b n))
digits_after b n (d ∷ ds) t p (f, fs) =
    let h : 0 < n * b + d = positive n b d t p in
    digits_after b (n * b + d) ds t h fs
    ∙ ap (λ z. z ++ ds) (digits_of_step b (n * b + d) t h ∙ ap₂ (λ x y. digits_of b x ++ y ∷ []) (div-mul-add n b d f) (mod-mul-add n b d f))
    ∙ append_assoc (digits_of b n) (d ∷ []) ds
  where
    positive : (n b d : ℕ) → 2 ≤ b → 0 < n → 0 < n * b + d
    positive n b d t p = grind arith

pub groups_is : (n : ℕ) (xs : Octets) → groups_number n xs ≡ number_from_digits_after 128 n (map (λ x. x % 128) xs)
groups_is n [] = refl
groups_is n (x ∷ xs) = groups_is (n * 128 + x % 128) xs

low_below : (xs : Octets) → AllByRecursion (λ d. d < 128) (map (λ x. x % 128) xs)
low_below [] = tt
low_below (x ∷ xs) = (omega arith, low_below xs)

top_bits_back : (xs : Octets) → AreGroups xs → with_top_bits (map (λ x. x % 128) xs) ≡ xs
top_bits_back [] f = absurd f
top_bits_back (x ∷ []) f = let e : x % 128 ≡ x = omega arith in ap (λ z. z ∷ []) e
top_bits_back (x ∷ y ∷ ys) (a, b, c) = let e : x % 128 + 128 ≡ x = omega arith in ap₂ ◌∷◌ e (top_bits_back (y ∷ ys) c)

pub groups_canonical : (xs : Octets) (n : ℕ) → AreGroups xs → get_or xs 0 0 % 128 ≢ 0 → n ≡ groups_number 0 xs → with_top_bits (digits_of 128 n) ≡ xs
groups_canonical [] n f p e = absurd f
groups_canonical (x ∷ xs) n f p e =
    ap (λ z. with_top_bits (digits_of 128 z)) (e ∙ groups_is (0 * 128 + x % 128) xs)
    ∙ ap with_top_bits (digits_after 128 (0 * 128 + x % 128) (map (λ z. z % 128) xs) (omega arith) (omega (arith, p)) (low_below xs) ∙ ap (λ z. z ++ map (λ z. z % 128) xs) (one (x % 128) p (omega arith)))
    ∙ top_bits_back (x ∷ xs) f
  where
    one : (d : ℕ) → d ≢ 0 → d < 128 → digits_of 128 (0 * 128 + d) ≡ d ∷ []
    one d p l =
        let h : 0 < 0 * 128 + d = omega (arith, p) in
        digits_of_step 128 (0 * 128 + d) (omega arith) h ∙ ap₂ (λ x y. digits_of 128 x ++ y ∷ []) (div-mul-add 0 128 d l) (mod-mul-add 0 128 d l)
