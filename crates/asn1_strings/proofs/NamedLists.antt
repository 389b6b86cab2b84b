-- Bits up to the last that is set, and the 0 bits after it.
use Rattle.std.proofs.Common.{◌≡◌, ℕ, zero, suc, ◌-◌, ◌*◌, ◌/◌, ◌%◌, ◌^◌, ◌<◌, ◌≤◌, Bool, true, false, List, [], ◌∷◌, ◌++◌, length, take, drop, get_or, Some, refl, sym, ap, ap₂, ◌∙◌, arith}
use Rattle.std.specs.Prelude.{slice_get}
use Rattle.std.proofs.lemmas.Bool.{eq-eqb, ne_eqb}
use Rattle.std.proofs.lemmas.List.{length-take-le, take-append-drop}
use Rattle.asn1_core.specs.Octets.{Octets, AllFalse, is_odd, bits_of, octets_for, pack, pack_into}
use Rattle.asn1_strings.specs.NamedBits.{with_bit, significant, without_zeros, IsNamed}
use Rattle.asn1_strings.proofs.BitLists.{length-pack_into, bits_of-pack, get_in_bits}
use Rattle.asn1_strings.proofs.ZeroBits.{pack_false}

with_bit_le : (x : Bool) (n : ℕ) → with_bit x n ≤ suc n
with_bit_le true n = omega arith
with_bit_le false zero = omega arith
with_bit_le false (suc n) = omega arith

pub significant_le : (b : List Bool) → significant b ≤ length b
significant_le [] = omega arith
significant_le (x ∷ b) = omega (arith, with_bit_le x (significant b), significant_le b)

-- 0 bits at the end count for nothing
pub significant_zeros : (b zeros : List Bool) → AllFalse zeros → significant (b ++ zeros) ≡ significant b
significant_zeros [] [] f = refl
significant_zeros [] (x ∷ zeros) (f, fs) = ap₂ with_bit f (significant_zeros [] zeros fs)
significant_zeros (x ∷ b) zeros f = ap (with_bit x) (significant_zeros b zeros f)

rest_after : (x : Bool) (n : ℕ) (b : List Bool) → AllFalse (drop n b) → AllFalse (drop (with_bit x n) (x ∷ b))
rest_after true n b f = f
rest_after false zero b f = (refl, f)
rest_after false (suc n) b f = f

-- what is left out is 0 bits
pub rest_is_zeros : (b : List Bool) → AllFalse (drop (significant b) b)
rest_is_zeros [] = tt
rest_is_zeros (x ∷ b) = rest_after x (significant b) b (rest_is_zeros b)

pub parts_of_named : (b : List Bool) → b ≡ without_zeros b ++ drop (significant b) b
parts_of_named b = sym (take-append-drop (significant b) b)

pub length_named : (b : List Bool) → length (without_zeros b) ≡ significant b
length_named b = length-take-le (significant b) b (significant_le b)

pub without_zeros_is_named : (b : List Bool) → IsNamed (without_zeros b)
without_zeros_is_named b =
    sym (significant_zeros (without_zeros b) (drop (significant b) b) (rest_is_zeros b)) ∙ ap significant (sym (parts_of_named b)) ∙ sym (length_named b)

-- ---- from the last bit to the first
with_bit_some : (x : Bool) (k : ℕ) → with_bit x (suc k) ≡ suc (suc k)
with_bit_some true k = refl
with_bit_some false k = refl

significant_set : (b : List Bool) (k : ℕ) → slice_get b k ≡ Some true → significant (take (suc k) b) ≡ suc k
significant_set [] k e = absurd cc
significant_set (true ∷ b) zero e = refl
significant_set (false ∷ b) zero e = absurd cc
significant_set (x ∷ b) (suc k) e = ap (with_bit x) (significant_set b k e) ∙ with_bit_some x k

significant_unset : (b : List Bool) (k : ℕ) → slice_get b k ≡ Some false → significant (take (suc k) b) ≡ significant (take k b)
significant_unset [] k e = absurd cc
significant_unset (true ∷ b) zero e = absurd cc
significant_unset (false ∷ b) zero e = refl
significant_unset (x ∷ b) (suc k) e = ap (with_bit x) (significant_unset b k e)

-- the bit before place n, in octets
abbrev bit_before : Octets → ℕ → ℕ
bit_before o n = get_or o ((n - 1) / 8) 0 / 2 ^ (7 - (n - 1) % 8)

bit_before_is : (o : Octets) (n : ℕ) → 0 < n → n ≤ 8 * length o → slice_get (bits_of o) (n - 1) ≡ Some (is_odd (bit_before o n))
bit_before_is o n some enough = get_in_bits o (n - 1) (omega arith)

pub last_set : (o : Octets) (n : ℕ) → 0 < n → n ≤ 8 * length o → bit_before o n % 2 ≡ 1 → n ≡ significant (take n (bits_of o))
last_set o n some enough e =
    let next : suc (n - 1) ≡ n = omega arith in
    sym next ∙ sym (significant_set (bits_of o) (n - 1) (bit_before_is o n some enough ∙ ap Some (eq-eqb (bit_before o n % 2) 1 e))) ∙ ap (λ k. significant (take k (bits_of o))) next

pub last_unset : (o : Octets) (n : ℕ) → 0 < n → n ≤ 8 * length o → (bit_before o n % 2 ≡ 1 → ⊥) → significant (take (n - 1) (bits_of o)) ≡ significant (take n (bits_of o))
last_unset o n some enough e =
    let next : suc (n - 1) ≡ n = omega arith in
    sym (significant_unset (bits_of o) (n - 1) (bit_before_is o n some enough ∙ ap Some (ne_eqb (bit_before o n % 2) 1 e))) ∙ ap (λ k. significant (take k (bits_of o))) next

-- ---- cut to the last bit that is set
take_packed : (j k : ℕ) (b : List Bool) → j ≤ k → take j (pack_into k b) ≡ pack_into j b
take_packed zero zero b le = refl
take_packed zero (suc k) b le = refl
take_packed (suc j) zero b le = absurd (omega arith)
take_packed (suc j) (suc k) b le = ap₂ ◌∷◌ refl (take_packed j k (drop 8 b) (omega arith))

module _ (o : Octets) (b : List Bool) (packed : o ≡ pack b) where
  abbrev pub cut : Octets
  cut = take (octets_for (significant b)) o

  pub cut_is : cut ≡ pack (without_zeros b)
  cut_is =
      let few : octets_for (significant b) ≤ octets_for (length b) = omega (arith, significant_le b) in
      ap (take (octets_for (significant b))) packed
      ∙ take_packed (octets_for (significant b)) (octets_for (length b)) b few
      ∙ ap (pack_into (octets_for (significant b))) (parts_of_named b)
      ∙ pack_false (octets_for (significant b)) (without_zeros b) (drop (significant b) b) (rest_is_zeros b)
      ∙ ap (λ n. pack_into (octets_for n) (without_zeros b)) (sym (length_named b))

  pub cut_bits : take (significant b) (bits_of cut) ≡ without_zeros b
  cut_bits = ap₂ (λ n p. take n (bits_of p)) (sym (length_named b)) cut_is ∙ bits_of-pack (without_zeros b)

  pub cut_enough : significant b ≤ 8 * length cut
  cut_enough = omega (arith, ap length cut_is, length-pack_into (octets_for (length (without_zeros b))) (without_zeros b), length_named b)
