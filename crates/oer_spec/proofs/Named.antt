-- Named bits, and the 0 bits after them.
use Rattle.std.proofs.Common.{◌≡◌, ℕ, zero, suc, ◌+◌, ◌-◌, ◌*◌, ◌/◌, ◌<◌, ◌≤◌, Bool, true, false, not, nat_le, List, [], ◌∷◌, ◌++◌, length, take, replicate, Option, Some, None, refl, sym, ap, ap₂, ◌∙◌, arith, length-append}
use Rattle.std.proofs.Math.Seq.{take-append_seam}
use Rattle.std.proofs.lemmas.Bool.{and_parts, and_from, not-false, leb-true, le-leb, ltb-false, le-ltb}
use Rattle.std.proofs.lemmas.List.{length-replicate}
use Rattle.asn1_core.specs.Bounds.{Size, fixed_size, size_fits}
use Rattle.asn1_core.specs.Octets.{AllFalse, octets_for, usize_max}
use Rattle.asn1_strings.specs.NamedBits.{significant, without_zeros, IsNamed}
use Rattle.asn1_strings.proofs.NamedLists.{significant_zeros}
use Rattle.oer_spec.specs.Leaves.{Failure, BadValue, BadSize, BadIdentifier, BadTime, TooManyEmpty, TooLong, bits_fail, string_too_long, least_size, named_bits}

pub all_false : (n : ℕ) → AllFalse (replicate n false)
all_false zero = tt
all_false (suc n) = (refl, all_false n)

same_zeros : (zeros : List Bool) → AllFalse zeros → zeros ≡ replicate (length zeros) false
same_zeros [] f = refl
same_zeros (x ∷ zeros) (f, fs) = ap₂ ◌∷◌ f (same_zeros zeros fs)

-- as many 0 bits as the least size wants
pub padded : (s : Size) (b zeros : List Bool) → AllFalse zeros → length zeros ≡ least_size s - length b → b ++ zeros ≡ named_bits s b
padded s b zeros f e = ap (λ z. b ++ z) (same_zeros zeros f ∙ ap (λ n. replicate n false) e)

pub length_named_bits : (s : Size) (b : List Bool) → length (named_bits s b) ≡ length b + (least_size s - length b)
length_named_bits s b = length-append b (replicate (least_size s - length b) false) ∙ ap (λ n. length b + n) (length-replicate (least_size s - length b) false)

-- without the 0 bits after them they are the bits
pub named_again : (b zeros : List Bool) → IsNamed b → AllFalse zeros → without_zeros (b ++ zeros) ≡ b
named_again b zeros i f = ap (λ n. take n (b ++ zeros)) (significant_zeros b zeros f ∙ i) ∙ take-append_seam b zeros

pub named_unique : (b c zeros others : List Bool) → IsNamed b → IsNamed c → AllFalse zeros → AllFalse others → b ++ zeros ≡ c ++ others → b ≡ c
named_unique b c zeros others i j f g e = sym (named_again b zeros i f) ∙ ap without_zeros e ∙ named_again c others j g

-- ---- sizes
pub least_le : (s : Size) (n : ℕ) → size_fits s n ≡ true → least_size s ≤ n
least_le None n f = omega arith
least_le (Some (low, high)) n f = leb-true low n (and_parts (nat_le low n) (nat_le n high) f).0

size_between : (s : Size) (n k : ℕ) → n ≤ k → least_size s ≤ n → size_fits s k ≡ true → size_fits s n ≡ true
size_between None n k le least f = refl
size_between (Some (low, high)) n k le least f =
    let p = and_parts (nat_le low k) (nat_le k high) f in
    and_from (nat_le low n) (nat_le n high) (le-leb low n least) (le-leb n high (omega (arith, le, leb-true k high p.1)))

long_between : (f : Option ℕ) (n k : ℕ) → n ≤ k → string_too_long f (octets_for k) ≡ false → string_too_long f (octets_for n) ≡ false
long_between (Some m) n k le e = refl
long_between None n k le e = le-ltb (usize_max / 8) (octets_for n) (omega (arith, le, ltb-false (usize_max / 8) (octets_for k) e))

module _ (s : Size) (b zeros : List Bool) (fine : (k : Failure) → bits_fail s (b ++ zeros) k ≡ false) where
  pub whole_size : size_fits s (length (b ++ zeros)) ≡ true
  whole_size = not-false (size_fits s (length (b ++ zeros))) (fine BadSize)

  pub least_size_le : least_size s ≤ length b + length zeros
  least_size_le = omega (arith, least_le s (length (b ++ zeros)) whole_size, length-append b zeros)

  shorter : length (named_bits s b) ≤ length (b ++ zeros)
  shorter = omega (arith, length_named_bits s b, length-append b zeros, least_size_le)

  -- what is written of the bits is no longer than a form of them
  pub least_fine : (k : Failure) → bits_fail s (named_bits s b) k ≡ false
  least_fine BadValue = refl
  least_fine BadSize = ap not (size_between s (length (named_bits s b)) (length (b ++ zeros)) shorter (omega (arith, length_named_bits s b)) whole_size)
  least_fine BadIdentifier = refl
  least_fine BadTime = refl
  least_fine TooManyEmpty = refl
  least_fine TooLong = long_between (fixed_size s) (length (named_bits s b)) (length (b ++ zeros)) shorter (fine TooLong)
