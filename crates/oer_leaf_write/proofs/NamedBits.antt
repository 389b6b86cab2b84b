-- Named bits in octets, filled up with zeros.
use Rattle.std.proofs.Common.{◌≡◌, ℕ, zero, suc, ◌+◌, ◌-◌, ◌*◌, ◌≤◌, Bool, true, false, cond, List, [], ◌∷◌, ◌++◌, length, drop, replicate, Option, Some, None, Result, Ok, Err, inl, refl, sym, ap, ap₂, ◌∙◌, arith, length-drop}
use Rattle.std.specs.Option.{is_some}
use Rattle.std.proofs.lemmas.List.{append-nil}
use Rattle.asn1_core.specs.Bounds.{Size, fixed_size}
use Rattle.asn1_core.specs.Octets.{Octets, octet_of, pack_into, octets_for, pack}
use Rattle.asn1_strings.proofs.ZeroBits.{pack_false}
use Rattle.asn1_core.specs.declared.error.EncodeErrorKind.{EncodeErrorKind}
use Rattle.oer_spec.specs.Failures.{first_bits_failure, first_failure}
use Rattle.oer_spec.specs.Leaves.{Failure, BadValue, BadSize, BadIdentifier, BadTime, TooManyEmpty, TooLong, bits_fail, bits_octets, least_size, named_bits}
use Rattle.oer_spec.specs.Lengths.{length_octets, counted_bits}
use Rattle.oer_spec.specs.ReadingBits.{unused_for}
use Rattle.oer_spec.specs.Tree.{Named}
use Rattle.oer_spec.specs.Writing.{AppendsOrMemory, AppendsLeaf}
use Rattle.oer_spec.proofs.Named.{all_false, length_named_bits}
use Rattle.oer_leaf_write.proofs.Packing.{length_pack, appends_after, counted_parts}

-- no bits are zeros alone
none_into : (k : ℕ) (b : List Bool) → length b ≤ 0 → pack_into k b ≡ replicate k 0
none_into zero b none = refl
none_into (suc k) [] none = ap (λ z. 0 ∷ z) (none_into k [] none)
none_into (suc k) (x ∷ b) none = absurd (omega arith)

-- further octets than the bits need are zeros
more_into : (j k : ℕ) (b : List Bool) → length b ≤ 8 * j → j ≤ k → pack_into k b ≡ pack_into j b ++ replicate (k - j) 0
more_into zero k b few le = let all : k ≡ k - 0 = omega arith in none_into k b (omega (arith, few)) ∙ ap (λ n. replicate n 0) all
more_into (suc j) zero b few le = absurd (omega arith)
more_into (suc j) (suc k) b few le =
    let rest : k - j ≡ suc k - suc j = omega arith in
    let ih = more_into j k (drop 8 b) (omega (arith, few, length-drop 8 b)) (omega arith) in
    ap (λ z. octet_of b ∷ z) ih ∙ ap (λ n. octet_of b ∷ (pack_into j (drop 8 b) ++ replicate n 0)) rest

filled_up : (s : Size) (b : List Bool) (o : Octets) (size : ℕ) → o ≡ pack b → size ≡ length (named_bits s b) → o ++ replicate (octets_for size - length o) 0 ≡ pack (named_bits s b)
filled_up s b o size e f =
    let zeros = replicate (least_size s - length b) false in
    let count : octets_for size - length o ≡ octets_for (length (named_bits s b)) - octets_for (length b) = ap₂ (λ x y. octets_for x - y) f (length_pack b o e) in
    let le : octets_for (length b) ≤ octets_for (length (named_bits s b)) = omega (arith, length_named_bits s b) in
    ap₂ (λ p n. p ++ replicate n 0) e count
    ∙ sym (more_into (octets_for (length b)) (octets_for (length (named_bits s b))) b (omega arith) le)
    ∙ sym (pack_false (octets_for (length (named_bits s b))) b zeros (all_false (least_size s - length b)))

-- of two tests neither holds
neither : (x y : Bool) (j k : EncodeErrorKind) → cond x (Some j) (cond y (Some k) None) ≡ None → (x ≡ false) × (y ≡ false)
neither true y j k e = absurd cc
neither false true j k e = absurd cc
neither false false j k e = (refl, refl)

bits_fine : (s : Size) (b : List Bool) → first_bits_failure s b ≡ None → (k : Failure) → bits_fail s b k ≡ false
bits_fine s b e BadValue = refl
bits_fine s b e BadSize = (neither _ _ _ _ e).0
bits_fine s b e BadIdentifier = refl
bits_fine s b e BadTime = refl
bits_fine s b e TooManyEmpty = refl
bits_fine s b e TooLong = (neither _ _ _ _ e).1

-- the octets behind what was put in front of them
named_appends : (r : Result (Unit {0}) EncodeErrorKind) (s : Size) (b : List Bool) (front rest old mid new : Octets) → first_failure (Named s b) ≡ None → mid ≡ old ++ front → bits_octets (fixed_size s) (named_bits s b) ≡ front ++ rest
    → AppendsOrMemory r rest mid new → AppendsLeaf r (Named s b) old new
named_appends (Ok x) s b front rest old mid new none before whole h = (bits_fine s (named_bits s b) none, appends_after {T = Unit {0}} (Ok x) front rest (bits_octets (fixed_size s) (named_bits s b)) old mid new before whole h)
named_appends (Err k) s b front rest old mid new none before whole h =
    let a = appends_after {T = Unit {0}} (Err k) front rest (bits_octets (fixed_size s) (named_bits s b)) old mid new before whole h in
    (inl a.0, a.1)

-- of a fixed size, and behind a length
bits_fixed : (f : Option ℕ) (b : List Bool) → is_some f ≡ true → bits_octets f b ≡ pack b
bits_fixed (Some n) b e = refl
bits_fixed None b e = absurd cc

bits_counted : (f : Option ℕ) (b : List Bool) → is_some f ≡ false → bits_octets f b ≡ counted_bits b
bits_counted (Some n) b e = absurd cc
bits_counted None b e = refl

-- of the value's octets, which are no more than are written, and the zeros
module _ (s : Size) (b : List Bool) (o : Octets) (size count : ℕ) (is_packed : o ≡ pack b) (is_size : size ≡ length (named_bits s b)) (is_count : count ≡ octets_for size) where
  pub octets_enough : length o ≤ count
  octets_enough = omega (arith, length_pack b o is_packed, is_size, is_count, length_named_bits s b)

  whole : pack (named_bits s b) ≡ o ++ replicate (count - length o) 0
  whole = sym (ap (λ n. o ++ replicate (n - length o) 0) is_count ∙ filled_up s b o size is_packed is_size)

  module _ (r : Result (Unit {0}) EncodeErrorKind) (old mid new : Octets) (none : first_failure (Named s b) ≡ None) (written : AppendsOrMemory r (o ++ replicate (count - length o) 0) mid new) where
    pub fixed_appends : is_some (fixed_size s) ≡ true → mid ≡ old → AppendsLeaf r (Named s b) old new
    fixed_appends fixed before =
        named_appends r s b [] (o ++ replicate (count - length o) 0) old mid new none (before ∙ sym (append-nil old)) (bits_fixed (fixed_size s) (named_bits s b) fixed ∙ whole) written

    pub counted_appends : is_some (fixed_size s) ≡ false → mid ≡ old ++ (length_octets (octets_for size + 1) ++ unused_for size ∷ []) → AppendsLeaf r (Named s b) old new
    counted_appends counted before =
        let front : Octets = length_octets (octets_for size + 1) ++ unused_for size ∷ [] in
        let behind : bits_octets (fixed_size s) (named_bits s b) ≡ front ++ pack (named_bits s b) =
        bits_counted (fixed_size s) (named_bits s b) counted
        ∙ counted_parts (named_bits s b) (octets_for size) (unused_for size) (ap octets_for is_size) (ap unused_for is_size) in
        named_appends r s b front (o ++ replicate (count - length o) 0) old mid new none before (behind ∙ ap (λ z. front ++ z) whole) written
