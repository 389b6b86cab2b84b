-- Reading bits one by one from octets.
use Rattle.std.proofs.Common.{◌≡◌, ℕ, zero, suc, ◌+◌, ◌-◌, ◌*◌, ◌/◌, ◌%◌, ◌^◌, ◌<◌, ◌≤◌, Bool, false, eqb, leb, List, [], ◌∷◌, ◌++◌, length, get_or, take, drop, refl, sym, ap, ap₂, ◌∙◌, arith, length-drop, drop-cons, inl, inr, ◌⊎◌, Some, None}
use Rattle.std.proofs.lemmas.Bool.{cases_lt, le-leb, lt-leb}
use Rattle.std.proofs.lemmas.List.{get_or-take, drop-take, drop-drop, drop_at, get_or-append_right}
use Rattle.asn1_core.specs.Octets.{Octets, is_odd, bits8, bits_of}
use Rattle.oer_spec.specs.Bits.{front_bits, first_bit, has_no_bit}
use Rattle.oer_leaf_read.proofs.Fill.{length-front}

bit_of_octet : (x : ℕ) (more : List Bool) (i : ℕ) → i < 8 → get_or (bits8 x ++ more) i false ≡ is_odd (x / 2 ^ (7 - i % 8))
bit_of_octet x more zero h = refl
bit_of_octet x more (suc zero) h = refl
bit_of_octet x more (suc (suc zero)) h = refl
bit_of_octet x more (suc (suc (suc zero))) h = refl
bit_of_octet x more (suc (suc (suc (suc zero)))) h = refl
bit_of_octet x more (suc (suc (suc (suc (suc zero))))) h = refl
bit_of_octet x more (suc (suc (suc (suc (suc (suc zero)))))) h = refl
bit_of_octet x more (suc (suc (suc (suc (suc (suc (suc zero))))))) h = let e : x ≡ x / 1 = omega arith in ap is_odd e
bit_of_octet x more (suc (suc (suc (suc (suc (suc (suc (suc i)))))))) h = absurd (omega arith)

pub bit_is : (o : Octets) (i : ℕ) → i / 8 < length o → eqb (get_or o (i / 8) 0 / 2 ^ (7 - i % 8) % 2) 1 ≡ get_or (bits_of o) i false
bit_is [] i h = absurd (omega arith)
bit_is (x ∷ o) i h = go (cases_lt i 8) (bit_is o (i - 8))
  where
    go : (i < 8) ⊎ (8 ≤ i) → ((i - 8) / 8 < length o → eqb (get_or o ((i - 8) / 8) 0 / 2 ^ (7 - (i - 8) % 8) % 2) 1 ≡ get_or (bits_of o) (i - 8) false)
        → eqb (get_or (x ∷ o) (i / 8) 0 / 2 ^ (7 - i % 8) % 2) 1 ≡ get_or (bits_of (x ∷ o)) i false
    go (inl l) later =
        let e : i / 8 ≡ 0 = omega arith in
        ap (λ k. eqb (get_or (x ∷ o) k 0 / 2 ^ (7 - i % 8) % 2) 1) e ∙ sym (bit_of_octet x (bits_of o) i l)
    go (inr g) later =
        let e : i / 8 ≡ suc ((i - 8) / 8) = omega arith in
        let f : i % 8 ≡ (i - 8) % 8 = omega arith in
        ap₂ (λ a b. eqb (get_or (x ∷ o) a 0 / 2 ^ (7 - b) % 2) 1) e f ∙ later (omega arith) ∙ sym (get_or-append_right (bits8 x) (bits_of o) 8 i false refl g)

pub length-left : (p u : ℕ) (o : Octets) → length (drop p (front_bits u o)) ≡ 8 * length o - u - p
length-left p u o = length-drop p (front_bits u o) ∙ ap (λ z. z - p) (length-front u o)

none_left : (b : List Bool) → length b ≡ 0 → b ≡ []
none_left [] h = refl
none_left (x ∷ b) h = absurd (omega arith)

some_left : (b : List Bool) → 0 < length b → has_no_bit b ≡ false
some_left [] h = absurd (omega arith)
some_left (x ∷ b) h = refl

pub left_nil : (p u : ℕ) (o : Octets) → length o ≤ (p + u) / 8 → drop p (front_bits u o) ≡ []
left_nil p u o h = none_left (drop p (front_bits u o)) (omega (arith, length-left p u o))

pub left_none : (p u : ℕ) (o : Octets) → length o ≤ (p + u) / 8 → first_bit (drop p (front_bits u o)) ≡ None
left_none p u o h = ap first_bit (left_nil p u o h)

pub empty_is : (p u : ℕ) (o : Octets) → has_no_bit (drop p (front_bits u o)) ≡ leb (length o) ((p + u) / 8)
empty_is p u o = go (cases_lt ((p + u) / 8) (length o))
  where
    go : ((p + u) / 8 < length o) ⊎ (length o ≤ (p + u) / 8) → has_no_bit (drop p (front_bits u o)) ≡ leb (length o) ((p + u) / 8)
    go (inl l) = some_left (drop p (front_bits u o)) (omega (arith, length-left p u o)) ∙ sym (lt-leb (length o) ((p + u) / 8) l)
    go (inr g) = ap has_no_bit (left_nil p u o g) ∙ sym (le-leb (length o) ((p + u) / 8) g)

pub left_next : (p u : ℕ) (o : Octets) → (p + u) / 8 < length o → first_bit (drop p (front_bits u o)) ≡ Some (get_or (bits_of o) p false, drop (p + 1) (front_bits u o))
left_next p u o h =
    let n : length (front_bits u o) ≡ 8 * length o - u = length-front u o in
    let l : p < length (front_bits u o) = omega arith in
    let k : p < 8 * length o - u = omega arith in
    let e : p + 1 ≡ suc p = omega arith in
    ap first_bit (drop-cons (front_bits u o) p false l) ∙ ap₂ (λ x b. Some (x, drop b (front_bits u o))) (get_or-take (8 * length o - u) (bits_of o) p false k) (sym e)

pub left_advanced : (p u : ℕ) (o : Octets) → 7 ≤ p → 0 < length o → drop (p - 7) (front_bits u (drop 1 o)) ≡ drop (p + 1) (front_bits u o)
left_advanced p u [] h l = absurd (omega arith)
left_advanced p u (x ∷ o) h l = go (cases_lt (8 * length o) u)
  where
    go : (8 * length o < u) ⊎ (u ≤ 8 * length o) → drop (p - 7) (front_bits u o) ≡ drop (p + 1) (front_bits u (x ∷ o))
    go (inl a) =
        none_left (drop (p - 7) (front_bits u o)) (omega (arith, length-left (p - 7) u o))
        ∙ sym (none_left (drop (p + 1) (front_bits u (x ∷ o))) (omega (arith, length-left (p + 1) u (x ∷ o))))
    go (inr a) =
        let m : 8 * length (x ∷ o) - u ≡ 8 + (8 * length o - u) = omega arith in
        let n : 8 + (p - 7) ≡ p + 1 = omega arith in
        ap (λ z. drop (p - 7) (take (8 * length o - u) z)) (sym (drop_at (bits8 x) (bits_of o) 8 refl))
        ∙ ap (drop (p - 7)) (sym (drop-take 8 (8 * length o - u) (bits_of (x ∷ o))))
        ∙ drop-drop (p - 7) 8 (take (8 + (8 * length o - u)) (bits_of (x ∷ o)))
        ∙ ap₂ (λ y z. drop y (take z (bits_of (x ∷ o)))) n (sym m)
