-- Bits are packed octet by octet.
use Rattle.std.proofs.Common.{◌≡◌, ℕ, zero, suc, ◌+◌, ◌*◌, ◌<◌, Bool, List, [], ◌∷◌, ◌++◌, length, drop, refl, sym, ap, ap₂, ◌∙◌, arith, append_assoc, length-drop, ◌≤◌, take, ◌-◌, Result, Ok, Err}
use Rattle.asn1_core.specs.declared.error.EncodeErrorKind.{EncodeErrorKind}
use Rattle.oer_spec.specs.Lengths.{length_octets, behind_length, counted_bits}
use Rattle.asn1_core.specs.Bounds.{Size}
use Rattle.oer_spec.specs.Failures.{first_failure}
use Rattle.oer_spec.specs.Tree.{Bits}
use Rattle.oer_spec.specs.WritingTexts.{string_failure}
use Rattle.oer_spec.specs.Writing.{AppendsOrMemory}
use Rattle.std.proofs.lemmas.List.{take-append-drop, length-take-le, take_at, drop_at}
use Rattle.asn1_core.specs.Octets.{Octets, octet_of, pack_into, octets_for, pack}

pub pack_more : (b : List Bool) → 0 < length b → pack b ≡ octet_of b ∷ pack (drop 8 b)
pack_more b h =
    let e : octets_for (length b) ≡ suc (octets_for (length (drop 8 b))) = omega (arith, length-drop 8 b) in
    ap (λ k. pack_into k b) e

pub pack_none : (b : List Bool) → length b ≡ 0 → pack b ≡ []
pack_none [] h = refl
pack_none (x ∷ b) h = absurd (omega arith)

pub length-pack_into : (k : ℕ) (b : List Bool) → length (pack_into k b) ≡ k
length-pack_into zero b = refl
length-pack_into (suc k) b = ap suc (length-pack_into k (drop 8 b))

-- one more octet of the bits that are left
pub pack_step : (old mid new more whole : Octets) (x : ℕ) (b d : List Bool) → 0 < length b → x ≡ octet_of b → d ≡ drop 8 b → mid ≡ old ++ more → more ++ pack b ≡ whole → new ≡ mid ++ x ∷ []
    → (m : Octets) × (new ≡ old ++ m) × (m ++ pack d ≡ whole)
pack_step old mid new more whole x b d some octet rest before packed after = (
  more ++ x ∷ [],
  after ∙ ap (λ z. z ++ x ∷ []) before ∙ append_assoc old more (x ∷ []),
  append_assoc more (x ∷ []) (pack d) ∙ ap₂ (λ y z. more ++ (y ∷ pack z)) octet rest ∙ ap (λ z. more ++ z) (sym (pack_more b some)) ∙ packed,
)

-- ---- writing one part after another
pub appends_after : {T : Type 0} (r : Result T EncodeErrorKind) (p q whole old mid new : Octets) → mid ≡ old ++ p → whole ≡ p ++ q → AppendsOrMemory r q mid new → AppendsOrMemory r whole old new
appends_after (Ok x) p q whole old mid new e w a = a ∙ ap (λ z. z ++ q) e ∙ append_assoc old p q ∙ ap (λ z. old ++ z) (sym w)
appends_after (Err k) p q whole old mid new e w (a, (more, b)) = (a, (p ++ more, b ∙ ap (λ z. z ++ more) e ∙ append_assoc old p more))

pub length-counted : (b : List Bool) → length ((8 * octets_for (length b) - length b) ∷ pack b) ≡ octets_for (length b) + 1
length-counted b = omega (arith, length-pack_into (octets_for (length b)) b)

pub counted_parts : (b : List Bool) (n u : ℕ) → n ≡ octets_for (length b) → u ≡ 8 * octets_for (length b) - length b → counted_bits b ≡ (length_octets (n + 1) ++ u ∷ []) ++ pack b
counted_parts b n u e f =
    ap₂ (λ x y. length_octets x ++ (y ∷ pack b)) (length-counted b ∙ ap (λ z. z + 1) (sym e)) (sym f) ∙ sym (append_assoc (length_octets (n + 1)) (u ∷ []) (pack b))

pub length_pack : (b : List Bool) (o : Octets) → o ≡ pack b → length o ≡ octets_for (length b)
length_pack b o e = ap length e ∙ length-pack_into (octets_for (length b)) b

pub behind_first : (x : ℕ) (o : Octets) → length_octets (length o + 1) ++ (x ∷ o) ≡ behind_length (x ∷ o)
behind_first x o = let e : length o + 1 ≡ suc (length o) = omega arith in ap (λ n. length_octets n ++ (x ∷ o)) e

pub bits_failure : (s : Size) (b : List Bool) (o : Octets) → o ≡ pack b → string_failure s (length b) (length o) ≡ first_failure (Bits s b)
bits_failure s b o e = ap (string_failure s (length b)) (length_pack b o e)

-- a length written behind octets, and the two exchanged
pub length_in_front : (old : Octets) (start : ℕ) (mid : Octets) → start ≤ length old → mid ≡ old ++ length_octets (length old - start)
    → take start mid ++ (drop (length old - start) (drop start mid) ++ take (length old - start) (drop start mid)) ≡ take start old ++ behind_length (drop start old)
length_in_front old start mid h e =
    let front : List ℕ = take start old in
    let content : List ℕ = drop start old in
    let count : length content ≡ length old - start = length-drop start old in
    let len : List ℕ = length_octets (length old - start) in
    let first : length front ≡ start = length-take-le start old h in
    let whole : mid ≡ front ++ (content ++ len) = e ∙ ap (λ z. z ++ len) (sym (take-append-drop start old)) ∙ append_assoc front content len in
    let a : take start mid ≡ front = ap (take start) whole ∙ take_at front (content ++ len) start first in
    let b : drop start mid ≡ content ++ len = ap (drop start) whole ∙ drop_at front (content ++ len) start first in
    let c : drop (length old - start) (content ++ len) ≡ len = drop_at content len (length old - start) count in
    let d : take (length old - start) (content ++ len) ≡ content = take_at content len (length old - start) count in
    rw (a, b, c, d) (ap (λ n. front ++ (length_octets n ++ content)) (sym count))
