-- Appending octets.
use Rattle.std.proofs.Common.{◌≡◌, ℕ, ◌<◌, ◌≤◌, true, false, leb, [], ◌∷◌, ◌++◌, length, get_or, cond, sym, ap, subst, ◌∙◌, arith, append-nil, Result, Ok, Err, pos}
use Rattle.std.specs.Prelude.{is_ok}
use Rattle.asn1_core.specs.Octets.{Octets}
use Rattle.asn1_core.specs.Numbers.{number_octets, signed_octets, with_sign}
use Rattle.asn1_core.proofs.Digits.{number_octets_some}
use Rattle.asn1_core.proofs.Shortest.{with_sign_low, with_sign_high, signed_octets_of_number}
use Rattle.std.proofs.lemmas.Bool.{leb-true, leb-false}
use Rattle.asn1_ints.specs.Octets.{Appends}

pub appended : {T E : Type 0} → (r : Result T E) (sent octets old new : Octets) → sent ≡ octets → new ≡ cond (is_ok r) (old ++ sent) old → Appends r octets old new
appended (Ok x) sent octets old new e h = h ∙ ap (λ o. old ++ o) e
appended (Err x) sent octets old new e h = ([], h ∙ sym (append-nil old))

-- the octets with their sign
pub sign_added : (o : Octets) (n : ℕ) → o ≡ number_octets n → true ≡ leb 128 (get_or o 0 0) → 0 ∷ o ≡ signed_octets (pos n)
sign_added o n e h = sym (signed_octets_of_number n ∙ ap with_sign (sym e) ∙ go o (leb-true 128 (get_or o 0 0) (sym h)))
  where
    go : (o : Octets) → 128 ≤ get_or o 0 0 → with_sign o ≡ 0 ∷ o
    go [] k = absurd (omega (arith, k))
    go (x ∷ xs) k = with_sign_high x xs k

pub sign_not_added : (o : Octets) (n : ℕ) → o ≡ number_octets n → false ≡ leb 128 (get_or o 0 0) → o ≡ signed_octets (pos n)
sign_not_added o n e h = sym (signed_octets_of_number n ∙ ap with_sign (sym e) ∙ go o (leb-false 128 (get_or o 0 0) (sym h)) some)
  where
    some : 0 < length o
    some = subst (λ z. 0 < length z) (sym e) (number_octets_some n)

    go : (o : Octets) → get_or o 0 0 < 128 → 0 < length o → with_sign o ≡ o
    go [] k l = absurd (omega (arith, l))
    go (x ∷ xs) k l = with_sign_low x xs k
