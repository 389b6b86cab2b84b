-- Bits are packed octet by octet.
use Rattle.std.proofs.Common.{◌≡◌, ℕ, suc, ◌<◌, Bool, List, [], ◌∷◌, ◌++◌, length, drop, refl, ap, ap₂, sym, ◌∙◌, arith, append_assoc, length-drop}
use Rattle.asn1_core.specs.Octets.{Octets, octet_of, pack_into, octets_for, pack}

pub pack_more : (b : List Bool) → 0 < length b → pack b ≡ octet_of b ∷ pack (drop 8 b)
pack_more b h =
    let e : octets_for (length b) ≡ suc (octets_for (length (drop 8 b))) = omega (arith, length-drop 8 b) in
    ap (λ k. pack_into k b) e

pub pack_none : (b : List Bool) → length b ≡ 0 → pack b ≡ []
pack_none [] h = refl
pack_none (x ∷ b) h = absurd (omega arith)

-- one more octet of the bits that are left
pub pack_step : (done mid whole : Octets) (x : ℕ) (b d : List Bool) → 0 < length b → x ≡ octet_of b → d ≡ drop 8 b → done ++ pack b ≡ whole → mid ≡ done ++ x ∷ [] → mid ++ pack d ≡ whole
pack_step done mid whole x b d some octet rest before after =
    ap₂ (λ m z. m ++ pack z) after rest ∙ append_assoc done (x ∷ []) (pack (drop 8 b)) ∙ ap (λ y. done ++ (y ∷ pack (drop 8 b))) octet ∙ ap (λ z. done ++ z) (sym (pack_more b some)) ∙ before
