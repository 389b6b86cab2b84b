-- Texts of whole characters, and units of 16 and of 32 bits as octets.
use Rattle.std.specs.Prelude.{◌≡◌, ◌↔◌, ℕ, ◌+◌, ◌*◌, ◌/◌, ◌%◌, Bool, true, ◌&&◌, ◌==◌, List, [], ◌∷◌, length, ⊤, refl}
use Rattle.std.specs.List.{list_all, flat_map}
use Rattle.std.specs.Int.{Width, to_be_bytes}
use Rattle.std.proofs.Common.{arith, ap, sym, ◌∙◌}
use Rattle.std.proofs.Math.Nat.{div-add-mod, mul-mod_right, add-zero}
use Rattle.std.proofs.lemmas.Bool.{eqb-true, eq-eqb, and_parts, and_from}
use Rattle.asn1_core.specs.Octets.{Octets}

-- so many octets a character, and each octet passes the test
abbrev pub are_characters : ℕ → (ℕ → Bool) → Octets → Bool
are_characters unit permitted o = ((length o % unit) == 0) && list_all permitted o

-- as many octets each as the width has, the highest first
abbrev pub units_octets : Width → List ℕ → Octets
units_octets width units = flat_map (to_be_bytes width) units

-- ---- what whole characters are, of one octet each and of more

pub one_octet_each : (permitted : ℕ → Bool) (o : Octets) → (are_characters 1 permitted o ≡ true) ↔ (list_all permitted o ≡ true)
one_octet_each permitted o =
    let whole : (length o % 1 == 0) ≡ true = eq-eqb (length o % 1) 0 (omega arith) in
    (λ h. (and_parts (length o % 1 == 0) (list_all permitted o) h).1, λ h. and_from (length o % 1 == 0) (list_all permitted o) whole h)

each_is_any : (o : Octets) → list_all (λ _. true) o ≡ true
each_is_any [] = refl
each_is_any (x ∷ o) = each_is_any o

pub any_octets : (o : Octets) → (are_characters 1 (λ _. true) o ≡ true) ↔ ⊤
any_octets o = (λ _. tt, λ _. (one_octet_each (λ _. true) o).1 (each_is_any o))

pub whole_characters : (unit : ℕ) (o : Octets) → (are_characters unit (λ _. true) o ≡ true) ↔ ((n : ℕ) × (length o ≡ unit * n))
whole_characters unit o = (
  λ h. let none_left : length o % unit ≡ 0 = eqb-true (length o % unit) 0 (and_parts (length o % unit == 0) (list_all (λ _. true) o) h).0 in
      (length o / unit, sym (div-add-mod (length o) unit) ∙ ap (λ z. unit * (length o / unit) + z) none_left ∙ add-zero (unit * (length o / unit))),
  λ (n, whole). and_from (length o % unit == 0) (list_all (λ _. true) o) (eq-eqb (length o % unit) 0 (ap (λ z. z % unit) whole ∙ mul-mod_right unit n)) (each_is_any o),
)
