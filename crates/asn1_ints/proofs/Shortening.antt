-- Leaving out superfluous octets.
use Rattle.std.proofs.Common.{◌≡◌, ℕ, ◌<◌, true, false, [], ◌∷◌, length, drop, get_or, refl, sym, ap, ◌∙◌, arith}
use Rattle.asn1_core.specs.Octets.{Octets, unsigned, signed}
use Rattle.asn1_core.specs.Numbers.{number_octets, signed_octets, has_superfluous_zero, has_superfluous_sign}
use Rattle.asn1_core.proofs.Digits.{octets_from_each}
use Rattle.asn1_core.proofs.Shortest.{tight_from_test, signed_octets_signed}
use Rattle.asn1_core.proofs.Superfluous.{zero_left_out, sign_left_out, number_octets_unsigned}
use Rattle.asn1_ints.specs.Octets.{KeepsUnsigned, KeepsSigned}

pub keeps_unsigned_at_first : (octets : Octets) → ((i : ℕ) → get_or octets i 0 < 256) → 0 < length octets → KeepsUnsigned octets octets
keeps_unsigned_at_first octets f some = record { some = some; octets_are = octets_from_each octets f; value = refl }

pub keeps_unsigned : (octets xs : Octets) → KeepsUnsigned octets xs → has_superfluous_zero xs ≡ true → KeepsUnsigned octets (drop 1 xs)
keeps_unsigned octets [] k h = absurd cc
keeps_unsigned octets (x ∷ []) k h = absurd cc
keeps_unsigned octets (x ∷ y ∷ ys) k h = record { some = omega arith; octets_are = k.octets_are.1; value = zero_left_out x y ys h ∙ k.value }

pub unsigned_shortest : (octets xs : Octets) → KeepsUnsigned octets xs → has_superfluous_zero xs ≡ false → xs ≡ number_octets (unsigned octets)
unsigned_shortest octets xs k h = sym (number_octets_unsigned xs k.octets_are k.some h) ∙ ap number_octets k.value

pub keeps_signed_at_first : (octets : Octets) → ((i : ℕ) → get_or octets i 0 < 256) → 0 < length octets → KeepsSigned octets octets
keeps_signed_at_first octets f some = record { some = some; octets_are = octets_from_each octets f; value = refl }

pub keeps_signed : (octets xs : Octets) → KeepsSigned octets xs → has_superfluous_sign xs ≡ true → KeepsSigned octets (drop 1 xs)
keeps_signed octets [] k h = absurd cc
keeps_signed octets (x ∷ []) k h = absurd cc
keeps_signed octets (x ∷ y ∷ ys) k h = record { some = omega arith; octets_are = k.octets_are.1; value = sign_left_out x y ys h ∙ k.value }

pub signed_shortest : (octets xs : Octets) → KeepsSigned octets xs → has_superfluous_sign xs ≡ false → xs ≡ signed_octets (signed octets)
signed_shortest octets xs k h = sym (signed_octets_signed xs k.octets_are (tight_from_test xs k.some h)) ∙ ap signed_octets k.value
