-- What a list promises by its elements' type.
use Rattle.std.specs.Prelude.{◌≡◌, ◌≢◌, ℕ, ◌<◌, [], Option, Some}
use Rattle.asn1_core.specs.Bounds.{fixed_size, size_bounds}
use Rattle.asn1_core.specs.Octets.{Octets}
use Rattle.asn1_core.specs.Texts.{AnyOctets}
use Rattle.asn1_core.specs.declared.constraints.Constraints.{Constraints}
use Rattle.oer_spec.specs.Encoding.{IsEncoding}
use Rattle.oer_spec.specs.Mode.{Mode}
use Rattle.oer_spec.specs.Spelled.{IsAny, IsTextOf, utc_time, generalized_time, date, text}
use Rattle.oer_spec.specs.Tree.{Tree}

-- a value that is read was spelled by some octets, in any mode and within any levels
abbrev pub TakesOctets : {A : Type 0} → (A → Tree) → (A → Type 0) → Type 0
TakesOctets {A} tree IsValue = (m : Mode) (d : ℕ) (o : Octets) (v : A) → IsValue v → IsEncoding m d o (tree v) → o ≢ []

-- Times, some of which can't be written, and octet strings of one fixed size above 0, take octets.
pub record ElementPremises : Type 0 where
  pub utc_times : TakesOctets utc_time IsAny
  pub generalized_times : TakesOctets generalized_time IsAny
  pub dates : TakesOctets date IsAny
  pub fixed_strings : (c : Constraints) (n : ℕ) → fixed_size (size_bounds c) ≡ Some n → 0 < n → TakesOctets (text AnyOctets c) (IsTextOf AnyOctets)
