-- Octets that the walk takes whole.
use Rattle.std.specs.Prelude.{◌≡◌, ℕ, List, [], Ok, Err}
use Rattle.asn1_core.specs.Octets.{Octets}
use Rattle.asn1_core.specs.declared.error.DecodeErrorKind.TheVariants.{TooManyEmptyElements}
use Rattle.oer_walk.specs.Walks.{walk_of}

-- The walk by a table, of the type with that number and within so many levels, takes the octets, and none is left.
abbrev pub IsWalkedWhole : List ℕ → ℕ → ℕ → Octets → Type 0
IsWalkedWhole ws type_number levels input = (walk_of ws type_number levels input).answer ≡ Ok []

-- It is refused, since there are too many parts.
abbrev pub HasTooManyParts : List ℕ → ℕ → ℕ → Octets → Type 0
HasTooManyParts ws type_number levels input = (at : ℕ) × ((walk_of ws type_number levels input).answer ≡ Err (record { place = at; kind = TooManyEmptyElements }))
