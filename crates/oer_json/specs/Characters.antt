-- Strings in a table, and their characters.
use Rattle.std.specs.Prelude.{◌≡◌, ◌/◌, ℕ, List, length, unwrap_or}
use Rattle.asn1_core.specs.Octets.{Octets}
use Rattle.oer_json.specs.Readings.{word_of}
use Rattle.oer_json.specs.declared.leaves.Units.{Units}
use Rattle.oer_walk.specs.StringKinds.{string_kind_numbered}
use Rattle.oer_walk.specs.declared.string_kinds.StringKind.{StringKind}
use Rattle.oer_walk.specs.declared.string_kinds.StringKind.TheVariants.{OctetString}

-- what a string's octets are, by a word of the table; octets, where it says nothing
abbrev pub string_kind_of : List ℕ → ℕ → ℕ → StringKind
string_kind_of ws type_number index = unwrap_or (string_kind_numbered (word_of ws type_number index)) OctetString

-- these octets, and how many characters of so many octets each they are
abbrev pub AreCharacters : ℕ → Octets → Units → Type 0
AreCharacters unit octets units = (units.octets.items ≡ octets) × (units.count ≡ length octets / unit)
