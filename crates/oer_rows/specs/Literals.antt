-- What a module writes of bits, octets and characters, as values.
use lib.Utf8.{encode, encodes, scalars}
use Rattle.std.specs.Prelude.{◌≡◌, ℕ, ◌+◌, ◌/◌, ◌%◌, Bool, true, cond, ◌&&◌, List, [], ◌∷◌, ◌++◌, length, take, nat_eq, nat_lt, IsUtf8, refl}
use Rattle.std.specs.Cmp.Lexicographic.{pointwise, bytes_decides}
use Rattle.std.specs.List.{list_all}
use Rattle.std.specs.Str.{chars_after, continuation_len, lead_bits}
use Rattle.std.proofs.Common.{ap₂, ◌∙◌}
use Rattle.std.proofs.lemmas.Bool.{and_parts, ltb-true}
use Rattle.asn1_core.specs.Octets.{Octets, AreOctets, bits_of, pack}
use Rattle.asn1_core.specs.Texts.{Rule, Obeys}
use Rattle.oer_spec.specs.Spelled.{IsTextOf}

-- octets whose first bits are so many, and whose further bits are 0
abbrev pub IsLiteral : Octets → ℕ → Type 0
IsLiteral o n = (o ≡ pack (take n (bits_of o))) × (length (take n (bits_of o)) ≡ n)

-- each octet passes the test of one
are_octets : (o : Octets) → list_all (λ x. nat_lt x 256) o ≡ true → AreOctets o
are_octets [] e = tt
are_octets (x ∷ o) e = let parts = and_parts (nat_lt x 256) (list_all (λ x. nat_lt x 256) o) e in (ltb-true x 256 parts.0, are_octets o parts.1)

-- octets below 256 that obey the rule are a text of it
pub written : (r : Rule) (o : Octets) → list_all (λ x. nat_lt x 256) o ≡ true → Obeys r o → IsTextOf r o
written r o e k = record { octets = are_octets o e; obeys = k }

-- ---- UTF-8 that a definition can tell by computing: the library's own words for it don't compute

-- the octets of a character, and of characters in a row
abbrev pub character_octets : ℕ → Octets
character_octets c = cond (nat_lt c 128) (c ∷ []) (cond (nat_lt c 2048) ((192 + c / 64) ∷ (128 + c % 64) ∷ []) (cond (nat_lt c 65536) ((224 + c / 4096) ∷ (128 + c / 64 % 64) ∷ (128 + c % 64) ∷ []) ((240 + c / 262144) ∷ (128 + c / 4096 % 64) ∷ (128 + c / 64 % 64) ∷ (128 + c % 64) ∷ [])))

abbrev pub characters_octets : List ℕ → Octets
characters_octets [] = []
characters_octets (c ∷ cs) = character_octets c ++ characters_octets cs

-- the characters that octets spell, where they are UTF-8
abbrev pub characters_of : Octets → List ℕ
characters_of [] = []
characters_of (b ∷ o) = chars_after (continuation_len b) (lead_bits b) o

abbrev pub is_spelled : Octets → Bool
is_spelled o = scalars (characters_of o) && pointwise nat_eq (characters_octets (characters_of o)) o

one_same : (c : ℕ) → encode c ≡ character_octets c
unfolding encode
one_same c = refl

all_same : (cs : List ℕ) → encodes cs ≡ characters_octets cs
all_same [] = refl
all_same (c ∷ cs) = ap₂ (λ (o p : Octets). o ++ p) (one_same c) (all_same cs)

-- octets of which it says so are UTF-8
pub spelled : (o : Octets) → is_spelled o ≡ true → IsUtf8 o
spelled o e =
    let parts = and_parts (scalars (characters_of o)) (pointwise nat_eq (characters_octets (characters_of o)) o) e in
    (characters_of o, (parts.0, all_same (characters_of o) ∙ (bytes_decides (characters_octets (characters_of o)) o).0 parts.1))
