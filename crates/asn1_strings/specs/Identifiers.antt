-- Object identifiers: their arcs, and the octets that these give (X.690, 8.19).
use Rattle.std.specs.Prelude.{◌≡◌, ℕ, ◌+◌, ◌-◌, ◌*◌, ◌/◌, ◌%◌, ◌^◌, Bool, true, false, cond, not, ◌&&◌, ◌||◌, ◌==◌, nat_lt, nat_le, List, [], ◌∷◌, ◌++◌, map, Option, Some, None}
use Rattle.std.specs.List.{list_all, flat_map}
use Rattle.std.specs.Int.Digits.{digits_of}
use Rattle.asn1_core.specs.Octets.{Octets, AreOctets}
use Rattle.asn1_core.specs.Texts.{Obeys, Identifier, parts_from}

abbrev pub is_arc : ℕ → Bool
is_arc n = nat_lt n (2 ^ 32)

-- the first arc is 0, 1 or 2, and the second below 40 unless the first is 2
abbrev pub is_start : ℕ → ℕ → Bool
is_start a b = nat_lt a 2 && nat_lt b 40 || (a == 2)

-- at least two arcs, each of 32 bits
abbrev pub is_identifier : List ℕ → Bool
is_identifier [] = false
is_identifier (a ∷ []) = false
is_identifier (a ∷ b ∷ arcs) = is_start a b && list_all is_arc (a ∷ b ∷ arcs)

-- the first two arcs make one part
abbrev pub parts_of : List ℕ → List ℕ
parts_of [] = []
parts_of (a ∷ []) = []
parts_of (a ∷ b ∷ arcs) = (40 * a + b) ∷ arcs

-- the groups of seven bits of a number, the highest first, each with its top bit set; none of zero
abbrev pub high_groups : ℕ → Octets
high_groups n = map (λ d. d + 128) (digits_of 128 n)

-- the groups of a part, without leading zero groups: the top bit is set on all but the last
abbrev pub part_octets : ℕ → Octets
part_octets n = high_groups (n / 128) ++ (n % 128 ∷ [])

abbrev pub arcs_octets : List ℕ → Octets
arcs_octets arcs = flat_map part_octets (parts_of arcs)

-- the octets are those of the identifier with these arcs
pub record SpellsIdentifier (octets : Octets) (arcs : List ℕ) : Type 0 where
  pub identifier : is_identifier arcs ≡ true
  pub octets_are : octets ≡ arcs_octets arcs

-- an identifier's octets obey their rule
abbrev pub IdentifiersObey : List ℕ → Type 0
IdentifiersObey arcs = is_identifier arcs ≡ true → AreOctets (arcs_octets arcs) × Obeys Identifier (arcs_octets arcs)

-- octets that obey the rule are those of one identifier
abbrev pub SpellsOne : Octets → Type 0
SpellsOne octets = AreOctets octets → Obeys Identifier octets → (arcs : List ℕ) × SpellsIdentifier octets arcs × ((others : List ℕ) → SpellsIdentifier octets others → others ≡ arcs)

-- ---- reading

-- a part begins with a group of zero bits
abbrev pub is_zero_group : Bool → ℕ → Bool
is_zero_group inside x = not inside && (x == 0x80)

-- the greatest part that gives arcs of 32 bits, behind these arcs
abbrev pub last_part : List ℕ → ℕ
last_part [] = 80 + (2 ^ 32 - 1)
last_part (a ∷ arcs) = 2 ^ 32 - 1

-- the arcs of a part that comes behind these arcs: two of the first part
abbrev pub part_arcs : List ℕ → ℕ → List ℕ
part_arcs [] n = cond (nat_lt n 40) (0 ∷ n ∷ []) (cond (nat_lt n 80) (1 ∷ (n - 40) ∷ []) (2 ∷ (n - 80) ∷ []))
part_arcs (a ∷ arcs) n = n ∷ []

abbrev pub if_some_arcs : List ℕ → Option (List ℕ)
if_some_arcs [] = None
if_some_arcs (a ∷ arcs) = Some (a ∷ arcs)

-- these arcs and those of the parts that follow, where there is an arc and each part gives arcs of 32 bits
abbrev pub with_parts : List ℕ → List ℕ → Option (List ℕ)
with_parts arcs [] = if_some_arcs arcs
with_parts arcs (n ∷ parts) = cond (nat_le n (last_part arcs)) (with_parts (arcs ++ part_arcs arcs n) parts) None

abbrev pub then_parts : List ℕ → Option (List ℕ) → Option (List ℕ)
then_parts arcs None = None
then_parts arcs (Some parts) = with_parts arcs parts

-- the arcs of an identifier's octets
abbrev pub arcs_of : Octets → Option (List ℕ)
arcs_of o = then_parts [] (parts_from false 0 o)
