-- Lengths, tags, open types, bitmaps and quantities.
use Rattle.asn1_core.specs.Tags.{class_number}
use Rattle.std.specs.Prelude.{◌≡◌, ◌≢◌, ℕ, ◌+◌, ◌-◌, ◌*◌, ◌%◌, ◌<◌, ◌≤◌, Bool, true, false, cond, List, [], ◌∷◌, ◌++◌, length, get_or, ◌⊎◌, ⊤, nat_lt, ◌==◌}
use Rattle.asn1_core.specs.Numbers.{number_octets}
use Rattle.asn1_core.specs.Octets.{Octets, AreOctets, unsigned, usize_max, bits_of, AllFalse, pack, octets_for}
use Rattle.asn1_core.specs.declared.tag.Tag.{Tag}
use Rattle.oer_spec.specs.Mode.{Mode, InStrict}
use Rattle.std.specs.Int.Digits.{digits_of}

-- A length (X.696, 8.6): one octet below 128; or an octet 128 + k, k from 1 to 127, and k octets of the number, strictly only
-- from 128 on and without a leading 0.
abbrev pub IsLength : Mode → Octets → ℕ → Type 0
IsLength m [] n = ⊥
IsLength m (x ∷ xs) n =
    ((x < 128) × (xs ≡ []) × (n ≡ x))
    ⊎ ((128 < x) × (x < 256) × (length xs + 128 ≡ x) × AreOctets xs × (n ≡ unsigned xs) × (n ≤ usize_max) × InStrict m ((128 ≤ n) × (get_or xs 0 0 ≢ 0)))

-- A length, and that many octets.
abbrev pub IsBehindLength : Mode → Octets → Octets → Type 0
IsBehindLength m o content = (l : Octets) × (o ≡ l ++ content) × IsLength m l (length content) × AreOctets content

-- seven-bit groups, highest first: the top bit is set on all but the last
abbrev pub AreGroups : Octets → Type 0
AreGroups [] = ⊥
AreGroups (x ∷ []) = x < 128
AreGroups (x ∷ y ∷ ys) = (128 ≤ x) × (x < 256) × AreGroups (y ∷ ys)

abbrev pub groups_number : ℕ → Octets → ℕ
groups_number n [] = n
groups_number n (x ∷ xs) = groups_number (n * 128 + x % 128) xs

-- A tag (8.7): the class and the number below 63; or the class and 63, and the number in groups of seven bits, the first
-- not 0, strictly only from 63 on.
abbrev pub IsTag : Mode → Octets → Tag → Type 0
IsTag m [] t = ⊥
IsTag m (x ∷ xs) t =
    ((t.value < 63) × (x ≡ class_number t.class * 64 + t.value) × (xs ≡ []))
    ⊎ ((x ≡ class_number t.class * 64 + 63) × AreGroups xs × (get_or xs 0 0 % 128 ≢ 0) × (t.value ≡ groups_number 0 xs) × InStrict m (63 ≤ t.value))

-- An open type (30): a length and that many octets, which are f and, leniently, a rest.
abbrev pub IsOpenType : Mode → Octets → Octets → Type 0
IsOpenType m o f = (content rest : Octets) × IsBehindLength m o content × (content ≡ f ++ rest) × InStrict m (rest ≡ [])

abbrev pub AnyTrue : List Bool → Type 0
AnyTrue [] = ⊥
AnyTrue (true ∷ b) = ⊤
AnyTrue (false ∷ b) = AnyTrue b

-- Bits behind a length: the count of unused bits, then octets of the bits and the unused ones.
abbrev pub AreCountedBits : Mode → Octets → List Bool → List Bool → Type 0
AreCountedBits m o b unused = (c : Octets) × IsBehindLength m o (length unused ∷ c) × (length unused < 8) × (bits_of c ≡ b ++ unused)

-- An extension bitmap (16.4.2 and 16.4.3): strictly some bit is set, and the unused bits are 0.
abbrev pub IsBitmap : Mode → Octets → List Bool → Type 0
IsBitmap m o b = (unused : List Bool) × AreCountedBits m o b unused × InStrict m (AnyTrue b × AllFalse unused)

abbrev pub NoLeadingZero : Octets → Type 0
NoLeadingZero [] = ⊥
NoLeadingZero (x ∷ []) = ⊤
NoLeadingZero (x ∷ y ∷ ys) = x ≢ 0

-- A list's quantity (17.2): a length of at least 1, and that many octets of the number, strictly the shortest.
abbrev pub IsQuantity : Mode → Octets → ℕ → Type 0
IsQuantity m o n = (c : Octets) × IsBehindLength m o c × (1 ≤ length c) × (n ≡ unsigned c) × (n ≤ usize_max) × InStrict m (NoLeadingZero c)

-- ---- the octets that are written

-- a length below 128 itself, else 128 + k and the k octets
abbrev pub length_octets : ℕ → Octets
length_octets n = cond (nat_lt n 128) (n ∷ []) ((128 + length (digits_of 256 n)) ∷ digits_of 256 n)

-- octets behind their length
abbrev pub behind_length : Octets → Octets
behind_length c = length_octets (length c) ++ c

abbrev pub quantity_octets : ℕ → Octets
quantity_octets n = behind_length (number_octets n)

-- the top bit set on all but the last
abbrev pub with_top_bits : Octets → Octets
with_top_bits [] = []
with_top_bits (x ∷ []) = x ∷ []
with_top_bits (x ∷ y ∷ ys) = (x + 128) ∷ with_top_bits (y ∷ ys)

abbrev pub tag_octets : Tag → Octets
tag_octets t = cond (nat_lt t.value 63) ((class_number t.class * 64 + t.value) ∷ []) ((class_number t.class * 64 + 63) ∷ with_top_bits (digits_of 128 t.value))

abbrev pub counted_bits : List Bool → Octets
counted_bits b = behind_length ((8 * octets_for (length b) - length b) ∷ pack b)
