-- Leaves: why one can't be written, the octets that are written, and the octets that spell one.
use Rattle.std.specs.Prelude.{◌≡◌, ◌≢◌, ℕ, zero, suc, ◌+◌, ◌-◌, ◌*◌, ◌/◌, ◌%◌, ◌^◌, ◌<◌, ◌≤◌, Bool, true, false, cond, not, ◌&&◌, List, [], ◌∷◌, ◌++◌, length, replicate, get_or, map, ◌⊎◌, ⊤, ℤ, pos, negsuc, int_le, int_lt, nat_le, nat_lt, ◌==◌, Option, Some, None}
use Rattle.asn1_core.specs.Bounds.{Range, Size, fixed_size, in_range, size_fits}
use Rattle.asn1_core.specs.Numbers.{number_octets, signed_octets, low_octets, complement, in_i128, in_isize}
use Rattle.asn1_core.specs.Octets.{Octets, AreOctets, unsigned, signed, usize_max, bits_of, AllFalse, octets_for, pack}
use Rattle.asn1_core.specs.Texts.{Rule, Obeys}
pub use Rattle.asn1_core.specs.Texts.{unit_of}
use Rattle.asn1_strings.specs.NamedBits.{IsNamed}
use Rattle.oer_spec.specs.Lengths.{IsBehindLength, AreCountedBits, behind_length, counted_bits}
use Rattle.oer_spec.specs.Mode.{Mode, InLenient, InStrict}
use Rattle.oer_spec.specs.Tree.{Content, InOctets, Civil, Leaf, Boolean, Null, Enum, Int, Bits, Named, Text}
use Rattle.std.specs.Int.Digits.{digits_of}

-- Why a tree can't be written: a number outside its range, a size outside its bounds, arcs that are no identifier, a time
-- without a text, too many elements without octets, a length that the platform can't hold.
pub data Failure : Type 0 where
  BadValue BadSize BadIdentifier BadTime TooManyEmpty TooLong : Failure

-- How an INTEGER is laid out (X.696, 10.2 to 10.4): with a sign or without, in a fixed count of octets or behind a length.
pub data Width : Type 0 where
  Fixed : Bool → ℕ → Width
  Counted : Bool → Width

-- a range from 0 or more: by its upper bound
abbrev pub unsigned_width : ℤ → Width
unsigned_width high =
    cond (int_lt high (pos (2 ^ 8))) (Fixed false 1) (cond (int_lt high (pos (2 ^ 16))) (Fixed false 2) (cond (int_lt high (pos (2 ^ 32))) (Fixed false 4) (cond (int_lt high (pos (2 ^ 64))) (Fixed false 8) (Counted false))))

-- the range lies in the two's complement range of k octets
abbrev pub holds_signed : ℕ → ℤ → ℤ → Bool
holds_signed k low high = int_le (negsuc (2 ^ (8 * k - 1) - 1)) low && int_lt high (pos (2 ^ (8 * k - 1)))

abbrev pub signed_width : ℤ → ℤ → Width
signed_width low high =
    cond (holds_signed 1 low high) (Fixed true 1) (cond (holds_signed 2 low high) (Fixed true 2) (cond (holds_signed 4 low high) (Fixed true 4) (cond (holds_signed 8 low high) (Fixed true 8) (Counted true))))

-- a range without a lower bound, and no range, give a signed number behind a length
abbrev pub width_of : Range → Width
width_of None = Counted true
width_of (Some (None, high)) = Counted true
width_of (Some (Some low, None)) = cond (int_lt low (pos 0)) (Counted true) (Counted false)
width_of (Some (Some low, Some high)) = cond (int_lt low (pos 0)) (signed_width low high) (unsigned_width high)

-- ---- the octets that are written

abbrev pub fixed_octets : ℕ → ℤ → Octets
fixed_octets k (pos n) = low_octets k n
fixed_octets k (negsuc n) = complement (low_octets k n)

abbrev pub unsigned_octets : ℤ → Octets
unsigned_octets (pos n) = number_octets n
unsigned_octets (negsuc n) = []

abbrev pub counted_octets : Bool → ℤ → Octets
counted_octets true n = signed_octets n
counted_octets false n = unsigned_octets n

abbrev pub int_octets : Width → ℤ → Octets
int_octets (Fixed sign k) n = fixed_octets k n
int_octets (Counted sign) n = behind_length (counted_octets sign n)

abbrev pub is_small : ℤ → Bool
is_small (pos n) = nat_lt n 128
is_small (negsuc n) = false

-- 0 to 127 in one octet; else the count of octets with the top bit set, and the number (X.696, 11.2 and 11.4)
abbrev pub enum_octets : ℤ → Octets
enum_octets n = cond (is_small n) (fixed_octets 1 n) ((128 + length (signed_octets n)) ∷ signed_octets n)

abbrev pub bits_octets : Option ℕ → List Bool → Octets
bits_octets (Some n) b = pack b
bits_octets None b = counted_bits b

abbrev pub least_size : Size → ℕ
least_size None = 0
least_size (Some (low, high)) = low

-- named bits with as many 0 bits as the least size wants (X.680, 22.7; X.696, 13.3)
abbrev pub named_bits : Size → List Bool → List Bool
named_bits s b = b ++ replicate (least_size s - length b) false

abbrev pub text_octets : Option ℕ → Content → Octets
text_octets (Some n) (InOctets c) = c
text_octets None (InOctets c) = behind_length c
text_octets fixed (Civil fields) = []

-- The canonical octets of a leaf.
abbrev pub leaf_octets : Leaf → Octets
leaf_octets (Boolean b) = cond b 255 0 ∷ []
leaf_octets Null = []
leaf_octets (Enum n) = enum_octets n
leaf_octets (Int r n) = int_octets (width_of r) n
leaf_octets (Bits s b) = bits_octets (fixed_size s) b
leaf_octets (Named s b) = bits_octets (fixed_size s) (named_bits s b)
leaf_octets (Text r s c) = text_octets (fixed_size s) c

-- What every leaf keeps: an enumerated number is one of isize, named bits don't end in a 0 bit, and a text obeys its rule.
abbrev pub IsLeaf : Leaf → Type 0
IsLeaf (Enum n) = in_isize n ≡ true
IsLeaf (Named s b) = IsNamed b
IsLeaf (Text r s (InOctets c)) = AreOctets c × Obeys r c
IsLeaf _ = ⊤

-- ---- what fails

abbrev pub count_too_long : Width → ℤ → Bool
count_too_long (Fixed sign k) n = false
count_too_long (Counted sign) n = nat_lt usize_max (length (counted_octets sign n))

-- more than usize::MAX / 8 octets behind a length (the project's own choice)
abbrev pub string_too_long : Option ℕ → ℕ → Bool
string_too_long (Some n) k = false
string_too_long None k = nat_lt (usize_max / 8) k

abbrev pub bits_fail : Size → List Bool → Failure → Bool
bits_fail s b BadSize = not (size_fits s (length b))
bits_fail s b TooLong = string_too_long (fixed_size s) (octets_for (length b))
bits_fail s b _ = false

abbrev pub leaf_fails : Leaf → Failure → Bool
leaf_fails (Int r n) BadValue = not (in_range r n)
leaf_fails (Int r n) TooLong = count_too_long (width_of r) n
leaf_fails (Bits s b) k = bits_fail s b k
leaf_fails (Named s b) k = bits_fail s (named_bits s b) k
leaf_fails (Text r s (InOctets c)) BadSize = not (size_fits s (length c / unit_of r))
leaf_fails (Text r s (InOctets c)) TooLong = string_too_long (fixed_size s) (length c)
leaf_fails (Text r s (Civil fields)) BadTime = true
leaf_fails _ _ = false

-- ---- the octets that are read

abbrev pub value_of : Bool → Octets → ℤ
value_of false o = pos (unsigned o)
value_of true o = signed o

-- the octets without the first have another value
abbrev pub IsShort : Bool → Octets → Type 0
IsShort sign [] = ⊥
IsShort sign (x ∷ []) = ⊤
IsShort sign (x ∷ y ∷ ys) = value_of sign (y ∷ ys) ≢ value_of sign (x ∷ y ∷ ys)

-- BOOLEAN (9): one octet, 00 for false and FF for true; leniently any other octet is true.
abbrev pub IsBoolean : Mode → Octets → Bool → Type 0
IsBoolean m o b = (x : ℕ) × (o ≡ x ∷ []) × (x < 256) × (b ≡ not (x == 0)) × InStrict m ((x ≡ 0) ⊎ (x ≡ 255))

-- INTEGER (10): as many octets as the width has; or a length of at least 1 and that many, strictly with no superfluous one.
abbrev pub IsInteger : Mode → Octets → Width → ℤ → Type 0
IsInteger m o (Fixed sign k) n = (length o ≡ k) × AreOctets o × (n ≡ value_of sign o)
IsInteger m o (Counted sign) n = (c : Octets) × IsBehindLength m o c × (1 ≤ length c) × (n ≡ value_of sign c) × InStrict m (IsShort sign c)

-- ENUMERATED (11): one octet from 0 to 127; or a count of octets with the top bit set, and the number, strictly the
-- shortest and not one of 0 to 127.
abbrev pub IsEnumerated : Mode → Octets → ℤ → Type 0
IsEnumerated m [] n = ⊥
IsEnumerated m (x ∷ xs) n =
    ((x < 128) × (xs ≡ []) × (n ≡ pos x))
    ⊎ ((128 < x) × (x < 256) × (length xs + 128 ≡ x) × AreOctets xs × (n ≡ signed xs) × InStrict m ((is_small n ≡ false) × IsShort true xs))

-- BIT STRING (13): of a fixed size the bits, filled up to whole octets; else counted bits behind a length, leniently also a
-- length of 0 for no bits. Strictly the fill bits are 0.
abbrev pub IsBitString : Mode → Octets → Option ℕ → List Bool → Type 0
IsBitString m o (Some n) b = AreOctets o × (unused : List Bool) × (length unused < 8) × (bits_of o ≡ b ++ unused) × InStrict m (AllFalse unused)
IsBitString m o None b =
    ((unused : List Bool) × AreCountedBits m o b unused × InStrict m (AllFalse unused))
    ⊎ (InLenient m × IsBehindLength m o [] × (b ≡ []))

-- BIT STRING with named bits (13.3): a bit string of the bits and 0 bits after them, strictly of no more 0 bits than the
-- least size wants.
abbrev pub IsNamedBits : Mode → Octets → Size → List Bool → Type 0
IsNamedBits m o s b =
    (zeros : List Bool) × AllFalse zeros × ((k : Failure) → bits_fail s (b ++ zeros) k ≡ false) × IsBitString m o (fixed_size s) (b ++ zeros)
    × InStrict m (b ++ zeros ≡ named_bits s b)

-- Octet strings, character strings, identifiers, times (14, 21, 27, 29): the octets, behind a length where the size isn't fixed.
abbrev pub IsText : Mode → Octets → Option ℕ → Content → Type 0
IsText m o (Some n) (InOctets c) = (o ≡ c) × AreOctets c
IsText m o None (InOctets c) = IsBehindLength m o c
IsText m o fixed (Civil fields) = ⊥

-- The octets spell the leaf.
abbrev pub SpellsLeaf : Mode → Octets → Leaf → Type 0
SpellsLeaf m o (Boolean b) = IsBoolean m o b
SpellsLeaf m o Null = o ≡ []
SpellsLeaf m o (Enum n) = IsEnumerated m o n
SpellsLeaf m o (Int r n) = IsInteger m o (width_of r) n
SpellsLeaf m o (Bits s b) = IsBitString m o (fixed_size s) b
SpellsLeaf m o (Named s b) = IsNamedBits m o s b
SpellsLeaf m o (Text r s c) = IsText m o (fixed_size s) c

-- Nothing fails, and the octets spell the leaf.
abbrev pub IsLeafEncoding : Mode → Octets → Leaf → Type 0
IsLeafEncoding m o l = ((k : Failure) → leaf_fails l k ≡ false) × SpellsLeaf m o l
