-- Octets, the numbers that they write, and their bits.
use Rattle.std.specs.Prelude.{◌≡◌, ℕ, zero, suc, ◌+◌, ◌-◌, ◌*◌, ◌/◌, ◌%◌, ◌^◌, ◌<◌, Bool, true, false, cond, List, [], ◌∷◌, ◌++◌, length, get_or, drop, ℤ, pos, negsuc, nat_lt, ◌==◌, Result, MatchResult}
use Rattle.std.specs.Int.Digits.{number_from_digits}
use Rattle.std.specs.List.{AllByRecursion}

abbrev pub Octets : Type 0
Octets = List ℕ

-- each is a whole number below 256
abbrev pub AreOctets : Octets → Type 0
AreOctets o = AllByRecursion (λ x. x < 256) o

-- the number that octets write, highest octet first
abbrev pub unsigned : Octets → ℕ
unsigned o = number_from_digits 256 o

-- the same in two's complement
abbrev pub signed : Octets → ℤ
signed [] = pos 0
signed (x ∷ xs) = cond (nat_lt x 128) (pos (unsigned (x ∷ xs))) (negsuc (256 ^ length (x ∷ xs) - 1 - unsigned (x ∷ xs)))

abbrev pub usize_max : ℕ
usize_max = 2 ^ 64 - 1

abbrev pub is_odd : ℕ → Bool
is_odd n = (n % 2) == 1

-- the eight bits of an octet, the first one highest
abbrev pub bits8 : ℕ → List Bool
bits8 x = is_odd (x / 128) ∷ is_odd (x / 64) ∷ is_odd (x / 32) ∷ is_odd (x / 16) ∷ is_odd (x / 8) ∷ is_odd (x / 4) ∷ is_odd (x / 2) ∷ is_odd x ∷ []

abbrev pub bits_of : Octets → List Bool
bits_of [] = []
bits_of (x ∷ xs) = bits8 x ++ bits_of xs

abbrev pub bit_at : List Bool → ℕ → ℕ
bit_at b i = cond (get_or b i false) 1 0

-- the octet of the first eight bits, zero bits after the last
abbrev pub octet_of : List Bool → ℕ
octet_of b = bit_at b 0 * 128 + bit_at b 1 * 64 + bit_at b 2 * 32 + bit_at b 3 * 16 + bit_at b 4 * 8 + bit_at b 5 * 4 + bit_at b 6 * 2 + bit_at b 7

-- k octets of bits, filled up with zero bits
abbrev pub pack_into : ℕ → List Bool → Octets
pack_into zero b = []
pack_into (suc k) b = octet_of b ∷ pack_into k (drop 8 b)

-- how many octets so many bits take
abbrev pub octets_for : ℕ → ℕ
octets_for bits = (bits + 7) / 8

-- bits in whole octets, filled up with zero bits
abbrev pub pack : List Bool → Octets
pack b = pack_into (octets_for (length b)) b

abbrev pub AllFalse : List Bool → Type 0
AllFalse b = AllByRecursion (λ x. x ≡ false) b

-- pieces laid end to end
abbrev pub joined : List Octets → Octets
joined [] = []
joined (p ∷ ps) = p ++ joined ps

-- these octets were appended; or, where memory was refused, none or some others
abbrev pub Appends : {T E : Type 0} → Result T E → Octets → Octets → Octets → Type 0
Appends result octets old new = MatchResult result (λ _. new ≡ old ++ octets) (λ _. (more : Octets) × (new ≡ old ++ more))
