-- Bits without meaning at the end: those of a NamedBitList (X.680, 22.7).
use Rattle.std.specs.Prelude.{◌≡◌, ℕ, zero, suc, Bool, true, false, List, [], ◌∷◌, length, take}

-- a bit in front of so many is one more, but for a 0 bit in front of none
abbrev pub with_bit : Bool → ℕ → ℕ
with_bit true n = suc n
with_bit false zero = zero
with_bit false (suc n) = suc (suc n)

-- how many bits there are up to the last that is set
abbrev pub significant : List Bool → ℕ
significant [] = 0
significant (x ∷ b) = with_bit x (significant b)

-- the bits without the 0 bits at their end
abbrev pub without_zeros : List Bool → List Bool
without_zeros b = take (significant b) b

-- the last bit, if there is one, is set
abbrev pub IsNamed : List Bool → Type 0
IsNamed b = significant b ≡ length b
