-- An output with octets that belong at places of it.
use Rattle.std.specs.Prelude.{◌≡◌, ℕ, zero, suc, ◌+◌, ◌-◌, ◌≤◌, Bool, true, false, List, [], ◌∷◌, ◌++◌, length, take, drop}
use Rattle.asn1_core.specs.Octets.{Octets}
use Rattle.oer_spec.specs.Writing.{BeginsWith}

-- octets that belong at a place
pub record Piece : Type 0 where
  pub place : ℕ
  pub octets : Octets

-- a place at which nothing stands yet
abbrev pub free_at : ℕ → Piece
free_at n = record { place = n; octets = [] }

-- the octets from p on, with what belongs there in its places
abbrev pub spread : ℕ → Octets → List Piece → Octets
spread p o [] = drop p o
spread p o (i ∷ is) = take (i.place - p) (drop p o) ++ (i.octets ++ spread i.place o is)

-- the whole output, with its pieces in their places
abbrev pub merged : Octets → List Piece → Octets
merged o is = spread 0 o is

-- how many octets they have
abbrev pub total : List Piece → ℕ
total [] = 0
total (i ∷ is) = length i.octets + total is

-- from p on the places ascend, up to n
abbrev pub Ascends : ℕ → List Piece → ℕ → Type 0
Ascends p [] n = p ≤ n
Ascends p (i ∷ is) n = (p ≤ i.place) × Ascends i.place is n

-- the last of the places, from p on
abbrev pub top : ℕ → List Piece → ℕ
top p [] = p
top p (i ∷ is) = top i.place is

-- the n-th of them has these octets
abbrev pub filled : List Piece → ℕ → Octets → List Piece
filled [] n o = []
filled (i ∷ is) zero o = record { place = i.place; octets = o } ∷ is
filled (i ∷ is) (suc n) o = i ∷ filled is n o

-- what a scope that is not the outermost keeps for what belongs in front of it
abbrev pub slots : Bool → ℕ → List Piece
slots true n = free_at n ∷ []
slots false n = []

-- Octets were added to an output and its pieces: behind the output of before, with pieces that belong there.
pub record Adds (octets : Octets) (old : Octets) (kept : List Piece) (new : Octets) (left : List Piece) : Type 0 where
  pub rear : List Piece
  pub begins : BeginsWith old new
  pub more : left ≡ kept ++ rear
  pub ascends : Ascends (length old) rear (length new)
  pub adds : spread (length old) new rear ≡ octets
