-- How insertions are seen.
use Rattle.std.specs.Prelude.{◌≡◌, ℕ, ◌+◌, ◌<◌, ◌≤◌, List, [], ◌∷◌, map, take, drop, length, cond, nat_lt}
use Rattle.asn1_core.specs.Numbers.{low_octets}
use Rattle.asn1_core.specs.Octets.{Octets}
use Rattle.oer_write.specs.Layout.{Piece, spread, total, Ascends}
use Rattle.oer_write.specs.declared.slots.Insertion.{Insertion}
use Rattle.oer_write.specs.declared.insertions.Insertions.TheInside.{Inside}

-- up to eight octets are a number's lowest ones; more of them begin at a place among the long ones
abbrev pub octets_in : Octets → Insertion → Octets
octets_in long i = cond (nat_lt 8 i.count) (take i.count (drop i.number long)) (low_octets i.count i.number)

abbrev pub piece : Octets → Insertion → Piece
piece long i = record { place = i.place; octets = octets_in long i }

abbrev pub pieces : Inside → List Piece
pieces l = map (piece l.long) l.slots

-- how many octets they have
abbrev pub counts : List Insertion → ℕ
counts [] = 0
counts (i ∷ is) = i.count + counts is

-- among so many long octets, those of the insertion are
abbrev pub IsThere : ℕ → Insertion → Type 0
IsThere n i = 8 < i.count → i.number + i.count ≤ n

abbrev pub AreThere : ℕ → List Insertion → Type 0
AreThere n [] = Unit {0}
AreThere n (i ∷ is) = IsThere n i × AreThere n is

-- what is counted is what there is, and long octets are there
pub record AreCounted (l : Inside) : Type 0 where
  pub size : l.inserted ≡ counts l.slots
  pub there : AreThere (length l.long) l.slots

-- How far the pass has come: of the output as it was before, base, the octets from read on stand with their pieces from
-- write on.
pub record Passed (start : ℕ) (base out : Octets) (is : List Piece) (more left read write n : ℕ) : Type 0 where
  pub within : left ≤ length is
  pub full : length out ≡ n
  pub fits : write ≤ n
  pub room : write ≡ read + (total (take left is) + more)
  pub ascends : Ascends start (take left is) read
  pub behind : Ascends read (drop left is) (length base)
  pub front : take read out ≡ take read base
  pub rear : drop write out ≡ spread read base (drop left is)
