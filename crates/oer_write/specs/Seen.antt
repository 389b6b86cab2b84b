-- How an encoder is seen.
use Rattle.std.specs.Prelude.{◌≡◌, ℕ, ◌+◌, ◌≤◌, ◌<◌, Bool, true, false, cond, not, ◌&&◌, ◌||◌, List, [], ◌∷◌, ◌++◌, take, drop, length}
use Rattle.asn1_core.specs.Octets.{Octets}
use Rattle.oer_write.specs.Layout.{Piece, free_at, spread, top, total, merged, Ascends}
use Rattle.oer_write.specs.Held.{marks}
use Rattle.oer_write.specs.Written.{Written, WriteFrame}
use Rattle.oer_write.specs.declared.region.Region.{Region}
use Rattle.oer_write.specs.declared.scopes.Scope.{Scope}
use Rattle.oer_write.specs.declared.encoder.Encoder.TheInside.{Inside}

-- no additions yet
abbrev pub region_at : ℕ → ℕ → Region
region_at base first = record { base = base; first = first; start = base; opens = first; end = base; last = first }

-- The octets in front of the scope, without their pieces, and those of its root components, before and behind its additions, with the pieces in
-- their places.
unfoldable pub around : Region → Octets → List Piece → Octets
around r o is = take r.base o ++ (spread r.base (take r.start o) (drop r.first (take r.opens is)) ++ spread r.end o (drop r.last is))

-- octets of which so many stand in front of the scope, with the pieces in front of it in their places
unfoldable pub shown : ℕ → List Piece → Octets → Octets
shown base front o = merged (take base o) front ++ drop base o

-- the open types of its additions that lie in the output
unfoldable pub within : Region → Octets → List Piece → Octets
within r o is = spread r.start (take r.end o) (drop r.opens (take r.last is))

-- where an addition was begun, the first piece stands for the bitmap
pub record IsLaid (r : Region) (written : ℕ) (is : List Piece) : Type 0 where
  pub first : r.first ≤ r.opens
  pub opens : r.opens ≤ r.last
  pub last : r.last ≤ length is
  pub roots : Ascends r.base (drop r.first (take r.opens is)) r.start
  pub added : Ascends r.start (drop r.opens (take r.last is)) r.end
  pub later : Ascends r.end (drop r.last is) (top r.end (drop r.last is))
  pub inside : top r.end (drop r.last is) ≤ written
  pub none : r.last ≡ r.first → r.end ≡ r.base
  pub begun : r.first < r.last → (rest : List Piece) × (drop r.opens (take r.last is) ≡ free_at r.start ∷ rest)

-- Without a scope no additions lie in the output; where nothing is open all octets are in their places.
pub record IsSound (s : Scope) (is_lent is_inside : Bool) (written : ℕ) (is : List Piece) : Type 0 where
  pub laid : IsLaid s.region written is
  pub before : Ascends 0 (take s.region.first is) s.region.base
  pub shut : s.is_open ≡ false → s.region.last ≡ s.region.first
  pub alone : is_inside ≡ false → is ≡ []
  pub set : s.is_set ≡ true → s.region.last ≡ s.region.first
  pub opened : s.is_open ≡ true → is_inside ≡ true
  pub inner : is_inside ≡ true → (s.is_open || is_lent) ≡ true
  pub origin : (s.is_open || is_lent) ≡ false → s.region.base ≡ 0

-- the additions of an open sequence lie in the output, others apart
abbrev pub opens_in : Octets → List Piece → Scope → Octets
opens_in o is s = cond (s.is_open && not s.is_set) (within s.region o is) s.opens.items

abbrev pub frame_of : Octets → List Piece → Scope → WriteFrame
frame_of o is s = record { is_open = s.is_open; is_set = s.is_set; extensible = s.extensible; start = s.region.base + total (take s.region.first is); presence = s.presence; components = s.components; bitmap = s.bitmap; opens = opens_in o is s }

-- an encoder's octets with all pieces in their places, but those of its additions; its scope; the pieces in front of it
abbrev pub view_of : Scope → Bool → Bool → Octets → List Piece → Written
view_of s is_lent is_inside o is = record { octets = shown s.region.base (take s.region.first is) (around s.region o is); frame = frame_of o is s; outer = marks is_lent is_inside (take s.region.first is) }

abbrev pub seen : Inside → Written
seen e = view_of e.scope e.is_lent e.is_inside e.output.now.items e.insertions

abbrev pub is_sound : Inside → Type 0
is_sound e = IsSound e.scope e.is_lent e.is_inside (length e.output.now.items) e.insertions
