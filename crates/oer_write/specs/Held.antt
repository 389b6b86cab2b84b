-- What an encoder that was lent gives back: the output, and the pieces that belong there.
use Rattle.std.specs.Prelude.{◌≡◌, ◌≤◌, ◌+◌, List, [], ◌∷◌, ◌++◌, cond, true, not, ◌&&◌, map, Bool, length, take, ℕ}
use Rattle.asn1_core.specs.Octets.{Octets}
use Rattle.oer_spec.specs.Writing.{BeginsWith}
use Rattle.oer_write.specs.Layout.{Piece, spread, total, merged, Ascends}
use Rattle.oer_write.specs.Written.{Written, WriteFrame, no_scope}

-- A piece that belongs in front of a scope, as what is known of the scopes around it.
abbrev pub frame_at : Piece → WriteFrame
frame_at i = record no_scope { start = i.place; opens = i.octets }

-- no scope, in an encoder that is lent where so many octets are written
abbrev pub shut_at : ℕ → WriteFrame
shut_at n = record no_scope { start = n }

-- An encoder that is lent for an element, an alternative or a component has something around it: it is inside of what is
-- open, or stands where all octets are in their places.
abbrev pub lent_frame : Bool → WriteFrame
lent_frame is_inside = record no_scope { is_open = true; is_set = is_inside }

abbrev pub marks : Bool → Bool → List Piece → List WriteFrame
marks is_lent is_inside is = cond is_lent (lent_frame is_inside ∷ []) [] ++ map frame_at is

-- the pieces that belong in front of the scope
abbrev pub pieces_in : List WriteFrame → List Piece
pieces_in [] = []
pieces_in (f ∷ fs) = cond f.is_open (pieces_in fs) (record { place = f.start; octets = f.opens } ∷ pieces_in fs)

-- how many octets a sequence's additions have
abbrev pub length_within : WriteFrame → ℕ
length_within f = cond (f.is_open && not f.is_set) (length f.opens) 0

-- the output, and the pieces behind those in front, are what is seen
pub record Holds (e : Written) (o : Octets) (is : List Piece) : Type 0 where
  pub rear : List Piece
  pub base : ℕ
  pub front : is ≡ pieces_in e.outer ++ rear
  pub start : e.frame.start ≡ base + total (pieces_in e.outer)
  pub inside : base ≤ length o
  pub before : Ascends 0 (pieces_in e.outer) base
  pub ascends : Ascends base rear (length o)
  pub octets : e.octets ≡ merged (take base o) (pieces_in e.outer) ++ spread base o rear

-- of what refused: the octets and the pieces in front are there
pub record Leaves (e : Written) (o : Octets) (is : List Piece) : Type 0 where
  pub rear : List Piece
  pub base : ℕ
  pub front : is ≡ pieces_in e.outer ++ rear
  pub start : e.frame.start ≡ base + total (pieces_in e.outer)
  pub inside : base ≤ length o
  pub before : Ascends 0 (pieces_in e.outer) base
  pub octets : take e.frame.start e.octets ≡ merged (take base o) (pieces_in e.outer)

-- the octets in front of the scope, without the pieces that belong there
pub record IsInFront (e : Written) (o : Octets) : Type 0 where
  pub start : e.frame.start ≡ length o + total (pieces_in e.outer)
  pub before : Ascends 0 (pieces_in e.outer) (length o)
  pub octets : take e.frame.start e.octets ≡ merged o (pieces_in e.outer)

-- what refused left the front of an output and its pieces
pub record Kept (old : Octets) (kept : List Piece) (new : Octets) (left : List Piece) : Type 0 where
  pub rear : List Piece
  pub begins : BeginsWith old new
  pub more : left ≡ kept ++ rear
