-- What is left of an output once a sequence's additions are closed.
use Rattle.std.specs.Prelude.{◌≡◌, List, ◌++◌, Bool, length, take, drop}
use Rattle.asn1_core.specs.Octets.{Octets}
use Rattle.oer_spec.specs.Writing.{BeginsWith}
use Rattle.oer_write.specs.Layout.{Piece, spread, Ascends}
use Rattle.oer_write.specs.Scopes.{extension_of}
use Rattle.oer_write.specs.Seen.{around, within}
use Rattle.oer_write.specs.declared.region.Region.{Region}

-- the octets in front of a scope, and the pieces there, are as before
pub record FrontLeft (r : Region) (old : Octets) (kept : List Piece) (new : Octets) (left : List Piece) : Type 0 where
  pub begins : BeginsWith (take r.base old) new
  pub front : take r.first left ≡ take r.first kept

-- and behind them stand the root components, and the bitmap with the open types
pub record ClosedOff (r : Region) (bitmap : List Bool) (old : Octets) (kept : List Piece) (new : Octets) (left : List Piece) : Type 0 where
  pub front : take r.first left ≡ take r.first kept
  pub ascends : Ascends r.base (drop r.first left) (length new)
  pub octets : take r.base new ++ spread r.base new (drop r.first left) ≡ around r old kept ++ extension_of bitmap (within r old kept)
