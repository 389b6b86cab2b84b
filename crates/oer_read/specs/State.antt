-- What contracts see of a decoder.
use Rattle.std.specs.Prelude.{ℕ, suc, Bool, false, cond, not, List, [], ◌∷◌, Option, None, get_or, drop, map}
use Rattle.asn1_core.specs.Octets.{Octets}
use Rattle.asn1_core.specs.Rows.{Row, may_be_absent}
use Rattle.asn1_core.specs.declared.codec.Codec.{Codec}
use Rattle.asn1_core.specs.declared.tag.Tag.{Tag}

-- how a decoder reads: the rules, and how many nested levels
pub record Options : Type 0 where
  pub codec : Codec
  pub levels : ℕ

-- an optional or default root row that is still to be asked, with its presence bit
pub record Ask : Type 0 where
  pub tag : Tag
  pub bit : Bool

-- an addition row that is still to be asked, and whether it has to be there
pub record Place : Type 0 where
  pub tag : Tag
  pub needed : Bool

-- The open scope: the rows that are still to be asked (in a set no root row, since the scope asks those itself), the
-- extension bit, and the extension bitmap: nothing before it was read, then the bits that are left, of the rows left and past them.
pub record Frame : Type 0 where
  pub is_set : Bool
  pub asks : List Ask
  pub extensible : Bool
  pub extended : Bool
  pub additions : List Place
  pub bitmap : Option (List Bool)

-- what is left to read, the rules, the levels left, and the open scope
pub record State : Type 0 where
  pub input : Octets
  pub codec : Codec
  pub levels : ℕ
  pub frame : Frame

-- no scope is open
abbrev pub closed : Frame
closed = record { is_set = false; asks = []; extensible = false; extended = false; additions = []; bitmap = None }

-- octets that are read by these rules, within so many levels, with no scope open
abbrev pub apart : Codec → ℕ → Octets → State
apart codec levels input = record { input = input; codec = codec; levels = levels; frame = closed }

-- the optional and default rows of a table, each with its presence bit
abbrev pub asks_of : List Row → List Bool → List Ask
asks_of [] b = []
asks_of (r ∷ rs) b = cond (may_be_absent r.presence) (record { tag = r.tag; bit = get_or b 0 false } ∷ asks_of rs (drop 1 b)) (asks_of rs b)

-- how many rows those are
abbrev pub marked_count : List Row → ℕ
marked_count [] = 0
marked_count (r ∷ rs) = cond (may_be_absent r.presence) (suc (marked_count rs)) (marked_count rs)

-- the rows of a table of additions
abbrev pub places_of : List Row → List Place
places_of rows = map (λ r. record { tag = r.tag; needed = not (may_be_absent r.presence) }) rows
