-- What a scope does, by what its closure does.
use Rattle.std.specs.Prelude.{◌≡◌, ℕ, ◌+◌, ◌-◌, Bool, true, false, cond, ◌==◌, List, [], ◌∷◌, Option, Some, None, Result, Ok, Err, get_or, drop}
use Rattle.asn1_core.specs.Octets.{Octets, AreOctets}
use Rattle.asn1_core.specs.Rows.{Row}
use Rattle.asn1_core.specs.declared.codec.Codec.{Codec}
use Rattle.asn1_core.specs.declared.error.DecodeError.{DecodeError}
use Rattle.asn1_core.specs.declared.error.DecodeErrorKind.{DecodeErrorKind}
use Rattle.asn1_core.specs.declared.error.DecodeErrorKind.TheVariants.{ExceedsMaxParseDepth, MissingTagClassOrValueInSequenceOrSet}
use Rattle.asn1_core.specs.declared.tag.Tag.{Tag}
use Rattle.oer_spec.specs.Reading.{◌>>=◌, ◌>>◌}
use Rattle.oer_spec.specs.ReadingBits.{preamble_at, bitmap_at, skipped_at}
use Rattle.oer_read.specs.State.{Ask, Place, Frame, State, asks_of, marked_count, places_of}

-- one level less, where one is left
abbrev pub level_at : ℕ → Result ℕ DecodeErrorKind
level_at levels = cond (levels == 0) (Err ExceedsMaxParseDepth) (Ok (levels - 1))

-- a preamble's bits: the extension bit of an extensible type, and one for each optional or default root row
abbrev pub bits_for : Bool → List Row → ℕ
bits_for extensible roots = cond extensible 1 0 + marked_count roots

abbrev pub extension_in : Bool → List Bool → Bool
extension_in extensible b = cond extensible (get_or b 0 false) false

abbrev pub presence_in : Bool → List Bool → List Bool
presence_in extensible b = cond extensible (drop 1 b) b

-- the frame of a sequence behind a preamble of these bits
abbrev pub frame_behind : Bool → List Row → List Row → List Bool → Frame
frame_behind extensible roots additions b = record {
  is_set = false;
  asks = asks_of roots (presence_in extensible b);
  extensible = extensible;
  extended = extension_in extensible b;
  additions = places_of additions;
  bitmap = None;
}

-- What a sequence lends to its closure: a decoder behind the preamble, within one level less.
unfoldable pub opened_at : State → Bool → List Row → List Row → Result State DecodeErrorKind
opened_at s extensible roots additions = do
  levels ← level_at s.levels
  preamble ← preamble_at (bits_for extensible roots) s.input
  Ok (record { input = preamble.1; codec = s.codec; levels = levels; frame = frame_behind extensible roots additions preamble.0 })

-- a row that is asked out of order or not at all
abbrev pub missing : Tag → DecodeErrorKind
missing g = MissingTagClassOrValueInSequenceOrSet g.class g.value

-- every row was asked, else the first that was not is missing: root rows first
abbrev pub all_asked : List Ask → List Place → Result (Unit {0}) DecodeErrorKind
all_asked [] [] = Ok tt
all_asked [] (p ∷ ps) = Err (missing p.tag)
all_asked (k ∷ ks) ps = Err (missing k.tag)

-- What is left behind the additions that were not asked: the bitmap is read where it was not, and is none where the
-- extension bit is 0.
abbrev pub tail_at : Codec → Bool → Option (List Bool) → Octets → Result Octets DecodeErrorKind
tail_at codec extended (Some b) input = skipped_at codec b input
tail_at codec false None input = Ok input
tail_at codec true None input = bitmap_at codec input >>= λ b. skipped_at codec b.0 b.1

abbrev pub unknown_at : State → Result Octets DecodeErrorKind
unknown_at s = tail_at s.codec s.frame.extended s.frame.bitmap s.input

-- What is left behind a scope, after its closure.
unfoldable pub closed_at : State → Result Octets DecodeErrorKind
closed_at s = do
  all_asked s.frame.asks s.frame.additions
  unknown_at s

module _ {A : Type 0} (Ran : State → Result A DecodeError → State → Type 0) (extensible : Bool) (roots additions : List Row) (old : State) where
  -- The closure answered the value on the decoder that it was lent, and what it left was closed.
  pub record SequenceRead (v : A) (new : State) : Type 0 where
    pub lent : State
    pub opened : opened_at old extensible roots additions ≡ Ok lent
    pub after : State
    pub ran : Ran lent (Ok v) after
    pub rest : Octets
    pub closed : closed_at after ≡ Ok rest
    pub left : new ≡ record old { input = rest }
    pub octets : AreOctets old.input

  -- The first that applies: the scope could not be opened, the closure refused with that very error, or what it left
  -- could not be closed.
  pub data SequenceRefused (e : DecodeError) : Type 0 where
    NotOpened : opened_at old extensible roots additions ≡ Err e.kind → e.codec ≡ old.codec → SequenceRefused e
    Stopped : (lent after : State) → opened_at old extensible roots additions ≡ Ok lent → Ran lent (Err e) after → SequenceRefused e
    NotClosed : (lent after : State) (v : A) → opened_at old extensible roots additions ≡ Ok lent → Ran lent (Ok v) after → closed_at after ≡ Err e.kind → e.codec ≡ old.codec → SequenceRefused e
