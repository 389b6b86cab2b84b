-- What the calls of a closure do that ask an extension addition.
use Rattle.std.specs.Prelude.{◌≡◌, ◌≢◌, Bool, true, false, cond, not, ◌&&◌, List, [], ◌∷◌, Option, Some, None, Result, Ok, Err, IfOk, IfErr, get_or, drop}
use Rattle.asn1_core.specs.Octets.{Octets, AreOctets}
use Rattle.asn1_core.specs.Tags.{same_tag}
use Rattle.asn1_core.specs.declared.codec.Codec.TheVariants.{Coer}
use Rattle.asn1_core.specs.declared.error.DecodeError.{DecodeError}
use Rattle.asn1_core.specs.declared.error.DecodeErrorKind.{DecodeErrorKind}
use Rattle.asn1_core.specs.declared.error.DecodeErrorKind.TheVariants.{RequiredExtensionNotPresent, TypeNotExtensible, NotValidCanonicalEncoding}
use Rattle.asn1_core.specs.declared.tag.Tag.{Tag}
use Rattle.oer_spec.specs.Reading.{◌>>=◌, ◌>>◌, content_at}
use Rattle.oer_spec.specs.ReadingBits.{bitmap_at}
use Rattle.oer_spec.specs.Tree.{Tree}
use Rattle.oer_read.specs.Law.{Reads, NoEncoding, IsForMemory}
use Rattle.oer_read.specs.Scopes.{missing}
use Rattle.oer_read.specs.State.{Place, State, closed}

-- an addition whose bit is not set has to be one that may be absent
abbrev pub row_present : Place → Bool → Result (Unit {0}) DecodeErrorKind
row_present p bit = cond (p.needed && not bit) (Err (RequiredExtensionNotPresent p.tag)) (Ok tt)

-- each required addition has its bit set, else the first that has not is missing
abbrev pub all_present : List Place → List Bool → Result (Unit {0}) DecodeErrorKind
all_present [] b = Ok tt
all_present (p ∷ ps) b = row_present p (get_or b 0 false) >> all_present ps (drop 1 b)

-- the same decoder behind a bitmap
abbrev pub with_bitmap : State → List Bool → Octets → State
with_bitmap s b rest = record s { input = rest; frame = record s.frame { bitmap = Some b } }

-- The bitmap, where it was not yet read: none where the extension bit is 0.
abbrev pub bitmap_first : Bool → Option (List Bool) → State → Result State DecodeErrorKind
bitmap_first extended (Some b) s = Ok s
bitmap_first false None s = all_present s.frame.additions [] >> Ok (with_bitmap s [] s.input)
bitmap_first true None s = bitmap_at s.codec s.input >>= λ b. all_present s.frame.additions b.0 >> Ok (with_bitmap s b.0 b.1)

unfoldable pub mapped_at : State → Result State DecodeErrorKind
mapped_at s = bitmap_first s.frame.extended s.frame.bitmap s

-- the tag that a call asks by: a group's call has none, and asks by the row's
abbrev pub next_place : Option Tag → Bool → List Place → Result (Unit {0}) DecodeErrorKind
next_place g false ps = Err TypeNotExtensible
next_place g true [] = Err TypeNotExtensible
next_place None true (p ∷ ps) = Ok tt
next_place (Some g) true (p ∷ ps) = cond (same_tag p.tag g) (Ok tt) (Err (missing g))

-- the bits of a bitmap that was read
abbrev pub bits_now : Option (List Bool) → List Bool
bits_now None = []
bits_now (Some b) = b

-- behind the next addition row
abbrev pub behind_place : State → Octets → State
behind_place s rest = record s { input = rest; frame = record s.frame { additions = drop 1 s.frame.additions; bitmap = Some (drop 1 (bits_now s.frame.bitmap)) } }

-- behind the next addition row, with these bits and octets
abbrev pub past_place : State → List Bool → Octets → State
past_place s bits rest = record s { input = rest; frame = record s.frame { additions = drop 1 s.frame.additions; bitmap = Some bits } }

-- the octets of the next addition, where its bit is set, and the decoder behind it
abbrev pub open_content : State → Bool → Result (Option Octets × State) DecodeErrorKind
open_content s false = Ok (None, behind_place s s.input)
open_content s true = content_at s.codec s.input >>= λ c. Ok (Some c.0, behind_place s c.1)

-- The next addition: its row is there and has the tag, the bitmap was read, and its open type's octets, where its bit is set.
unfoldable pub addition_at : State → Option Tag → Result (Option Octets × State) DecodeErrorKind
addition_at s g = do
  next_place g s.frame.extensible s.frame.additions
  t ← mapped_at s
  open_content t (get_or (bits_now t.frame.bitmap) 0 false)

-- a decoder of an open type's octets
abbrev pub inside : State → Octets → State
inside s content = record { input = content; codec = s.codec; levels = s.levels; frame = closed }

-- ---- the value in an open type
module _ {A : Type 0} (tree : A → Tree) (IsValue : A → Type 0) (Answered : State → Result A DecodeError → State → Type 0) (s : State) (content : Octets) where
  -- the value was read from the open type's octets, of which canonically none is left over
  pub record OpenRead (v : A) : Type 0 where
    pub after : State
    pub reads : Reads tree IsValue (inside s content) v after
    pub answered : Answered (inside s content) (Ok v) after
    pub whole : s.codec ≡ Coer → after.input ≡ []

  -- The first that applies: the value is refused with that very error by its type; octets are left over, in canonical mode.
  pub data OpenRefused (e : DecodeError) : Type 0 where
    Within : (after : State) → Answered (inside s content) (Err e) after → e.codec ≡ s.codec → ((IsForMemory e → ⊥) → NoEncoding tree IsValue (inside s content)) → OpenRefused e
    LeftOver : (v : A) (after : State) → Reads tree IsValue (inside s content) v after → Answered (inside s content) (Ok v) after → after.input ≢ [] → s.codec ≡ Coer → e ≡ record { kind = NotValidCanonicalEncoding; codec = s.codec } → OpenRefused e

-- ---- an addition
module _ {A : Type 0} (tree : A → Tree) (IsValue : A → Type 0) (Answered : State → Result A DecodeError → State → Type 0) (s : State) (g : Option Tag) where
  -- absent, and the decoder is behind the row
  pub record AddedAbsent (t : State) : Type 0 where
    pub next : addition_at s g ≡ Ok (None, t)

  -- present, and its value was read
  pub record AddedPresent (v : A) (t : State) : Type 0 where
    pub content : Octets
    pub next : addition_at s g ≡ Ok (Some content, t)
    pub open_type : OpenRead tree IsValue Answered s content v

  abbrev pub Added : Option A → State → Type 0
  Added None t = AddedAbsent t
  Added (Some v) t = AddedPresent v t

  -- The first that applies: the row, the bitmap or the open type is refused, or its value is.
  pub data AddRefused (e : DecodeError) : Type 0 where
    NotThere : addition_at s g ≡ Err e.kind → e.codec ≡ s.codec → AddRefused e
    Inside : (content : Octets) (t : State) → addition_at s g ≡ Ok (Some content, t) → OpenRefused tree IsValue Answered s content e → AddRefused e

  -- An extension addition: absent or read by its bit; a refusal changes nothing.
  pub record Adds (answer : Result (Option A) DecodeError) (t : State) : Type 0 where
    pub read : IfOk answer (λ o. Added o t)
    pub same : IfErr answer (λ e. t ≡ s)
    pub refused : IfErr answer (λ e. AddRefused e)
    pub octets : AreOctets s.input
