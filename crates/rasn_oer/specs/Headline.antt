-- What the entry calls promise.
use Rattle.std.specs.Prelude.{◌≡◌, ℕ, ◌≤◌, Bool, true, false, ◌++◌, ◌⊎◌, Result, Ok, Err}
use Rattle.asn1_core.specs.Octets.{Octets}
use Rattle.asn1_core.specs.declared.codec.Codec.{Codec}
use Rattle.asn1_core.specs.declared.error.DecodeError.{DecodeError}
use Rattle.asn1_core.specs.declared.error.EncodeError.{EncodeError}
use Rattle.asn1_core.specs.declared.error.DecodeErrorKind.TheVariants as decode
use Rattle.asn1_core.specs.declared.error.EncodeErrorKind.TheVariants as encode
use Rattle.asn1_core.specs.declared.codec.Codec.TheVariants.{Oer, Coer}
use Rattle.oer_spec.specs.Encoding.{IsTree, IsEncodable, IsEncoding, canonical_octets, levels}
use Rattle.oer_spec.specs.Failures.{Fails}
use Rattle.oer_spec.specs.Mode.{OwnSized, mode_of}
use Rattle.oer_spec.specs.Same.{Same}
use Rattle.oer_spec.specs.Tree.{Tree}
use Rattle.oer_spec.specs.Versions.{Drops}
use Rattle.oer_read.specs.State.{State, closed}
use Rattle.std.specs.Borrow.{Bor}
use Rattle.std.specs.Prelude.{Vec}
use Rattle.std.specs.declared.alloc.Global.{Global}

-- a new decoder
abbrev pub started : Codec → ℕ → Octets → State
started m d input = record { input = input; codec = m; levels = d; frame = closed }

-- canonical reading takes a newer sender's octets where the pair is settled
abbrev pub is_settled : Codec → Bool
is_settled Oer = false
is_settled Coer = true

module _ {A : Type 0} (tree : A → Tree) (IsValue : A → Type 0) where
  -- an encoding of w's tree begins the input, and r follows
  pub record Begins (m : Codec) (d : ℕ) (input : Octets) (w : A) (o r : Octets) : Type 0 where
    pub value : IsValue w
    pub split : input ≡ o ++ r
    pub spells : IsEncoding (mode_of m) d o (tree w)

  -- The value was read: an encoding of its tree begins the input and was consumed.
  pub record Decoded (m : Codec) (d : ℕ) (input : Octets) (v : A) (rest : Octets) : Type 0 where
    pub taken : Octets
    pub begins : Begins m d input v taken rest
    -- every encoding of a value that begins the input is that one, and its tree is same
    pub only : (w : A) (o r : Octets) → Begins m d input w o r → (o ≡ taken) × (r ≡ rest) × Same (tree v) (tree w)
    -- canonical octets with bitmaps of the own size are those that are written of the tree
    pub own_sized : IsEncoding OwnSized d taken (tree v) → taken ≡ canonical_octets (tree v)
    -- such octets of an equal tree are equal octets
    pub own_sized_once : (w : A) (e : ℕ) (o : Octets) → IsValue w → Same (tree v) (tree w) → IsEncoding OwnSized d taken (tree v) → IsEncoding OwnSized e o (tree w) → o ≡ taken
    -- what a newer sender wrote was read as the value less the additions that the type doesn't know
    pub newer_sender : (n : Tree) (w : A) (o r : Octets) → IsTree n → IsValue w → Drops (is_settled m) n (tree w) → input ≡ o ++ r → IsEncoding (mode_of m) d o n → (o ≡ taken) × (r ≡ rest) × Same (tree v) (tree w)
    -- what was written of a value within the levels is read as that value
    pub round_trip : (w : A) (r : Octets) → IsValue w → IsEncodable (tree w) → levels (tree w) ≤ d → input ≡ canonical_octets (tree w) ++ r → (taken ≡ canonical_octets (tree w)) × (rest ≡ r) × Same (tree v) (tree w)

  -- No encoding of a value begins the input; nor do octets that a newer sender wrote of a value of the type, nor such as
  -- are written of one within the levels.
  pub record HasNone (m : Codec) (d : ℕ) (input : Octets) : Type 0 where
    pub none : (w : A) (o r : Octets) → Begins m d input w o r → ⊥
    pub newer_sender : (n : Tree) (w : A) (o r : Octets) → IsTree n → IsValue w → Drops (is_settled m) n (tree w) → input ≡ o ++ r → IsEncoding (mode_of m) d o n → ⊥
    pub written : (w : A) (r : Octets) → IsValue w → IsEncodable (tree w) → levels (tree w) ≤ d → input ≡ canonical_octets (tree w) ++ r → ⊥

  -- The canonical octets of a tree that can be written, of a value that the type admits.
  pub record Encoded (v : A) (octets : Octets) : Type 0 where
    pub value : IsValue v
    pub encodable : IsEncodable (tree v)
    pub octets_are : octets ≡ canonical_octets (tree v)

  -- The error names canonical mode, in which all writing is; it is for want of memory, or of a kind whose condition the
  -- tree breaks.
  pub record NotWritten (v : A) (x : EncodeError) : Type 0 where
    pub mode : x.codec ≡ Coer
    pub reason : (x.kind ≡ encode.OutOfMemory) ⊎ Fails (tree v) x.kind

  -- The error names the mode read in and, want of memory aside, the input begins with no encoding of a value.
  pub record NotRead (m : Codec) (d : ℕ) (input : Octets) (e : DecodeError) : Type 0 where
    pub mode : e.codec ≡ m
    pub none : (e.kind ≡ decode.OutOfMemory → ⊥) → HasNone m d input

  -- What the type says of its answers beside the law (`Answered`) holds of a decoder of that input: a leaf's whole clause,
  -- so which refusal it is, and whether memory may be wanted.
  abbrev pub Says : (State → Result A DecodeError → State → Type 0) → Codec → ℕ → Octets → Result (A × Bor Octets) DecodeError → Type 0
  Says Answered m d input (Ok read) = Answered (started m d input) (Ok read.0) (started m d read.1.now)
  Says Answered m d input (Err e) = Answered (started m d input) (Err e) (started m d input)

  -- the same, where the octets behind the encoding aren't answered: of those that `Decoded` speaks of
  abbrev pub SaysAlone : (State → Result A DecodeError → State → Type 0) → Codec → ℕ → Octets → Result A DecodeError → Type 0
  SaysAlone Answered m d input (Ok v) = (rest : Octets) × Decoded m d input v rest × Answered (started m d input) (Ok v) (started m d rest)
  SaysAlone Answered m d input (Err e) = Answered (started m d input) (Err e) (started m d input)

  -- Writing answers exactly where the tree can be written.
  abbrev pub IsWritten : A → Result (Vec ℕ Global) EncodeError → Type 0
  IsWritten v (Ok octets) = Encoded v octets.items
  IsWritten v (Err x) = NotWritten v x

  -- Reading answers a value exactly where the input begins with an encoding of one, and refuses exactly where it
  -- doesn't, want of memory aside.
  abbrev pub IsRead : Codec → ℕ → Octets → Result (A × Bor Octets) DecodeError → Type 0
  IsRead m d input (Ok read) = Decoded m d input read.0 read.1.now
  IsRead m d input (Err e) = NotRead m d input e

  -- the same, where the octets behind the encoding aren't answered
  abbrev pub IsReadAlone : Codec → ℕ → Octets → Result A DecodeError → Type 0
  IsReadAlone m d input (Ok v) = (rest : Octets) × Decoded m d input v rest
  IsReadAlone m d input (Err e) = NotRead m d input e

  -- Encoded behind what the buffer holds; after a refusal the buffer is as before.
  abbrev pub IsAppended : A → Octets → Result (Unit {0}) EncodeError → Octets → Type 0
  IsAppended v old (Ok u) new = (octets : Octets) × (new ≡ old ++ octets) × Encoded v octets
  IsAppended v old (Err x) new = (new ≡ old) × NotWritten v x
