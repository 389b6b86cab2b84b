-- What the calls over a caller's octets promise.
use Rattle.std.specs.Prelude.{◌≡◌, ℕ, ◌+◌, ◌<◌, ◌++◌, Bool, true, false, length, take, drop, Result, Ok, Err}
use Rattle.asn1_core.specs.Octets.{Octets}
use Rattle.asn1_core.specs.declared.codec.Codec.{Codec}
use Rattle.asn1_core.specs.declared.error.DecodeError.{DecodeError}
use Rattle.asn1_core.specs.declared.error.EncodeError.{EncodeError}
use Rattle.oer_read.specs.State.{State}
use Rattle.oer_spec.specs.Encoding.{canonical_octets}
use Rattle.oer_spec.specs.Tree.{Tree}
use Rattle.rasn_oer.specs.Conversions.{IsAsNewer, IsAsOlder, ReadAsNewer, ReadAsOlder}
use Rattle.rasn_oer.specs.Headline.{started, Decoded, Encoded, NotRead, NotWritten, SaysAlone}
use Rattle.rasn_oer.specs.declared.codec_error.CodecError.{CodecError}
use Rattle.rasn_oer.specs.declared.codec_error.CodecError.TheVariants.{Decode, Encode}
use Rattle.oer_calls.specs.declared.calls.Checked.{Checked}
use Rattle.oer_calls.specs.declared.calls.Recoded.{Recoded}
use Rattle.oer_calls.specs.declared.calls.Outcome.{Outcome}
use Rattle.oer_calls.specs.declared.calls.Outcome.TheVariants.{Done, NoRoom, Refused, NotConverted}

-- The octets stand at the front of what the caller owns, and what is behind them is as before; where there is no room for
-- them all is as before.
abbrev pub IsPlaced : Octets → ℕ → Octets → Outcome → Octets → Type 0
IsPlaced octets consumed old (Done c w) new = (c ≡ consumed) × (w ≡ length octets) × (new ≡ octets ++ drop (length octets) old)
IsPlaced octets consumed old (NoRoom c n) new = (c ≡ consumed) × (n ≡ length octets) × (length old < length octets) × (new ≡ old)
IsPlaced octets consumed old (Refused e) new = ⊥
IsPlaced octets consumed old (NotConverted e) new = ⊥

-- What is promised where the type of the octets isn't known: those that the outcome counts stand at the front of what the
-- caller owns, and what is behind them is as before; else all is as before.
abbrev pub IsFramed : Octets → Outcome → Octets → Type 0
IsFramed old (Done c w) new = (octets : Octets) × IsPlaced octets c old (Done c w) new
IsFramed old (NoRoom c n) new = (octets : Octets) × IsPlaced octets c old (NoRoom c n) new
IsFramed old (Refused e) new = new ≡ old
IsFramed old (NotConverted e) new = new ≡ old

-- whether so many octets at the front of an input are the canonical ones
abbrev pub IsVerdict : Bool → Octets → Octets → Type 0
IsVerdict true taken canonical = taken ≡ canonical
IsVerdict false taken canonical = taken ≡ canonical → ⊥

abbrev pub IsCompared : Octets → ℕ → Octets → Checked → Type 0
IsCompared canonical consumed input k = (k.consumed ≡ consumed) × (k.canonical ≡ length canonical) × IsVerdict k.is_canonical (take consumed input) canonical

-- so many octets that aren't the canonical ones
abbrev pub other_than : Octets → ℕ → Checked
other_than canonical consumed = record { consumed = consumed; canonical = length canonical; is_canonical = false }

module _ {A : Type 0} (tree : A → Tree) (IsValue : A → Type 0) (Answered : State → Result A DecodeError → State → Type 0) where
  -- A value was read of the front of the input, of so many octets, and these are its canonical ones.
  pub record CanonicalOf (m : Codec) (d : ℕ) (input octets : Octets) (consumed : ℕ) : Type 0 where
    pub value : A
    pub rest : Octets
    pub read : Decoded tree IsValue m d input value rest
    -- what the type says of reading it, beside the law
    pub said : Answered (started m d input) (Ok value) (started m d rest)
    pub written : Encoded tree IsValue value octets
    pub counted : length input ≡ consumed + length rest

  -- No value is read of the input, by an error of which the type says what it says, or what is read can't be written; want of
  -- memory aside.
  abbrev pub IsRefused : Codec → ℕ → Octets → CodecError → Type 0
  IsRefused m d input (Decode e) = NotRead tree IsValue m d input e × Answered (started m d input) (Err e) (started m d input)
  IsRefused m d input (Encode x) = (v : A) × (rest : Octets) × Decoded tree IsValue m d input v rest × Answered (started m d input) (Ok v) (started m d rest) × NotWritten tree IsValue v x

  abbrev pub IsRecoded : Codec → ℕ → Octets → Result Recoded CodecError → Type 0
  IsRecoded m d input (Ok r) = CanonicalOf m d input r.octets.items r.consumed
  IsRecoded m d input (Err e) = IsRefused m d input e

  -- The canonical octets of what was read are placed; refused as `IsRefused` says, the caller's octets are as before.
  abbrev pub IsCanonicalised : Codec → ℕ → Octets → Octets → Outcome → Octets → Type 0
  IsCanonicalised m d input old (Refused e) new = (new ≡ old) × IsRefused m d input e
  IsCanonicalised m d input old (NotConverted e) new = ⊥
  IsCanonicalised m d input old (Done c w) new = (octets : Octets) × CanonicalOf m d input octets c × IsPlaced octets c old (Done c w) new
  IsCanonicalised m d input old (NoRoom c n) new = (octets : Octets) × CanonicalOf m d input octets c × IsPlaced octets c old (NoRoom c n) new

  -- The octets that were taken are judged beside the canonical ones of what was read.
  abbrev pub IsChecked : Codec → ℕ → Octets → Result Checked CodecError → Type 0
  IsChecked m d input (Ok k) = (octets : Octets) × (r : CanonicalOf m d input octets k.consumed) × (k.canonical ≡ length octets) × IsVerdict k.is_canonical r.read.taken octets
  IsChecked m d input (Err e) = IsRefused m d input e

module _ {A B : Type 0} (sent : A → Tree) (IsSent : A → Type 0) (SentAnswered : State → Result A DecodeError → State → Type 0) (wanted : B → Tree) (IsWanted : B → Type 0) (WantedAnswered : State → Result B DecodeError → State → Type 0) where
  -- A value was read of the front of the input, of so many octets; the other is what is read of its canonical octets, as an
  -- older and as a newer version; and these are the canonical octets of the other.
  pub record ConvertedTo (m : Codec) (d : ℕ) (input octets : Octets) (consumed : ℕ) : Type 0 where
    pub value : A
    pub rest : Octets
    pub other : B
    pub read : Decoded sent IsSent m d input value rest
    -- what the types say of both readings, beside the law
    pub said : SentAnswered (started m d input) (Ok value) (started m d rest)
    pub said_of_other : SaysAlone wanted IsWanted WantedAnswered m d (canonical_octets (sent value)) (Ok other)
    pub counted : length input ≡ consumed + length rest
    pub as_older : ReadAsOlder sent IsSent wanted IsWanted m d value other
    pub as_newer : ReadAsNewer sent IsSent wanted IsWanted m d value other
    pub written : Encoded wanted IsWanted other octets

  -- A value was read of the front of the input. No value of the other version is read of its canonical octets, by an error of
  -- which that type says what it says; or
  pub record HasNoOther (m : Codec) (d : ℕ) (input : Octets) (e : DecodeError) : Type 0 where
    pub value : A
    pub rest : Octets
    pub read : Decoded sent IsSent m d input value rest
    pub said : SentAnswered (started m d input) (Ok value) (started m d rest)
    pub said_of_other : SaysAlone wanted IsWanted WantedAnswered m d (canonical_octets (sent value)) (Err e)
    pub as_older : IsAsOlder sent IsSent wanted IsWanted m d value (Err (Decode e))
    pub as_newer : IsAsNewer sent IsSent wanted IsWanted m d value (Err (Decode e))

  -- what is read can't be written as one of that version; want of memory aside.
  pub record HasUnwrittenOther (m : Codec) (d : ℕ) (input : Octets) (x : EncodeError) : Type 0 where
    pub value : A
    pub rest : Octets
    pub other : B
    pub read : Decoded sent IsSent m d input value rest
    pub said : SentAnswered (started m d input) (Ok value) (started m d rest)
    pub said_of_other : SaysAlone wanted IsWanted WantedAnswered m d (canonical_octets (sent value)) (Ok other)
    pub as_older : ReadAsOlder sent IsSent wanted IsWanted m d value other
    pub as_newer : ReadAsNewer sent IsSent wanted IsWanted m d value other
    pub unwritten : NotWritten wanted IsWanted other x

  abbrev pub IsNotConverted : Codec → ℕ → Octets → CodecError → Type 0
  IsNotConverted m d input (Decode e) = HasNoOther m d input e
  IsNotConverted m d input (Encode x) = HasUnwrittenOther m d input x

  abbrev pub IsConverted : Codec → ℕ → Octets → Octets → Outcome → Octets → Type 0
  IsConverted m d input old (Refused e) new = (new ≡ old) × IsRefused sent IsSent SentAnswered m d input e
  IsConverted m d input old (NotConverted e) new = (new ≡ old) × IsNotConverted m d input e
  IsConverted m d input old (Done c w) new = (octets : Octets) × ConvertedTo m d input octets c × IsPlaced octets c old (Done c w) new
  IsConverted m d input old (NoRoom c n) new = (octets : Octets) × ConvertedTo m d input octets c × IsPlaced octets c old (NoRoom c n) new
