-- What the calls promise that read and write: into canonical octets, from a newer version of a type into an older one, and
-- from an older one into a newer one.
use Rattle.std.specs.Prelude.{◌≡◌, ℕ, ◌≤◌, ◌++◌, Result, Ok, Err, Vec, ⊤}
use Rattle.std.specs.Borrow.{Bor}
use Rattle.std.specs.declared.alloc.Global.{Global}
use Rattle.asn1_core.specs.Octets.{Octets}
use Rattle.asn1_core.specs.declared.codec.Codec.{Codec}
use Rattle.asn1_core.specs.declared.codec.Codec.TheVariants.{Oer, Coer}
use Rattle.asn1_core.specs.declared.error.DecodeError.{DecodeError}
use Rattle.asn1_core.specs.declared.error.DecodeErrorKind.TheVariants as decode
use Rattle.oer_spec.specs.Encoding.{IsEncodable, canonical_octets, levels}
use Rattle.oer_spec.specs.Same.{Same}
use Rattle.oer_spec.specs.Tree.{Tree}
use Rattle.oer_spec.specs.Versions.{Drops, Lacks}
use Rattle.oer_read.specs.State.{State}
use Rattle.rasn_oer.specs.Headline.{is_settled, Begins, Decoded, HasNone, NotRead, NotWritten, Encoded, Says, SaysAlone}
use Rattle.rasn_oer.specs.declared.codec_error.CodecError.{CodecError}
use Rattle.rasn_oer.specs.declared.codec_error.CodecError.TheVariants.{Decode, Encode}

module _ {A : Type 0} (tree : A → Tree) (IsValue : A → Type 0) where
  -- The octets are the canonical ones of the value that is read leniently, and the rest is what is left behind it.
  pub record Canonicalised (d : ℕ) (input octets rest : Octets) : Type 0 where
    pub value : A
    pub read : Decoded tree IsValue Oer d input value rest
    pub written : Encoded tree IsValue value octets
    -- canonical reading takes them as an encoding of that value, whatever follows
    pub canonical : (r : Octets) → Begins tree IsValue Coer d (octets ++ r) value octets r
    -- to do it again changes nothing
    pub again : (w : A) (r o s : Octets) → Decoded tree IsValue Oer d (octets ++ r) w s → Encoded tree IsValue w o → (o ≡ octets) × (s ≡ r)
    -- what canonical reading takes is that value, with the same rest
    pub accepted : (w : A) (o r : Octets) → Begins tree IsValue Coer d input w o r → (r ≡ rest) × Same (tree value) (tree w)

  -- Refused only where no value is read leniently, or what is read can't be written; want of memory aside.
  abbrev pub IsCanonicalised : ℕ → Octets → Result (Vec ℕ Global × Bor Octets) CodecError → Type 0
  IsCanonicalised d input (Ok p) = Canonicalised d input p.0.items p.1.now
  IsCanonicalised d input (Err (Decode e)) = NotRead tree IsValue Oer d input e
  IsCanonicalised d input (Err (Encode x)) = (v : A) × (rest : Octets) × Decoded tree IsValue Oer d input v rest × NotWritten tree IsValue v x

  -- What the type says of the reading beside the law (`Answered`): of the value that was read, and of why none was.
  abbrev pub SaysCanonicalised : (State → Result A DecodeError → State → Type 0) → ℕ → Octets → Result (Vec ℕ Global × Bor Octets) CodecError → Type 0
  SaysCanonicalised Answered d input (Ok p) = (v : A) × Encoded tree IsValue v p.0.items × Says tree IsValue Answered Oer d input (Ok (v, p.1))
  SaysCanonicalised Answered d input (Err (Decode e)) = Says tree IsValue Answered Oer d input (Err e)
  SaysCanonicalised Answered d input (Err (Encode x)) = (v : A) × (rest : Bor Octets) × NotWritten tree IsValue v x × Says tree IsValue Answered Oer d input (Ok (v, rest))

  -- The same of a value that is read of the canonical octets of a tree.
  abbrev pub SaysConverted : (State → Result A DecodeError → State → Type 0) → Tree → Codec → ℕ → Result A CodecError → Type 0
  SaysConverted Answered t m d (Ok v) = SaysAlone tree IsValue Answered m d (canonical_octets t) (Ok v)
  SaysConverted Answered t m d (Err (Decode e)) = SaysAlone tree IsValue Answered m d (canonical_octets t) (Err e)
  SaysConverted Answered t m d (Err (Encode x)) = ⊤

module _ {A B : Type 0} (newer : A → Tree) (IsNewer : A → Type 0) (older : B → Tree) (IsOlder : B → Type 0) (m : Codec) (d : ℕ) (n : A) where
  -- The newer value can be written, and the older one is what is read of its canonical octets.
  pub record ReadAsOlder (v : B) : Type 0 where
    pub value : IsNewer n
    pub encodable : IsEncodable (newer n)
    pub rest : Octets
    pub read : Decoded older IsOlder m d (canonical_octets (newer n)) v rest
    -- the newer value less its later additions is that value
    pub same : (t : B) → IsOlder t → Drops (is_settled m) (newer n) (older t) → levels (newer n) ≤ d → Same (older v) (older t)

  -- No value of the older type is read of the newer one's canonical octets.
  pub record NoneIsOlder : Type 0 where
    pub value : IsNewer n
    pub encodable : IsEncodable (newer n)
    pub none : HasNone older IsOlder m d (canonical_octets (newer n))
    pub dropped : (t : B) → IsOlder t → Drops (is_settled m) (newer n) (older t) → levels (newer n) ≤ d → ⊥

  -- Refused only where the newer value can't be written, or no older one is read of its octets; want of memory aside.
  abbrev pub IsAsOlder : Result B CodecError → Type 0
  IsAsOlder (Ok v) = ReadAsOlder v
  IsAsOlder (Err (Decode e)) = (e.codec ≡ m) × ((e.kind ≡ decode.OutOfMemory → ⊥) → NoneIsOlder)
  IsAsOlder (Err (Encode x)) = NotWritten newer IsNewer n x

module _ {A B : Type 0} (older : A → Tree) (IsOlder : A → Type 0) (newer : B → Tree) (IsNewer : B → Type 0) (m : Codec) (d : ℕ) (t : A) where
  -- The older value can be written, and the newer one is what is read of its canonical octets.
  pub record ReadAsNewer (v : B) : Type 0 where
    pub value : IsOlder t
    pub encodable : IsEncodable (older t)
    pub rest : Octets
    pub read : Decoded newer IsNewer m d (canonical_octets (older t)) v rest
    -- a newer value that has what the older one has, and none of the later additions, is that value
    pub same : (n : B) → IsNewer n → IsEncodable (newer n) → Lacks (older t) (newer n) → levels (older t) ≤ d → Same (newer v) (newer n)

  -- No value of the newer type is read of the older one's canonical octets.
  pub record NoneIsNewer : Type 0 where
    pub value : IsOlder t
    pub encodable : IsEncodable (older t)
    pub none : HasNone newer IsNewer m d (canonical_octets (older t))
    pub lacking : (n : B) → IsNewer n → IsEncodable (newer n) → Lacks (older t) (newer n) → levels (older t) ≤ d → ⊥

  -- Refused only where the older value can't be written, or no newer one is read of its octets; want of memory aside.
  abbrev pub IsAsNewer : Result B CodecError → Type 0
  IsAsNewer (Ok v) = ReadAsNewer v
  IsAsNewer (Err (Decode e)) = (e.codec ≡ m) × ((e.kind ≡ decode.OutOfMemory → ⊥) → NoneIsNewer)
  IsAsNewer (Err (Encode x)) = NotWritten older IsOlder t x
