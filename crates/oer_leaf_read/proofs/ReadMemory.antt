-- Readers that ask for memory.
use Rattle.std.proofs.Common.{◌≡◌, ℕ, get_or, Result, Ok, Err, inl, inr, Fits, w8}
use Rattle.asn1_core.specs.Octets.{Octets}
use Rattle.asn1_core.specs.declared.error.DecodeErrorKind.{DecodeErrorKind}
use Rattle.oer_spec.specs.Reading.{seen, ReadsFront}
use Rattle.oer_leaf_read.specs.ReadingMemory.{GivesOrMemory}
use Rattle.oer_spec.proofs.Steps.{Reads, front_of}

-- at the end of a function that returns what another did
pub front_or_memory : {V X : Type 0} {read : Octets → Result (V × Octets) DecodeErrorKind} {Spells : Octets → V → Type 0} → Reads read Spells → (view : X → V × Octets) (input : Octets) (r : Result X DecodeErrorKind) → ((k : ℕ) → Fits w8 (get_or input k 0))
    → GivesOrMemory view r (read input) → ReadsFront Spells input (seen view r)
front_or_memory reads view input (Ok x) f e = front_of reads view input (Ok x) f e
front_or_memory reads view input (Err d) f (inl memory) = λ other. absurd (other memory)
front_or_memory reads view input (Err d) f (inr e) = front_of reads view input (Err d) f e
