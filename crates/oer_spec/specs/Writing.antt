-- What writers' contracts say: which octets stand at the end, and why a value was refused.
use Rattle.std.specs.Prelude.{◌≡◌, ℕ, ◌+◌, ◌/◌, ◌%◌, false, [], ◌∷◌, ◌++◌, map, ◌⊎◌, Some, Result, MatchResult}
use Rattle.std.specs.Int.Digits.{digits_of}
use Rattle.asn1_core.specs.Octets.{Octets}
use Rattle.asn1_core.specs.declared.error.EncodeErrorKind.{EncodeErrorKind}
use Rattle.asn1_core.specs.declared.error.EncodeErrorKind.TheVariants.{OutOfMemory}
use Rattle.oer_spec.specs.Failures.{first_failure}
use Rattle.oer_spec.specs.Leaves.{Failure, leaf_octets, leaf_fails}
use Rattle.oer_spec.specs.Tree.{Leaf}

-- the octets of before, and perhaps more
abbrev pub BeginsWith : Octets → Octets → Type 0
BeginsWith old new = (more : Octets) × (new ≡ old ++ more)

-- A part: at Ok its octets stand at the end; at Err memory was refused, and the octets of before are still there.
abbrev pub AppendsOrMemory : {T : Type 0} → Result T EncodeErrorKind → Octets → Octets → Octets → Type 0
AppendsOrMemory result octets old new = MatchResult result (λ _. new ≡ old ++ octets) (λ e. (e ≡ OutOfMemory) × BeginsWith old new)

-- A leaf: at Ok nothing fails, and the canonical octets stand at the end; at Err memory was refused, or the kind is that
-- of the leaf's first failure, and the octets of before are still there.
abbrev pub AppendsLeaf : {T : Type 0} → Result T EncodeErrorKind → Leaf → Octets → Octets → Type 0
AppendsLeaf result leaf old new =
    MatchResult result
    (λ _. ((k : Failure) → leaf_fails leaf k ≡ false) × (new ≡ old ++ leaf_octets leaf))
    (λ e. ((e ≡ OutOfMemory) ⊎ (first_failure leaf ≡ Some e)) × BeginsWith old new)

-- a number in groups of seven bits, highest first: the top bit is set on all but the last
abbrev pub group_octets : ℕ → Octets
group_octets n = map (λ d. d + 128) (digits_of 128 (n / 128)) ++ (n % 128 ∷ [])
