-- Why a string can't be written.
use Rattle.std.specs.Prelude.{◌≡◌, ℕ, ◌++◌, ◌⊎◌, true, false, cond, not, List, Option, Some, None, Result, MatchResult}
use Rattle.asn1_core.specs.Bounds.{Size, fixed_size, size_fits}
use Rattle.asn1_core.specs.Octets.{Octets}
use Rattle.asn1_core.specs.Texts.{Identifier}
use Rattle.asn1_core.specs.declared.error.EncodeErrorKind.{EncodeErrorKind}
use Rattle.asn1_core.specs.declared.error.EncodeErrorKind.TheVariants.{SizeConstraintNotSatisfied, InvalidObjectIdentifier, LengthExceedsPlatformSize, OutOfMemory}
use Rattle.asn1_strings.specs.Identifiers.{is_identifier, arcs_octets}
use Rattle.oer_spec.specs.Failures.{first_failure}
use Rattle.oer_spec.specs.Leaves.{Failure, leaf_octets, leaf_fails, string_too_long}
use Rattle.oer_spec.specs.Tree.{Leaf, Text, InOctets}
use Rattle.oer_spec.specs.Writing.{BeginsWith}

-- the first reason against a string of that size in so many octets: its size, then its length
abbrev pub string_failure : Size → ℕ → ℕ → Option EncodeErrorKind
string_failure s size count =
    cond (not (size_fits s size)) (Some (SizeConstraintNotSatisfied size)) (cond (string_too_long (fixed_size s) count) (Some LengthExceedsPlatformSize) None)

-- the tree of the identifier with these arcs
abbrev pub identifier_leaf : List ℕ → Leaf
identifier_leaf arcs = Text Identifier None (InOctets (arcs_octets arcs))

-- the first reason against an identifier: arcs that are none, then its length
abbrev pub identifier_failure : List ℕ → Option EncodeErrorKind
identifier_failure arcs = cond (is_identifier arcs) (first_failure (identifier_leaf arcs)) (Some InvalidObjectIdentifier)

-- As for every leaf (`AppendsLeaf`); at Ok the arcs are an identifier.
abbrev pub AppendsIdentifier : {T : Type 0} → Result T EncodeErrorKind → List ℕ → Octets → Octets → Type 0
AppendsIdentifier result arcs old new =
    MatchResult result
    (λ _. (is_identifier arcs ≡ true) × ((k : Failure) → leaf_fails (identifier_leaf arcs) k ≡ false) × (new ≡ old ++ leaf_octets (identifier_leaf arcs)))
    (λ e. ((e ≡ OutOfMemory) ⊎ (identifier_failure arcs ≡ Some e)) × BeginsWith old new)
