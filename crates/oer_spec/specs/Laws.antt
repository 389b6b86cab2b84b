-- The laws of the definitions, for all octets, trees, levels and modes.
use Rattle.std.specs.Prelude.{◌≡◌, ◌≤◌, ℕ, [], ◌++◌, true, false}
use Rattle.asn1_core.specs.Octets.{Octets}
use Rattle.oer_spec.specs.Encoding.{IsTree, IsEncodable, IsEncoding, canonical_octets, levels}
use Rattle.oer_spec.specs.Mode.{Mode, Lenient, Canonical, OwnSized}
use Rattle.oer_spec.specs.Same.{Same, Alike}
use Rattle.oer_spec.specs.Tree.{Tree}
use Rattle.oer_spec.specs.Versions.{Drops, Lacks}

-- Encodings of alike trees in one mode, of which one is a front of the other, are equal and spell same trees.
abbrev pub Unambiguous : Type 0
Unambiguous =
    (m : Mode) (d e : ℕ) (o p more : Octets) (t u : Tree) → IsTree t → IsTree u → Alike t u → IsEncoding m d o t → IsEncoding m e p u
    → p ≡ o ++ more → (o ≡ p) × Same t u

-- An own-sized canonical encoding is a canonical one, and this a lenient one.
pub record IsWithin : Type 0 where
  pub own_sized : (d : ℕ) (o : Octets) (t : Tree) → IsTree t → IsEncoding OwnSized d o t → IsEncoding Canonical d o t
  pub canonical : (d : ℕ) (o : Octets) (t : Tree) → IsTree t → IsEncoding Canonical d o t → IsEncoding Lenient d o t

-- What a newer sender may write is read as the newer tree less its later additions; canonically where the pair is settled.
pub record SkipsAdditions : Type 0 where
  pub leniently : (d : ℕ) (o : Octets) (n t : Tree) → IsTree n → IsTree t → Drops false n t → IsEncoding Lenient d o n → IsEncoding Lenient d o t
  pub canonically : (d : ℕ) (o : Octets) (n t : Tree) → IsTree n → IsTree t → Drops true n t → IsEncoding Canonical d o n → IsEncoding Canonical d o t

-- An own-sized canonical encoding is the canonical octets; these are one where the tree can be written and the levels
-- suffice; same trees have the same; none is a proper front of that of an alike tree.
pub record IsCanonical : Type 0 where
  pub own_sized : (d : ℕ) (o : Octets) (t : Tree) → IsTree t → IsEncoding OwnSized d o t → o ≡ canonical_octets t
  pub written : (d : ℕ) (t : Tree) → IsTree t → IsEncodable t → levels t ≤ d → IsEncoding OwnSized d (canonical_octets t) t
  pub same : (t u : Tree) → IsTree t → IsTree u → Same t u → canonical_octets t ≡ canonical_octets u
  pub no_front : (t u : Tree) (more : Octets) → IsTree t → IsTree u → IsEncodable t → IsEncodable u → Alike t u → canonical_octets u ≡ canonical_octets t ++ more → more ≡ []

-- What is written of an older tree is a canonical encoding of the newer tree that lacks nothing else.
abbrev pub Lifts : Type 0
Lifts =
    (d : ℕ) (t n : Tree) → IsTree t → IsTree n → Lacks t n → IsEncodable t → IsEncodable n → levels t ≤ d
    → IsEncoding Canonical d (canonical_octets t) n
