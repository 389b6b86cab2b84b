-- The elements of an unordered list, each written on its own.
use Rattle.std.specs.Prelude.{◌≡◌, ℕ, ◌+◌, ◌<◌, true, false, cond, List, [], ◌∷◌, ◌++◌, ◌⊎◌, map, take, drop}
use Rattle.std.specs.Borrow.{Bor}
use Rattle.asn1_core.specs.declared.error.EncodeErrorKind.{EncodeErrorKind}
use Rattle.asn1_core.specs.declared.error.EncodeErrorKind.TheVariants.{OutOfMemory, TooManyEmptyElements}
use Rattle.oer_spec.specs.Failures.{Fails}
use Rattle.oer_write.specs.Lists.{is_nil}
use Rattle.asn1_core.specs.Octets.{Octets}
use Rattle.oer_spec.specs.Encoding.{IsEncodable, canonical_octets, empties}
use Rattle.oer_spec.specs.Orders.{Reorders}
use Rattle.oer_spec.specs.Spelled.{EachValue, list_of}
use Rattle.oer_spec.specs.Tree.{Tree}

abbrev pub octets_in : Bor Octets → Octets
octets_in v = v.now

-- octets one behind the other, cut by how many each has
abbrev pub parts : List ℕ → Octets → List Octets
parts [] o = []
parts (n ∷ ns) o = take n o ∷ parts ns (drop n o)

-- these elements were written, in their order, so many of them without octets
pub record Gathered {E : Type 0} (tree : E → Tree) (IsValue : E → Type 0) (xs : List E) (contents : List Octets) (count : ℕ) : Type 0 where
  pub octets : contents ≡ map (λ x. canonical_octets (tree x)) xs
  pub encodable : EachValue (λ x. IsEncodable (tree x)) xs
  pub values : EachValue IsValue xs
  pub counted : count ≡ empties contents
  pub few : count < 65537

-- one more element was written, with the count of those without octets before and after it
pub record OneMore {E : Type 0} (tree : E → Tree) (IsValue : E → Type 0) (x : E) (old new : List Octets) (count next : ℕ) : Type 0 where
  pub octets : new ≡ old ++ canonical_octets (tree x) ∷ []
  pub encodable : IsEncodable (tree x)
  pub value : IsValue x
  pub counted : next ≡ count + cond (is_nil (canonical_octets (tree x))) 1 0
  pub few : next < 65537

-- why one more element is refused
abbrev pub OneRefused : Tree → ℕ → EncodeErrorKind → Type 0
OneRefused t count k = (k ≡ OutOfMemory) ⊎ (Fails t k ⊎ ((k ≡ TooManyEmptyElements) × IsEncodable t × (is_nil (canonical_octets t) ≡ true) × (count ≡ 65536)))

-- An unordered list has the same octets in whatever order its elements stand.
abbrev pub IsSameInAnyWalk : {E : Type 0} → (E → Tree) → Type 0
IsSameInAnyWalk {E} tree = (xs ys : List E) → Reorders xs ys → canonical_octets (list_of false tree ys) ≡ canonical_octets (list_of false tree xs)
