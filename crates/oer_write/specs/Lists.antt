-- What a list asks of the closure that writes its elements, and what it does with what that wrote.
use Rattle.std.specs.Prelude.{◌≡◌, ℕ, ◌+◌, ◌^◌, ◌<◌, Bool, true, false, cond, List, [], ◌∷◌, ◌++◌, ◌⊎◌, ⊤, length, OnOk, Result, Ok, Err, Contains}
use Rattle.std.specs.Borrow.{Bor, MutBor}
use Rattle.std.specs.Fn.{Shared}
use Rattle.asn1_core.specs.Octets.{Octets, joined}
use Rattle.asn1_core.specs.declared.codec.Codec.TheVariants.{Coer}
use Rattle.asn1_core.specs.declared.error.EncodeError.{EncodeError}
use Rattle.asn1_core.specs.declared.error.EncodeErrorKind.TheVariants.{TooManyEmptyElements}
use Rattle.oer_spec.specs.Encoding.{IsEncodable, canonical_octets, canonical_elements, empties}
use Rattle.oer_spec.specs.Failures.{Fails}
use Rattle.oer_spec.specs.Lengths.{quantity_octets}
use Rattle.oer_spec.specs.Spelled.{EachValue, trees_of}
use Rattle.oer_spec.specs.Tree.{Tree}
use Rattle.oer_write.specs.Scopes.{Runs}
use Rattle.oer_write.specs.Written.{Written, append, Keeps, WritesTree, WantsMemory}

-- the closure may be called at this element, on an encoder with no scope open
abbrev pub TakesElement : {F E : Type 0} → Shared F (MutBor Written × (Bor E × Unit {0})) (Result (Unit {0}) EncodeError × (MutBor Written × Unit {0})) → F → E → Type 0
TakesElement {F} {E} g f x = (shown : MutBor Written) (element : Bor E) → shown.now.frame.is_open ≡ false → element.now ≡ x → g.pre f (shown, (element, tt))

-- what the closure may do at an element
pub record PromiseAt {F E : Type 0} (g : Shared F (MutBor Written × (Bor E × Unit {0})) (Result (Unit {0}) EncodeError × (MutBor Written × Unit {0}))) (f : F) (x : E) (e : Written) (r : Result (Unit {0}) EncodeError) (e' : Written) : Type 0 where
  pub shown : MutBor Written
  pub element : Bor E
  pub left : MutBor Written
  pub shows : shown.now ≡ e
  pub is : element.now ≡ x
  pub met : g.post f (shown, (element, tt)) (r, (left, tt))
  pub leaves : left.now ≡ e'

-- what a type does at an element by the law of writing
abbrev pub ByLaw : {E : Type 0} → (E → Tree) → (E → Type 0) → E → Runs
ByLaw tree is_value x e r e' = WritesTree (tree x) e r e' × OnOk r (is_value x)

-- the octets of an element: what the closure appended in some encoder with no scope open
pub record WroteElement (runs : Runs) (octets : Octets) : Type 0 where
  pub entered : Written
  pub left : Written
  pub opened : entered.frame.is_open ≡ false
  pub ran : runs entered (Ok tt) left
  pub wrote : left.octets ≡ entered.octets ++ octets

-- the octets of each element in turn
abbrev pub WroteEach : {E : Type 0} → (E → Runs) → List E → List Octets → Type 0
WroteEach runs [] [] = ⊤
WroteEach runs [] (o ∷ os) = ⊥
WroteEach runs (x ∷ xs) [] = ⊥
WroteEach runs (x ∷ xs) (o ∷ os) = WroteElement (runs x) o × WroteEach runs xs os

-- whatever encoder with no scope open the closure is lent, the octets before and the open scopes stay
abbrev pub IsOrderlyAt : {E : Type 0} → (E → Runs) → List E → Type 0
IsOrderlyAt {E} runs xs = (x : E) (e e' : Written) (r : Result (Unit {0}) EncodeError) → Contains xs x → e.frame.is_open ≡ false → runs x e r e' → Keeps e e'

abbrev pub IsOrderlyHere : Runs → Type 0
IsOrderlyHere runs = (e e' : Written) (r : Result (Unit {0}) EncodeError) → e.frame.is_open ≡ false → runs e r e' → Keeps e e'

-- a list was written: a quantity, and the elements' octets (X.696, 17)
pub record ListDone {E : Type 0} (runs : E → Runs) (xs : List E) (old new : Written) : Type 0 where
  pub contents : List Octets
  pub each : WroteEach runs xs contents
  pub few : empties contents < 65537
  pub counted : length contents < 2 ^ 64
  pub appended : new ≡ append (quantity_octets (length contents) ++ joined contents) old

-- the elements of the front were written, at most 65,536 of them without octets, and the closure refused the next
pub record ElementRefused {E : Type 0} (runs : E → Runs) (xs : List E) (x : EncodeError) : Type 0 where
  pub front : List E
  pub element : E
  pub more : List E
  pub split : xs ≡ front ++ element ∷ more
  pub contents : List Octets
  pub each : WroteEach runs front contents
  pub few : empties contents < 65537
  pub entered : Written
  pub left : Written
  pub opened : entered.frame.is_open ≡ false
  pub ran : runs element entered (Err x) left

-- the elements of the front were written, 65,536 of them without octets, and so was the next
pub record TooManyEmpty {E : Type 0} (runs : E → Runs) (xs : List E) (x : EncodeError) : Type 0 where
  pub refusal : x ≡ record { kind = TooManyEmptyElements; codec = Coer }
  pub front : List E
  pub element : E
  pub more : List E
  pub split : xs ≡ front ++ element ∷ more
  pub contents : List Octets
  pub each : WroteEach runs front contents
  pub full : empties contents ≡ 65536
  pub wrote : WroteElement (runs element) []

abbrev pub ElementsBroken : {E : Type 0} → (E → Runs) → List E → EncodeError → Type 0
ElementsBroken runs xs x = WantsMemory x ⊎ (ElementRefused runs xs x ⊎ TooManyEmpty runs xs x)

-- The list refuses what its closure refused, the 65,537th element without octets, or for want of memory.
pub record ListBroken {E : Type 0} (runs : E → Runs) (xs : List E) (x : EncodeError) (old new : Written) : Type 0 where
  pub keeps : Keeps old new
  pub reason : ElementsBroken runs xs x

-- whatever encoder with no scope open the closure is lent, it writes the element by its tree
abbrev pub IsKnownToWriteAt : {E : Type 0} → (E → Runs) → List E → (E → Tree) → Type 0
IsKnownToWriteAt {E} runs xs tree = (x : E) (e e' : Written) (r : Result (Unit {0}) EncodeError) → Contains xs x → e.frame.is_open ≡ false → runs x e r e' → WritesTree (tree x) e r e'

-- The first element that is refused: those of the front can be written, at most 65,536 of them without octets; the next
-- breaks the condition that the kind names, or has no octets as 65,536 of the front.
pub record FirstRefused {E : Type 0} (tree : E → Tree) (xs : List E) (x : EncodeError) : Type 0 where
  pub front : List E
  pub element : E
  pub more : List E
  pub split : xs ≡ front ++ element ∷ more
  pub encodable : EachValue (λ v. IsEncodable (tree v)) front
  pub few : empties (canonical_elements (trees_of tree front)) < 65537
  pub reason : Fails (tree element) x.kind
      ⊎ ((x.kind ≡ TooManyEmptyElements) × IsEncodable (tree element) × (canonical_octets (tree element) ≡ []) × (empties (canonical_elements (trees_of tree front)) ≡ 65536))

-- a list refuses its first element that is refused, or for want of memory
abbrev pub IsByFirst : {E : Type 0} → (E → Tree) → List E → EncodeError → Type 0
IsByFirst tree xs x = WantsMemory x ⊎ FirstRefused tree xs x

-- ---- within the loop

abbrev pub is_nil : Octets → Bool
is_nil [] = true
is_nil (x ∷ o) = false

-- an element was appended, with the count of those without octets before and after it
pub record ElementDone (runs : Runs) (old new : Octets) (count next : ℕ) : Type 0 where
  pub content : Octets
  pub wrote : WroteElement runs content
  pub appended : new ≡ old ++ content
  pub counted : next ≡ count + cond (is_nil content) 1 0
  pub few : next < 65537

-- an element without octets after 65,536 such
pub record ElementTooMany (runs : Runs) (count : ℕ) (x : EncodeError) : Type 0 where
  pub refusal : x ≡ record { kind = TooManyEmptyElements; codec = Coer }
  pub content : Octets
  pub wrote : WroteElement runs content
  pub empty : is_nil content ≡ true
  pub full : count ≡ 65536

-- the octets of the elements were appended
pub record ElementsDone {E : Type 0} (runs : E → Runs) (xs : List E) (old new : Octets) : Type 0 where
  pub contents : List Octets
  pub each : WroteEach runs xs contents
  pub few : empties contents < 65537
  pub appended : new ≡ old ++ joined contents

-- these elements were appended, so many of them without octets
pub record AppendedSoFar {E : Type 0} (runs : E → Runs) (xs : List E) (old new : Octets) (count : ℕ) : Type 0 where
  pub contents : List Octets
  pub each : WroteEach runs xs contents
  pub few : count < 65537
  pub counted : count ≡ empties contents
  pub appended : new ≡ old ++ joined contents
