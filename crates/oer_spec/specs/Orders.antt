-- Lists in some order, and the order of octets.
use Rattle.std.specs.Prelude.{◌≡◌, Bool, true, false, cond, List, [], ◌∷◌, nat_lt, ◌==◌, ◌⊎◌, ⊤}
use Rattle.asn1_core.specs.Octets.{Octets}

-- x stands at some place of ys, and rest is ys less that place
abbrev pub Stands : {X : Type 0} → List X → X → List X → Type 0
Stands [] x rest = ⊥
Stands {X} (y ∷ ys) x rest = ((y ≡ x) × (ys ≡ rest)) ⊎ ((rs : List X) × (rest ≡ y ∷ rs) × Stands ys x rs)

-- q holds what p holds, in some order
abbrev pub Reorders : {X : Type 0} → List X → List X → Type 0
Reorders [] q = q ≡ []
Reorders {X} (x ∷ p) q = (rest : List X) × Stands q x rest × Reorders p rest

-- octet by octet, a front before what is longer
abbrev pub octets_le : Octets → Octets → Bool
octets_le [] p = true
octets_le (x ∷ o) [] = false
octets_le (x ∷ o) (y ∷ p) = cond (nat_lt x y) true (cond (x == y) (octets_le o p) false)

-- each is no more than the next
abbrev pub Ascends : List Octets → Type 0
Ascends [] = ⊤
Ascends (o ∷ []) = ⊤
Ascends (o ∷ p ∷ ps) = (octets_le o p ≡ true) × Ascends (p ∷ ps)
