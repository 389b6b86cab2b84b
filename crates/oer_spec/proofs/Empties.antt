-- How many elements have no octets: as many, whatever their order.
use Rattle.std.proofs.Common.{◌≡◌, suc, List, [], ◌∷◌, inl, inr, sym, ap, ap₂, ◌∙◌}
use Rattle.asn1_core.specs.Octets.{Octets}
use Rattle.oer_spec.specs.Encoding.{empties}
use Rattle.oer_spec.specs.Orders.{Stands, Reorders}

taken_empties : (os : List Octets) (o : Octets) (rest : List Octets) → Stands os o rest → empties os ≡ empties (o ∷ rest)
taken_empties [] o rest s = absurd s
taken_empties (p ∷ os) o rest (inl (e, f)) = ap₂ (λ (z : Octets) (zs : List Octets). empties (z ∷ zs)) e f
taken_empties ([] ∷ os) [] rest (inr (rs, e, s)) = ap suc (taken_empties os [] rs s) ∙ ap (λ (z : List Octets). empties ([] ∷ z)) (sym e)
taken_empties ([] ∷ os) (y ∷ o) rest (inr (rs, e, s)) = ap suc (taken_empties os (y ∷ o) rs s) ∙ ap (λ (z : List Octets). empties z) (sym e)
taken_empties ((x ∷ p) ∷ os) [] rest (inr (rs, e, s)) = taken_empties os [] rs s ∙ ap (λ (z : List Octets). empties ([] ∷ z)) (sym e)
taken_empties ((x ∷ p) ∷ os) (y ∷ o) rest (inr (rs, e, s)) = taken_empties os (y ∷ o) rs s ∙ ap (λ (z : List Octets). empties z) (sym e)

same_more : (o : Octets) (ps qs : List Octets) → empties ps ≡ empties qs → empties (o ∷ ps) ≡ empties (o ∷ qs)
same_more [] ps qs e = ap suc e
same_more (x ∷ o) ps qs e = e

pub reordered_empties : (read os : List Octets) → Reorders read os → empties read ≡ empties os
reordered_empties [] os r = ap empties (sym r)
reordered_empties (o ∷ read) os (rest, s, r) = same_more o read rest (reordered_empties read rest r) ∙ sym (taken_empties os o rest s)
