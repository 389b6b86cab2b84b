-- Elements' octets one behind the other, cut by how many each has.
use Rattle.std.proofs.Common.{◌≡◌, ℕ, ◌+◌, ◌-◌, ◌<◌, ◌≤◌, ◌==◌, cond, List, [], ◌∷◌, ◌++◌, length, drop, ap, ap₂, ◌∙◌, arith, length-append, length-drop}
use Rattle.std.specs.Prelude.{sum}
use Rattle.std.proofs.lemmas.Bool.{eq-eqb, ne_eqb}
use Rattle.std.proofs.lemmas.List.Sums.{sum_by-cons, sum_by_push}
use Rattle.std.proofs.lemmas.List.{take_all, take-append-le, drop-append-le}
use Rattle.asn1_core.specs.Octets.{Octets}
use Rattle.oer_spec.specs.Encoding.{IsEncodable, canonical_octets}
use Rattle.oer_spec.specs.Tree.{Tree}
use Rattle.oer_write.specs.Lists.{is_nil}
use Rattle.oer_write.specs.Unordered.{parts, OneMore}

parts_push : (ns : List ℕ) (n : ℕ) (o x : Octets) → sum ns ≡ length o → n ≡ length x → parts (ns ++ n ∷ []) (o ++ x) ≡ parts ns o ++ x ∷ []
parts_push [] n [] x s e = ap (λ (z : Octets). z ∷ []) (take_all n x (omega (arith, e)))
parts_push [] n (y ∷ o) x s e = absurd (omega (arith, s))
parts_push (m ∷ ns) n o x s e =
    let all : sum (m ∷ ns) ≡ m + sum ns = sum_by-cons (λ k. k) m ns in
    let fits : m ≤ length o = omega (arith, s, all) in
    let rest : sum ns ≡ length (drop m o) = omega (arith, s, all, length-drop m o) in
    ap₂ (λ (a : Octets) (b : List Octets). a ∷ b) (take-append-le m o x fits) (ap (parts (ns ++ n ∷ [])) (drop-append-le m o x fits) ∙ parts_push ns n (drop m o) x rest e)

nil_is : (n : ℕ) (o : Octets) → n ≡ length o → (n == 0) ≡ is_nil o
nil_is n [] e = eq-eqb n 0 e
nil_is n (x ∷ o) e = ne_eqb n 0 (λ f. omega (arith, e, f))

-- so many octets were appended
pub appended_size : (old new c : Octets) (size : ℕ) → new ≡ old ++ c → size ≡ length new - length old → size ≡ length c
appended_size old new c size e s = omega (arith, s, ap length e, length-append old c)

pub whole_more : (old new c : Octets) (sizes newer : List ℕ) (size : ℕ) → new ≡ old ++ c → size ≡ length new - length old → sum sizes ≡ length old → newer ≡ sizes ++ size ∷ [] → sum newer ≡ length new
whole_more old new c sizes newer size e s w n = ap sum n ∙ sum_by_push (λ k. k) sizes size ∙ (let k = appended_size old new c size e s in omega (arith, w, k, ap length e, length-append old c))

-- the element that took no octets is the one without
pub empty_is : (old new c : Octets) (size : ℕ) → new ≡ old ++ c → size ≡ length new - length old → (size == 0) ≡ is_nil c
empty_is old new c size e s = nil_is size c (appended_size old new c size e s)

module _ {E : Type 0} (tree : E → Tree) (IsValue : E → Type 0) where
  pub one_more_written : (x : E) (old new : Octets) (sizes newer : List ℕ) (size count next : ℕ) → IsEncodable (tree x) → IsValue x → new ≡ old ++ canonical_octets (tree x) → size ≡ length new - length old → sum sizes ≡ length old → newer ≡ sizes ++ size ∷ []
      → next ≡ count + cond (size == 0) 1 0 → next < 65537 → OneMore tree IsValue x (parts sizes old) (parts newer new) count next
  one_more_written x old new sizes newer size count next fine value e s w n c few = record {
    octets = ap₂ parts n e ∙ parts_push sizes size old (canonical_octets (tree x)) w (appended_size old new _ size e s);
    encodable = fine;
    value = value;
    counted = c ∙ ap (λ b. count + cond b 1 0) (empty_is old new _ size e s);
    few = few;
  }
