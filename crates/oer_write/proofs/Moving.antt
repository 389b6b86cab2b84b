-- Octets that are moved or put one by one, from the rear.
use Rattle.std.proofs.Common.{◌≡◌, ℕ, zero, suc, ◌+◌, ◌-◌, ◌/◌, ◌%◌, ◌<◌, ◌≤◌, [], ◌∷◌, ◌++◌, length, take, drop, set, ap, sym, ◌∙◌, get_or, append_assoc, arith, length-drop}
use Rattle.std.proofs.lemmas.List.{take-take, take-set-le, drop-set, take_more, get_or-take, get_or-drop}
use Rattle.asn1_core.specs.Numbers.{low_octets}
use Rattle.asn1_core.specs.Octets.{Octets}

one_less : (left : ℕ) (rest : ℕ) → 0 < left → low_octets left rest ≡ low_octets (left - 1) (rest / 256) ++ (rest % 256 ∷ [])
one_less zero rest h = absurd (omega arith)
one_less (suc n) rest h = let e : suc n - 1 ≡ n = omega arith in ap (λ (m : ℕ). low_octets m (rest / 256) ++ (rest % 256 ∷ [])) (sym e)

-- one octet of a number more
pub number_next : (left rest to : ℕ) (out all : Octets) → 0 < left → 0 < to → to ≤ length out → low_octets left rest ++ drop to out ≡ all → low_octets (left - 1) (rest / 256) ++ drop (to - 1) (set out (to - 1) (rest % 256)) ≡ all
number_next left rest to out all h k l e =
    let t : (to - 1) + 1 ≡ to = omega arith in
    let d : drop (to - 1) (set out (to - 1) (rest % 256)) ≡ rest % 256 ∷ drop ((to - 1) + 1) out = drop-set out (to - 1) (rest % 256) (omega arith) in
    ap (λ (o : Octets). low_octets (left - 1) (rest / 256) ++ o) (d ∙ ap (λ (m : ℕ). rest % 256 ∷ drop m out) t) ∙ sym (append_assoc (low_octets (left - 1) (rest / 256)) (rest % 256 ∷ []) (drop to out)) ∙ ap (λ (o : Octets). o ++ drop to out) (sym (one_less left rest h)) ∙ e

-- what stands in front is as before
pub front_next : (to : ℕ) (out base : Octets) (x : ℕ) → 0 < to → take to out ≡ take to base → take (to - 1) (set out (to - 1) x) ≡ take (to - 1) base
front_next to out base x k e =
    take-set-le (to - 1) out (to - 1) x (omega arith) ∙ sym (take-take (to - 1) to out (omega arith)) ∙ ap (take (to - 1)) e ∙ take-take (to - 1) to base (omega arith)

-- an octet further
pub moved_next : (place from to : ℕ) (out base : Octets) (x : ℕ) (all : Octets) → place < from → from ≤ to → to ≤ length out → length out ≡ length base → take to out ≡ take to base → x ≡ get_or out (from - 1) x → take (from - place) (drop place base) ++ drop to out ≡ all
    → take ((from - 1) - place) (drop place base) ++ drop (to - 1) (set out (to - 1) x) ≡ all
moved_next place from to out base x all h k l n f g e =
    let t : (to - 1) + 1 ≡ to = omega arith in
    let d : drop (to - 1) (set out (to - 1) x) ≡ x ∷ drop ((to - 1) + 1) out = drop-set out (to - 1) x (omega arith) in
    let p : place + ((from - 1) - place) ≡ from - 1 = omega arith in
    let q : ((from - 1) - place) + 1 ≡ from - place = omega arith in
    let at : get_or (drop place base) ((from - 1) - place) x ≡ x = get_or-drop place base ((from - 1) - place) x ∙ ap (λ (m : ℕ). get_or base m x) p ∙ sym (get_or-take to base (from - 1) x (omega arith)) ∙ ap (λ (o : Octets). get_or o (from - 1) x) (sym f) ∙ get_or-take to out (from - 1) x (omega arith) ∙ sym g in
    let m : take (((from - 1) - place) + 1) (drop place base) ≡ take ((from - 1) - place) (drop place base) ++ get_or (drop place base) ((from - 1) - place) x ∷ [] = take_more (drop place base) ((from - 1) - place) x (omega (arith, n, length-drop place base)) in
    let r : take (from - place) (drop place base) ≡ take ((from - 1) - place) (drop place base) ++ x ∷ [] = ap (λ (z : ℕ). take z (drop place base)) (sym q) ∙ m ∙ ap (λ (z : ℕ). take ((from - 1) - place) (drop place base) ++ z ∷ []) at in
    ap (λ (o : Octets). take ((from - 1) - place) (drop place base) ++ o) (d ∙ ap (λ (z : ℕ). x ∷ drop z out) t) ∙ sym (append_assoc (take ((from - 1) - place) (drop place base)) (x ∷ []) (drop to out)) ∙ ap (λ (o : Octets). o ++ drop to out) (sym r) ∙ e
