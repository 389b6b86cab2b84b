-- 0 bits at the end change no octet.
use Rattle.std.proofs.Common.{◌≡◌, ℕ, zero, suc, ◌+◌, ◌*◌, Bool, false, cond, List, [], ◌∷◌, ◌++◌, drop, get_or, refl, ap, ap₂, ◌∙◌}
use Rattle.asn1_core.specs.Octets.{octet_of, pack_into, AllFalse}

-- zero bits at the end change nothing
get_false : (b u : List Bool) (i : ℕ) → AllFalse u → get_or (b ++ u) i false ≡ get_or b i false
get_false [] [] i f = refl
get_false [] (x ∷ u) zero (f, fs) = f
get_false [] (x ∷ u) (suc i) (f, fs) = get_false [] u i fs
get_false (y ∷ b) u zero f = refl
get_false (y ∷ b) u (suc i) f = get_false b u i f

octet_false : (b u : List Bool) → AllFalse u → octet_of (b ++ u) ≡ octet_of b
octet_false b u f =
    λ z. cond (get_false b u 0 f z) 1 0 * 128 + cond (get_false b u 1 f z) 1 0 * 64 + cond (get_false b u 2 f z) 1 0 * 32 + cond (get_false b u 3 f z) 1 0 * 16 + cond (get_false b u 4 f z) 1 0 * 8 + cond (get_false b u 5 f z) 1 0 * 4 + cond (get_false b u 6 f z) 1 0 * 2 + cond (get_false b u 7 f z) 1 0

pub drop_nil : (n : ℕ) → drop {A = Bool} n [] ≡ []
drop_nil zero = refl
drop_nil (suc n) = refl

drop_false : (n : ℕ) (b u : List Bool) → AllFalse u → (v : List Bool) × AllFalse v × (drop n (b ++ u) ≡ drop n b ++ v)
drop_false zero b u f = (u, f, refl)
drop_false (suc n) [] [] f = ([], tt, refl)
drop_false (suc n) [] (x ∷ u) (f, fs) = let (v, g, e) = drop_false n [] u fs in (v, g, e ∙ ap (λ z. z ++ v) (drop_nil n))
drop_false (suc n) (y ∷ b) u f = drop_false n b u f

pub pack_false : (k : ℕ) (b u : List Bool) → AllFalse u → pack_into k (b ++ u) ≡ pack_into k b
pack_false zero b u f = refl
pack_false (suc k) b u f =
    let (v, g, e) = drop_false 8 b u f in
    ap₂ ◌∷◌ (octet_false b u f) (ap (pack_into k) e ∙ pack_false k (drop 8 b) v g)
