-- Nested lists are made from within, and compared from without.
use Rattle.std.proofs.Common.{◌≡◌, ◌<◌, ℕ, zero, suc, ◌+◌, ◌-◌, ◌==◌, add-one, Bool, true, false, ◌&&◌, List, [], ◌∷◌, length, Option, Some, None, refl, ap, sym, ◌∙◌, arith}
use Rattle.std.proofs.Math.Bool.{and-true, and-false}
use Rattle.std.specs.Cmp.Lexicographic.{pointwise}
use Rattle.oer_rows.specs.EmptyLists.{none_listed}
use Rattle.oer_knots.specs.declared.held.Bare.{Bare}
use Rattle.oer_types.specs.DeepDefaults.{deep_nest, only_item}
use Rattle.oer_types.specs.Nests.{nest_items}
use Rattle.oer_types.specs.SameNests.{nest_eq, item_eq, eq_items}
use Rattle.oer_types.specs.declared.nests.Nest.{Nest}
use Rattle.oer_types.specs.declared.nests.Nest.TheOpen.{Nest-F}
use Rattle.oer_types.specs.declared.nests.Nest.TheViews.{roll-Nest, out-roll-Nest}

abbrev rolled : List (Bare Nest) → Nest
rolled vs = roll-Nest (record { 0 = vs })

pub deep_none : (x : Nest-F Nest) → x.0 ≡ [] → roll-Nest x ≡ deep_nest zero
unfolding deep_nest
deep_none x e = ap rolled e

pub deep_more : (n : ℕ) (x : Nest-F Nest) (v : Nest) → x.0 ≡ record { 0 = v } ∷ [] → v ≡ deep_nest n → roll-Nest x ≡ deep_nest (n + 1)
unfolding deep_nest
deep_more n x v e k = ap rolled (e ∙ ap (λ (w : Nest). record { 0 = w } ∷ []) k) ∙ ap deep_nest (sym (add-one n))

-- ---- their items

none_in : nest_items (deep_nest zero) ≡ []
unfolding deep_nest
none_in = ap (λ (x : Nest-F Nest). x.0) (out-roll-Nest (record { 0 = [] }))

one_in : (n : ℕ) → nest_items (deep_nest (suc n)) ≡ record { 0 = deep_nest n } ∷ []
unfolding deep_nest
one_in n = ap (λ (x : Nest-F Nest). x.0) (out-roll-Nest (record { 0 = record { 0 = deep_nest n } ∷ [] }))

-- ---- whether a nest is equal to them

abbrev holds : (Nest → Bool) → Option Nest → Bool
holds is None = false
holds is (Some v) = is v

one_equal : (n : ℕ) (vs : List (Bare Nest)) → pointwise item_eq vs (record { 0 = deep_nest n } ∷ []) ≡ holds (λ v. nest_eq v (deep_nest n)) (only_item vs)
one_equal n [] = refl
one_equal n (v ∷ []) = and-true (nest_eq v.0 (deep_nest n))
one_equal n (v ∷ (w ∷ ws)) = and-false (nest_eq v.0 (deep_nest n))

equal_more : (n : ℕ) (v : Nest) → nest_eq v (deep_nest (suc n)) ≡ holds (λ w. nest_eq w (deep_nest n)) (only_item (nest_items v))
equal_more n v = eq_items v (deep_nest (suc n)) ∙ ap (pointwise item_eq (nest_items v)) (one_in n) ∙ one_equal n (nest_items v)

abbrev left : (k : ℕ) → k < 127 → 127 - k ≡ suc (127 - (k + 1))
left k l = omega (arith, l)

-- after k lists, of which each held the next alone, one more holds one alone, or doesn't
pub goes_on : (k : ℕ) (v w : Nest) → k < 127 → Some w ≡ only_item (nest_items v) → nest_eq v (deep_nest (127 - k)) ≡ nest_eq w (deep_nest (127 - (k + 1)))
goes_on k v w l e =
    ap (λ (n : ℕ). nest_eq v (deep_nest n)) (left k l) ∙ equal_more (127 - (k + 1)) v ∙ ap (holds (λ u. nest_eq u (deep_nest (127 - (k + 1))))) (sym e)

pub breaks_off : (k : ℕ) (v : Nest) → k < 127 → None ≡ only_item (nest_items v) → nest_eq v (deep_nest (127 - k)) ≡ false
breaks_off k v l e =
    ap (λ (n : ℕ). nest_eq v (deep_nest n)) (left k l) ∙ equal_more (127 - (k + 1)) v ∙ ap (holds (λ u. nest_eq u (deep_nest (127 - (k + 1))))) (sym e)

pub ends : (v : Nest) → nest_eq v (deep_nest zero) ≡ (length (nest_items v) == 0)
ends v = eq_items v (deep_nest zero) ∙ ap (pointwise item_eq (nest_items v)) none_in ∙ sym (none_listed item_eq (nest_items v))
