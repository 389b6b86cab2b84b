-- The tree of a list of itself: each nest is a value of it.
use Rattle.std.specs.Prelude.{◌≡◌, ◌<◌, ℕ, zero, suc, true, List, [], ◌∷◌}
use Rattle.std.proofs.Common.{ap, ◌∙◌, arith}
use denote.Param.Weighed.{most}
use Rattle.oer_spec.specs.Encoding.{IsTree}
use Rattle.oer_spec.specs.Same.{Alike}
use Rattle.oer_spec.specs.Spelled.{EachValue, list_of}
use Rattle.oer_spec.specs.Tree.{Tree}
use Rattle.oer_rows.specs.Schema.{Typed}
use Rattle.oer_rows.specs.declared.lists.ListOf.{ListOf}
use Rattle.oer_knots.specs.Knots.{Knotted, knot_tree, IsKnot, knot_typed, knot_is_layer, layer_in_knot}
use Rattle.oer_knots.specs.Lists.{list_tied, list_ties}
use Rattle.oer_knots.specs.Ties.{held_tied, held_weight, held_ties}
use Rattle.oer_knots.specs.declared.held.Bare.{Bare}
use Rattle.oer_types.specs.declared.nests.Nest.{Nest, size-Nest, size_is-Nest}
use Rattle.oer_types.specs.declared.nests.Nest.TheViews.{out-Nest}

abbrev pub nest_weight : {K : Type 0} → (K → ℕ) → ListOf (Bare K) → ℕ
nest_weight size v = most (λ h. size h.0) v

abbrev pub nest_content : Nest → ListOf (Bare Nest)
nest_content v = (out-Nest v).0

-- what a nest holds weighs less than the nest
pub nest_smaller : (v : Nest) → nest_weight size-Nest (nest_content v) < size-Nest v
nest_smaller v = grind (arith, size_is-Nest v)

abbrev pub nest_tied : Typed Nest → Typed (ListOf (Bare Nest))
nest_tied = list_tied (λ vs. vs) (held_tied (λ h. h.0)) (held_weight (λ h. h.0))

abbrev pub nest_knotted : Knotted size-Nest nest_content nest_tied nest_weight
nest_knotted = record { ties = list_ties (λ vs. vs) (held_tied (λ h. h.0)) (held_weight (λ h. h.0)) (held_ties (λ h. h.0)); smaller = nest_smaller }

abbrev pub nest_tree : Nest → Tree
nest_tree = knot_tree size-Nest nest_content nest_tied

abbrev pub IsNest : Nest → Type 0
IsNest = IsKnot size-Nest nest_content nest_tied

abbrev pub item_tree : Bare Nest → Tree
item_tree h = nest_tree h.0

abbrev pub nest_items : Nest → List (Bare Nest)
nest_items v = nest_content v

-- a nest's tree is that of the list of its items
pub nest_is_list : (v : Nest) → nest_tree v ≡ list_of true item_tree (nest_items v)
nest_is_list v = knot_is_layer size-Nest nest_content nest_tied nest_weight nest_knotted v

-- ---- each nest is one of its values

each_item : (n : ℕ) (vs : List (Bare Nest)) → most (λ h. size-Nest h.0) vs < n → ((v : Nest) → size-Nest v < n → IsNest v) → EachValue (λ h. IsNest h.0) vs
each_item n [] l every = tt
each_item n (v ∷ vs) l every = (every v.0 (omega (arith, l)), each_item n vs (omega (arith, l)) every)

each_within : (n : ℕ) (v : Nest) → size-Nest v < n → IsNest v
each_within zero v l = absurd (omega (arith, l))
each_within (suc n) v l =
    let s : nest_weight size-Nest (nest_content v) < size-Nest v = nest_smaller v in
    layer_in_knot size-Nest nest_content nest_tied nest_weight nest_knotted v (each_item n (nest_items v) (omega (arith, l, s)) (each_within n))

pub each_nest : (v : Nest) → IsNest v
each_nest v = each_within (suc (size-Nest v)) v (omega arith)

-- ---- it has a tree, and any two are alike

pub nest_is : (v : Nest) → IsTree (nest_tree v)
nest_is v = (knot_typed size-Nest nest_content nest_tied nest_weight nest_knotted).is v (each_nest v)

pub nests_alike : (v w : Nest) → Alike (nest_tree v) (nest_tree w)
nests_alike v w = (knot_typed size-Nest nest_content nest_tied nest_weight nest_knotted).like v w (each_nest v) (each_nest w)
