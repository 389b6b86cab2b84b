-- Nests are equal exactly where their trees are same.
use Rattle.std.specs.Prelude.{◌≡◌, ◌<◌, ℕ, zero, suc, Bool, true, List, [], ◌∷◌, refl}
use Rattle.std.specs.Bool.{Decides}
use Rattle.std.specs.Cmp.Lexicographic.{pointwise}
use Rattle.std.proofs.Common.{sym, subst, arith}
use Rattle.std.proofs.lemmas.Bool.Decides.{Decides-and}
use denote.Param.Weighed.{most}
use Rattle.oer_spec.specs.Same.{Same, SameTrees}
use Rattle.oer_spec.specs.Spelled.{trees_of, list_of}
use Rattle.oer_spec.specs.Tree.{Tree}
use Rattle.oer_knots.specs.declared.held.Bare.{Bare}
use Rattle.oer_types.specs.Nests.{nest_tree, item_tree, nest_weight, nest_content, nest_items, nest_is_list, nest_smaller}
use Rattle.oer_types.specs.contracts.nests.NestPartialEq.TheImpl.{ghosts}
use Rattle.oer_types.specs.contracts.nests.NestPartialEq.TheImpl.Laws.{is}
use Rattle.oer_types.specs.declared.nests.Nest.{Nest, size-Nest}

-- as the derived `==` compares: item by item
abbrev pub nest_eq : Nest → Nest → Bool
nest_eq = ghosts.eq

abbrev pub item_eq : Bare Nest → Bare Nest → Bool
item_eq v w = nest_eq v.0 w.0

pub eq_items : (v w : Nest) → nest_eq v w ≡ pointwise item_eq (nest_items v) (nest_items w)
eq_items v w = is v w

abbrev IsDecided : Nest → Nest → Type 0
IsDecided v w = Decides (nest_eq v w) (Same (nest_tree v) (nest_tree w))

abbrev AreSame : List (Bare Nest) → List (Bare Nest) → Type 0
AreSame vs ws = Decides (pointwise item_eq vs ws) (SameTrees (trees_of item_tree vs) (trees_of item_tree ws))

items_same : (n : ℕ) (vs ws : List (Bare Nest)) → most (λ h. size-Nest h.0) vs < n → ((v w : Nest) → size-Nest v < n → IsDecided v w) → AreSame vs ws
unfolding Same
items_same n [] [] l d = (λ e. tt, λ s. refl)
items_same n [] (w ∷ ws) l d = (λ e. absurd (cc e), λ s. absurd s)
items_same n (v ∷ vs) [] l d = (λ e. absurd (cc e), λ s. absurd s)
items_same n (v ∷ vs) (w ∷ ws) l d = Decides-and (item_eq v w) (pointwise item_eq vs ws) (d v.0 w.0 (omega (arith, l))) (items_same n vs ws (omega (arith, l)) d)

lists_same : (vs ws : List (Bare Nest)) → AreSame vs ws → Decides (pointwise item_eq vs ws) (Same (list_of true item_tree vs) (list_of true item_tree ws))
unfolding Same list_of
lists_same vs ws d = d

same_within : (n : ℕ) (v w : Nest) → size-Nest v < n → IsDecided v w
same_within zero v w l = absurd (omega (arith, l))
same_within (suc n) v w l =
    let s : nest_weight size-Nest (nest_content v) < size-Nest v = nest_smaller v in
    let items = items_same n (nest_items v) (nest_items w) (omega (arith, l, s)) (same_within n) in
    subst (λ (b : Bool). Decides b (Same (nest_tree v) (nest_tree w))) (sym (eq_items v w))
    (subst (λ (t : Tree). Decides (pointwise item_eq (nest_items v) (nest_items w)) (Same t (nest_tree w))) (sym (nest_is_list v))
    (subst (λ (t : Tree). Decides (pointwise item_eq (nest_items v) (nest_items w)) (Same (list_of true item_tree (nest_items v)) t)) (sym (nest_is_list w)) (lists_same (nest_items v) (nest_items w) items)))

pub nests_same : (v w : Nest) → Decides (nest_eq v w) (Same (nest_tree v) (nest_tree w))
nests_same v w = same_within (suc (size-Nest v)) v w (omega arith)
