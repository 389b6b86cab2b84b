-- Steps of the loop over a type's members.
use Rattle.std.proofs.Common.{◌≡◌, ℕ, ◌+◌, ◌<◌, Option, Some, None, List, [], ◌∷◌, ◌++◌, length, drop, get_or, refl, sym, ap, ◌∙◌, append_assoc}
use Rattle.std.proofs.lemmas.List.{drop_more}
use Rattle.std.specs.Option.{option_map}
use Rattle.oergen_parse.specs.declared.ast.Component.{Component}
use Rattle.oergen_parse.specs.declared.ast.Member.{Member}
use Rattle.oergen_parse.specs.declared.ast.Member.TheVariants.{Mark, Opens, Closes, ComponentsOf', Component', Component as in_member}
use Rattle.oergen_layouts.specs.Rows.{Placed, components_behind, passed, position_in}
use Rattle.oergen_layouts.specs.declared.rows.Walk.{Walk}

one_behind : (done : List Placed) (one : Placed) (rest : Option (List Placed))
    → option_map (λ (rows : List Placed). done ++ rows) (option_map (λ (rows : List Placed). one ∷ rows) rest) ≡ option_map (λ (rows : List Placed). (done ++ one ∷ []) ++ rows) rest
one_behind done one None = refl
one_behind done one (Some rest) = ap (λ (it : List Placed). Some it) (sym (append_assoc done (one ∷ []) rest))

pub component_more : (walk : Walk) (members : List Member) (at : ℕ) (one : Component) (done : List Placed)
    → at < length members → get_or members at (in_member one) ≡ in_member one
    → option_map (λ (rows : List Placed). done ++ rows) (components_behind walk (drop at members))
    ≡ option_map (λ (rows : List Placed). (done ++ (one, position_in walk) ∷ []) ++ rows) (components_behind walk (drop (at + 1) members))
component_more walk members at one done below is =
    let cut : drop at members ≡ in_member one ∷ drop (at + 1) members = drop_more members at (in_member one) below ∙ ap (λ (it : Member). it ∷ drop (at + 1) members) is in
    ap (λ (it : List Member). option_map (λ (rows : List Placed). done ++ rows) (components_behind walk it)) cut
    ∙ one_behind done (one, position_in walk) (components_behind walk (drop (at + 1) members))

-- what stands behind a mark or a bracket, by what is passed there
behind_passed : List Member → Option Walk → Option (List Placed)
behind_passed rest None = None
behind_passed rest (Some next) = components_behind next rest

passed_front : (walk next : Walk) (member : Member) (rest : List Member) → passed walk member ≡ Some next → components_behind walk (member ∷ rest) ≡ components_behind next rest
unfolding behind_passed
passed_front walk next (Mark at) rest e = ap (behind_passed rest) e
passed_front walk next (Opens at) rest e = ap (behind_passed rest) e
passed_front walk next (Closes at) rest e = ap (behind_passed rest) e
passed_front walk next (ComponentsOf' a b c d) rest e = cc
passed_front walk next (Component' a b c d e' f) rest e = cc

stopped_front : (walk : Walk) (member : Member) (rest : List Member) → passed walk member ≡ None → ((one : Component) → member ≡ in_member one → ⊥) → components_behind walk (member ∷ rest) ≡ None
unfolding behind_passed
stopped_front walk (Mark at) rest e other = ap (behind_passed rest) e
stopped_front walk (Opens at) rest e other = ap (behind_passed rest) e
stopped_front walk (Closes at) rest e other = ap (behind_passed rest) e
stopped_front walk (ComponentsOf' a b c d) rest e other = refl
stopped_front walk (Component' name first tags body constraints need) rest e other =
    absurd (other (record { name = name; of = record { first = first; tags = tags; body = body; constraints = constraints }; need = need }) refl)

pub passed_more : (walk next : Walk) (members : List Member) (at : ℕ) (member : Member) → at < length members → get_or members at member ≡ member → passed walk member ≡ Some next
    → components_behind walk (drop at members) ≡ components_behind next (drop (at + 1) members)
passed_more walk next members at member below is e =
    let cut : drop at members ≡ member ∷ drop (at + 1) members = drop_more members at member below ∙ ap (λ (it : Member). it ∷ drop (at + 1) members) is in
    ap (components_behind walk) cut ∙ passed_front walk next member (drop (at + 1) members) e

pub stopped_more : (walk : Walk) (members : List Member) (at : ℕ) (member : Member) → at < length members → get_or members at member ≡ member → passed walk member ≡ None
    → ((one : Component) → member ≡ in_member one → ⊥) → components_behind walk (drop at members) ≡ None
stopped_more walk members at member below is e other =
    let cut : drop at members ≡ member ∷ drop (at + 1) members = drop_more members at member below ∙ ap (λ (it : Member). it ∷ drop (at + 1) members) is in
    ap (components_behind walk) cut ∙ stopped_front walk member (drop (at + 1) members) e other
