-- Alternatives that can be put in the place of choices without a tag, and what makes a CHOICE extensible.
use Rattle.std.proofs.Common.{◌≡◌, ◌≢◌, ◌∙◌, ℕ, zero, suc, ◌+◌, ◌-◌, ◌<◌, ◌≤◌, Bool, true, false, ◌||◌, Option, Some, None, is_some, MatchOption, List, [], ◌∷◌, ◌++◌, append_assoc, length, take, drop, get_or, map, refl, sym, subst, ap, arith}
use Rattle.std.proofs.lemmas.Grind.{flat_map-append}
use Rattle.std.proofs.lemmas.List.{get_or-append-add, get_or-map, get_or_append_left, get_or_at, length-append, length-map, length_push, map-append, take-append-drop, take_more}
use Rattle.std.proofs.lemmas.List.Folds.{list_any_more}
use Rattle.std.specs.List.{All, flat_map, list_any}
use Rattle.std.specs.Prelude.{⊤}
use Rattle.asn1_core.specs.declared.tag.Tag.{Tag}
use Rattle.oergen_layouts.specs.Preambles.{has_mark}
use Rattle.oergen_layouts.specs.Untagged.{ArePlaceable, HaveApartTags, HaveOwnPartTags, IsPlaceable, IsUntaggedChoice, Unnamed, alternatives, extends, extends_by, in_place, part_tag, parts_behind, row_tag, type_behind, unnamed, unnamed_with}
use Rattle.oergen_layouts.specs.declared.definitions.Definition.{Definition}
use Rattle.oergen_layouts.specs.declared.definitions.Part.{Part}
use Rattle.oergen_layouts.specs.declared.rows.Row.{Row}
use Rattle.oergen_layouts.proofs.Alternatives.{parts_more, unnamed_own}

-- what `ArePlaceable` says of each part
abbrev pub IsPlaceableIn : ℕ → List Definition → Part → Type 0
IsPlaceableIn levels all part = MatchOption part.row ⊤ (λ row. IsPlaceable levels all part row)

pub none_deep : (all : List Definition) (parts : List Part) → ArePlaceable zero all parts → ⊥
unfolding ArePlaceable
none_deep all parts are = are

pub placeable_each : (levels next : ℕ) (all : List Definition) (parts : List Part) → 1 ≤ levels → next ≡ levels - 1 → ArePlaceable levels all parts → All (IsPlaceableIn next all) parts
unfolding ArePlaceable
placeable_each zero next all parts some e are = absurd are
placeable_each (suc levels) next all parts some e are = let n : next ≡ levels = omega arith in rw n are.1

pub placeable_some : (levels : ℕ) (all : List Definition) (parts : List Part) → ArePlaceable levels all parts → alternatives levels all parts ≢ []
unfolding ArePlaceable
placeable_some zero all parts are e = are
placeable_some (suc levels) all parts are e = are.0 e

pub placeable_made : (levels next : ℕ) (all : List Definition) (parts : List Part) → 1 ≤ levels → next ≡ levels - 1 → alternatives levels all parts ≢ [] → All (IsPlaceableIn next all) parts → ArePlaceable levels all parts
unfolding ArePlaceable
placeable_made zero next all parts some e has each = absurd (omega arith)
placeable_made (suc levels) next all parts some e has each = let n : levels ≡ next = omega arith in (has, rw n each)

pub placeable_row : (levels : ℕ) (all : List Definition) (part : Part) (row : Row) → part.row ≡ Some row → IsPlaceableIn levels all part → IsPlaceable levels all part row
placeable_row levels all part row e is = subst (λ (it : Option Row). MatchOption it ⊤ (λ own. IsPlaceable levels all part own)) e is

pub placeable_of : (levels : ℕ) (all : List Definition) (part : Part) (row : Row) → part.row ≡ Some row → IsPlaceable levels all part row → IsPlaceableIn levels all part
placeable_of levels all part row e is = subst (λ (it : Option Row). MatchOption it ⊤ (λ own. IsPlaceable levels all part own)) (sym e) is

pub placeable_none : (levels : ℕ) (all : List Definition) (part : Part) → part.row ≡ None → IsPlaceableIn levels all part
placeable_none levels all part e = subst (λ (it : Option Row). MatchOption it ⊤ (λ own. IsPlaceable levels all part own)) (sym e) tt

at_some : (tag : Option Tag) (P : Type 0) → is_some tag ≡ true → MatchOption tag P (λ _. ⊤)
at_some None P e = absurd cc
at_some (Some tag) P e = tt

at_none : (tag : Option Tag) (P : Type 0) → is_some tag ≡ false → MatchOption tag P (λ _. ⊤) → P
at_none None P e is = is
at_none (Some tag) P e is = absurd cc

for_none : (tag : Option Tag) (P : Type 0) → is_some tag ≡ false → P → MatchOption tag P (λ _. ⊤)
for_none None P e is = is
for_none (Some tag) P e is = absurd cc

pub tagged_placeable : (levels : ℕ) (all : List Definition) (part : Part) (row : Row) → is_some row.tag ≡ true → IsPlaceable levels all part row
tagged_placeable levels all part row some = at_some row.tag (IsUntaggedChoice all part row × ArePlaceable levels all (parts_behind all part)) some

pub placeable_choice : (levels : ℕ) (all : List Definition) (part : Part) (row : Row) → is_some row.tag ≡ false → IsPlaceable levels all part row → IsUntaggedChoice all part row
placeable_choice levels all part row none is = (at_none row.tag (IsUntaggedChoice all part row × ArePlaceable levels all (parts_behind all part)) none is).0

behind : (all : List Definition) (part : Part) (choice : Definition) → type_behind all part ≡ Some choice → parts_behind all part ≡ choice.parts.items
behind all part choice e = ap (λ (it : Option Definition). elim it [ None ↦ [] | Some one ↦ one.parts.items ]) e

pub placeable_behind : (levels : ℕ) (all : List Definition) (part : Part) (row : Row) (choice : Definition) → is_some row.tag ≡ false → type_behind all part ≡ Some choice → IsPlaceable levels all part row → ArePlaceable levels all choice.parts.items
placeable_behind levels all part row choice none e is =
    subst (ArePlaceable levels all) (behind all part choice e) (at_none row.tag (IsUntaggedChoice all part row × ArePlaceable levels all (parts_behind all part)) none is).1

pub choice_placeable : (levels : ℕ) (all : List Definition) (part : Part) (row : Row) (choice : Definition) → is_some row.tag ≡ false → type_behind all part ≡ Some choice → IsUntaggedChoice all part row → ArePlaceable levels all choice.parts.items
    → IsPlaceable levels all part row
choice_placeable levels all part row choice none e is are =
    for_none row.tag (IsUntaggedChoice all part row × ArePlaceable levels all (parts_behind all part)) none (is, subst (ArePlaceable levels all) (sym (behind all part choice e)) are)

-- tags that differ among some differ among fewer
pub apart_front : (front back : List Unnamed) → HaveApartTags (front ++ back) → HaveApartTags front
apart_front front back are = λ i j d below within.
    let whole = are i j d below (omega (arith, length-append front back, within)) in
    rw (get_or_append_left front back d i (omega (arith, below, within)), get_or_append_left front back d j within) at whole

pub apart_back : (front back : List Unnamed) → HaveApartTags (front ++ back) → HaveApartTags back
apart_back front back are = λ i j d below within.
    let whole = are (length front + i) (length front + j) d (omega (arith, below)) (omega (arith, length-append front back, within)) in
    rw (get_or-append-add front back i d, get_or-append-add front back j d) at whole

-- parts with tags of their own, but for their names
pub own_are_apart : (parts : List Part) (places : List Unnamed) → map unnamed parts ≡ places → HaveOwnPartTags parts → HaveApartTags places
own_are_apart [] places e are = subst HaveApartTags e (λ i j d below within. absurd (omega (arith, within)))
own_are_apart (one ∷ parts) places e are = subst HaveApartTags e (λ i j d below within.
    let few : j < length (one ∷ parts) = omega (arith, length-map (one ∷ parts) unnamed, within) in
    let here = are.are_own i j one below few in
    rw (get_or-map unnamed (one ∷ parts) i one d (omega (arith, below, few)), get_or-map unnamed (one ∷ parts) j one d few) here)

-- the last of some parts has a tag that none before it has
pub last_apart : (old : List Part) (made : Part) → HaveApartTags (map unnamed old ++ unnamed made ∷ []) → All (λ (other : Part). part_tag other ≢ part_tag made) old
last_apart old made are = λ k d within.
    let few : k < length (map unnamed old) = omega (arith, length-map old unnamed, within) in
    let whole = are k (length (map unnamed old)) (unnamed d) few (omega (arith, length_push (map unnamed old) (unnamed made))) in
    rw (get_or_append_left (map unnamed old) (unnamed made ∷ []) (unnamed d) k few, get_or-map unnamed old k d (unnamed d) within, get_or_at (map unnamed old) (unnamed made) [] (unnamed d) (length (map unnamed old)) refl) at whole

one_place : {X : Type 0} (tag : Option Tag) (x y : X) → is_some tag ≡ true → elim tag [ Some _ ↦ x | None ↦ y ] ≡ x
one_place None x y e = absurd cc
one_place (Some tag) x y e = refl

-- one with a tag, by another name, has a tag that none before it has
pub own_apart : (levels : ℕ) (all : List Definition) (old : List Part) (part made : Part) (row : Row) → part.row ≡ Some row → is_some row.tag ≡ true → unnamed made ≡ unnamed_with part row.tag
    → HaveApartTags (map unnamed old ++ in_place levels all part row) → All (λ (other : Part). part_tag other ≢ part_tag made) old
own_apart levels all old part made row has some same are =
    let place : in_place levels all part row ≡ unnamed part ∷ [] = one_place row.tag (unnamed part ∷ []) (alternatives levels all (parts_behind all part)) some in
    let named : unnamed part ≡ unnamed made = sym (same ∙ (ap (unnamed_with part) (sym (ap row_tag has)) ∙ unnamed_own part)) in
    last_apart old made (subst (λ (it : List Unnamed). HaveApartTags (map unnamed old ++ it)) (place ∙ ap (λ (it : Unnamed). it ∷ []) named) are)

pub apart_at : (front : List Unnamed) (items : List Part) (at : ℕ) (one : Part) → at < length items → one ≡ get_or items at one → HaveApartTags (front ++ map unnamed items)
    → HaveApartTags ((front ++ map unnamed (take at items)) ++ unnamed one ∷ [])
apart_at front items at one below is are =
    let a : map unnamed items ≡ map unnamed (take (at + 1) items) ++ map unnamed (drop (at + 1) items) = ap (map unnamed) (sym (take-append-drop (at + 1) items)) ∙ map-append unnamed (take (at + 1) items) (drop (at + 1) items) in
    let b : map unnamed (take (at + 1) items) ≡ map unnamed (take at items) ++ unnamed one ∷ [] = ap (map unnamed) (take_more items at one below ∙ ap (λ (it : Part). take at items ++ it ∷ []) (sym is)) ∙ map-append unnamed (take at items) (one ∷ []) in
    let c : front ++ map unnamed items ≡ (front ++ map unnamed (take (at + 1) items)) ++ map unnamed (drop (at + 1) items) = ap (λ (it : List Unnamed). front ++ it) a ∙ sym (append_assoc front (map unnamed (take (at + 1) items)) (map unnamed (drop (at + 1) items))) in
    let d : front ++ map unnamed (take (at + 1) items) ≡ (front ++ map unnamed (take at items)) ++ unnamed one ∷ [] = ap (λ (it : List Unnamed). front ++ it) b ∙ sym (append_assoc front (map unnamed (take at items)) (unnamed one ∷ [])) in
    subst HaveApartTags d (apart_front (front ++ map unnamed (take (at + 1) items)) (map unnamed (drop (at + 1) items)) (subst HaveApartTags c are))

-- what stands in the place of some parts, and of the next one
pub apart_next : (f : Part → List Unnamed) (parts : List Part) (at : ℕ) (part : Part) → at < length parts → part ≡ get_or parts at part → HaveApartTags (flat_map f parts) → HaveApartTags (flat_map f (take at parts) ++ f part)
apart_next f parts at part below is are =
    let a : flat_map f parts ≡ flat_map f (take (at + 1) parts) ++ flat_map f (drop (at + 1) parts) = ap (flat_map f) (sym (take-append-drop (at + 1) parts)) ∙ flat_map-append f (take (at + 1) parts) (drop (at + 1) parts) in
    subst HaveApartTags (parts_more f parts at part below is) (apart_front (flat_map f (take (at + 1) parts)) (flat_map f (drop (at + 1) parts)) (subst HaveApartTags a are))

abbrev of_part : ℕ → List Definition → Part → List Unnamed
of_part levels all part = elim part.row [ None ↦ [] | Some row ↦ in_place levels all part row ]

pub alternatives_apart : (levels next : ℕ) (all : List Definition) (parts : List Part) (at : ℕ) (part : Part) (row : Row) → 1 ≤ levels → next ≡ levels - 1 → at < length parts → part ≡ get_or parts at part → part.row ≡ Some row
    → HaveApartTags (alternatives levels all parts) → HaveApartTags (alternatives levels all (take at parts) ++ in_place next all part row)
alternatives_apart zero next all parts at part row some e below is has are = absurd (omega arith)
alternatives_apart (suc levels) next all parts at part row some e below is has are =
    let n : next ≡ levels = omega arith in
    let front = alternatives (suc levels) all (take at parts) in
    let whole = apart_next (of_part levels all) parts at part below is are in
    rw n (subst (λ (it : Option Row). HaveApartTags (front ++ elim it [ None ↦ [] | Some own ↦ in_place levels all part own ])) has whole)

-- whether a part makes its CHOICE extensible
abbrev pub extends_in : ℕ → List Definition → Part → Bool
extends_in levels all part = elim part.row [ None ↦ false | Some row ↦ extends_by levels all part row ]

pub extends_is : (levels next : ℕ) (all : List Definition) (choice : Definition) → 1 ≤ levels → next ≡ levels - 1 → extends levels all choice ≡ (has_mark choice.of.now.body || list_any (extends_in next all) choice.parts.items)
extends_is zero next all choice some e = absurd (omega arith)
extends_is (suc levels) next all choice some e = let n : next ≡ levels = omega arith in rw n refl

or_assoc : (a b c : Bool) → ((a || b) || c) ≡ (a || (b || c))
or_assoc true b c = refl
or_assoc false b c = refl

or_none : (a : Bool) → (a || false) ≡ a
or_none true = refl
or_none false = refl

more : (f : Part → Bool) (mark : Bool) (parts : List Part) (at : ℕ) (part : Part) (old : Bool) → at < length parts → part ≡ get_or parts at part → old ≡ (mark || list_any f (take at parts)) → (old || f part) ≡ (mark || list_any f (take (at + 1) parts))
more f mark parts at part old below is so_far =
    ap (λ (it : Bool). it || f part) so_far
    ∙ (or_assoc mark (list_any f (take at parts)) (f part)
    ∙ ap (λ (it : Bool). mark || it) (ap (λ (it : Part). list_any f (take at parts) || f it) is ∙ sym (list_any_more f parts at part below)))

pub extends_more : (levels : ℕ) (all : List Definition) (mark : Bool) (parts : List Part) (at : ℕ) (part : Part) (row : Row) (old new : Bool) → at < length parts → part ≡ get_or parts at part → part.row ≡ Some row
    → old ≡ (mark || list_any (extends_in levels all) (take at parts)) → new ≡ (old || extends_by levels all part row) → new ≡ (mark || list_any (extends_in levels all) (take (at + 1) parts))
extends_more levels all mark parts at part row old new below is has so_far e =
    e ∙ (ap (λ (it : Option Row). old || elim it [ None ↦ false | Some own ↦ extends_by levels all part own ]) (sym has) ∙ more (extends_in levels all) mark parts at part old below is so_far)

pub extends_same : (levels : ℕ) (all : List Definition) (mark : Bool) (parts : List Part) (at : ℕ) (part : Part) (old : Bool) → at < length parts → part ≡ get_or parts at part → part.row ≡ None
    → old ≡ (mark || list_any (extends_in levels all) (take at parts)) → old ≡ (mark || list_any (extends_in levels all) (take (at + 1) parts))
extends_same levels all mark parts at part old below is has so_far =
    sym (or_none old) ∙ (ap (λ (it : Option Row). old || elim it [ None ↦ false | Some own ↦ extends_by levels all part own ]) (sym has) ∙ more (extends_in levels all) mark parts at part old below is so_far)

tagged : (tag : Option Tag) (x : Bool) → is_some tag ≡ true → elim tag [ Some _ ↦ false | None ↦ x ] ≡ false
tagged None x e = absurd cc
tagged (Some tag) x e = refl

untagged : (tag : Option Tag) (x : Bool) → is_some tag ≡ false → elim tag [ Some _ ↦ false | None ↦ x ] ≡ x
untagged None x e = refl
untagged (Some tag) x e = absurd cc

abbrev behind_type : ℕ → List Definition → Option Definition → Bool
behind_type levels all found = elim found [ None ↦ false | Some one ↦ extends levels all one ]

pub tagged_extends : (levels : ℕ) (all : List Definition) (part : Part) (row : Row) (old : Bool) → is_some row.tag ≡ true → old ≡ (old || extends_by levels all part row)
tagged_extends levels all part row old some = sym (or_none old) ∙ ap (λ (it : Bool). old || it) (sym (tagged row.tag (behind_type levels all (type_behind all part)) some))

pub choice_extends : (levels : ℕ) (all : List Definition) (part : Part) (row : Row) (choice : Definition) → is_some row.tag ≡ false → type_behind all part ≡ Some choice → extends_by levels all part row ≡ extends levels all choice
choice_extends levels all part row choice none e = untagged row.tag (behind_type levels all (type_behind all part)) none ∙ ap (behind_type levels all) e
