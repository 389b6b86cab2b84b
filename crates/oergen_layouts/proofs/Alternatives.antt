-- Alternatives in the place of a CHOICE without a tag, and what their tags are.
use Rattle.std.proofs.Common.{◌≡◌, ◌≢◌, ◌∙◌, ℕ, zero, suc, ◌+◌, ◌-◌, ◌<◌, ◌≤◌, ◌⊎◌, inl, inr, Bool, true, false, cond, Option, Some, None, is_some, List, [], ◌∷◌, ◌++◌, append-nil, append_assoc, length, take, get_or, map, Contains, MatchOption, Result, Ok, Err, OnOk, refl, sym, subst, ap, arith, slice_get}
use Rattle.std.proofs.lemmas.Bool.Decides.{nat_tests}
use Rattle.std.proofs.lemmas.Grind.{flat_map-append}
use Rattle.std.proofs.lemmas.List.{take_more, map-append}
use Rattle.std.proofs.lemmas.List.Elements.{All-push, Contains-append_left, Contains-append_right, filter_map-append}
use Rattle.std.proofs.lemmas.Option.{slice_get-get_or}
use Rattle.std.proofs.lemmas.List.Quantifiers.{all_pairs_push}
use Rattle.std.specs.List.{All, cons_option, flat_map, filter_map}
use Rattle.std.specs.Option.{option_map, unwrap_or}
use Rattle.std.specs.Ordering.{is_eq, is_le, is_lt, ord_min}
use Rattle.std.specs.Slice.{IsItemAt}
use Rattle.std.specs.declared.cmp.Ordering.{Ordering}
use Rattle.std.specs.declared.cmp.Ordering.TheVariants.{Less, Equal, Greater}
use Rattle.asn1_core.specs.TagOrder.{IsTagOrder}
use Rattle.asn1_core.specs.Tags.{same_tag, tag_le}
use Rattle.asn1_core.specs.declared.tag.Class.{Class}
use denote.Ref.{Bor}
use Rattle.asn1_core.specs.declared.tag.Tag.{Tag}
use Rattle.oergen_layouts.specs.Untagged.{HaveOwnPartTags, IsLeastOf, Unnamed, alternatives, first_target, in_place, is_name_of, part_tag, parts_behind, past_names, root_tag, root_tags, row_tag, type_behind, unnamed, unnamed_with}
use Rattle.oergen_layouts.specs.declared.definitions.Definition.{Definition}
use Rattle.oergen_layouts.specs.declared.definitions.Part.{Part}
use Rattle.oergen_layouts.specs.declared.rows.Row.{Row}

kept_row : (row : Option Row) → option_map (λ (it : Row). record it { tag = row_tag row }) row ≡ row
kept_row None = refl
kept_row (Some row) = refl

-- a part with the tag that it has
pub unnamed_own : (part : Part) → unnamed_with part (part_tag part) ≡ unnamed part
unnamed_own part = let f : Option Row → Unnamed = λ row. (row, part.lists, part.inner.now, part.target, part.tie, part.is_held) in ap f (kept_row part.row)

pub same_part_tag : (a b : Part) → unnamed a ≡ unnamed b → part_tag a ≡ part_tag b
same_part_tag a b e = ap (λ (it : Unnamed). row_tag it.0) e

pub own_none : HaveOwnPartTags []
own_none = record {
  each_has = λ k d within. absurd (omega (arith, within));
  are_own = λ i j d below within. absurd (omega (arith, within));
}

pub own_more : (parts : List Part) (part : Part) → HaveOwnPartTags parts → is_some (part_tag part) ≡ true → All (λ (other : Part). part_tag other ≢ part_tag part) parts → HaveOwnPartTags (parts ++ part ∷ [])
own_more parts part own has differ = record {
  each_has = All-push (λ (it : Part). is_some (part_tag it) ≡ true) parts part own.each_has has;
  are_own = all_pairs_push (λ (a b : Part). part_tag a ≢ part_tag b) parts part own.are_own differ;
}

pub alternatives_none : (levels : ℕ) (all : List Definition) → alternatives levels all [] ≡ []
alternatives_none zero all = refl
alternatives_none (suc levels) all = refl

abbrev of_part : ℕ → List Definition → Part → List Unnamed
of_part levels all part = elim part.row [ None ↦ [] | Some row ↦ in_place levels all part row ]

pub parts_more : (f : Part → List Unnamed) (parts : List Part) (at : ℕ) (part : Part) → at < length parts → part ≡ get_or parts at part → flat_map f (take (at + 1) parts) ≡ flat_map f (take at parts) ++ f part
parts_more f parts at part below is =
    let cut : take (at + 1) parts ≡ take at parts ++ part ∷ [] = take_more parts at part below ∙ ap (λ (it : Part). take at parts ++ it ∷ []) (sym is) in
    ap (flat_map f) cut ∙ (flat_map-append f (take at parts) (part ∷ []) ∙ ap (λ (it : List Unnamed). flat_map f (take at parts) ++ it) (append-nil (f part)))

step : (levels next : ℕ) (all : List Definition) (parts : List Part) (at : ℕ) (part : Part) → 1 ≤ levels → next ≡ levels - 1 → at < length parts → part ≡ get_or parts at part
    → alternatives levels all (take (at + 1) parts) ≡ alternatives levels all (take at parts) ++ of_part next all part
step zero next all parts at part some e below is = absurd (omega arith)
step (suc levels) next all parts at part some e below is = let n : next ≡ levels = omega arith in rw n (parts_more (of_part levels all) parts at part below is)

-- one alternative more
pub alternatives_more : (levels next : ℕ) (all : List Definition) (parts : List Part) (at : ℕ) (part : Part) (row : Row) → 1 ≤ levels → next ≡ levels - 1 → at < length parts → part ≡ get_or parts at part → part.row ≡ Some row
    → alternatives levels all (take (at + 1) parts) ≡ alternatives levels all (take at parts) ++ in_place next all part row
alternatives_more levels next all parts at part row some e below is has =
    step levels next all parts at part some e below is ∙ ap (λ (it : Option Row). alternatives levels all (take at parts) ++ elim it [ None ↦ [] | Some own ↦ in_place next all part own ]) has

pub alternatives_same : (levels next : ℕ) (all : List Definition) (parts : List Part) (at : ℕ) (part : Part) → 1 ≤ levels → next ≡ levels - 1 → at < length parts → part ≡ get_or parts at part → part.row ≡ None
    → alternatives levels all (take (at + 1) parts) ≡ alternatives levels all (take at parts)
alternatives_same levels next all parts at part some e below is none =
    step levels next all parts at part some e below is ∙ (ap (λ (it : Option Row). alternatives levels all (take at parts) ++ elim it [ None ↦ [] | Some own ↦ in_place next all part own ]) none ∙ append-nil (alternatives levels all (take at parts)))

untagged : {X : Type 0} (tag : Option Tag) (x y : X) → is_some tag ≡ false → elim tag [ Some _ ↦ x | None ↦ y ] ≡ y
untagged None x y e = refl
untagged (Some tag) x y e = absurd cc

-- in the place of one without a tag
pub in_place_behind : (levels : ℕ) (all : List Definition) (part : Part) (row : Row) (choice : Definition) → is_some row.tag ≡ false → type_behind all part ≡ Some choice → in_place levels all part row ≡ alternatives levels all choice.parts.items
in_place_behind levels all part row choice none e =
    untagged row.tag (unnamed part ∷ []) (alternatives levels all (parts_behind all part)) none
    ∙ ap (λ (it : Option Definition). alternatives levels all (elim it [ None ↦ [] | Some one ↦ one.parts.items ])) e

abbrev name_step : ℕ → ℕ → List Definition → Option Definition → ℕ
name_step left at all found = elim found [ None ↦ at | Some one ↦ cond (is_name_of one.of.now.body) (past_names left all (unwrap_or (first_target one) at)) at ]

pub names_end : (left at : ℕ) (all : List Definition) → slice_get all at ≡ None → past_names left all at ≡ at
names_end zero at all e = refl
names_end (suc left) at all e = ap (name_step left at all) e

pub names_stop : (left at : ℕ) (all : List Definition) (one : Definition) → slice_get all at ≡ Some one → is_name_of one.of.now.body ≡ false → past_names left all at ≡ at
names_stop zero at all one e is = refl
names_stop (suc left) at all one e is = ap (name_step left at all) e ∙ ap (λ (it : Bool). cond it (past_names left all (unwrap_or (first_target one) at)) at) is

pub names_more : (left next at to : ℕ) (all : List Definition) (one : Definition) → 0 < left → next ≡ left - 1 → slice_get all at ≡ Some one → is_name_of one.of.now.body ≡ true → to ≡ unwrap_or (first_target one) at
    → past_names left all at ≡ past_names next all to
names_more zero next at to all one some n e is t = absurd (omega arith)
names_more (suc left) next at to all one some n e is t =
    let same : left ≡ next = omega arith in
    ap (name_step left at all) e
    ∙ (ap (λ (it : Bool). cond it (past_names left all (unwrap_or (first_target one) at)) at) is
    ∙ (ap (λ (it : ℕ). past_names left all it) (sym t) ∙ ap (λ (it : ℕ). past_names it all to) same))

none_there : (all : List Definition) (at : ℕ) → length all ≤ at → slice_get all at ≡ None
none_there [] at past = refl
none_there (one ∷ all) zero past = absurd (omega arith)
none_there (one ∷ all) (suc at) past = none_there all at (omega arith)

-- what `get` finds
pub found : (all : List Definition) (at : ℕ) (one : Bor Definition) → IsItemAt all at (Some one) → slice_get all at ≡ Some one.now
found all at one is = slice_get-get_or all at one.now is.3.0 ∙ ap (λ (it : Definition). Some it) (sym is.1)

pub missed : (all : List Definition) (at : ℕ) → IsItemAt all at None → slice_get all at ≡ None
missed all at is = none_there all at is.3

pub behind_target : (all : List Definition) (part : Part) (target place : ℕ) (r : Option (Bor Definition)) → part.target ≡ Some target → place ≡ past_names 64 all target → IsItemAt all place r
    → MatchOption r (type_behind all part ≡ None) (λ one. type_behind all part ≡ Some one.now)
behind_target all part target place None e same is =
    ap (λ (it : Option ℕ). elim it [ None ↦ None | Some at ↦ slice_get all (past_names 64 all at) ]) e ∙ (ap (slice_get all) (sym same) ∙ missed all place is)
behind_target all part target place (Some one) e same is =
    ap (λ (it : Option ℕ). elim it [ None ↦ None | Some at ↦ slice_get all (past_names 64 all at) ]) e ∙ (ap (slice_get all) (sym same) ∙ found all place one is)

pub root_tags_more : (parts : List Part) (at : ℕ) (part : Part) → at < length parts → part ≡ get_or parts at part → root_tags (take (at + 1) parts) ≡ root_tags (take at parts) ++ cons_option (root_tag part.row) []
root_tags_more parts at part below is =
    let h : Part → Option Tag = λ it. root_tag it.row in
    let cut : take (at + 1) parts ≡ take at parts ++ part ∷ [] = take_more parts at part below ∙ ap (λ (it : Part). take at parts ++ it ∷ []) (sym is) in
    ap (filter_map h) cut ∙ filter_map-append h (take at parts) (part ∷ [])

pub both_ok : {T E : Type 0} (r : Result T E) (P Q R : Type 0) → OnOk r P → OnOk r Q → (P → Q → R) → OnOk r R
both_ok (Ok it) P Q R p q f = f p q
both_ok (Err it) P Q R p q f = tt

pub has_tag : (made part : Part) (row : Row) (tag : Option Tag) → unnamed made ≡ unnamed_with part tag → part.row ≡ Some row → part_tag made ≡ tag
has_tag made part row tag e has = ap (λ (it : Unnamed). row_tag it.0) e ∙ ap (λ (it : Option Row). row_tag (option_map (λ (own : Row). record own { tag = tag }) it)) has

pub unnamed_more : (old new items : List Part) (front : List Unnamed) (at : ℕ) (one made : Part) → at < length items → one ≡ get_or items at one → new ≡ old ++ made ∷ [] → unnamed made ≡ unnamed one
    → map unnamed old ≡ front ++ map unnamed (take at items) → map unnamed new ≡ front ++ map unnamed (take (at + 1) items)
unnamed_more old new items front at one made below is pushed same so_far =
    let a : map unnamed new ≡ map unnamed old ++ unnamed made ∷ [] = ap (map unnamed) pushed ∙ map-append unnamed old (made ∷ []) in
    let b : map unnamed (take (at + 1) items) ≡ map unnamed (take at items) ++ unnamed one ∷ [] = ap (map unnamed) (take_more items at one below ∙ ap (λ (it : Part). take at items ++ it ∷ []) (sym is)) ∙ map-append unnamed (take at items) (one ∷ []) in
    let c = append_assoc front (map unnamed (take at items)) (unnamed one ∷ []) in
    cc

pub tag_there : (items others : List Part) (at : ℕ) (one made : Part) → items ≡ others → HaveOwnPartTags others → at < length items → one ≡ get_or items at one → unnamed made ≡ unnamed one → is_some (part_tag made) ≡ true
tag_there items others at one made e own below is same =
    let all = subst HaveOwnPartTags (sym e) own in
    ap is_some (same_part_tag made one same) ∙ (ap (λ (it : Part). is_some (part_tag it)) is ∙ all.each_has at one below)

le_self : (a : Tag) → tag_le a a ≡ true
le_self a = grind (arith, nat_tests)

record IsLesser (before own m : Tag) : Type 0 where
  is_one : (m ≡ before) ⊎ (m ≡ own)
  below : tag_le m before ≡ true
  below_own : tag_le m own ≡ true

lesser : {class_cmp : Class → Class → Ordering} {cmp : Tag → Tag → Ordering} {partial : Tag → Tag → Option Ordering} {eq : Tag → Tag → Bool} (order : IsTagOrder class_cmp cmp partial eq) (before own : Tag) (o : Ordering)
    → is_le o ≡ tag_le own before → is_eq o ≡ same_tag own before → IsLesser before own (cond (is_lt o) own before)
lesser order before own Less low same = record { is_one = inr refl; below = sym low; below_own = le_self own }
lesser order before own Equal low same = let e = order.same own before (sym same) in record { is_one = inl refl; below = le_self before; below_own = subst (λ (it : Tag). tag_le before it ≡ true) (sym e) (le_self before) }
lesser order before own Greater low same = record { is_one = inl refl; below = le_self before; below_own = order.total own before (sym low) }

-- the lesser one of the least tag and of one more
pub least_more : {class_cmp : Class → Class → Ordering} {cmp : Tag → Tag → Ordering} {partial : Tag → Tag → Option Ordering} {eq : Tag → Tag → Bool} (order : IsTagOrder class_cmp cmp partial eq) (tags : List Tag) (before own m : Tag)
    → m ≡ ord_min cmp before own → IsLeastOf tags (Some before) → IsLeastOf (tags ++ own ∷ []) (Some m)
least_more {cmp} order tags before own m e least =
    let less = subst (IsLesser before own) (sym e) (lesser order before own (cmp own before) (order.tags own before) (order.ties own before)) in
    let has : Contains (tags ++ own ∷ []) m = elim less.is_one [
      | inl same ↦ Contains-append_left tags (own ∷ []) m (subst (Contains tags) (sym same) least.0)
      | inr same ↦ Contains-append_right tags (own ∷ []) m (0, omega arith, sym same)
    ] in
    (has, All-push (λ (it : Tag). tag_le m it ≡ true) tags own (λ k d within. order.trans m before (get_or tags k d) less.below (least.1 k d within)) less.below_own)
