-- What stands in a SET for its components, and what definitions come to in the end.
use Rattle.std.proofs.Common.{◌≡◌, ◌≢◌, ◌∙◌, ℕ, ◌+◌, ◌<◌, ◌≤◌, Bool, true, false, cond, Option, Some, None, is_some, List, [], ◌∷◌, ◌++◌, append-nil, length, take, drop, get_or, map, set, MatchOption, refl, sym, subst, ap, arith}
use Rattle.std.proofs.Math.ListN.{drop_of_length-le}
use Rattle.std.proofs.Math.Seq.{drop-append_seam}
use Rattle.std.proofs.lemmas.List.{drop-map, drop_more, length-map, take_more}
use Rattle.std.specs.List.{AllZip, cons_option, filter_map}
use Rattle.asn1_core.specs.declared.tag.Tag.{Tag}
use Rattle.oergen_layouts.specs.Untagged.{Found, IsCountable, IsLeastOf, IsPlaceable, IsRootInSet, Unnamed, all_taken_up, in_place, is_put, marked, part_tag, root_tag, root_tags, tags_in_root, taken_up, unnamed, unnamed_with, used_of}
use Rattle.oergen_layouts.specs.declared.definitions.Definition.{Definition}
use Rattle.oergen_layouts.specs.declared.definitions.Part.{Part}
use Rattle.oergen_layouts.specs.declared.rows.Row.{Row}
use Rattle.oergen_layouts.proofs.Alternatives.{has_tag}
use Rattle.oergen_layouts.proofs.Writing.{zip_more}

root_tags_unnamed : (parts : List Part) → root_tags parts ≡ tags_in_root (map unnamed parts)
root_tags_unnamed [] = refl
root_tags_unnamed (part ∷ parts) = ap (cons_option (root_tag part.row)) (root_tags_unnamed parts)

behind : (old new : List Part) (more : List Unnamed) → map unnamed new ≡ map unnamed old ++ more → map unnamed (drop (length old) new) ≡ more
behind old new more e =
    sym (drop-map unnamed (length old) new)
    ∙ (ap (drop (length old)) e
    ∙ (ap (λ (it : ℕ). drop it (map unnamed old ++ more)) (sym (length-map old unnamed)) ∙ drop-append_seam (map unnamed old) more))

root_tags_of : (all : List Definition) (part : Part) (row : Row) (old new : List Part) → map unnamed new ≡ map unnamed old ++ in_place 64 all part row → root_tags (drop (length old) new) ≡ tags_in_root (in_place 64 all part row)
root_tags_of all part row old new placed = root_tags_unnamed (drop (length old) new) ∙ ap tags_in_root (behind old new (in_place 64 all part row) placed)

-- a root component with the tag that it counts by
pub root_in_set : (all : List Definition) (part made : Part) (row : Row) (old new : List Part) (tag : Option Tag) → part.row ≡ Some row → map unnamed new ≡ map unnamed old ++ in_place 64 all part row
    → MatchOption row.tag (IsLeastOf (root_tags (drop (length old) new)) tag) (λ own. tag ≡ Some own) → is_some tag ≡ true → unnamed made ≡ unnamed_with part tag → IsRootInSet all part row made
root_in_set all part made row old new tag has placed counts some same =
    let own : part_tag made ≡ tag = has_tag made part row tag same has in
    let roots = root_tags_of all part row old new placed in
    let of_these = subst (λ (it : List Tag). MatchOption row.tag (IsLeastOf it tag) (λ own. tag ≡ Some own)) roots counts in
    record {
      is_same = same ∙ ap (unnamed_with part) (sym own);
      has_tag = ap is_some own ∙ some;
      counts = subst (λ (it : Option Tag). MatchOption row.tag (IsLeastOf (tags_in_root (in_place 64 all part row)) it) (λ own. it ≡ Some own)) (sym own) of_these;
    }

abbrev Counts : Option Tag → List Tag → Option Tag → Type 0
Counts own tags tag = MatchOption own (IsLeastOf tags tag) (λ it. tag ≡ Some it)

without_tag : (own tag : Option Tag) (tags : List Tag) → is_some tag ≡ false → Counts own tags tag → (own ≡ None) × (tags ≡ [])
without_tag None None tags none is = (refl, is)
without_tag None (Some tag) tags none is = absurd cc
without_tag (Some own) tag tags none is = absurd cc

least_is_there : (own tag : Option Tag) (tags : List Tag) → own ≡ None → is_some tag ≡ true → Counts own tags tag → tags ≢ []
least_is_there None None tags e some is empty = absurd cc
least_is_there None (Some tag) tags e some is empty = let within = is.0.1 in absurd (omega (arith, within, ap length empty))
least_is_there (Some own) tag tags e some is empty = absurd cc

-- by what `counted_tag` finds: a component that a SET can count, and one that it can't
pub is_countable : (all : List Definition) (part : Part) (row : Row) (old new : List Part) (tag : Option Tag) → map unnamed new ≡ map unnamed old ++ in_place 64 all part row → Counts row.tag (root_tags (drop (length old) new)) tag → is_some tag ≡ true
    → IsPlaceable 64 all part row → IsCountable all part row
is_countable all part row old new tag placed counts some placeable = record {
  is_placeable = placeable;
  has_root = λ none empty. least_is_there row.tag tag (root_tags (drop (length old) new)) none some counts (root_tags_of all part row old new placed ∙ empty);
}

pub not_countable : (all : List Definition) (part : Part) (row : Row) (old new : List Part) (tag : Option Tag) → map unnamed new ≡ map unnamed old ++ in_place 64 all part row → Counts row.tag (root_tags (drop (length old) new)) tag → is_some tag ≡ false
    → IsCountable all part row → ⊥
not_countable all part row old new tag placed counts none can =
    let without = without_tag row.tag tag (root_tags (drop (length old) new)) none counts in
    can.has_root without.0 (sym (root_tags_of all part row old new placed) ∙ without.1)

-- a step of a loop that puts one more for each
pub zip_step : {A B : Type 0} (R : A → B → Type 0) (xs : List A) (ys next : List B) (at : ℕ) (x : A) (y : B) → at < length xs → x ≡ get_or xs at x → AllZip R (take at xs) ys → R x y → next ≡ ys ++ y ∷ [] → AllZip R (take (at + 1) xs) next
zip_step R xs ys next at x y below is so_far r pushed =
    let cut : take (at + 1) xs ≡ take at xs ++ x ∷ [] = take_more xs at x below ∙ ap (λ it. take at xs ++ it ∷ []) (sym is) in
    rw (cut, pushed) (zip_more R (take at xs) ys x y so_far r)

used_append : (some more : List (Definition × Bool)) → used_of (some ++ more) ≡ used_of some ++ used_of more
used_append [] more = refl
used_append ((one, true) ∷ some) more = used_append some more
used_append ((one, false) ∷ some) more = ap (λ (it : List Definition). one ∷ it) (used_append some more)

-- one definition more, by whether it is used
pub used_push : (R : Definition → Definition → Type 0) (before : List (Definition × Bool)) (one now : Definition) (kept next : List Definition) → AllZip R (used_of before) kept → R one now → next ≡ kept ++ now ∷ []
    → AllZip R (used_of (before ++ (one, false) ∷ [])) next
used_push R before one now kept next so_far r pushed = rw (used_append before ((one, false) ∷ []), pushed) (zip_more R (used_of before) kept one now so_far r)

pub unused_push : (R : Definition → Definition → Type 0) (before : List (Definition × Bool)) (one : Definition) (kept : List Definition) → AllZip R (used_of before) kept → AllZip R (used_of (before ++ (one, true) ∷ [])) kept
unused_push R before one kept so_far =
    let same : used_of (before ++ (one, true) ∷ []) ≡ used_of before = used_append before ((one, true) ∷ []) ∙ append-nil (used_of before) in
    rw same so_far

pub next_pair : (pairs : List (Definition × Bool)) (at : ℕ) (pair : Definition × Bool) → at < length pairs → pair ≡ get_or pairs at pair → take (at + 1) pairs ≡ take at pairs ++ pair ∷ []
next_pair pairs at pair below is = take_more pairs at pair below ∙ ap (λ (it : Definition × Bool). take at pairs ++ it ∷ []) (sym is)

pub marked_append : (some more : List ℕ) (flags : List Bool) → marked (some ++ more) flags ≡ marked more (marked some flags)
marked_append [] more flags = refl
marked_append (at ∷ some) more flags = marked_append some more (set flags at true)

-- a step of the loop that marks what is taken up
pub taken_more : (all : List Definition) (found : List Found) (flags old new : List Bool) (at : ℕ) (one : Definition) (it : Found) → at < length all → one ≡ get_or all at one → at < length found → it ≡ get_or found at it
    → marked (all_taken_up (drop at all) (drop at found)) old ≡ flags → new ≡ marked (cond (is_put one it) (filter_map taken_up one.parts.items) []) old
    → marked (all_taken_up (drop (at + 1) all) (drop (at + 1) found)) new ≡ flags
taken_more all found flags old new at one it below is below_found is_found so_far more =
    let taken : List ℕ = cond (is_put one it) (filter_map taken_up one.parts.items) [] in
    let rest = all_taken_up (drop (at + 1) all) (drop (at + 1) found) in
    let a : drop at all ≡ one ∷ drop (at + 1) all = drop_more all at one below ∙ ap (λ (own : Definition). own ∷ drop (at + 1) all) (sym is) in
    let b : drop at found ≡ it ∷ drop (at + 1) found = drop_more found at it below_found ∙ ap (λ (own : Found). own ∷ drop (at + 1) found) (sym is_found) in
    let both : all_taken_up (drop at all) (drop at found) ≡ taken ++ rest = ap (λ (own : List Definition). all_taken_up own (drop at found)) a ∙ ap (all_taken_up (one ∷ drop (at + 1) all)) b in
    ap (marked rest) more ∙ (sym (marked_append taken rest old) ∙ (ap (λ (places : List ℕ). marked places old) (sym both) ∙ so_far))

none_left : (all : List Definition) → all_taken_up all [] ≡ []
none_left [] = refl
none_left (one ∷ all) = refl

none_taken : (all : List Definition) (found : List Found) (at : ℕ) → length found ≤ at → all_taken_up (drop at all) (drop at found) ≡ []
none_taken all found at past = ap (all_taken_up (drop at all)) (drop_of_length-le found past) ∙ none_left (drop at all)

pub taken_same : (all : List Definition) (found : List Found) (flags old : List Bool) (at : ℕ) → length found ≤ at → marked (all_taken_up (drop at all) (drop at found)) old ≡ flags
    → marked (all_taken_up (drop (at + 1) all) (drop (at + 1) found)) old ≡ flags
taken_same all found flags old at past so_far =
    ap (λ (places : List ℕ). marked places old) (none_taken all found (at + 1) (omega (arith, past)) ∙ sym (none_taken all found at past)) ∙ so_far
