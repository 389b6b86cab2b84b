-- Numbers that differ, and a map that has them as its keys.
use Rattle.std.proofs.Common.{◌≡◌, ◌≢◌, ℕ, ◌+◌, ◌<◌, ℤ, pos, ◌<ℤ◌, int_eq, int_cmp, refl, true, false, Some, is_some, List, [], ◌∷◌, take, get_or, sym, subst, ◌∙◌, arith, length, length-take}
use Rattle.std.proofs.lemmas.Bool.Decides.{Decides-int_eq}
use Rattle.std.proofs.lemmas.Cmp.{int_ranked}
use Rattle.std.proofs.lemmas.Grind.{common_steps}
use Rattle.std.proofs.lemmas.Int.{ints}
use Rattle.std.proofs.lemmas.List.{take_more}
use Rattle.std.proofs.lemmas.List.Folds.{list_any-append}
use Rattle.std.proofs.lemmas.List.Quantifiers.{all_pairs_push}
use Rattle.std.proofs.lemmas.Map.Views.{Contains-from_any, list_any-from_Contains}
use Rattle.std.specs.BTreeMap as tree
use Rattle.std.specs.BTreeMap.{BTreeMap, Updates}
use Rattle.std.specs.Cmp.{int_eq_equiv}
use Rattle.std.specs.List.{All, AllPairs, list_any}
use Rattle.std.specs.Ordering.{MatchOrdering, is_eq}
use Rattle.std.specs.declared.cmp.Ordering.{Ordering}
use Rattle.std.specs.declared.cmp.Ordering.TheVariants.{Less, Equal, Greater}

apart_from : (numbers : List ℤ) (number : ℤ) → list_any (int_eq number) numbers ≡ false → All (λ one. one ≢ number) numbers
apart_from numbers number none k d within same =
    let there : get_or numbers k number ≡ number = grind (arith, common_steps) in
    let one = list_any-from_Contains int_eq_equiv number numbers (k, within, there) in
    absurd cc

-- one number more, which differs from those in front
pub distinct_more : (numbers : List ℤ) (at : ℕ) → at < length numbers → list_any (int_eq (get_or numbers at (pos 0))) (take at numbers) ≡ false → AllPairs (λ a b. a ≢ b) (take at numbers)
    → AllPairs (λ a b. a ≢ b) (take (at + 1) numbers)
distinct_more numbers at below none distinct =
    let number = get_or numbers at (pos 0) in
    let more = all_pairs_push (λ (a b : ℤ). a ≢ b) (take at numbers) number distinct (apart_from (take at numbers) number none) in
    subst (AllPairs (λ (a b : ℤ). a ≢ b)) (sym (take_more numbers at (pos 0) below)) more

same_numbers : (a b : ℤ) → int_eq a b ≡ true → a ≡ b
same_numbers a b e = (Decides-int_eq a b).0 e

-- numbers of which one stands in front of itself don't differ
pub not_distinct : (numbers : List ℤ) (at : ℕ) → at < length numbers → list_any (int_eq (get_or numbers at (pos 0))) (take at numbers) ≡ true → AllPairs (λ a b. a ≢ b) numbers → ⊥
not_distinct numbers at below some distinct =
    let number = get_or numbers at (pos 0) in
    let held = Contains-from_any {eq = int_eq} same_numbers number (take at numbers) some in
    let k = held.0 in
    let before : k < at = omega (arith, held.1, length-take at numbers) in
    let there : get_or numbers k number ≡ get_or (take at numbers) k number = grind (arith, common_steps) in
    let here : get_or numbers at number ≡ number = grind (arith, common_steps) in
    distinct k at number before below (there ∙ (held.2 ∙ sym here))

same_test : (one other : ℤ) (order : Ordering) → MatchOrdering order (one <ℤ other) (one ≡ other) (other <ℤ one) → is_eq order ≡ int_eq other one
same_test one other Less h = grind (arith, ints, common_steps, Decides-int_eq other one)
same_test one other Equal h = grind (arith, ints, common_steps, Decides-int_eq other one)
same_test one other Greater h = grind (arith, ints, common_steps, Decides-int_eq other one)

-- the map with one key more
pub seen_more : {X : Type 0} (seen next : BTreeMap ℤ X) (numbers : List ℤ) (at : ℕ) (value : X) → at < length numbers → Updates int_cmp seen next (get_or numbers at (pos 0)) (Some value)
    → ((n : ℤ) → is_some (tree.get int_cmp seen n) ≡ list_any (int_eq n) (take at numbers))
    → (n : ℤ) → is_some (tree.get int_cmp next n) ≡ list_any (int_eq n) (take (at + 1) numbers)
seen_more seen next numbers at value below more so_far n =
    let number = get_or numbers at (pos 0) in
    let here : is_eq (int_cmp number n) ≡ int_eq n number = same_test number n (int_cmp number n) (int_ranked number n (int_cmp number n) refl) in
    let cut = take_more numbers at (pos 0) below in
    let both = list_any-append (int_eq n) (take at numbers) (number ∷ []) in
    let got = more.0 n in
    grind (arith, common_steps, so_far n)
