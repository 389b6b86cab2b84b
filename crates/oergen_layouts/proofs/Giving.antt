-- Steps of the loop that gives an ENUMERATED's values their numbers.
use Rattle.std.proofs.Common.{◌≡◌, ℕ, ◌+◌, ◌-◌, ◌<◌, ◌≤◌, ℤ, pos, ◌<ℤ◌, ◌⊎◌, inl, inr, Option, Some, None, List, [], ◌∷◌, ◌++◌, length, drop, take, get_or, sym, ap, subst, ◌∙◌, append_assoc, append-nil, arith}
use Rattle.std.proofs.lemmas.Bool.{cases_lt}
use Rattle.std.proofs.lemmas.Grind.{common_steps}
use Rattle.std.proofs.lemmas.Int.{ints}
use Rattle.std.proofs.lemmas.List.{drop_all, drop_more, take_more}
use Rattle.std.proofs.lemmas.List.Elements.{All-drop}
use Rattle.std.specs.List.{All}
use Rattle.oergen_layouts.specs.Enumerations.{AreNumberedFrom, AreTakenFrom, IsGiven, IsLeastFree, next_behind}
use Rattle.oergen_layouts.specs.Numbers.{IsI128}

-- one value, in front of others
one_more : (taken : List ℤ) (left : ℕ) (next after : ℤ) (own : Option ℤ) (number : ℤ) (written : List (Option ℤ)) (rest : List ℤ)
    → IsGiven taken next own number → after ≡ next_behind left next own number → AreNumberedFrom taken (left - 1) after written rest
    → AreNumberedFrom taken left next (own ∷ written) (number ∷ rest)
one_more taken left next after own number written rest given e h =
    (given, subst (λ (it : ℤ). AreNumberedFrom taken (left - 1) it written rest) e h)

-- what is numbered so far and one value more
pub numbered_more : (taken : List ℤ) (root at : ℕ) (next after : ℤ) (written : List (Option ℤ)) (all more : List ℤ) (number : ℤ) (rest : List ℤ)
    → at < length written
    → IsGiven taken next (get_or written at None) number
    → after ≡ next_behind (root - at) next (get_or written at None) number
    → more ≡ all ++ number ∷ []
    → ((rest : List ℤ) → AreNumberedFrom taken (root - at) next (drop at written) rest → AreNumberedFrom taken root (pos 0) written (all ++ rest))
    → AreNumberedFrom taken (root - (at + 1)) after (drop (at + 1) written) rest
    → AreNumberedFrom taken root (pos 0) written (more ++ rest)
numbered_more taken root at next after written all more number rest below given e m so_far h =
    let left : root - at - 1 ≡ root - (at + 1) = omega arith in
    let h2 = subst (λ (it : ℕ). AreNumberedFrom taken it after (drop (at + 1) written) rest) (sym left) h in
    let both = one_more taken (root - at) next after (get_or written at None) number (drop (at + 1) written) rest given e h2 in
    let whole = so_far (number ∷ rest) (subst (λ (it : List (Option ℤ)). AreNumberedFrom taken (root - at) next it (number ∷ rest)) (sym (drop_more written at None below)) both) in
    let same : all ++ (number ∷ rest) ≡ more ++ rest = grind (arith, m, append_assoc) in
    subst (λ (it : List ℤ). AreNumberedFrom taken root (pos 0) written it) same whole

-- all values
pub numbered_all : (taken : List ℤ) (root at : ℕ) (next : ℤ) (written : List (Option ℤ)) (all : List ℤ)
    → length written ≤ at
    → ((rest : List ℤ) → AreNumberedFrom taken (root - at) next (drop at written) rest → AreNumberedFrom taken root (pos 0) written (all ++ rest))
    → AreNumberedFrom taken root (pos 0) written all
numbered_all taken root at next written all past so_far =
    let none = subst (λ (it : List (Option ℤ)). AreNumberedFrom taken (root - at) next it []) (sym (drop_all at written past)) tt in
    subst (λ (it : List ℤ). AreNumberedFrom taken root (pos 0) written it) (append-nil all) (so_far [] none)

-- a value's number is the only one that it may be given
least_once : (taken : List ℤ) (next a b : ℤ) → IsLeastFree taken next a → IsLeastFree taken next b → a ≡ b
least_once taken next a b one other =
    let below : a <ℤ b → ⊥ = λ h. one.is_free (other.is_least a one.from_next h) in
    let above : b <ℤ a → ⊥ = λ h. other.is_free (one.is_least b other.from_next h) in
    grind (arith, ints, below, above)

given_once : (taken : List ℤ) (next : ℤ) (own : Option ℤ) (a b : ℤ) → IsGiven taken next own a → IsGiven taken next own b → a ≡ b
given_once taken next None a b one other = least_once taken next a b one other
given_once taken next (Some own) a b one other = one ∙ sym other

only_front : (taken : List ℤ) (left : ℕ) (next after : ℤ) (own : Option ℤ) (number : ℤ) (written : List (Option ℤ)) (numbers : List ℤ) (at : ℕ)
    → IsGiven taken next own number → after ≡ next_behind left next own number → AreNumberedFrom taken left next (own ∷ written) (drop at numbers)
    → (take (at + 1) numbers ≡ take at numbers ++ number ∷ []) × AreNumberedFrom taken (left - 1) after written (drop (at + 1) numbers)
only_front taken left next after own number written numbers at given e are =
    let cases : (at < length numbers) ⊎ (length numbers ≤ at) = cases_lt at (length numbers) in
    elim cases [
      | inl below ↦
          let both = subst (λ (it : List ℤ). AreNumberedFrom taken left next (own ∷ written) it) (drop_more numbers at number below) are in
          let same : get_or numbers at number ≡ number = given_once taken next own _ _ both.0 given in
          let step : next_behind left next own (get_or numbers at number) ≡ after = ap (next_behind left next own) same ∙ sym e in
          (take_more numbers at number below ∙ ap (λ (it : ℤ). take at numbers ++ it ∷ []) same, subst (λ (it : ℤ). AreNumberedFrom taken (left - 1) it written (drop (at + 1) numbers)) step both.1)
      | inr past ↦ absurd (subst (λ (it : List ℤ). AreNumberedFrom taken left next (own ∷ written) it) (drop_all at numbers past) are)
    ]

pub only_more : (taken : List ℤ) (root at : ℕ) (next after : ℤ) (written : List (Option ℤ)) (all more : List ℤ) (number : ℤ) (numbers : List ℤ)
    → at < length written
    → IsGiven taken next (get_or written at None) number
    → after ≡ next_behind (root - at) next (get_or written at None) number
    → more ≡ all ++ number ∷ []
    → (all ≡ take at numbers) × AreNumberedFrom taken (root - at) next (drop at written) (drop at numbers)
    → (more ≡ take (at + 1) numbers) × AreNumberedFrom taken (root - (at + 1)) after (drop (at + 1) written) (drop (at + 1) numbers)
only_more taken root at next after written all more number numbers below given e m so_far =
    let are = subst (λ (it : List (Option ℤ)). AreNumberedFrom taken (root - at) next it (drop at numbers)) (drop_more written at None below) so_far.1 in
    let step = only_front taken (root - at) next after (get_or written at None) number (drop (at + 1) written) numbers at given e are in
    let left : root - at - 1 ≡ root - (at + 1) = omega arith in
    (m ∙ (ap (λ (it : List ℤ). it ++ number ∷ []) so_far.0 ∙ sym step.0), subst (λ (it : ℕ). AreNumberedFrom taken it after (drop (at + 1) written) (drop (at + 1) numbers)) left step.1)

none_front : (taken : List ℤ) (left : ℕ) (next : ℤ) (written : List (Option ℤ)) (numbers : List ℤ) → AreTakenFrom taken next → AreNumberedFrom taken left next (None ∷ written) numbers → All IsI128 numbers → ⊥
none_front taken left next written [] taken_all are fits = are
none_front taken left next written (number ∷ numbers) taken_all are fits =
    are.0.is_free (taken_all.are_taken number are.0.from_next (fits 0 number (omega arith)).1)

pub none_left : (taken : List ℤ) (left : ℕ) (next : ℤ) (written : List (Option ℤ)) (numbers : List ℤ) (at : ℕ) → at < length written → get_or written at None ≡ None
    → AreTakenFrom taken next → AreNumberedFrom taken left next (drop at written) (drop at numbers) → All IsI128 numbers → ⊥
none_left taken left next written numbers at below none taken_all are fits =
    let cut : drop at written ≡ None ∷ drop (at + 1) written = drop_more written at None below ∙ ap (λ (it : Option ℤ). it ∷ drop (at + 1) written) none in
    none_front taken left next (drop (at + 1) written) (drop at numbers) taken_all (subst (λ (it : List (Option ℤ)). AreNumberedFrom taken left next it (drop at numbers)) cut are) (All-drop IsI128 at numbers fits)

none_behind : (taken : List ℤ) (left : ℕ) (next : ℤ) (at : ℕ) (numbers : List ℤ) → AreNumberedFrom taken left next [] (drop at numbers) → take at numbers ≡ numbers
none_behind taken left next at numbers are =
    let cases : (at < length numbers) ⊎ (length numbers ≤ at) = cases_lt at (length numbers) in
    elim cases [
      | inl below ↦ absurd (subst (λ (it : List ℤ). AreNumberedFrom taken left next [] it) (drop_more numbers at (pos 0) below) are)
      | inr past ↦ grind (arith, common_steps)
    ]

pub only_all : (taken : List ℤ) (left at : ℕ) (next : ℤ) (written : List (Option ℤ)) (all numbers : List ℤ) → length written ≤ at
    → (all ≡ take at numbers) × AreNumberedFrom taken left next (drop at written) (drop at numbers) → all ≡ numbers
only_all taken left at next written all numbers past so_far =
    let are = subst (λ (it : List (Option ℤ)). AreNumberedFrom taken left next it (drop at numbers)) (drop_all at written past) so_far.1 in
    so_far.0 ∙ none_behind taken left next at numbers are
