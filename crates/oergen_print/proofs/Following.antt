-- Files that follow one another: what they have together.
use Rattle.std.proofs.Common.{arith, Bool, true, false, cond, ◌≡◌, ◌∙◌, ◌++◌, ◌+◌, ◌-◌, ◌≤◌, ℕ, List, [], ◌∷◌, take, drop, sym, ap, inl, inr}
use Rattle.std.proofs.Math.Seq.{take-add}
use Rattle.std.proofs.lemmas.List.{flat_map_more}
use Rattle.std.specs.List.{flat_map}
use Rattle.oergen_print.specs.Sections.{AreBehind, AreNumbered, Follows, of_cut}
use Rattle.oergen_print.specs.declared.printer.Printed.{Printed}
use Rattle.oergen_print.specs.declared.sections.Cut.{Cut}

pub one_more : (types : List Printed) (cuts : List Cut) (cut : Cut) → cut.from ≤ cut.to → flat_map (of_cut types) cuts ≡ take cut.from types → flat_map (of_cut types) (cuts ++ cut ∷ []) ≡ take cut.to types
one_more types cuts cut ordered before =
    let more = flat_map_more (of_cut types) [] cuts cut in
    let split : take (cut.from + (cut.to - cut.from)) types ≡ take cut.from types ++ take (cut.to - cut.from) (drop cut.from types) = take-add cut.from (cut.to - cut.from) types in
    let sum : cut.from + (cut.to - cut.from) ≡ cut.to = omega (arith, ordered) in
    sym more ∙ ap (λ it. it ++ of_cut types cut) before ∙ sym split ∙ ap (λ n. take n types) sum

-- the numbers of one more file
behind_more : (before : ℕ × ℕ) (files : List (ℕ × ℕ)) (one next : ℕ × ℕ) → AreBehind before (files ++ one ∷ []) → Follows one next → AreBehind before ((files ++ one ∷ []) ++ next ∷ [])
unfolding AreBehind
behind_more before [] one next are follows = (are.0, (follows, tt))
behind_more before (file ∷ more) one next are follows = (are.0, behind_more file more one next are.1 follows)

pub numbered_more : (files : List (ℕ × ℕ)) (one next : ℕ × ℕ) → AreNumbered (files ++ one ∷ []) → Follows one next → AreNumbered ((files ++ one ∷ []) ++ next ∷ [])
unfolding AreNumbered AreBehind
numbered_more [] one next are follows = (are.0, (follows, tt))
numbered_more (first ∷ more) one next are follows = (are.0, behind_more first more one next are.1 follows)

-- the numbers of one file less
behind_less : (before : ℕ × ℕ) (files : List (ℕ × ℕ)) (one : ℕ × ℕ) → AreBehind before (files ++ one ∷ []) → AreBehind before files
unfolding AreBehind
behind_less before [] one are = tt
behind_less before (file ∷ more) one are = (are.0, behind_less file more one are.1)

pub numbered_less : (files : List (ℕ × ℕ)) (one : ℕ × ℕ) → AreNumbered (files ++ one ∷ []) → AreNumbered files
unfolding AreNumbered
numbered_less [] one are = tt
numbered_less (first ∷ more) one are = (are.0, behind_less first more one are.1)

-- the numbers of the next file
pub follows_by : (ends : Bool) (one next : ℕ × ℕ) → next ≡ cond ends (one.0 + 1, 1) (one.0, one.1 + 1) → Follows one next
follows_by true one next is = inr (ap (λ it. it.0) is, ap (λ it. it.1) is)
follows_by false one next is = inl (ap (λ it. it.0) is, ap (λ it. it.1) is)

pub few_more : (one next : ℕ × ℕ) (at : ℕ) → one.0 ≤ at + 1 → one.1 ≤ at + 1 → Follows one next → (next.0 ≤ (at + 1) + 1) × (next.1 ≤ (at + 1) + 1)
few_more one next at crates files (inl same) = (omega (arith, crates, same.0), omega (arith, files, same.1))
few_more one next at crates files (inr new) = (omega (arith, crates, new.0), omega (arith, new.1))
