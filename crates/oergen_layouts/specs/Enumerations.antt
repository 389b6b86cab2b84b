-- The numbers of an ENUMERATED's values (X.680, 20.3 to 20.6).
use Rattle.std.specs.Prelude.{◌≡◌, ◌≢◌, ℕ, zero, suc, ◌-◌, ◌^◌, ℤ, pos, ◌+ℤ◌, ◌≤ℤ◌, ◌<ℤ◌, Option, Some, None, is_some, IsTrue, List, [], ◌∷◌, map, take}
use Rattle.std.specs.BTreeSet.{BTreeSet, contains}
use Rattle.std.specs.List.{All, AllPairs, AllZip, Contains, filter_map}
use Rattle.std.specs.Option.{IfSome, IsSomeAnd}
use Rattle.std.specs.Ordering.{int_cmp}
use Rattle.oergen_parse.specs.declared.ast.Numbered.{Numbered}
use Rattle.oergen_parse.specs.declared.lexer.Token.{Token}
use Rattle.oergen_layouts.specs.Numbers.{IsI128, own_number}

-- a set has these numbers, and no others
pub record IsSetOf (numbers : List ℤ) (set : BTreeSet ℤ) : Type 0 where
  pub has_each : (n : ℤ) → Contains numbers n → IsTrue (contains int_cmp set n)
  pub has_no_other : (n : ℤ) → IsTrue (contains int_cmp set n) → Contains numbers n

-- the least from one on that isn't taken
pub record IsLeastFree (taken : List ℤ) (next number : ℤ) : Type 0 where
  pub from_next : next ≤ℤ number
  pub is_free : ¬ Contains taken number
  pub is_least : (n : ℤ) → next ≤ℤ n → n <ℤ number → Contains taken n

-- what no i128 reaches stands above all of them
abbrev pub bound_of : Option ℤ → ℤ
bound_of None = pos (2 ^ 127)
bound_of (Some next) = next

-- all from one on, as far as an i128 goes
pub record AreTakenFrom (taken : List ℤ) (next : ℤ) : Type 0 where
  pub are_taken : (n : ℤ) → next ≤ℤ n → n <ℤ pos (2 ^ 127) → Contains taken n

-- the number of a value is the one that is written behind its name, else the least that is free
abbrev pub IsGiven : List ℤ → ℤ → Option ℤ → ℤ → Type 0
IsGiven taken next None number = IsLeastFree taken next number
IsGiven taken next (Some own) number = number ≡ own

-- From which one on the next number is given: behind a value of the root whose number is written that stays as it was. So many values
-- of the root are left.
abbrev pub next_behind : ℕ → ℤ → Option ℤ → ℤ → ℤ
next_behind left next None number = number +ℤ pos 1
next_behind zero next (Some own) number = number +ℤ pos 1
next_behind (suc left) next (Some own) number = next

-- the numbers of values by those that are written, of which so many are of the root
abbrev pub AreNumberedFrom : List ℤ → ℕ → ℤ → List (Option ℤ) → List ℤ → Type 0
AreNumberedFrom taken left next [] [] = Unit {0}
AreNumberedFrom taken left next [] (_ ∷ _) = ⊥
AreNumberedFrom taken left next (_ ∷ _) [] = ⊥
AreNumberedFrom taken left next (own ∷ written) (number ∷ numbers) =
    IsGiven taken next own number × AreNumberedFrom taken (left - 1) (next_behind left next own number) written numbers

-- from 0 on, without those that are written in the root
abbrev pub AreNumbered : ℕ → List (Option ℤ) → List ℤ → Type 0
AreNumbered root written numbers = AreNumberedFrom (filter_map (λ own. own) (take root written)) root (pos 0) written numbers

-- the number that is written behind a name, where it is one by its own text
abbrev pub number_behind : List Token → Numbered → Option ℤ
number_behind tokens item = elim item.number [ None ↦ None | Some value ↦ own_number tokens value ]

-- a value's number is the one that is written
abbrev pub IsAsWritten : List Token → Numbered → Option ℤ → Type 0
IsAsWritten tokens item own = IfSome (number_behind tokens item) (λ number. own ≡ Some number)

-- what is written behind a name is a number by its own text, of at most 128 bits
abbrev pub IsDigits : List Token → Numbered → Type 0
IsDigits tokens item = IfSome item.number (λ value. IsSomeAnd (own_number tokens value) IsI128)

-- the same of names, of which some have a number behind them
pub record AreNumbersOf (tokens : List Token) (items : List Numbered) (root : ℕ) (numbers : List ℤ) : Type 0 where
  pub written : List (Option ℤ)
  pub are_of_items : map is_some written ≡ map (λ item. is_some item.number) items
  pub are_as_written : AllZip (IsAsWritten tokens) items written
  pub are_numbered : AreNumbered root written numbers

-- Numbers that names have by the standard: what is written is a number by its own text, none is past i128, and no two are the same.
pub record AreAllowed (tokens : List Token) (items : List Numbered) (root : ℕ) (numbers : List ℤ) : Type 0 where
  pub are_digits : All (IsDigits tokens) items
  pub are_numbered : AreNumbered root (map (number_behind tokens) items) numbers
  pub each_fits : All IsI128 numbers
  pub are_distinct : AllPairs (λ a b. a ≢ b) numbers
