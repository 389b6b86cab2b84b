-- Enumerated types, by a list of their values.
use Rattle.std.specs.Prelude.{◌≡◌, ℤ, Bool, true, false, cond, List, [], ◌∷◌, Option, Some, None, option_map, refl}
use Rattle.std.specs.Bool.{Decides}
use Rattle.std.specs.Cmp.{IsEquivalence, int_eq_equiv, on_equiv, signed_Decides}
use Rattle.std.specs.Ordering.{int_eq}
use Rattle.std.proofs.Common.{sym, ap, ◌∙◌}
use Rattle.asn1_core.specs.Numbers.{in_isize}
use Rattle.oer_spec.specs.Same.{Same}
use Rattle.oer_spec.specs.Spelled.{enumerated}
use Rattle.oer_spec.specs.Tree.{Enum}

module _ {E : Type 0} (number : E → ℤ) where
  -- the first of the values that has the number
  abbrev pub value_among : List E → ℤ → Option E
  value_among [] n = None
  value_among (v ∷ vs) n = cond (int_eq n (number v)) (Some v) (value_among vs n)

  picked : (v w : E) (rest : Option E) (n : ℤ) (b : Bool) → int_eq n (number w) ≡ b → (rest ≡ Some v → number v ≡ n) → cond b (Some w) rest ≡ Some v → number v ≡ n
  picked v w rest n true e more f =
      let same : w ≡ v = cc in
      ap number (sym same) ∙ sym ((signed_Decides n (number w)).0 e)
  picked v w rest n false e more f = more f

  -- it has that number
  pub value_among-number : (vs : List E) (n : ℤ) (v : E) → value_among vs n ≡ Some v → number v ≡ n
  value_among-number [] n v e = absurd (cc e)
  value_among-number (w ∷ vs) n v e = picked v w (value_among vs n) n (int_eq n (number w)) refl (value_among-number vs n v) e

  -- a value of the list is the first with its number, which is one of isize
  abbrev pub IsListed : List E → E → Type 0
  IsListed values v = (in_isize (number v) ≡ true) × (value_among values (number v) ≡ Some v)

-- the same of what holds such a value
module _ {E W : Type 0} (hold : E → W) (number : E → ℤ) (values : List E) where
  abbrev pub value_among_as : ℤ → Option W
  value_among_as n = option_map hold (value_among number values n)

  held_number : (held : W → E) → ((v : E) → held (hold v) ≡ v) → (o : Option E) (n : ℤ) → ((v : E) → o ≡ Some v → number v ≡ n) → (w : W) → option_map hold o ≡ Some w → number (held w) ≡ n
  held_number held same None n back w e = absurd (cc e)
  held_number held same (Some v) n back w e =
      let is : hold v ≡ w = cc in
      ap (λ (x : W). number (held x)) (sym is) ∙ ap number (same v) ∙ back v refl

  pub value_among_as-number : (held : W → E) → ((v : E) → held (hold v) ≡ v) → (n : ℤ) (w : W) → value_among_as n ≡ Some w → number (held w) ≡ n
  value_among_as-number held same n w e = held_number held same (value_among number values n) n (λ v f. value_among-number number values n v f) w e

-- ---- equality by numbers

-- whether both have one number
abbrev pub same_number : {W : Type 0} → (W → ℤ) → W → W → Bool
same_number number v w = int_eq (number v) (number w)

pub same_number_equiv : {W : Type 0} (number : W → ℤ) → IsEquivalence (same_number number)
same_number_equiv number = on_equiv number int_eq_equiv

-- numbers are the same exactly where their trees are
pub numbers_same : (m n : ℤ) → Decides (int_eq m n) (Same (enumerated m) (enumerated n))
unfolding enumerated Rattle.oer_spec.specs.Same.Same
numbers_same m n = (λ e. ap Enum ((signed_Decides m n).0 e), λ s. (signed_Decides m n).1 (cc s))
