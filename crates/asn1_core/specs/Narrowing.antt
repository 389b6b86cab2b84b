-- What `narrowed` and `fixed_size` mean, by the numbers and sizes that are allowed.
use Rattle.std.specs.Prelude.{◌≡◌, ℕ, true, false, ◌&&◌, ◌==◌, ◌≤◌, ℤ, Some}
use Rattle.asn1_core.specs.declared.constraints.Bounded.{Bounded}
use Rattle.asn1_core.specs.declared.constraints.Constraints.{Constraints}
use Rattle.asn1_core.specs.declared.constraints.TheConstants.Constraints.{NONE}
use Rattle.asn1_core.specs.Numbers.{in_i128}
use Rattle.asn1_core.specs.Octets.{usize_max}
use Rattle.asn1_core.specs.Bounds.{allows, allows_size, is_consistent, narrowed, value_bounds, size_bounds, in_range, size_fits, fixed_size}

pub record Narrows (own other : Constraints) : Type 0 where
  -- consistent constraints stay consistent
  pub consistent : is_consistent own ≡ true → is_consistent other ≡ true → is_consistent (narrowed own other) ≡ true
  -- of two ranges that aren't extensible, exactly what both allow, where some number is allowed by both
  pub values : (a b : Bounded ℤ) (m : ℤ) → own.value ≡ Some (a, false) → other.value ≡ Some (b, false) → allows a m ≡ true → allows b m ≡ true → (c : Bounded ℤ) × ((narrowed own other).value ≡ Some (c, false)) × ((n : ℤ) → allows c n ≡ (allows a n && allows b n))
  pub sizes : (a b : Bounded ℕ) (m : ℕ) → own.size ≡ Some (a, false) → other.size ≡ Some (b, false) → allows_size a m ≡ true → allows_size b m ≡ true → (c : Bounded ℕ) × ((narrowed own other).size ≡ Some (c, false)) × ((n : ℕ) → allows_size c n ≡ (allows_size a n && allows_size b n))
  -- where no number is allowed by both, its own
  pub own_values : (a b : Bounded ℤ) → own.value ≡ Some (a, false) → other.value ≡ Some (b, false) → ((n : ℤ) → (allows a n && allows b n) ≡ false) → (narrowed own other).value ≡ own.value
  pub own_sizes : (a b : Bounded ℕ) → own.size ≡ Some (a, false) → other.size ≡ Some (b, false) → ((n : ℕ) → (allows_size a n && allows_size b n) ≡ false) → (narrowed own other).size ≡ own.size

-- narrowing by no constraint changes nothing, and none takes what it is narrowed by
pub record KeepsNone (own : Constraints) : Type 0 where
  pub by_none : narrowed own NONE ≡ own
  pub of_none : narrowed NONE own ≡ own

-- narrowing by itself changes no range
pub record KeepsItself (own : Constraints) : Type 0 where
  pub values : value_bounds (narrowed own own) ≡ value_bounds own
  pub sizes : size_bounds (narrowed own own) ≡ size_bounds own

-- a range of values and one of sizes allow what the constraint does, which allows everything where it is extensible
pub record AllowsAlike (c : Constraints) : Type 0 where
  pub values : (b : Bounded ℤ) (n : ℤ) → c.value ≡ Some (b, false) → in_i128 n ≡ true → in_range (value_bounds c) n ≡ allows b n
  pub sizes : (b : Bounded ℕ) (n : ℕ) → c.size ≡ Some (b, false) → n ≤ usize_max → size_fits (size_bounds c) n ≡ allows_size b n
  pub extensible_values : (b : Bounded ℤ) (n : ℤ) → c.value ≡ Some (b, true) → in_range (value_bounds c) n ≡ true
  pub extensible_sizes : (b : Bounded ℕ) (n : ℕ) → c.size ≡ Some (b, true) → size_fits (size_bounds c) n ≡ true

-- a size is fixed where it is the only one that is allowed
pub record IsFixedWhereAlone (c : Constraints) (n : ℕ) : Type 0 where
  pub only : fixed_size (size_bounds c) ≡ Some n → (m : ℕ) → size_fits (size_bounds c) m ≡ (m == n)
  pub fixed : ((m : ℕ) → size_fits (size_bounds c) m ≡ (m == n)) → fixed_size (size_bounds c) ≡ Some n
