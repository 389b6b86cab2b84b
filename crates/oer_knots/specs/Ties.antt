-- Types that hold values of a type K, a knot: their trees and values, by those of K.
use Rattle.std.specs.Prelude.{◌≡◌, ◌≤◌, ℕ, Option, Some, None, max}
use Rattle.std.proofs.Common.{arith}
use Rattle.oer_rows.specs.Schema.{Typed, IsTyped}

-- two ways to see the values of a type give one tree at a value, and where the first admits it, so does the second
pub record AgreeAt {A : Type 0} (of to : Typed A) (v : A) : Type 0 where
  pub tree : of.tree v ≡ to.tree v
  pub part : of.IsPart v → to.IsPart v

-- they agree at each knot that weighs no more
abbrev pub AgreeTo : {K : Type 0} → (K → ℕ) → ℕ → Typed K → Typed K → Type 0
AgreeTo {K} size n of to = (k : K) → size k ≤ n → AgreeAt of to k

pub agree_less : {K : Type 0} (size : K → ℕ) (m n : ℕ) (of to : Typed K) → m ≤ n → AgreeTo size n of to → AgreeTo size m of to
agree_less size m n of to l a = λ k p. a k (omega arith)

-- What a type B says that holds knots: by each way to see these, how its own values are seen; and the most that a knot in
-- a value weighs. The trees are those of a type, and depend on no knot but those in the value.
pub record Ties {K B : Type 0} (tied : Typed K → Typed B) (weight : (K → ℕ) → B → ℕ) : Type 1 where
  pub is : (of : Typed K) → IsTyped of → IsTyped (tied of)
  pub local : (size : K → ℕ) (of to : Typed K) (v : B) → AgreeTo size (weight size v) of to → AgreeAt (tied of) (tied to) v

-- the most that a knot weighs in a value that may be absent
abbrev pub option_weight : {B : Type 0} → (B → ℕ) → Option B → ℕ
option_weight weight None = 0
option_weight weight (Some v) = weight v

pub le_left : (a b : ℕ) → a ≤ max a b
le_left a b = omega arith

pub le_right : (a b : ℕ) → b ≤ max a b
le_right a b = omega arith

-- ---- the knot itself, in a box or not
module _ {K B : Type 0} (content : B → K) where
  abbrev pub held_tied : Typed K → Typed B
  held_tied of = record { tree = λ h. of.tree (content h); IsPart = λ h. of.IsPart (content h) }

  abbrev pub held_weight : (K → ℕ) → B → ℕ
  held_weight size h = size (content h)

  pub held_ties : Ties held_tied held_weight
  held_ties = record {
    is = λ of i. record { is = λ v. i.is (content v); like = λ v w. i.like (content v) (content w) };
    local = λ size of to v a. let h = a (content v) (omega arith) in record { tree = h.tree; part = h.part };
  }
