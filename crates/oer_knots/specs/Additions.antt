-- Extension additions that hold knots.
use Rattle.std.specs.Prelude.{◌≡◌, ℕ, true, Option, max, refl}
use Rattle.std.proofs.Common.{ap, ◌∙◌}
use Rattle.asn1_core.specs.declared.tag.Tag.{Tag}
use Rattle.oer_spec.specs.Tree.{Slot, Optional, slot_of}
use Rattle.oer_rows.specs.Schema.{Typed, IsTyped, Table, IsTable, optional, optional_is, added, added_is}
use Rattle.oer_rows.specs.declared.both.Both.{Both}
use Rattle.oer_knots.specs.Rows.{TiesRow, no_weight, slot_agrees, there_agrees}
use Rattle.oer_knots.specs.Ties.{AgreeTo, agree_less, Ties, option_weight, le_left, le_right}

-- two tables give one value the same rows, and where the first admits it, so does the second
pub record AgreeTable {R : Type 0} (s t : Table R) (v : R) : Type 0 where
  pub rows : s.rows v ≡ t.rows v
  pub part : s.IsValue v → t.IsValue v

-- what a table keeps, as `Ties` of its values
pub record TiesTable {K R : Type 0} (table : Typed K → Table R) (weight : (K → ℕ) → R → ℕ) : Type 1 where
  pub is : (of : Typed K) → IsTyped of → IsTable (table of)
  pub local : (size : K → ℕ) (of to : Typed K) (v : R) → AgreeTo size (weight size v) of to → AgreeTable (table of) (table to) v

-- ---- additions without knots
module _ {K : Type 0} where
  pub plain_table_ties : {R : Type 0} (t : Table R) → IsTable t → TiesTable {K = K} (λ of. t) no_weight
  plain_table_ties t k = record { is = λ of i. k; local = λ size of to v a. record { rows = refl; part = λ i. i } }

-- ---- an addition without knots before others
module _ {K B R : Type 0} (tag : Tag) (b : Typed B) (table : Typed K → Table R) (weight : (K → ℕ) → R → ℕ) (t : TiesTable table weight) where
  pub optional_addition_ties : IsTyped b → TiesTable (λ of. optional tag b (λ (v : Both (Option B) R). v.0) (λ v. v.1) (table of)) (λ size v. weight size v.1)
  optional_addition_ties i = record {
    is = λ of o. optional_is tag b (λ v. v.0) (λ v. v.1) (table of) i (t.is of o);
    local = λ size of to v a. let h = t.local size of to v.1 a in record { rows = ap (Optional tag (slot_of b.tree v.0)) h.rows; part = λ p. (p.0, h.part p.1) };
  }

-- ---- an addition with knots before others
module _ {K B R : Type 0} (tag : Tag) (tied : Typed K → Typed B) (part : (K → ℕ) → B → ℕ) (table : Typed K → Table R) (weight : (K → ℕ) → R → ℕ) (b : Ties tied part) (t : TiesTable table weight) where
  abbrev pub optional_addition_weight : (K → ℕ) → Both (Option B) R → ℕ
  optional_addition_weight size v = max (option_weight (part size) v.0) (weight size v.1)

  pub optional_addition_knot_ties : TiesTable (λ of. optional tag (tied of) (λ (v : Both (Option B) R). v.0) (λ v. v.1) (table of)) optional_addition_weight
  optional_addition_knot_ties = record {
    is = λ of o. optional_is tag (tied of) (λ v. v.0) (λ v. v.1) (table of) (b.is of o) (t.is of o);
    local = λ size of to v a.
        let n = agree_less size _ _ of to (le_left (option_weight (part size) v.0) (weight size v.1)) a in
        let r = t.local size of to v.1 (agree_less size _ _ of to (le_right (option_weight (part size) v.0) (weight size v.1)) a) in
        record { rows = ap (λ (x : Slot). Optional tag x ((table of).rows v.1)) (slot_agrees tied part b size of to v.0 n) ∙ ap (Optional tag (slot_of (tied to).tree v.0)) r.rows; part = λ p. (there_agrees tied part b size of to v.0 n p.0, r.part p.1) };
  }

-- ---- additions behind the root components
module _ {K R : Type 0} (table : Typed K → Table R) (weight : (K → ℕ) → R → ℕ) where
  pub extended_ties : TiesTable table weight → TiesRow (λ of. added (table of)) true weight
  extended_ties t = record {
    is = λ of o. added_is (table of) (t.is of o);
    table = λ of to n. refl;
    local = λ size of to v a. let h = t.local size of to v a in record { roots = refl; additions = h.rows; root_part = λ i. i; addition_part = h.part };
  }
