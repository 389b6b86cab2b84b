-- Rows with components that hold knots.
use Rattle.std.specs.Prelude.{◌≡◌, ℕ, suc, Bool, true, false, Option, Some, None, max, List, ◌∷◌, refl}
use Rattle.std.proofs.Common.{ap, ◌∙◌, subst}
use Rattle.asn1_core.specs.Rows.{Row, tags}
use Rattle.asn1_core.specs.declared.fields.FieldPresence.TheVariants as presence
use Rattle.asn1_core.specs.declared.tag.Tag.{Tag}
use Rattle.oer_spec.specs.Tree.{Tree, Rows, Slot, Required, Optional, Default, Present, Struct, present_unless, slot_of}
use Rattle.oer_rows.specs.Schema.{Typed, IsTyped, Schema, IsSchema, IsOf, tree_of, schema_is, schema_like, required_then, required_then_is, optional_then, optional_then_is, default_then, default_then_is}
use Rattle.oer_rows.specs.Sets.{are_in_order, IsInSet, set_of, set_is, set_like}
use Rattle.oer_rows.specs.Slots.{IfThere}
use Rattle.oer_rows.specs.TextOrder.{rows_by_place}
use Rattle.oer_rows.specs.declared.both.Both.{Both}
use Rattle.oer_knots.specs.Ties.{AgreeTo, agree_less, Ties, option_weight, le_left, le_right}

-- two schemas give one value the same rows, and where the first admits it, so does the second
pub record AgreeRows {R : Type 0} (s t : Schema R) (v : R) : Type 0 where
  pub roots : s.roots.rows v ≡ t.roots.rows v
  pub additions : s.additions.rows v ≡ t.additions.rows v
  pub root_part : s.roots.IsValue v → t.roots.IsValue v
  pub addition_part : s.additions.IsValue v → t.additions.IsValue v

-- what a row keeps, as `Ties` of its values; its table is the same, whatever is seen of a knot
pub record TiesRow {K R : Type 0} (schema : Typed K → Schema R) (extensible : Bool) (weight : (K → ℕ) → R → ℕ) : Type 1 where
  pub is : (of : Typed K) → IsTyped of → IsSchema (schema of) extensible
  pub table : (of to : Typed K) (n : ℕ) → (schema of).roots.fields n ≡ (schema to).roots.fields n
  pub local : (size : K → ℕ) (of to : Typed K) (v : R) → AgreeTo size (weight size v) of to → AgreeRows (schema of) (schema to) v

-- ---- rows without knots
module _ {K : Type 0} where
  abbrev pub no_weight : {R : Type 0} → (K → ℕ) → R → ℕ
  no_weight size v = 0

  pub plain_ties : {R : Type 0} (s : Schema R) (extensible : Bool) → IsSchema s extensible → TiesRow {K = K} (λ of. s) extensible no_weight
  plain_ties s extensible k = record { is = λ of i. k; table = λ of to n. refl; local = λ size of to v a. record { roots = refl; additions = refl; root_part = λ i. i; addition_part = λ i. i } }

-- ---- a component without knots before a row
module _ {K B R : Type 0} (tag : Tag) (b : Typed B) (schema : Typed K → Schema R) (extensible : Bool) (weight : (K → ℕ) → R → ℕ) (t : TiesRow schema extensible weight) where
  pub required_ties : IsTyped b → TiesRow (λ of. required_then tag b (schema of)) extensible (λ size v. weight size v.1)
  required_ties i = record {
    is = λ of o. required_then_is tag b (schema of) extensible i (t.is of o);
    table = λ of to n. ap (λ (rs : List Row). record { index = n; tag = tag; presence = presence.Required } ∷ rs) (t.table of to (suc n));
    local = λ size of to v a. let h = t.local size of to v.1 a in record { roots = ap (Required tag (b.tree v.0)) h.roots; additions = h.additions; root_part = λ p. (p.0, h.root_part p.1); addition_part = h.addition_part };
  }

  pub default_ties : (eq : B → B → Bool) (default : B) → TiesRow (λ of. default_then tag b eq default (schema of)) extensible (λ size v. weight size v.1)
  default_ties eq default = record {
    is = λ of o. default_then_is tag b eq default (schema of) extensible (t.is of o);
    table = λ of to n. ap (λ (rs : List Row). record { index = n; tag = tag; presence = presence.Default } ∷ rs) (t.table of to (suc n));
    local = λ size of to v a. let h = t.local size of to v.1 a in record { roots = ap (Default tag (b.tree default) (present_unless (eq v.0 default) (b.tree v.0))) h.roots; additions = h.additions; root_part = λ p. (p.0, p.1, h.root_part p.2); addition_part = h.addition_part };
  }

module _ {K B R : Type 0} (tag : Tag) (b : Typed B) (schema : Typed K → Schema R) (extensible : Bool) (weight : (K → ℕ) → R → ℕ) (t : TiesRow schema extensible weight) where
  pub optional_ties : IsTyped b → TiesRow (λ of. optional_then tag b (schema of)) extensible (λ size v. weight size v.1)
  optional_ties i = record {
    is = λ of o. optional_then_is tag b (schema of) extensible i (t.is of o);
    table = λ of to n. ap (λ (rs : List Row). record { index = n; tag = tag; presence = presence.Optional } ∷ rs) (t.table of to (suc n));
    local = λ size of to v a. let h = t.local size of to v.1 a in record { roots = ap (Optional tag (slot_of b.tree v.0)) h.roots; additions = h.additions; root_part = λ p. (p.0, h.root_part p.1); addition_part = h.addition_part };
  }

-- ---- a value with knots that may be absent
module _ {K B : Type 0} (tied : Typed K → Typed B) (part : (K → ℕ) → B → ℕ) (b : Ties tied part) where
  pub slot_agrees : (size : K → ℕ) (of to : Typed K) (o : Option B) → AgreeTo size (option_weight (part size) o) of to → slot_of (tied of).tree o ≡ slot_of (tied to).tree o
  slot_agrees size of to None a = refl
  slot_agrees size of to (Some v) a = ap Present (b.local size of to v a).tree

  pub there_agrees : (size : K → ℕ) (of to : Typed K) (o : Option B) → AgreeTo size (option_weight (part size) o) of to → IfThere (tied of).IsPart o → IfThere (tied to).IsPart o
  there_agrees size of to None a i = tt
  there_agrees size of to (Some v) a i = (b.local size of to v a).part i

-- ---- a component with knots before a row
module _ {K B R : Type 0} (tag : Tag) (tied : Typed K → Typed B) (part : (K → ℕ) → B → ℕ) (schema : Typed K → Schema R) (extensible : Bool) (weight : (K → ℕ) → R → ℕ) (b : Ties tied part) (t : TiesRow schema extensible weight) where
  abbrev pub required_weight : (K → ℕ) → Both B R → ℕ
  required_weight size v = max (part size v.0) (weight size v.1)

  pub required_knot_ties : TiesRow (λ of. required_then tag (tied of) (schema of)) extensible required_weight
  required_knot_ties = record {
    is = λ of o. required_then_is tag (tied of) (schema of) extensible (b.is of o) (t.is of o);
    table = λ of to n. ap (λ (rs : List Row). record { index = n; tag = tag; presence = presence.Required } ∷ rs) (t.table of to (suc n));
    local = λ size of to v a.
        let h = b.local size of to v.0 (agree_less size _ _ of to (le_left (part size v.0) (weight size v.1)) a) in
        let r = t.local size of to v.1 (agree_less size _ _ of to (le_right (part size v.0) (weight size v.1)) a) in
        record { roots = ap (λ (x : Tree). Required tag x ((schema of).roots.rows v.1)) h.tree ∙ ap (Required tag ((tied to).tree v.0)) r.roots; additions = r.additions; root_part = λ p. (h.part p.0, r.root_part p.1); addition_part = r.addition_part };
  }

  abbrev pub optional_weight : (K → ℕ) → Both (Option B) R → ℕ
  optional_weight size v = max (option_weight (part size) v.0) (weight size v.1)

  pub optional_knot_ties : TiesRow (λ of. optional_then tag (tied of) (schema of)) extensible optional_weight
  optional_knot_ties = record {
    is = λ of o. optional_then_is tag (tied of) (schema of) extensible (b.is of o) (t.is of o);
    table = λ of to n. ap (λ (rs : List Row). record { index = n; tag = tag; presence = presence.Optional } ∷ rs) (t.table of to (suc n));
    local = λ size of to v a.
        let n = agree_less size _ _ of to (le_left (option_weight (part size) v.0) (weight size v.1)) a in
        let r = t.local size of to v.1 (agree_less size _ _ of to (le_right (option_weight (part size) v.0) (weight size v.1)) a) in
        record { roots = ap (λ (x : Slot). Optional tag x ((schema of).roots.rows v.1)) (slot_agrees tied part b size of to v.0 n) ∙ ap (Optional tag (slot_of (tied to).tree v.0)) r.roots; additions = r.additions; root_part = λ p. (there_agrees tied part b size of to v.0 n p.0, r.root_part p.1); addition_part = r.addition_part };
  }

-- ---- a sequence of a row
module _ {K A R : Type 0} (schema : Typed K → Schema R) (extensible : Bool) (weight : (K → ℕ) → R → ℕ) (components : A → R) where
  abbrev pub sequence_tied : Typed K → Typed A
  sequence_tied of = record { tree = λ v. tree_of (schema of) extensible (components v); IsPart = λ v. IsOf (schema of) (components v) }

  abbrev pub sequence_weight : (K → ℕ) → A → ℕ
  sequence_weight size v = weight size (components v)

  pub sequence_ties : TiesRow schema extensible weight → Ties sequence_tied sequence_weight
  sequence_ties t = record {
    is = λ of o. record { is = λ v i. schema_is (schema of) extensible (t.is of o) (components v) i; like = λ v w i j. schema_like (schema of) extensible (t.is of o) (components v) (components w) i j };
    local = λ size of to v a.
        let h = t.local size of to (components v) a in
        record {
          tree = ap (λ (r : Rows). Struct false extensible r ((schema of).additions.rows (components v))) h.roots ∙ ap (Struct false extensible ((schema to).roots.rows (components v))) h.additions;
          part = λ i. (h.root_part i.0, h.addition_part i.1);
        };
  }

-- ---- a set of a row, whose root components stand in the order of their tags
module _ {K A R : Type 0} (places : List ℕ) (schema : Typed K → Schema R) (extensible : Bool) (weight : (K → ℕ) → R → ℕ) (components : A → R) where
  abbrev pub set_tied : Typed K → Typed A
  set_tied of = record { tree = λ v. set_of places (schema of) extensible (components v); IsPart = λ v. IsInSet (schema of) (components v) }

  pub set_ties : TiesRow schema extensible weight → Ties set_tied (sequence_weight schema extensible weight components)
  set_ties t = record {
    is = λ of k. record { is = λ v i. set_is places (schema of) extensible (t.is of k) (components v) i; like = λ v w i j. set_like places (schema of) extensible (t.is of k) (components v) (components w) i j };
    local = λ size of to v a.
        let h = t.local size of to (components v) a in
        record {
          tree = ap (λ (r : Rows). Struct true extensible (rows_by_place places r) ((schema of).additions.rows (components v))) h.roots ∙ ap (Struct true extensible (rows_by_place places ((schema to).roots.rows (components v)))) h.additions;
          part = λ i. record { in_order = subst (λ (rs : List Row). are_in_order (tags rs) ≡ true) (t.table of to 0) i.in_order; is_of = (h.root_part i.is_of.0, h.addition_part i.is_of.1) };
        };
  }
