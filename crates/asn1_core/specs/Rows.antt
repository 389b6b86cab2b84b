-- What clauses see of a table of components: its rows, without their names.
use Rattle.std.specs.Prelude.{◌≡◌, ℕ, suc, List, [], ◌∷◌, length, map, filter, Bool, true, false, ⊤}
use Rattle.asn1_core.specs.declared.tag.Tag.{Tag}
use Rattle.asn1_core.specs.declared.fields.Field.{Field}
use Rattle.asn1_core.specs.declared.fields.FieldPresence.{FieldPresence}
use Rattle.asn1_core.specs.declared.fields.FieldPresence.TheVariants.{Required, Optional, Default}
use Rattle.asn1_core.specs.Tags.{AreDistinct}

pub record Row : Type 0 where
  pub index : ℕ
  pub tag : Tag
  pub presence : FieldPresence

abbrev pub row : Field → Row
row f = record { index = f.index; tag = f.tag; presence = f.presence }

-- the row's component may be absent
abbrev pub may_be_absent : FieldPresence → Bool
may_be_absent Required = false
may_be_absent Optional = true
may_be_absent Default = true

-- the rows whose components may be absent
abbrev pub optional_rows : List Row → List Row
optional_rows rows = filter (λ r. may_be_absent r.presence) rows

abbrev pub tags : List Row → List Tag
tags rows = map (λ r. r.tag) rows

-- the indexes count on from n
abbrev pub AreCountedFrom : ℕ → List Row → Type 0
AreCountedFrom n [] = ⊤
AreCountedFrom n (r ∷ rs) = (r.index ≡ n) × AreCountedFrom (suc n) rs

-- What every type's two tables keep: as many rows as stated, indexes counted from 0, additions only where the type
-- is extensible, and for a set distinct root tags.
pub record AreTables (set extensible : Bool) (roots additions : ℕ) (root_rows addition_rows : List Row) : Type 0 where
  pub root_count : length root_rows ≡ roots
  pub addition_count : length addition_rows ≡ additions
  pub root_indexes : AreCountedFrom 0 root_rows
  pub addition_indexes : AreCountedFrom 0 addition_rows
  pub only : extensible ≡ false → addition_rows ≡ []
  pub distinct : set ≡ true → AreDistinct (tags root_rows)
