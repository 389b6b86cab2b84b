-- The rows of a table in tag order, one after another: which row comes after a row of some tag and place.
use Rattle.std.specs.Prelude.{ℕ, suc, Bool, true, not, cond, ◌&&◌, ◌||◌, nat_lt, List, [], ◌∷◌, Option, Some, None}
use Rattle.asn1_core.specs.declared.tag.Tag.{Tag}
use Rattle.asn1_core.specs.declared.fields.Field.{Field}
use Rattle.asn1_core.specs.Tags.{tag_le, same_tag}

-- a higher tag, or the same and a later place
abbrev pub is_after : Option (Tag × ℕ) → Tag → ℕ → Bool
is_after None tag place = true
is_after (Some (last_tag, last_place)) tag place = not (tag_le tag last_tag) || (same_tag last_tag tag && nat_lt last_place place)

-- no lower tag was found
abbrev pub is_lower : Tag → Option (ℕ × Field) → Bool
is_lower tag None = true
is_lower tag (Some (place, lowest)) = not (tag_le lowest.tag tag)

-- the first of the lowest tag among the rows that come after last, and its place; places count on from place
abbrev pub first_after : Option (Tag × ℕ) → ℕ → List Field → Option (ℕ × Field) → Option (ℕ × Field)
first_after last place [] found = found
first_after last place (row ∷ rows) found = first_after last (suc place) rows (cond (is_lower row.tag found && is_after last row.tag place) (Some (place, row)) found)

-- the rows that come after last
abbrev pub left_after : Option (Tag × ℕ) → ℕ → List Field → List Field
left_after last place [] = []
left_after last place (row ∷ rows) = cond (is_after last row.tag place) (row ∷ left_after last (suc place) rows) (left_after last (suc place) rows)
