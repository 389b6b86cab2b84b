-- What AUTOMATIC TAGS give is what they give again: a tag hangs on where components stand, and not on their tags before.
use Rattle.std.proofs.Common.{◌≡◌, ℕ, ◌+◌, ◌<◌, ◌^◌, true, false, cond, List, [], ◌∷◌, length, map, count_by, refl, sym, ap, subst, ◌∙◌, arith}
use Rattle.std.proofs.lemmas.List.{length-map}
use Rattle.std.proofs.lemmas.List.Sums.{sum_by-cons}
use Rattle.oergen_layouts.specs.Rows.{placed}
use Rattle.oergen_layouts.specs.Tags.{IsAutomatic, automatic_tags, is_root, tags_from, with_tag}
use Rattle.oergen_layouts.specs.declared.rows.Row.{Row}

from_again : (r a r2 a2 : ℕ) (rows : List Row) → tags_from r2 a2 (tags_from r a rows) ≡ tags_from r2 a2 rows
from_again r a r2 a2 [] = refl
from_again r a r2 a2 (row ∷ rows) =
    elim (is_root row) as (λ b. is_root row ≡ b → tags_from r2 a2 (cond b (with_tag row r ∷ tags_from (r + 1) a rows) (with_tag row a ∷ tags_from r (a + 1) rows)) ≡ cond b (with_tag row r2 ∷ tags_from (r2 + 1) a2 rows) (with_tag row a2 ∷ tags_from r2 (a2 + 1) rows)) [
      | true ↦ λ e. rw e (ap (λ (it : List Row). with_tag row r2 ∷ it) (from_again (r + 1) a (r2 + 1) a2 rows))
      | false ↦ λ e. rw e (ap (λ (it : List Row). with_tag row a2 ∷ it) (from_again r (a + 1) r2 (a2 + 1) rows))
    ] refl

roots_again : (r a : ℕ) (rows : List Row) → count_by is_root (tags_from r a rows) ≡ count_by is_root rows
roots_again r a [] = refl
roots_again r a (row ∷ rows) =
    let f : Row → ℕ = λ it. cond (is_root it) 1 0 in
    elim (is_root row) as (λ b. count_by is_root (cond b (with_tag row r ∷ tags_from (r + 1) a rows) (with_tag row a ∷ tags_from r (a + 1) rows)) ≡ count_by is_root (row ∷ rows)) [
      | true ↦ sum_by-cons f (with_tag row r) (tags_from (r + 1) a rows) ∙ ap (λ n. f row + n) (roots_again (r + 1) a rows) ∙ sym (sum_by-cons f row rows)
      | false ↦ sum_by-cons f (with_tag row a) (tags_from r (a + 1) rows) ∙ ap (λ n. f row + n) (roots_again r (a + 1) rows) ∙ sym (sum_by-cons f row rows)
    ]

again : (rows : List Row) → automatic_tags (automatic_tags rows) ≡ automatic_tags rows
again rows = rw (roots_again 0 (count_by is_root rows) rows) (from_again 0 (count_by is_root rows) 0 (count_by is_root rows) rows)

pub is_automatic : (rows all : List Row) → map placed all ≡ map placed rows → (length rows < 2 ^ 31 → all ≡ automatic_tags rows) → IsAutomatic all
is_automatic rows all same are = record {
  are_automatic = λ small. let e = are (omega (arith, simp length-map at (ap length same))) in subst (λ (it : List Row). it ≡ automatic_tags it) (sym e) (sym (again rows));
}
