use Rattle.std.proofs.Common.{◌≡◌, Option, Some, None, MatchOption, [], ◌++◌, cond, true, false, map, subst, sym}
use Rattle.std.specs.Prelude.{⊤}
use Rattle.oergen_layouts.specs.Tags.{is_root}
use Rattle.oergen_layouts.specs.Untagged.{HaveApartTags, IsCountable, in_place, root_row, unnamed}
use Rattle.oergen_layouts.specs.declared.rows.Row.{Row}
use Rattle.oergen_layouts.proofs.untagged.in_set.Goals as goal

has_row : (row : Option Row) (root : Row) → root_row row ≡ Some root → row ≡ Some root
has_row None root e = absurd cc
has_row (Some row) root e = elim (is_root row) as (λ b. cond b (Some row) None ≡ Some root → Some row ≡ Some root) [ true ↦ λ h. h | false ↦ λ h. absurd cc ] e

pub returns-in-Some-clause-refused : goal.returns-in-Some-clause-refused
returns-in-Some-clause-refused c = λ can apart.
    let all = c.args.all.now in
    let part = c.args.part.now in
    let root = sym c.in-Some.ensures in
    let front = map unnamed c.args.taken.now.parts.items in
    c.set_part.ensures.refused (has_row part.row c.in-Some.row root) (subst (λ (it : Option Row). MatchOption it ⊤ (IsCountable all part)) root can)
    (subst (λ (it : Option Row). HaveApartTags (front ++ elim it [ None ↦ [] | Some row ↦ in_place 64 all part row ])) root apart)
