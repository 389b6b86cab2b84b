use Rattle.std.proofs.Common.{◌≡◌, ◌++◌, length, ap, ◌∙◌, rules, ℕ, List, take, subst, sym}
use Rattle.asn1_core.specs.Octets.{Octets}
use Rattle.oer_spec.specs.Encoding.{canonical_octets}
use Rattle.oer_write.specs.Layout.{Piece, Ascends}
use Rattle.oer_write.specs.Rows.{open_type}
use Rattle.oer_write.proofs.Regions.{wider_around, wider_within, wider_laid, laid_ascends}
use Rattle.asn1_core.specs.declared.constraints.Constraints.{Constraints}
use Rattle.oer_write.specs.Seen.{within}
use Rattle.oer_write.proofs.additions.put_behind.Goals as goal

pub returns-clause-done : goal.returns-clause-done
returns-clause-done g c =
    let b = c.in_ok-begin.ensures in
    let x : Octets = open_type (canonical_octets (g.E.Spelled.tree c.constraints.result c.args.value.now)) in
    let n : c.len-region.result ≡ length c.put_open.new.out.items = search rules in
    wider_within c.begin.new.region c.begin.new.out.items x c.put_open.new.out.items c.begin.new.insertions c.put_open.new.insertions c.len-region.result c.len-region-2.result b.laid b.last.0 b.last.1 b.begun c.in_ok-put_open.ensures.done n c.len-region-2.ensures ∙ ap (λ (o : Octets). o ++ x) b.opens ∙ ap (λ (k : Constraints). within c.args.region.now c.args.out.now.items c.args.insertions.now ++ open_type (canonical_octets (g.E.Spelled.tree k c.args.value.now))) c.constraints.ensures

pub returns-clause-octets : goal.returns-clause-octets
returns-clause-octets g c =
    let b = c.in_ok-begin.ensures in
    let x : Octets = open_type (canonical_octets (g.E.Spelled.tree c.constraints.result c.args.value.now)) in
    let n : c.len-region.result ≡ length c.put_open.new.out.items = search rules in
    wider_around c.begin.new.region c.begin.new.out.items x c.put_open.new.out.items c.begin.new.insertions c.put_open.new.insertions c.len-region.result c.len-region-2.result b.laid b.last.0 b.last.1 b.begun c.in_ok-put_open.ensures.done n c.len-region-2.ensures ∙ b.octets

pub returns-clause-laid : goal.returns-clause-laid
returns-clause-laid g c =
    let b = c.in_ok-begin.ensures in
    let x : Octets = open_type (canonical_octets (g.E.Spelled.tree c.constraints.result c.args.value.now)) in
    let n : c.len-region.result ≡ length c.put_open.new.out.items = search rules in
    wider_laid c.begin.new.region c.begin.new.out.items x c.put_open.new.out.items c.begin.new.insertions c.put_open.new.insertions c.len-region.result c.len-region-2.result b.laid b.last.0 b.last.1 b.begun c.in_ok-put_open.ensures.done n c.len-region-2.ensures

pub put_open-requires-clause-ascends : goal.put_open-requires-clause-ascends
put_open-requires-clause-ascends g c =
    let b = c.in_ok-begin.ensures in
    let front : take c.begin.new.region.first c.begin.new.insertions ≡ take c.args.region.now.first c.args.insertions.now = ap (λ (n : ℕ). take n c.begin.new.insertions) b.first ∙ b.front in
    laid_ascends c.begin.new.region (length c.begin.new.out.items) c.begin.new.insertions b.laid (subst (λ (n : ℕ). Ascends 0 (take c.begin.new.region.first c.begin.new.insertions) n) (sym b.base) (subst (λ (ps : List Piece). Ascends 0 ps c.args.region.now.base) (sym front) c.requires.before))
