use Rattle.std.proofs.Common.{◌≡◌, ◌-◌, length, ap, refl, ◌∙◌, arith, rules}
use Rattle.asn1_core.specs.Octets.{Octets}
use Rattle.oer_spec.specs.Encoding.{canonical_octets}
use Rattle.oer_spec.specs.Lengths.{behind_length}
use Rattle.oer_write.specs.Rows.{open_type}
use Rattle.oer_write.proofs.Holding.{kept_added}
use Rattle.oer_write.proofs.Opened.{adds_plain, adds_retitled, behind_octet, shortened}
use Rattle.oer_write.proofs.opening.LeafWritesOpen.write.Goals as goal

pub returns-then-size-lt128-clause-done : goal.returns-then-size-lt128-clause-done
unfolding open_type
returns-then-size-lt128-clause-done g c =
    let x : Octets = canonical_octets (g.E.Spelled.tree c.args.constraints c.args.value.now) in
    let start : c.len-start.result ≡ length c.args.out.now.items = c.len-start.ensures ∙ c.args.out.now.ok.0 in
    let d = c.in_ok-append_leaf.ensures.done in
    let b = behind_octet c.len-start.result c.args.out.now.items x c.append_leaf.new.out.items start d.1 in
    let n : c.len.result ≡ length c.append_leaf.new.out.items = search rules in
    let v : c.len.result - c.len-start.result - 1 ≡ length x = omega (arith, start, n, b.2) in
    adds_plain (behind_length x) c.args.out.now.items _ c.args.insertions.now c.args.insertions.now (shortened c.len-start.result (c.len.result - c.len-start.result - 1) c.args.out.now.items x c.append_leaf.new.out.items start d.1 v c.if-size-lt128.true) refl

pub returns-then-size-lt128-clause-kept : goal.returns-then-size-lt128-clause-kept
returns-then-size-lt128-clause-kept g c = kept_added _ _ _ _ _ (returns-then-size-lt128-clause-done g c)

pub returns-clause-done : goal.returns-clause-done
unfolding open_type
returns-clause-done g c =
    let x : Octets = canonical_octets (g.E.Spelled.tree c.args.constraints c.args.value.now) in
    let start : c.len-start.result ≡ length c.args.out.now.items = c.len-start.ensures ∙ c.args.out.now.ok.0 in
    let b = behind_octet c.len-start.result c.args.out.now.items x c.append_leaf.new.out.items start c.in_ok-append_leaf.ensures.done.1 in
    adds_retitled _ (behind_length x) _ c.args.out.now.items _ _ _ _ (ap behind_length b.1) b.0 refl c.in_ok-put_length.ensures.done
