use Rattle.std.proofs.Common.{◌≡◌, ◌++◌, length, ◌∙◌, arith}
use Rattle.asn1_core.specs.Octets.{Octets}
use Rattle.oer_spec.specs.Encoding.{canonical_octets}
use Rattle.oer_write.specs.Layout.{slots}
use Rattle.oer_write.specs.Rows.{open_type}
use Rattle.oer_write.proofs.Holding.{kept_added}
use Rattle.oer_write.proofs.Nesting.{adds_alike, kept_same, taken_adds, taken_ascends}
use Rattle.oer_write.proofs.opening.CompositeWritesOpen.write.Goals as goal

pub returns-in_err-open_scope-clause-kept : goal.returns-in_err-open_scope-clause-kept
returns-in_err-open_scope-clause-kept g c = kept_same c.args.out.now.items c.open_scope.new.output.items c.args.insertions.now c.open_scope.new.insertions c.in_err-open_scope.ensures.unchanged c.in_err-open_scope.ensures.refused.1

pub close_open-requires-clause-adds : goal.close_open-requires-clause-adds
close_open-requires-clause-adds g c =
    let start : c.len-start.result ≡ length c.args.out.now.items = c.len-start.ensures ∙ c.args.out.now.ok.0 in
    let content : Octets = canonical_octets (g.E.Spelled.tree c.args.constraints c.args.value.now) in
    let d = c.in_ok-append_within.ensures.done in
    let adds = adds_alike content c.args.out.now.items c.open_scope.new.output.items c.append_within.new.out.items (c.args.insertions.now ++ slots c.args.is_inside (length c.args.out.now.items)) c.open_scope.new.insertions c.append_within.new.insertions c.in_ok-open_scope.ensures.unchanged c.in_ok-open_scope.ensures.done d.1 in
    (content, (taken_adds c.args.is_inside c.len-start.result c.len-slot.result c.args.out.now.items c.append_within.new.out.items c.args.insertions.now c.append_within.new.insertions content start c.len-slot.ensures adds).2)

pub returns-clause-short : goal.returns-clause-short
returns-clause-short g c =
    let start : c.len-start.result ≡ length c.args.out.now.items = c.len-start.ensures ∙ c.args.out.now.ok.0 in
    let content : Octets = canonical_octets (g.E.Spelled.tree c.args.constraints c.args.value.now) in
    let d = c.in_ok-append_within.ensures.done in
    let adds = adds_alike content c.args.out.now.items c.open_scope.new.output.items c.append_within.new.out.items (c.args.insertions.now ++ slots c.args.is_inside (length c.args.out.now.items)) c.open_scope.new.insertions c.append_within.new.insertions c.in_ok-open_scope.ensures.unchanged c.in_ok-open_scope.ensures.done d.1 in
    let t = taken_adds c.args.is_inside c.len-start.result c.len-slot.result c.args.out.now.items c.append_within.new.out.items c.args.insertions.now c.append_within.new.insertions content start c.len-slot.ensures adds in
    let r = c.in_ok-close_open.ensures.done content t.2 in
    record { encodable = d.0; short = omega (arith, r.1) }

pub returns-clause-done : goal.returns-clause-done
unfolding open_type
returns-clause-done g c =
    let start : c.len-start.result ≡ length c.args.out.now.items = c.len-start.ensures ∙ c.args.out.now.ok.0 in
    let content : Octets = canonical_octets (g.E.Spelled.tree c.args.constraints c.args.value.now) in
    let d = c.in_ok-append_within.ensures.done in
    let adds = adds_alike content c.args.out.now.items c.open_scope.new.output.items c.append_within.new.out.items (c.args.insertions.now ++ slots c.args.is_inside (length c.args.out.now.items)) c.open_scope.new.insertions c.append_within.new.insertions c.in_ok-open_scope.ensures.unchanged c.in_ok-open_scope.ensures.done d.1 in
    let t = taken_adds c.args.is_inside c.len-start.result c.len-slot.result c.args.out.now.items c.append_within.new.out.items c.args.insertions.now c.append_within.new.insertions content start c.len-slot.ensures adds in
    let r = c.in_ok-close_open.ensures.done content t.2 in
    rw (t.0, t.1) at r.0

pub returns-clause-kept : goal.returns-clause-kept
returns-clause-kept g c = kept_added _ _ _ _ _ (returns-clause-done g c)

pub append_within-requires-clause-ascends : goal.append_within-requires-clause-ascends
append_within-requires-clause-ascends g c = taken_ascends c.args.is_inside c.args.out.now.items c.open_scope.new.output.items c.args.insertions.now c.open_scope.new.insertions c.requires.ascends c.in_ok-open_scope.ensures.unchanged c.in_ok-open_scope.ensures.done
