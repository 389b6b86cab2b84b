use Rattle.std.proofs.Common.{◌≡◌, ◌++◌, length, ◌∙◌}
use Rattle.oer_write.specs.Layout.{slots}
use Rattle.oer_write.proofs.Holding.{kept_added}
use Rattle.oer_write.proofs.Nesting.{adds_alike, kept_same, taken_adds, taken_ascends}
use Rattle.oer_write.proofs.choices.pick_open.Goals as goal

pub returns-in_err-open_scope-clause-kept : goal.returns-in_err-open_scope-clause-kept
returns-in_err-open_scope-clause-kept g c = kept_same c.args.out.now.items c.open_scope.new.output.items c.args.insertions.now c.open_scope.new.insertions c.in_err-open_scope.ensures.unchanged c.in_err-open_scope.ensures.refused.1

pub close_open-requires-clause-adds : goal.close_open-requires-clause-adds
close_open-requires-clause-adds g c =
    let start : c.len-start.result ≡ length c.args.out.now.items = c.len-start.ensures ∙ c.args.out.now.ok.0 in
    let d = c.in_ok-pick_into.ensures.done in
    let adds = adds_alike d.0 c.args.out.now.items c.open_scope.new.output.items c.pick_into.new.out.items (c.args.insertions.now ++ slots c.args.is_inside (length c.args.out.now.items)) c.open_scope.new.insertions c.pick_into.new.insertions c.in_ok-open_scope.ensures.unchanged c.in_ok-open_scope.ensures.done d.2 in
    (d.0, (taken_adds c.args.is_inside c.len-start.result c.len-slot.result c.args.out.now.items c.pick_into.new.out.items c.args.insertions.now c.pick_into.new.insertions d.0 start c.len-slot.ensures adds).2)

pub returns-clause-done : goal.returns-clause-done
returns-clause-done g c =
    let start : c.len-start.result ≡ length c.args.out.now.items = c.len-start.ensures ∙ c.args.out.now.ok.0 in
    let d = c.in_ok-pick_into.ensures.done in
    let adds = adds_alike d.0 c.args.out.now.items c.open_scope.new.output.items c.pick_into.new.out.items (c.args.insertions.now ++ slots c.args.is_inside (length c.args.out.now.items)) c.open_scope.new.insertions c.pick_into.new.insertions c.in_ok-open_scope.ensures.unchanged c.in_ok-open_scope.ensures.done d.2 in
    let t = taken_adds c.args.is_inside c.len-start.result c.len-slot.result c.args.out.now.items c.pick_into.new.out.items c.args.insertions.now c.pick_into.new.insertions d.0 start c.len-slot.ensures adds in
    let r = c.in_ok-close_open.ensures.done d.0 t.2 in
    (d.0, d.1, r.1, rw (t.0, t.1) at r.0)

pub returns-clause-kept : goal.returns-clause-kept
returns-clause-kept g c = let done = returns-clause-done g c in kept_added _ _ _ _ _ done.3

pub pick_into-requires-clause-ascends : goal.pick_into-requires-clause-ascends
pick_into-requires-clause-ascends g c = taken_ascends c.args.is_inside c.args.out.now.items c.open_scope.new.output.items c.args.insertions.now c.open_scope.new.insertions c.requires.ascends c.in_ok-open_scope.ensures.unchanged c.in_ok-open_scope.ensures.done
