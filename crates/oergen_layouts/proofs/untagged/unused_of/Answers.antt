use Rattle.std.proofs.Common.{◌∙◌, Bool, cond, [], ap, sym}
use Rattle.std.specs.List.{filter_map}
use Rattle.oergen_layouts.specs.Untagged.{all_taken_up, marked, taken_up}
use Rattle.oergen_layouts.proofs.Placing.{taken_more, taken_same}
use Rattle.oergen_layouts.proofs.untagged.unused_of.Goals as goal
use Rattle.oergen_layouts.proofs.untagged.unused_of.Goals.{in-Some+then-is_put, in-Some+else-is_put, in_default}

pub loop-at-preserved : goal.loop-at-preserved
loop-at-preserved c =
    let all = c.args.all.now in
    let found = c.args.found.now in
    let at = c.loop-at.at in
    let one = c.index-all-at.result in
    let old = c.loop-at.unused.items in
    let flags = marked (all_taken_up all found) c.in_ok-unused.unused.items in
    let put_if = λ (it : Bool). marked (cond it (filter_map taken_up one.parts.items) []) old in
    elim c.match-get.branch [
      | in-Some+then-is_put w ↦
          let it = w.in-Some.one.now in
          let is = w.in-Some.ensures.lookup in
          let new = w.put_unused.ensures ∙ ap put_if (sym (sym w.is_put.ensures ∙ w.if-is_put.true)) in
          rw w.unused-is (taken_more all found flags old w.put_unused.new.unused.items at one it c.loop-at-test.true c.index-all-at.is is.3.0 is.1 c.loop-at.invariant new)
      | in-Some+else-is_put w ↦
          let it = w.in-Some.one.now in
          let is = w.in-Some.ensures.lookup in
          let new = ap put_if (sym (sym w.is_put.ensures ∙ w.if-is_put.false)) in
          rw w.unused-is (taken_more all found flags old old at one it c.loop-at-test.true c.index-all-at.is is.3.0 is.1 c.loop-at.invariant new)
      | in_default w ↦
          rw w.unused-is (taken_same all found flags old at w.in_default.ensures.lookup.3 c.loop-at.invariant)
    ]
