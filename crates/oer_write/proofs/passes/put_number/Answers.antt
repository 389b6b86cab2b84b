use Rattle.std.proofs.Common.{◌-◌, ◌%◌, ◌<◌, ◌≤◌, length, arith, ◌∙◌}
use Rattle.std.proofs.lemmas.List.{length-set}
use Rattle.oer_write.proofs.Moving.{front_next, number_next}
use Rattle.oer_write.proofs.passes.put_number.Goals as goal

pub loop-left-preserved : goal.loop-left-preserved
loop-left-preserved c =
    let v = c.loop-left.invariant in
    let more : 0 < c.loop-left.left = c.loop-left-test.true in
    let some : 0 < c.loop-left.to = (let r = v.room in omega (arith, r, more)) in
    let short : c.loop-left.to ≤ length c.loop-left.output = (let a = v.within in let b = c.requires.within in let e = v.len in omega (arith, a, b, e)) in
    record {
      within = (let a = v.within in omega (arith, a));
      len = length-set c.loop-left.output (c.loop-left.to - 1) (c.loop-left.rest % 256) ∙ v.len;
      gap = (let g = v.gap in let m = v.most in omega (arith, g, m, more, some));
      most = (let m = v.most in omega (arith, m));
      room = (let r = v.room in omega (arith, r));
      front = front_next c.loop-left.to c.loop-left.output c.args.output.now (c.loop-left.rest % 256) some v.front;
      rear = number_next c.loop-left.left c.loop-left.rest c.loop-left.to c.loop-left.output _ more some short v.rear;
    }
