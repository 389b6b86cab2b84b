use Rattle.std.proofs.Common.{List, [], ◌∷◌, zero, suc, ◌≡◌, ◌-◌, ◌<◌, ◌≤◌, length, arith, refl, ℕ, ◌∙◌, get_or}
use Rattle.std.proofs.lemmas.List.{length-set}
use Rattle.oer_write.proofs.Moving.{front_next, moved_next}
use Rattle.oer_write.proofs.passes.move_few.Goals as goal

at : (o : List ℕ) (n : ℕ) → n < length o → get_or o n 0 ≡ get_or o n (get_or o n 0)
at [] n h = absurd (omega arith)
at (x ∷ o) zero h = refl
at (x ∷ o) (suc n) h = at o n (omega (arith, h))

pub loop-from-preserved : goal.loop-from-preserved
loop-from-preserved c =
    let v = c.loop-from.invariant in
    let x : ℕ = get_or c.loop-from.output (c.loop-from.from - 1) 0 in
    let more : c.args.place < c.loop-from.from = c.loop-from-test.true in
    let some : 0 < c.loop-from.to = (let o = v.order in omega (arith, o, more)) in
    let short : c.loop-from.to ≤ length c.loop-from.output = (let a = v.within in let b = c.requires.within in let e = v.len in omega (arith, a, b, e)) in
    record {
      least = omega (arith, more);
      order = (let o = v.order in omega (arith, o));
      within = (let a = v.within in omega (arith, a));
      len = length-set c.loop-from.output (c.loop-from.to - 1) x ∙ v.len;
      gap = (let g = v.gap in let o = v.order in let m = v.most in omega (arith, g, o, m, more));
      most = (let m = v.most in omega (arith, m));
      front = front_next c.loop-from.to c.loop-from.output c.args.output.now x some v.front;
      rear = moved_next c.args.place c.loop-from.from c.loop-from.to c.loop-from.output c.args.output.now x _ more v.order short v.len v.front (at c.loop-from.output (c.loop-from.from - 1) (let o = v.order in omega (arith, o, more, short))) v.rear;
    }
