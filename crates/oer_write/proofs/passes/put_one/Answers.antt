use Rattle.std.proofs.Common.{arith, ◌∙◌}
use Rattle.oer_write.proofs.Passing.{front_same}
use Rattle.oer_write.proofs.passes.put_one.Goals as goal

pub returns-clause-front : goal.returns-clause-front
returns-clause-front c =
    let b = c.put_insertion.ensures.begins in
    let d = c.move_up-end.ensures.begins in
    let r = c.requires.room in
    let a = c.requires.ascends in
    front_same c.args.insertion.place c.put_insertion.result c.put_insertion.new.output c.move_up-end.new.output (omega (arith, b, d, r, a)) c.put_insertion.ensures.front
    ∙ front_same c.args.insertion.place c.move_up-end.result c.move_up-end.new.output c.args.output.now (omega (arith, d, r, a)) c.move_up-end.ensures.front
