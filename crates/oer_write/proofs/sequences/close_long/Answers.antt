use Rattle.std.proofs.lemmas.Result.{on_ok_weaker}
use Rattle.oer_write.proofs.Regions.{filled_adds, slot_free}
use Rattle.oer_write.proofs.sequences.close_long.Goals as goal

pub fill_apart-requires-clause-free : goal.fill_apart-requires-clause-free
fill_apart-requires-clause-free c = slot_free c.args.is_inside c.args.start c.args.slot c.args.insertions.now c.requires.adds.1.rear c.if-is_inside.true c.requires.slot c.requires.adds.1.more

pub returns-then-is_inside-clause-done : goal.returns-then-is_inside-clause-done
returns-then-is_inside-clause-done c = λ content a.
    on_ok_weaker c.fill_apart.result (λ h. rw h (filled_adds c.args.is_inside c.args.start c.args.slot c.args.output.now.items c.args.insertions.now content c.args.octets.now c.if-is_inside.true c.requires.slot c.requires.start a)) c.fill_apart.ensures.done
