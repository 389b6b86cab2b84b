use Rattle.std.proofs.Common.{length}
use Rattle.oer_write.proofs.Stored.{pushed_counted}
use Rattle.oer_write.proofs.insertions.Insertions.open.Goals as goal

pub invariant_of-self : goal.invariant_of-self
invariant_of-self c =
    let i = c.self.inside in
    let p = pushed_counted c.push.result (length i.long) i.slots c.push.new.self c.args.place i.inserted c.push.ensures.done c.push.ensures.refused c.self.invariant.size c.self.invariant.there in
    record { size = p.0; there = p.1 }
