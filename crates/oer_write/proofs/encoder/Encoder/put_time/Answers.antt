use Rattle.std.proofs.Common.{[]}
use Rattle.oer_write.proofs.Regions.{sound_more}
use Rattle.oer_write.proofs.encoder.Encoder.put_time.Goals as goal

pub invariant_of-self : goal.invariant_of-self
invariant_of-self g c = sound_more c.self.inside.scope c.self.inside.is_lent c.self.inside.is_inside c.self.inside.output.now.items c.write_time.new.out.items c.self.inside.insertions c.self.invariant (c.in_err-write_time.ensures []).1

pub invariant_of-self-2 : goal.invariant_of-self-2
invariant_of-self-2 g c = sound_more c.self.inside.scope c.self.inside.is_lent c.self.inside.is_inside c.self.inside.output.now.items c.write_time.new.out.items c.self.inside.insertions c.self.invariant (_, (c.in_ok-write_time.ensures []).1)
