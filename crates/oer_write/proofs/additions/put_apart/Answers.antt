use Rattle.std.proofs.Common.{refl, sym}
use Rattle.oer_write.proofs.Nesting.{adds_alone_ok}
use Rattle.oer_write.proofs.additions.put_apart.Goals as goal

pub returns-clause-done : goal.returns-clause-done
returns-clause-done g c = rw (sym c.constraints.ensures) (adds_alone_ok c.put_open.result _ c.args.out.now.items c.put_open.new.out.items c.new-insertions.result c.put_open.new.insertions (c.put_open.ensures.alone refl) c.put_open.ensures.done)
