use Rattle.std.proofs.Common.{[], refl, arith}
use Rattle.oer_read.specs.Lists.{Stopped, FnReturnsAtMut}
use Rattle.oer_read.proofs.ListLaw.{list_opens}
use Rattle.oer_read.proofs.ListSteps.{each_rear}
use Rattle.oer_read.proofs.Openings.{rear_trans}
use Rattle.oer_read.proofs.decoder.Decoder.decode_sequence_of_with.Goals as goal

pub read_elements-requires-clause-callable : goal.read_elements-requires-clause-callable
read_elements-requires-clause-callable g c before end empties so_far =
    c.requires.callable end (record { quantity = c.in-Ok.quantity; rest = c.in-Ok.start.now; opened = c.in-Ok.ensures.quantity; before = before; empties = empties; so_far = so_far; level = c.in-Ok.ensures.level })

pub returns-in-Err-read_elements-clause-refused : goal.returns-in-Err-read_elements-clause-refused
returns-in-Err-read_elements-clause-refused g c = Stopped c.in-Ok.quantity c.in-Ok.start.now c.in-Ok.ensures.quantity c.in-Err-read_elements.ensures.err

pub returns-in-Ok-read_elements-clause-rear : goal.returns-in-Ok-read_elements-clause-rear
returns-in-Ok-read_elements-clause-rear g c =
    let o = list_opens c.args.self.now c.in-Ok.quantity c.in-Ok.start.now c.in-Ok.ensures.octets c.in-Ok.ensures.quantity in
    let k = c.in-Ok-read_elements.ensures.ok in
    let (empties, ran, few) = k.1 in
    let rear = each_rear (FnReturnsAtMut g.F.Fn c.args.f) c.args.self.now c.in-Ok.quantity c.in-Ok.start.now
    (λ before end n v after so_far ran. c.requires.keeps end v after (record { quantity = c.in-Ok.quantity; rest = c.in-Ok.start.now; opened = c.in-Ok.ensures.quantity; before = before; empties = n; so_far = so_far; level = c.in-Ok.ensures.level }) ran)
    [] _ 0 _ _ empties (refl, refl) ran (omega (arith, k.0)) few in
    rw c.set_remaining.ensures (rear_trans _ _ _ (record { front = o.quantity; split = o.split }) rear)
