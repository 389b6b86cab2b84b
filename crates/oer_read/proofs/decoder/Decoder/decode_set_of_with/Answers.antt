use Rattle.std.proofs.Common.{ℕ, Ok, ap, sym, ◌∙◌}
use Rattle.oer_read.specs.Lists.{FnReturnsAtMut}
use Rattle.oer_read.specs.Unordered.{Stopped}
use Rattle.oer_read.proofs.ListLaw.{list_opens}
use Rattle.oer_read.proofs.Openings.{rear_trans}
use Rattle.oer_read.proofs.UnorderedSteps.{took_rear}
use Rattle.oer_read.proofs.decoder.Decoder.decode_set_of_with.Goals as goal

pub read_unordered-requires-clause-callable : goal.read_unordered-requires-clause-callable
read_unordered-requires-clause-callable g c end lends =
    c.requires.callable end (record { quantity = c.in-Ok.quantity; rest = c.in-Ok.start.now; opened = c.in-Ok.ensures.quantity; lends = lends; level = c.in-Ok.ensures.level })

pub read_unordered-requires-clause-keeps : goal.read_unordered-requires-clause-keeps
read_unordered-requires-clause-keeps g c end v after lends ran =
    c.requires.keeps end v after (record { quantity = c.in-Ok.quantity; rest = c.in-Ok.start.now; opened = c.in-Ok.ensures.quantity; lends = lends; level = c.in-Ok.ensures.level }) ran

pub returns-in-Err-read_unordered-clause-refused : goal.returns-in-Err-read_unordered-clause-refused
returns-in-Err-read_unordered-clause-refused g c = Stopped c.in-Ok.quantity c.in-Ok.start.now c.in-Ok.ensures.quantity c.in-Err-read_unordered.ensures.err

pub returns-in-Ok-read_unordered-clause-read : goal.returns-in-Ok-read_unordered-clause-read
returns-in-Ok-read_unordered-clause-read g c =
    let k = c.in-Ok-read_unordered.ensures.ok in
    rw c.from_vec.ensures (record {
      rest = c.in-Ok.start.now;
      opened = c.in-Ok.ensures.quantity ∙ ap (λ (n : ℕ). Ok (n, c.in-Ok.start.now)) (sym k.0);
      elements = k.1.0;
      end = c.in-Ok-read_unordered.rest.now;
      so_far = k.1.1;
      left = c.set_remaining.ensures;
      octets = c.in-Ok.ensures.octets;
    })

pub returns-in-Ok-read_unordered-clause-rear : goal.returns-in-Ok-read_unordered-clause-rear
returns-in-Ok-read_unordered-clause-rear g c =
    let o = list_opens c.args.self.now c.in-Ok.quantity c.in-Ok.start.now c.in-Ok.ensures.octets c.in-Ok.ensures.quantity in
    let k = c.in-Ok-read_unordered.ensures.ok in
    rw c.set_remaining.ensures (rear_trans _ _ _ (record { front = o.quantity; split = o.split }) (took_rear (FnReturnsAtMut g.F.Fn c.args.f) c.args.self.now _ _ _ _ k.1.1.took))
