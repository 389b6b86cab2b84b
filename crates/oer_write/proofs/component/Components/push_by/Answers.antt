use Rattle.std.proofs.Common.{true, false, refl, rules}
use Rattle.oer_write.proofs.Nesting.{adds_alone}
use Rattle.oer_write.proofs.Places.{laid_more, laid_written, items_written}
use Rattle.oer_write.proofs.component.Components.push_by.Goals as goal

pub invariant_of-self : goal.invariant_of-self
invariant_of-self g c = record {
  laid = laid_more c.self.inside.octets.items c.put_into.new.out.items c.self.inside.places.items c.in_err-put_into.ensures.grown.1.begins c.self.invariant.laid;
  none = c.in_err-put_into.ensures.alone refl;
}

pub invariant_of-self-in_err-push_place : goal.invariant_of-self-in_err-push_place
invariant_of-self-in_err-push_place g c = record {
  laid = rw c.in_err-push_place.ensures.unchanged (laid_more c.self.inside.octets.items c.put_into.new.out.items c.self.inside.places.items c.in_ok-put_into.ensures.grown.1.begins c.self.invariant.laid);
  none = c.in_ok-put_into.ensures.alone refl;
}

pub invariant_of-self-2 : goal.invariant_of-self-2
invariant_of-self-2 g c = record {
  laid = laid_written c.self.inside.octets.items c.put_into.new.out.items c.in_ok-put_into.ensures.done.0 c.self.inside.places.items c.push_place.new.places.items c.new.result (adds_alone c.in_ok-put_into.ensures.done.0 c.self.inside.octets.items c.put_into.new.out.items c.self.inside.insertions c.put_into.new.insertions (c.in_ok-put_into.ensures.alone refl) c.in_ok-put_into.ensures.done.2) c.in_ok-push_place.ensures.done (search rules) (search rules) c.self.invariant.laid;
  none = c.in_ok-put_into.ensures.alone refl;
}

pub returns-clause-done : goal.returns-clause-done
returns-clause-done g c = (c.in_ok-put_into.ensures.done.0, c.in_ok-put_into.ensures.done.1, rw (← c.self.view_is) (items_written c.self.inside.octets.items c.put_into.new.out.items c.in_ok-put_into.ensures.done.0 c.self.inside.places.items c.push_place.new.places.items c.new.result c.args.tag false true (adds_alone c.in_ok-put_into.ensures.done.0 c.self.inside.octets.items c.put_into.new.out.items c.self.inside.insertions c.put_into.new.insertions (c.in_ok-put_into.ensures.alone refl) c.in_ok-put_into.ensures.done.2) c.in_ok-push_place.ensures.done (search rules) (search rules) c.new.ensures.tag c.new.ensures.marked c.new.ensures.bit c.self.invariant.laid))
