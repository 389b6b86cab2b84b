use Rattle.std.proofs.Common.{true, rules}
use Rattle.oer_spec.specs.Encoding.{canonical_octets}
use Rattle.oer_write.proofs.Places.{laid_more, laid_written, items_written}
use Rattle.oer_write.proofs.component.Components.push_value.Goals as goal

pub invariant_of-self : goal.invariant_of-self
invariant_of-self g c = record {
  laid = laid_more c.self.inside.octets.items c.append_value.new.out.items c.self.inside.places.items c.in_err-append_value.ensures.begins c.self.invariant.laid;
  none = c.in_err-append_value.ensures.none;
}

pub invariant_of-self-in_err-push_place : goal.invariant_of-self-in_err-push_place
invariant_of-self-in_err-push_place g c = record {
  laid = rw c.in_err-push_place.ensures.unchanged (laid_more c.self.inside.octets.items c.append_value.new.out.items c.self.inside.places.items c.in_ok-append_value.ensures.begins c.self.invariant.laid);
  none = c.in_ok-append_value.ensures.none;
}

pub invariant_of-self-2 : goal.invariant_of-self-2
invariant_of-self-2 g c = record {
  laid = laid_written c.self.inside.octets.items c.append_value.new.out.items (canonical_octets (g.E.Spelled.tree c.args.constraints c.args.value.now)) c.self.inside.places.items c.push_place.new.places.items c.new.result c.in_ok-append_value.ensures.done.1 c.in_ok-push_place.ensures.done (search rules) (search rules) c.self.invariant.laid;
  none = c.in_ok-append_value.ensures.none;
}

pub returns-clause-done : goal.returns-clause-done
returns-clause-done g c = rw (← c.self.view_is) (items_written c.self.inside.octets.items c.append_value.new.out.items (canonical_octets (g.E.Spelled.tree c.args.constraints c.args.value.now)) c.self.inside.places.items c.push_place.new.places.items c.new.result c.args.tag c.args.marked true c.in_ok-append_value.ensures.done.1 c.in_ok-push_place.ensures.done (search rules) (search rules) c.new.ensures.tag c.new.ensures.marked c.new.ensures.bit c.self.invariant.laid)
