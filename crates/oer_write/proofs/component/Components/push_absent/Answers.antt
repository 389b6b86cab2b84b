use Rattle.std.proofs.Common.{arith}
use Rattle.oer_write.proofs.Places.{laid_push}
use Rattle.oer_write.proofs.component.Components.push_absent.Goals as goal

pub invariant_of-self-2 : goal.invariant_of-self-2
invariant_of-self-2 c =
    let s = c.new.ensures.start in
    let z = c.new.ensures.size in
    record {
      laid = rw c.in_ok-push.ensures.items (laid_push c.self.inside.octets.items c.self.inside.places.items c.new.result c.self.invariant.laid (omega (arith, s, z)));
      none = c.self.invariant.none;
    }
