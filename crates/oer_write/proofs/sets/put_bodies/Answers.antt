use Rattle.std.proofs.Common.{◌≡◌, ◌<◌, ◌++◌, length, take, drop, get_or, rules}
use Rattle.oer_write.proofs.Keeping.{begins_then}
use Rattle.oer_write.proofs.Places.{bodies_more}
use Rattle.oer_write.proofs.sets.put_bodies.Goals as goal

pub loop-component-preserved : goal.loop-component-preserved
loop-component-preserved c =
    let place = c.component-item.result in
    let short : c.loop-component.component-index < length c.args.components.now = search rules in
    let there : place ≡ get_or c.args.components.now c.loop-component.component-index place = search rules in
    let written : c.extend_from_slice.new.self.items ≡ c.loop-component.out.items ++ take place.size (drop place.start c.args.octets.now) = search rules in
    record {
      rest = bodies_more c.args.octets.now c.args.components.now c.loop-component.component-index place c.loop-component.out.items c.extend_from_slice.new.self.items _ short there written c.loop-component.invariant.rest;
      begins = begins_then _ _ _ c.loop-component.invariant.begins (take place.size (drop place.start c.args.octets.now), written);
    }
