use Rattle.oergen_layouts.specs.Untagged.{IsFound}
use Rattle.oergen_layouts.proofs.Placing.{zip_step}
use Rattle.oergen_layouts.proofs.untagged.all_flat.Goals as goal

pub loop-definition-preserved : goal.loop-definition-preserved
loop-definition-preserved c =
    let all = c.args.all.now in
    let one = c.definition-item.result in
    let found : IsFound all one c.flat_of.result = record { stays = c.flat_of.ensures.stays; placed = c.flat_of.ensures.placed; extends = c.flat_of.ensures.extends; refused = c.flat_of.ensures.refused } in
    zip_step (IsFound all) all c.loop-definition.made.items c.push.new.self.items c.loop-definition.definition-index one c.flat_of.result c.loop-definition-test.true c.definition-item.is c.loop-definition.invariant found c.in_ok-push.ensures.items
