use Rattle.std.proofs.Common.{◌∙◌, map, refl, ap}
use Rattle.oergen_layouts.specs.Definitions.{waits}
use Rattle.oergen_layouts.proofs.Defining.{set_same}
use Rattle.oergen_layouts.proofs.definitions.part_names.Goals as goal
use Rattle.oergen_layouts.proofs.definitions.part_names.Goals.{then-eq+in_ok-module+in_ok-one, else-eq}

pub loop-one-preserved : goal.loop-one-preserved
loop-one-preserved c =
    let before = c.loop-one.one-items in
    let at = c.loop-one.one-index in
    elim c.if-eq.branch [
      | then-eq+in_ok-module+in_ok-one w ↦ ap (map waits) w.one-items-is ∙ set_same before at c.one-item.result _ refl ∙ c.loop-one.invariant
      | else-eq w ↦ ap (map waits) w.one-items-is ∙ set_same before at c.one-item.result _ refl ∙ c.loop-one.invariant
    ]
