use Rattle.std.proofs.Common.{◌∙◌, ◌<◌, Option, ℕ, length, set, ap, sym, arith}
use Rattle.std.proofs.lemmas.List.Edits.{map_over_more}
use Rattle.oergen_layouts.specs.Untagged.{at_place, new_place}
use Rattle.oergen_layouts.specs.declared.definitions.Part.{Part}
use Rattle.oergen_layouts.proofs.untagged.place_targets.Goals as goal

pub loop-part-preserved : goal.loop-part-preserved
loop-part-preserved c =
    let xs = c.deref_mut-part-items.result.now in
    let ys = c.loop-part.part-items in
    let at = c.loop-part.part-index in
    let part = c.part-item.result in
    let below : at < length xs = omega (arith, c.loop-part-test.true, c.loop-part.auto.part-items) in
    let own = ap (λ (it : Part). record it { target = c.new_place-part.result }) (sym c.part-item.is) in
    let placed = ap (λ (it : Option ℕ). record part { target = it }) (c.new_place-part.ensures ∙ ap (λ (it : Part). new_place c.args.places.now it.target) (sym c.part-item.is)) in
    ap (λ (it : Part). set ys at it) (own ∙ placed) ∙ map_over_more (at_place c.args.places.now) xs ys at part below c.loop-part.invariant c.part-item.is
