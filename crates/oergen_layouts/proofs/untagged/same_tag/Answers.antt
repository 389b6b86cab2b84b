use Rattle.std.proofs.Common.{◌≡◌, ◌≢◌, ◌∙◌, ap, subst, arith, take_all}
use Rattle.std.proofs.lemmas.Grind.{common_steps}
use Rattle.std.proofs.lemmas.List.Elements.{All-more}
use Rattle.std.specs.List.{All}
use Rattle.oergen_layouts.specs.Untagged.{part_tag}
use Rattle.oergen_layouts.specs.declared.definitions.Part.{Part}
use Rattle.oergen_layouts.proofs.untagged.same_tag.Goals as goal

pub loop-part-preserved : goal.loop-part-preserved
loop-part-preserved c =
    let differ : c.tag_of.result ≡ c.args.tag → ⊥ = λ e. grind (arith, common_steps) in
    All-more (λ (it : Part). part_tag it ≢ c.args.tag) c.args.parts.now c.loop-part.part-index c.part-item.result c.loop-part-test.true c.loop-part.invariant (λ e. differ (c.tag_of.ensures ∙ (ap part_tag c.part-item.is ∙ e)))

pub returns : goal.returns
returns c = subst (All (λ (it : Part). part_tag it ≢ c.args.tag)) (take_all c.loop-part.part-index c.args.parts.now c.loop-part-test.false) c.loop-part.invariant
