use Rattle.std.proofs.Common.{Option, List, [], ◌++◌, take, sym, subst}
use Rattle.std.specs.List.{cons_option}
use Rattle.asn1_core.specs.declared.tag.Tag.{Tag}
use Rattle.oergen_layouts.specs.Untagged.{IsLeastOf, root_tags}
use Rattle.oergen_layouts.proofs.Alternatives.{root_tags_more}
use Rattle.oergen_layouts.proofs.untagged.least_tag.Goals as goal

pub loop-part-preserved : goal.loop-part-preserved
loop-part-preserved c =
    let before = root_tags (take c.loop-part.part-index c.args.parts.now) in
    let more = c.lesser-least.ensures before c.loop-part.invariant in
    let with = subst (λ (it : Option Tag). IsLeastOf (before ++ cons_option it []) c.lesser-least.result) c.root_tag.ensures more in
    subst (λ (it : List Tag). IsLeastOf it c.lesser-least.result) (sym (root_tags_more c.args.parts.now c.loop-part.part-index c.part-item.result c.loop-part-test.true c.part-item.is)) with
