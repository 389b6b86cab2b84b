use Rattle.std.proofs.Common.{Option, Some, [], ◌++◌, sym, subst}
use Rattle.std.specs.List.{cons_option}
use Rattle.asn1_core.specs.declared.tag.Tag.{Tag}
use Rattle.oergen_layouts.specs.Untagged.{IsLeastOf}
use Rattle.oergen_layouts.proofs.Alternatives.{least_more}
use Rattle.oergen_layouts.proofs.untagged.lesser.Goals as goal

pub returns-in-Some-Some : goal.returns-in-Some-Some
returns-in-Some-Some c = λ tags is.
    let least = subst (IsLeastOf tags) c.in-Some-Some.is-0 is in
    let more = least_more c.tag_order.ensures tags c.in-Some-Some.before c.in-Some-Some.own c.min.result c.min.ensures least in
    subst (λ (it : Option Tag). IsLeastOf (tags ++ cons_option it []) (Some c.min.result)) (sym c.in-Some-Some.is-1) more
