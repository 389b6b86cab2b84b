use Rattle.std.proofs.Common.{sym, ◌∙◌}
use Rattle.std.specs.Cmp.Lexicographic.{pointwise}
use Rattle.asn1_core.specs.MultisetLaws.{pointwise-same_items}
use Rattle.asn1_core.proofs.sets.SetOfPartialEq.eq.Goals as goal

pub returns-then-eq : goal.returns-then-eq
returns-then-eq g c =
    let eq = g.T.PartialEq.eq in
    let own = sym (c.as_slice-own.ensures.value ∙ c.self.view_is) in
    let others = sym (c.as_slice-others.ensures.value ∙ c.other.view_is) in
    let same = (λ i. pointwise eq (own i) (others i)) ∙ sym c.eq.ensures ∙ c.if-eq.true in
    c.if-eq.true ∙ sym (pointwise-same_items eq g.met.T.PartialEq.laws c.args.self.now c.args.other.now same)
