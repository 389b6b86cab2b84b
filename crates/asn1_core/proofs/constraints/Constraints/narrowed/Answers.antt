use Rattle.std.proofs.Common.{ap, ◌∙◌}
use Rattle.asn1_core.specs.Bounds.{narrowed_part_by}
use Rattle.asn1_core.proofs.Orders.{nat_orders, int_orders}
use Rattle.asn1_core.proofs.constraints.Constraints.narrowed.Goals as goal

pub returns : goal.returns
returns c =
    let own = c.args.self.now in
    let value = c.narrowed_part.ensures ∙ ap (λ le. narrowed_part_by le own.value c.args.other.value) int_orders in
    let size = c.narrowed_part-2.ensures ∙ ap (λ le. narrowed_part_by le own.size c.args.other.size) nat_orders in
    λ i. record { value = value i; size = size i }
