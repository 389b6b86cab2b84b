use Rattle.std.proofs.Common.{◌++◌, ap, ◌∙◌}
use Rattle.oer_leaf_write.proofs.WriteNumbers.{short_quantity}
use Rattle.oer_leaf_write.proofs.quantities.write_quantity.Goals as goal

pub returns-then-quantity-lt256 : goal.returns-then-quantity-lt256
returns-then-quantity-lt256 c = c.in_ok-extend_from_slice.ensures.items ∙ ap (λ o. c.args.out.now.items ++ o) (short_quantity c.args.quantity c.if-quantity-lt256.true)
