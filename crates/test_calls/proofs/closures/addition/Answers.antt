use Rattle.oer_read.proofs.Rears.{adds_rear}
use Rattle.test_calls.proofs.closures.addition.Goals as goal

pub returns : goal.returns
returns c = adds_rear _ _ _ _ _ _ _ c.decode_extension_addition_with_tag_and_constraints.ensures
