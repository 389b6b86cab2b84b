use Rattle.oer_read.proofs.Rears.{asks_rear}
use Rattle.test_calls.proofs.closures.ask.Goals as goal

pub returns : goal.returns
returns c = asks_rear _ _ _ _ _ _ _ c.decode_optional_with_tag.ensures
