use Rattle.oer_read.proofs.Rears.{added_defaults_rear}
use Rattle.test_memory.proofs.one_row.default_addition.Goals as goal

pub returns : goal.returns
returns c = added_defaults_rear _ _ _ _ _ _ _ _ _ c.decode_extension_addition_default.ensures
