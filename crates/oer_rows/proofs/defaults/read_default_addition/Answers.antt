use Rattle.oer_rows.proofs.Chained.{adds_default_value, adds_default_value_not}
use Rattle.oer_rows.proofs.defaults.read_default_addition.Goals as goal

pub returns-in_err-spelled : goal.returns-in_err-spelled
returns-in_err-spelled g c = search adds_default_value_not

pub returns : goal.returns
returns g c = adds_default_value _ _ _ _ _ _ _ _ _ _ _ _ c.in_ok-spelled.ensures.read c.read_addition.ensures.octets c.codec-codec.ensures c.settled.ensures
