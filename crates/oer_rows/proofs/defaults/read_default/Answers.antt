use Rattle.oer_rows.proofs.Chained.{asks_default_value, asks_default_value_not}
use Rattle.oer_rows.proofs.defaults.read_default.Goals as goal

pub returns-in_err-spelled : goal.returns-in_err-spelled
returns-in_err-spelled g c = search asks_default_value_not

pub returns : goal.returns
returns g c = asks_default_value _ _ _ _ _ _ _ _ _ _ _ _ c.in_ok-spelled.ensures.read c.codec-codec.ensures c.settled.ensures
