use Rattle.oer_rows.proofs.TagOrder.{set_value}
use Rattle.oer_rows.proofs.sets.SetWrites.put.Goals as goal

pub returns-clause-value : goal.returns-clause-value
returns-clause-value g c = set_value g.T.Rowed.row_schema _ _ g.met.T.InTagOrder.in_order c.put.ensures.value
