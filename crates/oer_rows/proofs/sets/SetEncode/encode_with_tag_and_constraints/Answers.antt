use Rattle.oer_rows.proofs.TagOrder.{set_done, set_not_done}
use Rattle.oer_rows.proofs.sets.SetEncode.encode_with_tag_and_constraints.Goals as goal

pub returns-clause-done : goal.returns-clause-done
returns-clause-done g c =
    set_done g.T.TextOrder.places g.T.Rowed.row_schema g.T.Rowed.EXTENSIBLE g.T.Rowed.row_is_schema _ _ _ _ c.encode_rows.ensures.done c.encode_rows.ensures.value

pub returns-clause-refused : goal.returns-clause-refused
returns-clause-refused g c =
    set_not_done g.T.TextOrder.places g.T.Rowed.row_schema g.T.Rowed.EXTENSIBLE g.T.Rowed.row_is_schema _ _ _ _ c.encode_rows.ensures.refused
