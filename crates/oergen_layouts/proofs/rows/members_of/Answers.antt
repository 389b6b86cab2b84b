use Rattle.oergen_layouts.proofs.rows.members_of.Goals as goal

pub returns-in-Choice-clause-are : goal.returns-in-Choice-clause-are
returns-in-Choice-clause-are c = record { all = c.in-Choice.members; are_all = c.as_slice.ensures.value; stand_in = c.in-Choice.is }
