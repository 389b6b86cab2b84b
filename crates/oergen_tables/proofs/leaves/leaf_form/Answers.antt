use Rattle.oergen_tables.proofs.leaves.leaf_form.Goals as goal

pub returns : goal.returns
returns c = (c.unwrap_or-base.result.now.body, c.in_ok-form.ensures)
