use Rattle.oer_rows.proofs.additions.read_addition.Goals as goal

pub returns : goal.returns
returns g c = rw c.CONSTRAINTS.ensures at c.decode_extension_addition_with_tag_and_constraints.ensures
