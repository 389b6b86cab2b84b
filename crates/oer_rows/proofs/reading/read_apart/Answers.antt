use Rattle.oer_rows.proofs.reading.read_apart.Goals as goal

pub returns-in-Err-clause-refused : goal.returns-in-Err-clause-refused
returns-in-Err-clause-refused g c = rw c.apart-decoder.ensures at c.in-Err.ensures.refused
