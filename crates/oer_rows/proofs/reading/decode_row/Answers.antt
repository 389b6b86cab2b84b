use Rattle.oer_rows.proofs.Apart.{law_read, law_refused, row_refused_apart}
use Rattle.oer_rows.proofs.reading.decode_row.Goals as goal

pub returns-in-Ok-clause-law : goal.returns-in-Ok-clause-law
returns-in-Ok-clause-law g c = law_read (g.T.Spelled.tree c.args._constraints) g.T.Spelled.IsValue _ _ _ _ _ _ _ c.codec.ensures c.levels.ensures c.remaining.ensures c.set_remaining.ensures c.in-Ok.ensures.read

pub returns-in-Err-clause-law : goal.returns-in-Err-clause-law
returns-in-Err-clause-law g c = law_refused (g.T.Spelled.tree c.args._constraints) g.T.Spelled.IsValue _ _ _ _ _ c.codec.ensures c.levels.ensures c.remaining.ensures c.in-Err.ensures.law

pub returns-in-Err-clause-refused : goal.returns-in-Err-clause-refused
returns-in-Err-clause-refused g c = row_refused_apart _ _ _ _ _ _ _ _ _ c.codec.ensures c.levels.ensures c.remaining.ensures c.in-Err.ensures.refused
