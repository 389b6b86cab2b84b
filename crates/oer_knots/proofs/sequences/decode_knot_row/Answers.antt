use Rattle.std.proofs.Common.{◌<◌}
use Rattle.oer_read.proofs.Levels.{opened_levels}
use Rattle.oer_read.proofs.Promises.{promise_of}
use Rattle.std.specs.Result.{IfOk}
use Rattle.oer_rows.specs.Schema.{IsOf}
use Rattle.oer_rows.proofs.Chained.{schema_law}
use Rattle.oer_rows.proofs.RowRefusals.{row_answers}
use Rattle.oer_knots.specs.Reading.{inside_reads}
use Rattle.oer_knots.proofs.sequences.decode_knot_row.Goals as goal

pub decode_sequence-requires-clause-callable : goal.decode_sequence-requires-clause-callable
decode_sequence-requires-clause-callable g c lent o p e =
    let h : p.now.levels < c.args.decoder.now.levels = rw e (opened_levels _ _ _ _ _ o) in
    inside_reads g.F.Fn _ _ _ _ _ h c.requires.knots

pub returns-clause-law : goal.returns-clause-law
returns-clause-law g c =
    schema_law g.T.Rowed.row_schema g.T.Rowed.EXTENSIBLE g.T.Rowed.row_is_schema g.T.Rowed.components g.T.Constructed.IS_EXTENSIBLE g.T.Constructed.root_rows g.T.Constructed.addition_rows c.requires.tables
    (g.T.Spelled.tree g.T.AsnType.CONSTRAINTS) g.T.Spelled.IsValue c.requires.tree c.requires.within c.requires.back
    _ (promise_of _ _ _ (λ p q r k. k.0)) (promise_of _ _ (λ s r t. IfOk r (λ v. IsOf g.T.Rowed.row_schema (g.T.Rowed.components v))) (λ p q r k. k.1.0)) _ _ _
    c.decode_sequence.ensures.read c.decode_sequence.ensures.refused c.decode_sequence.ensures.unchanged

pub returns-clause-refused : goal.returns-clause-refused
returns-clause-refused g c =
    row_answers g.T.Rowed.row_schema g.T.Rowed.components _ _ (promise_of _ _ _ (λ p q r k. k.0)) (promise_of _ _ _ (λ p q r k. k.1.1)) _ _ _ _ _ c.decode_sequence.ensures.refused
