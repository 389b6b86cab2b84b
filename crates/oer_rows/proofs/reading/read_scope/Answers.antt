use Rattle.oer_read.proofs.Promises.{promise_of}
use Rattle.oer_read.specs.Parts.{ReadsParts}
use Rattle.std.specs.Result.{IfOk, IfErr}
use Rattle.oer_rows.specs.Schema.{IsOf}
use Rattle.oer_rows.proofs.Chained.{schema_law}
use Rattle.oer_rows.proofs.RowRefusals.{row_answers}
use Rattle.oer_rows.proofs.reading.read_scope.Goals as goal

pub decode_sequence-requires-clause-keeps : goal.decode_sequence-requires-clause-keeps
decode_sequence-requires-clause-keeps g c lent after v opened k =
    (promise_of _ _ (λ s r t. ReadsParts g.T.Rowed.row_schema.roots.parts g.T.Rowed.row_schema.additions.parts (λ v. g.T.Rowed.row_schema.roots.rows (g.T.Rowed.components v)) (λ v. g.T.Rowed.row_schema.additions.rows (g.T.Rowed.components v)) s r t) (λ p q r k. k.0) _ _ _ k).read.rear

pub returns-clause-law : goal.returns-clause-law
returns-clause-law g c =
    schema_law g.T.Rowed.row_schema g.T.Rowed.EXTENSIBLE g.T.Rowed.row_is_schema g.T.Rowed.components g.T.Constructed.IS_EXTENSIBLE g.T.Constructed.root_rows g.T.Constructed.addition_rows c.requires.tables
    (g.T.Spelled.tree c.args._constraints) g.T.Spelled.IsValue c.requires.tree c.requires.within c.requires.back
    _ (promise_of _ _ _ (λ p q r k. k.0)) (promise_of _ _ (λ s r t. IfOk r (λ v. IsOf g.T.Rowed.row_schema (g.T.Rowed.components v))) (λ p q r k. k.1.0)) _ _ _
    c.decode_sequence.ensures.read c.decode_sequence.ensures.refused c.decode_sequence.ensures.unchanged

pub returns-clause-refused : goal.returns-clause-refused
returns-clause-refused g c =
    row_answers g.T.Rowed.row_schema g.T.Rowed.components g.T.Takes.Refuses _ (promise_of _ _ _ (λ p q r k. k.0)) (promise_of _ _ (λ s r t. IfErr r (λ e. g.T.Takes.Refuses s e)) (λ p q r k. k.1.1)) _ _ _ _ _ c.decode_sequence.ensures.refused
