use Rattle.oer_json.specs.Readings.{reading_of}
use Rattle.oer_json.proofs.Readings.{written_not, written_no_memory}
use Rattle.oer_json.proofs.octets.written.Goals as goal

pub returns : goal.returns
returns c = written_not (reading_of c.args.tables.now c.args.type_number c.args.json.now) c.in-Err.fault c.in_ok-refusal_of-in-Err.field-0 _ _ c.in-Err.ensures c.in_ok-refusal_of-in-Err.ensures

pub returns-in_err-refusal_of-in-Err : goal.returns-in_err-refusal_of-in-Err
returns-in_err-refusal_of-in-Err c = written_no_memory (reading_of c.args.tables.now c.args.type_number c.args.json.now) c.from_residual.result c.from_residual.ensures.1
