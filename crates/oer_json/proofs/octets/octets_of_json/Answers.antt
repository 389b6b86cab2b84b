use Rattle.std.proofs.Common.{subst}
use Rattle.oer_json.specs.Readings.{reading_of, IsWritten}
use Rattle.oer_json.proofs.Readings.{answered, refused_by, not_walked, stands_taken}
use Rattle.oer_json.proofs.octets.octets_of_json.Goals as goal

pub returns-else-is_walked_whole-clause-answers : goal.returns-else-is_walked_whole-clause-answers
returns-else-is_walked_whole-clause-answers c =
    not_walked c.args.tables.now.words.items c.args.type_number (reading_of c.args.tables.now c.args.type_number c.args.json.now) c.in_ok-octets.octets c.in_ok-octets.ensures
    (λ t e f. stands_taken c.args.tables.now c.args.type_number c.args.json.now t c.in_ok-octets.octets c.as_slice.result.now c.is_walked_whole.result e f c.in_ok-octets.ensures c.as_slice.ensures.value c.if-is_walked_whole.false c.is_walked_whole.ensures.takes)

pub returns-in_err-octets-clause-answers : goal.returns-in_err-octets-clause-answers
returns-in_err-octets-clause-answers c =
    refused_by c.args.tables.now.words.items c.args.type_number (reading_of c.args.tables.now c.args.type_number c.args.json.now) c.from_residual.result c.in_err-octets.field-0.0 c.from_residual.ensures.1
    (subst (IsWritten (reading_of c.args.tables.now c.args.type_number c.args.json.now)) c.in_err-octets.was c.written.ensures)

pub returns-then-is_walked_whole-clause-answers : goal.returns-then-is_walked_whole-clause-answers
returns-then-is_walked_whole-clause-answers c =
    answered c.args.tables.now.words.items c.args.type_number (reading_of c.args.tables.now c.args.type_number c.args.json.now) c.in_ok-octets.octets c.in_ok-octets.ensures
