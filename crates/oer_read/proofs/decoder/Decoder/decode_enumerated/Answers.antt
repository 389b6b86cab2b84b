use Rattle.oer_read.proofs.ValueLaws.{enumerated_law, front_given, values_read}
use Rattle.oer_read.proofs.decoder.Decoder.decode_enumerated.Goals as goal

pub returns-clause-law : goal.returns-clause-law
returns-clause-law g c =
    let type = g.E.Enumerated in
    let laws = g.met.E.Enumerated in
    let old = c.args.self.now in
    let reads = values_read type.number type.of_number laws.known laws.back old.codec in
    enumerated_law type.number type.of_number laws.fits old _ _ _
    (front_given reads _ old.input _ c.octets.ensures.octets (rw (c.codec.ensures, c.octets.ensures.input) at c.read_value-answer.ensures.function)) c.take.ensures
