use Rattle.oer_read.proofs.ValueLaws.{front_given}
use Rattle.oer_kept.proofs.KeptNumbers.{kept_law, kept_reads}
use Rattle.oer_kept.proofs.enumerations.KeptEnumerationDecode.decode_with_tag_and_constraints.Goals as goal

pub returns-clause-law : goal.returns-clause-law
returns-clause-law g c =
    let type = g.T.Numbered in
    let old = c.args.decoder.now in
    kept_law type.number type.values old _ _ _
    (front_given (kept_reads type.number type.values type.listed old.codec) _ old.input _ c.octets.ensures.octets (rw (c.codec.ensures, c.octets.ensures.input) at c.read_kept-answer.ensures.function)) c.take.ensures
