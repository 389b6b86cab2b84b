use Rattle.asn1_core.specs.Bounds.{size_bounds}
use Rattle.asn1_core.specs.Octets.{Octets}
use Rattle.oer_spec.specs.Spelled.{text}
use Rattle.oer_read.proofs.TextLaws.{text_law, sized}
use Rattle.oer_read.proofs.decoder.Decoder.restricted.Goals as goal

pub returns-clause-law : goal.returns-clause-law
returns-clause-law g c =
    let rule = g.C.CharacterSet.rule in
    text_law (λ (o : Octets). o) rule (size_bounds c.args.constraints) (text rule c.args.constraints) (sized rule c.args.constraints) c.args.self.now _ _ _
    (rw (c.codec.ensures, c.remaining.ensures) at c.read_own_text-answer.ensures.relation) c.take.ensures
