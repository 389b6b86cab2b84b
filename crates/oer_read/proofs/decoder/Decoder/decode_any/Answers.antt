use Rattle.std.specs.Prelude.{None}
use Rattle.asn1_core.specs.Octets.{Octets}
use Rattle.asn1_core.specs.Texts.{AnyOctets}
use Rattle.oer_spec.specs.Spelled.{unsized_text}
use Rattle.oer_read.proofs.TextLaws.{octets_law, unsized}
use Rattle.oer_read.proofs.decoder.Decoder.decode_any.Goals as goal

pub returns-clause-law : goal.returns-clause-law
returns-clause-law c =
    octets_law (λ (o : Octets). o) AnyOctets None (unsized_text AnyOctets) (unsized AnyOctets) (λ o. tt) c.args.self.now _ _ _
    (rw (c.codec.ensures, c.remaining.ensures) at c.read_own_octets-answer.ensures.relation) c.take.ensures
