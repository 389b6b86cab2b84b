use Rattle.std.specs.Borrow.{Bor}
use Rattle.std.specs.Prelude.{ℕ, List}
use Rattle.asn1_core.specs.Bounds.{size_bounds}
use Rattle.asn1_core.specs.Texts.{AnyOctets}
use Rattle.oer_spec.specs.Spelled.{text}
use Rattle.oer_read.proofs.TextLaws.{octets_law, sized}
use Rattle.oer_read.proofs.decoder.Decoder.decode_octet_string.Goals as goal

pub returns-clause-law : goal.returns-clause-law
returns-clause-law c =
    octets_law (λ (b : Bor (List ℕ)). b.now) AnyOctets (size_bounds c.args.constraints) (text AnyOctets c.args.constraints) (sized AnyOctets c.args.constraints) (λ o. tt) c.args.self.now _ _ _
    (rw (c.codec.ensures, c.remaining.ensures) at c.read_octet_string-answer.ensures.relation) c.take.ensures
