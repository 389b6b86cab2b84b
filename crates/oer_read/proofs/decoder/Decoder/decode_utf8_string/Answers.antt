use Rattle.std.specs.Prelude.{string_bytes}
use Rattle.asn1_core.specs.Bounds.{size_bounds}
use Rattle.asn1_core.specs.Texts.{Utf8}
use Rattle.oer_spec.specs.Spelled.{text}
use Rattle.oer_read.proofs.TextLaws.{text_law, sized}
use Rattle.oer_read.proofs.decoder.Decoder.decode_utf8_string.Goals as goal

pub returns-clause-law : goal.returns-clause-law
returns-clause-law c =
    text_law (λ s. string_bytes s) Utf8 (size_bounds c.args.constraints) (text Utf8 c.args.constraints) (sized Utf8 c.args.constraints) c.args.self.now _ _ _
    (rw (c.codec.ensures, c.remaining.ensures) at c.read_own_utf8-answer.ensures.relation) c.take.ensures
