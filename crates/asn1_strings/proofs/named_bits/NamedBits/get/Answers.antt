use Rattle.std.proofs.Common.{false, get_or, ap, ◌∙◌}
use Rattle.std.specs.Prelude.{unwrap_or}
use Rattle.std.proofs.lemmas.Option.{unwrap_or-slice_get}
use Rattle.asn1_strings.proofs.named_bits.NamedBits.get.Goals as goal

pub returns : goal.returns
returns c =
    c.unwrap_or.ensures ∙ ap (λ o. unwrap_or o false) c.get.ensures ∙ unwrap_or-slice_get c.self.inside.bits c.args.index false ∙ ap (λ b. get_or b c.args.index false) c.self.view_is
