use Rattle.std.proofs.Common.{length, sym, ap, ◌∙◌}
use Rattle.asn1_strings.proofs.BitLists.{length-front}
use Rattle.asn1_strings.proofs.bits.BitString.len.Goals as goal

pub returns : goal.returns
returns c = sym (length-front _ _ c.self.invariant.enough) ∙ ap length c.self.view_is
