use Rattle.oer_read.proofs.decoder.Decoder.decode_default_with_constraints.Goals as goal

pub returns : goal.returns
returns g c = rw (c.TAG.ensures) at c.decode_default_with_tag_and_constraints.ensures
