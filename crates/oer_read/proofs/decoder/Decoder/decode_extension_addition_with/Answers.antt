use Rattle.oer_read.proofs.decoder.Decoder.decode_extension_addition_with.Goals as goal

pub addition_with-requires-clause-law : goal.addition_with-requires-clause-law
addition_with-requires-clause-law g c = rw c.CONSTRAINTS.ensures c.requires.law

pub returns : goal.returns
returns g c = rw c.CONSTRAINTS.ensures at c.addition_with.ensures
