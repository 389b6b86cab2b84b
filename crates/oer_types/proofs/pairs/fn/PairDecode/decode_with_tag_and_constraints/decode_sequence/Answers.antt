use Rattle.oer_read.proofs.Reading.{reading}
use Rattle.oer_types.proofs.pairs.fn.PairDecode.decode_with_tag_and_constraints.decode_sequence.Goals as goal

pub returns-in_err-a : goal.returns-in_err-a
returns-in_err-a c = search reading

pub returns-in_err-b : goal.returns-in_err-b
returns-in_err-b c = search reading

pub returns : goal.returns
returns c = search reading
