use Rattle.std.proofs.Common.{arith}
use Rattle.test_calls.proofs.within.list_within.Goals as goal

pub decode_sequence_of_with-requires-clause-keeps : goal.decode_sequence_of_with-requires-clause-keeps
decode_sequence_of_with-requires-clause-keeps g c rest v after lends k = let level = lends.level in c.requires.keeps _ after v (omega arith) k
