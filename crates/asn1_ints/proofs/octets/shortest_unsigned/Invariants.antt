use Rattle.std.proofs.Common.{length}
use Rattle.asn1_ints.specs.Octets.{KeepsUnsigned}
use Rattle.asn1_ints.proofs.octets.shortest_unsigned.Given as goal

abbrev pub invariant-loop-rest : goal.invariant-loop-rest
invariant-loop-rest l = KeepsUnsigned l.octets l.rest

abbrev pub decreases-loop-rest : goal.decreases-loop-rest
decreases-loop-rest l = length l.rest
