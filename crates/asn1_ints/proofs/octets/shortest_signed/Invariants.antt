use Rattle.std.proofs.Common.{length}
use Rattle.asn1_ints.specs.Octets.{KeepsSigned}
use Rattle.asn1_ints.proofs.octets.shortest_signed.Given as goal

abbrev pub invariant-loop-rest : goal.invariant-loop-rest
invariant-loop-rest l = KeepsSigned l.octets l.rest

abbrev pub decreases-loop-rest : goal.decreases-loop-rest
decreases-loop-rest l = length l.rest
