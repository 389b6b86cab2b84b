use Rattle.std.proofs.Common.{◌≡◌, ◌≤◌, length}
use Rattle.asn1_core.specs.Octets.{AreOctets, unsigned}
use Rattle.oer_leaf_write.proofs.lengths.without_leading_zeros.Given as goal

abbrev pub invariant-loop-rest : goal.invariant-loop-rest
invariant-loop-rest l = record { octets : AreOctets l.rest; same : unsigned l.rest ≡ unsigned l.octets; count : length l.rest ≤ length l.octets }

abbrev pub decreases-loop-rest : goal.decreases-loop-rest
decreases-loop-rest l = length l.rest
