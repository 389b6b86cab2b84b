use Rattle.std.proofs.Common.{◌≡◌, ◌++◌, length}
use Rattle.asn1_core.specs.Octets.{Octets, pack}
use Rattle.oer_leaf_write.proofs.places.write_preamble.Given as goal

abbrev pub invariant-loop-rest : goal.invariant-loop-rest
invariant-loop-rest l = (more : Octets) × (l.out.items ≡ l.initial.out.items ++ more) × (more ++ pack l.rest ≡ pack l.initial.rest)

abbrev pub decreases-loop-rest : goal.decreases-loop-rest
decreases-loop-rest l = length l.rest
