use Rattle.std.proofs.Common.{◌≡◌, ◌++◌, length}
use Rattle.asn1_core.specs.Octets.{pack}
use Rattle.oergen_layouts.proofs.bits.packed.Given as goal

abbrev pub invariant-loop-rest : goal.invariant-loop-rest
invariant-loop-rest l = l.octets.items ++ pack l.rest ≡ pack l.initial.rest

abbrev pub decreases-loop-rest : goal.decreases-loop-rest
decreases-loop-rest l = length l.rest
