use Rattle.std.proofs.Common.{◌≡◌, take}
use Rattle.asn1_core.specs.Octets.{unsigned}
use Rattle.oer_leaf_read.proofs.parts.unsigned_of.Given as goal

abbrev pub invariant-loop-octet : goal.invariant-loop-octet
invariant-loop-octet l = l.n ≡ unsigned (take l.octet-index l.octets)
