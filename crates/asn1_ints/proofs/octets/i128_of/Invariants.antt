use Rattle.std.proofs.Common.{◌≡◌, take}
use Rattle.asn1_ints.specs.Octets.{in_complement}
use Rattle.asn1_ints.proofs.octets.i128_of.Given as goal

abbrev pub invariant-loop-octet : goal.invariant-loop-octet
invariant-loop-octet l = l.n ≡ in_complement l.negative (take l.octet-index l.octets)
