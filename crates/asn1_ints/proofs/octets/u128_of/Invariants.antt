use Rattle.std.proofs.Common.{◌≡◌, ◌<◌, ◌^◌, take}
use Rattle.asn1_core.specs.Octets.{unsigned}
use Rattle.asn1_ints.proofs.octets.u128_of.Given as goal

abbrev pub invariant-loop-octet : goal.invariant-loop-octet
invariant-loop-octet l = (l.n < 2 ^ 128) × (l.n ≡ unsigned (take l.octet-index l.octets))
