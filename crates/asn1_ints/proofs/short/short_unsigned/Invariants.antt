use Rattle.std.proofs.Common.{◌≡◌, ◌<◌, ◌^◌, take}
use Rattle.asn1_core.specs.Octets.{unsigned}
use Rattle.asn1_ints.proofs.short.short_unsigned.Given as goal

abbrev pub invariant-loop-octet : goal.invariant-loop-octet
invariant-loop-octet l = (l.n ≡ unsigned (take l.octet-index l.octets)) × (l.n < 256 ^ l.octet-index)
