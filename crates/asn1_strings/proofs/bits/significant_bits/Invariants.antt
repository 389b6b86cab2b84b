use Rattle.std.proofs.Common.{◌≡◌, ◌≤◌, take}
use Rattle.asn1_core.specs.Octets.{bits_of}
use Rattle.asn1_strings.specs.NamedBits.{significant}
use Rattle.asn1_strings.proofs.bits.significant_bits.Given as goal

abbrev pub invariant-loop-count : goal.invariant-loop-count
invariant-loop-count l = record { same : significant (take l.count (bits_of l.octets)) ≡ significant (take l.bits (bits_of l.octets)); fewer : l.count ≤ l.bits }

abbrev pub decreases-loop-count : goal.decreases-loop-count
decreases-loop-count l = l.count
