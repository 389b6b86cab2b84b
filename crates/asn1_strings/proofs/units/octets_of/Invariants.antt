use Rattle.std.proofs.Common.{◌≡◌, take}
use Rattle.std.specs.List.{flat_map}
use Rattle.asn1_strings.proofs.units.octets_of.Given as goal

abbrev pub invariant-loop-unit : goal.invariant-loop-unit
invariant-loop-unit g l = l.octets.items ≡ flat_map g.U.Unit.octets (take l.unit-index l.units)
