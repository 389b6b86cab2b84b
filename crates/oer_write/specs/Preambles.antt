-- The octets of a preamble.
use Rattle.std.specs.Prelude.{◌≤◌, ◌<◌, length}
use Rattle.asn1_core.specs.Numbers.{low_octets}
use Rattle.asn1_core.specs.Octets.{Octets}
use Rattle.oer_write.specs.declared.scopes.Preamble.{Preamble}
use Rattle.oer_write.specs.declared.scopes.Preamble.TheVariants.{Few, Many}

abbrev pub preamble_octets : Preamble → Octets
preamble_octets (Few p) = low_octets p.octets p.number
preamble_octets (Many o) = o.items

-- up to eight octets are a number's
abbrev pub IsSized : Preamble → Type 0
IsSized (Few p) = p.octets ≤ 8
IsSized (Many o) = 8 < length o.items
