use Rattle.std.proofs.Common.{length, ap, ◌∙◌}
use Rattle.std.specs.Int.{w32}
use Rattle.asn1_strings.proofs.CharacterLists.{octets_a_unit}
use Rattle.asn1_strings.proofs.units.UniversalString.from_units.Goals as goal

pub from_vec-requires : goal.from_vec-requires
from_vec-requires c =
    let units = c.args.units.now in
    (length units, ap length c.in_ok-octets_of.ensures ∙ octets_a_unit w32 units)
