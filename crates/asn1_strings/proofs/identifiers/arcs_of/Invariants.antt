use Rattle.std.proofs.Common.{◌≡◌, ◌≤◌, drop}
use Rattle.asn1_core.specs.Texts.{parts_from}
use Rattle.asn1_strings.specs.Identifiers.{arcs_of, last_part, then_parts}
use Rattle.asn1_strings.proofs.identifiers.arcs_of.Given as goal

abbrev pub invariant-loop-octet : goal.invariant-loop-octet
invariant-loop-octet l =
    record { small : l.part ≤ last_part l.arcs.items; read : then_parts l.arcs.items (parts_from l.inside l.part (drop l.octet-index l.octets)) ≡ arcs_of l.octets }
