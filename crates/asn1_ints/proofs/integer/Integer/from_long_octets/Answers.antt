use Rattle.std.proofs.Common.{sym, ◌∙◌}
use Rattle.asn1_core.specs.Octets.{signed}
use Rattle.asn1_ints.proofs.Kept.{are_large, some_value}
use Rattle.asn1_ints.proofs.integer.Integer.from_long_octets.Goals as goal

pub invariant_of-result : goal.invariant_of-result
invariant_of-result c = are_large c.in_ok-kept.kept.items (signed c.args.octets.now) (c.in_ok-kept.ensures.items ∙ c.shortest_signed.ensures) (sym c.in_default.is ∙ c.i128_of.ensures)

pub returns-clause-value : goal.returns-clause-value
returns-clause-value c = some_value c.in_ok-kept.kept.items c.args.octets.now (signed c.args.octets.now) (c.in_ok-kept.ensures.items ∙ c.shortest_signed.ensures) (sym c.if-is_empty.ensures)
