use Rattle.std.proofs.Common.{◌≡◌, sym, ◌∙◌, pos}
use Rattle.asn1_core.specs.Octets.{unsigned}
use Rattle.asn1_core.specs.Numbers.{signed_octets}
use Rattle.asn1_ints.proofs.Kept.{are_large, some_value, alone}
use Rattle.asn1_ints.proofs.integer.Integer.from_unsigned_octets.Goals as goal

written : (c : goal.In_ok-write_with_sign) → c.write_with_sign.new.out.items ≡ signed_octets (pos (unsigned c.args.octets.now))
written c = alone c.write_with_sign.new.out.items c.new-kept.result.items (signed_octets (pos (unsigned c.args.octets.now))) c.new-kept.ensures.items c.in_ok-write_with_sign.ensures

pub invariant_of-result : goal.invariant_of-result
invariant_of-result c = are_large c.write_with_sign.new.out.items (pos (unsigned c.args.octets.now)) (written c) (sym c.in_default.is ∙ c.unsigned_i128_of.ensures)

pub returns : goal.returns
returns c = some_value c.write_with_sign.new.out.items c.args.octets.now (pos (unsigned c.args.octets.now)) (written c) (sym c.if-is_empty.ensures)
