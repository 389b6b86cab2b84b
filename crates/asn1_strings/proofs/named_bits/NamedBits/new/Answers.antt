use Rattle.std.proofs.Common.{subst, sym}
use Rattle.asn1_strings.specs.NamedBits.{IsNamed}
use Rattle.asn1_strings.proofs.NamedLists.{without_zeros_is_named}
use Rattle.asn1_strings.proofs.named_bits.NamedBits.new.Goals as goal

pub invariant_of-result : goal.invariant_of-result
invariant_of-result c = subst IsNamed (sym c.without_zeros.ensures) (without_zeros_is_named c.args.bits)
