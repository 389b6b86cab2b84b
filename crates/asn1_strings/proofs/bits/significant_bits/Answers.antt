use Rattle.std.proofs.Common.{◌∙◌, arith}
use Rattle.asn1_strings.proofs.NamedLists.{last_set, last_unset}
use Rattle.asn1_strings.proofs.bits.significant_bits.Goals as goal

pub returns-then-octets-last-eq1 : goal.returns-then-octets-last-eq1
returns-then-octets-last-eq1 c =
    last_set c.args.octets.now c.loop-count.count c.loop-count-test.true (omega (arith, c.loop-count.invariant.fewer, c.requires.enough)) c.if-octets-last-eq1.true ∙ c.loop-count.invariant.same

pub loop-count-preserved : goal.loop-count-preserved
loop-count-preserved c = record {
  same = last_unset c.args.octets.now c.loop-count.count c.loop-count-test.true (omega (arith, c.loop-count.invariant.fewer, c.requires.enough)) c.if-octets-last-eq1.false ∙ c.loop-count.invariant.same;
  fewer = omega (arith, c.loop-count.invariant.fewer);
}
