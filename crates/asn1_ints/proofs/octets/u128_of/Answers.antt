use Rattle.asn1_ints.proofs.Limits.{unsigned_front_more, unsigned_whole_is, unsigned_ends_outside}
use Rattle.asn1_ints.proofs.octets.u128_of.Goals as goal

pub returns-in_err-n : goal.returns-in_err-n
returns-in_err-n c = rw c.from_residual.ensures (unsigned_ends_outside _ _ _ c.loop-octet-test.true c.loop-octet.invariant.1 c.in_err-n.ensures)

pub loop-octet-preserved : goal.loop-octet-preserved
loop-octet-preserved c = unsigned_front_more _ _ _ _ c.loop-octet-test.true c.loop-octet.invariant.1 c.in_ok-n.ensures

pub returns : goal.returns
returns c = unsigned_whole_is _ _ _ c.loop-octet-test.false c.loop-octet.invariant.1 c.loop-octet.invariant.0
