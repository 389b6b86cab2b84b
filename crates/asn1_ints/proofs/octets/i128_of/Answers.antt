use Rattle.std.proofs.Common.{arith, rules}
use Rattle.std.specs.Prelude.{FitsSigned}
use Rattle.std.specs.Int.{w128, cast_signed}
use Rattle.std.proofs.lemmas.Int.{to_z-of_z}
use Rattle.asn1_ints.proofs.Limits.{front_more, whole_is, ends_outside}
use Rattle.asn1_ints.proofs.octets.i128_of.Goals as goal

pub returns-in_err-n : goal.returns-in_err-n
returns-in_err-n c =
    rw c.from_residual.ensures (ends_outside _ _ _ _ c.loop-octet-test.true (λ i. omega (arith, c.type_inv.octets i)) c.has_sign-negative.ensures c.loop-octet.invariant c.in_err-n.ensures)

pub loop-octet-preserved : goal.loop-octet-preserved
loop-octet-preserved c =
    let fits : FitsSigned w128 c.in_ok-n.n = search rules in
    rw to_z-of_z (front_more _ _ _ _ _ c.loop-octet-test.true c.loop-octet.invariant c.in_ok-n.ensures)

pub returns : goal.returns
returns c =
    let fits : FitsSigned w128 (cast_signed w128 c.loop-octet.n-bits) = search rules in
    whole_is _ _ _ _ c.loop-octet-test.false (λ i. omega (arith, c.type_inv.octets i)) c.has_sign-negative.ensures c.loop-octet.invariant fits
