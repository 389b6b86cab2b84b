use Rattle.std.proofs.Common.{◌<◌, get_or, ap, ◌∙◌, arith}
use Rattle.std.proofs.lemmas.List.{take_all}
use Rattle.asn1_core.specs.Octets.{unsigned}
use Rattle.asn1_ints.proofs.ShortNumbers.{short_next, short_below, short_fits}
use Rattle.asn1_ints.proofs.short.short_unsigned.Goals as goal

pub overflow_mul-n : goal.overflow_mul-n
overflow_mul-n c = record { fits = omega (arith, short_fits c.loop-octet.octet-index c.loop-octet.n 0 (omega (arith, c.loop-octet-test.true, c.requires)) (omega arith) c.loop-octet.invariant.1) }

pub overflow_add-n : goal.overflow_add-n
overflow_add-n c =
    let octet : get_or c.args.octets.now c.loop-octet.octet-index 0 < 256 = omega (arith, c.type_inv.octets c.loop-octet.octet-index) in
    record { fits = omega (arith, short_fits c.loop-octet.octet-index c.loop-octet.n (get_or c.args.octets.now c.loop-octet.octet-index 0) (omega (arith, c.loop-octet-test.true, c.requires)) octet c.loop-octet.invariant.1) }

pub loop-octet-preserved : goal.loop-octet-preserved
loop-octet-preserved c =
    let octet : get_or c.args.octets.now c.loop-octet.octet-index 0 < 256 = omega (arith, c.type_inv.octets c.loop-octet.octet-index) in
    (short_next c.args.octets.now c.loop-octet.octet-index c.loop-octet.n c.loop-octet-test.true c.loop-octet.invariant.0, short_below c.loop-octet.octet-index c.loop-octet.n (get_or c.args.octets.now c.loop-octet.octet-index 0) octet c.loop-octet.invariant.1)

pub returns : goal.returns
returns c = c.loop-octet.invariant.0 ∙ ap unsigned (take_all c.loop-octet.octet-index c.args.octets.now c.loop-octet-test.false)
