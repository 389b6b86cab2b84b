use Rattle.std.proofs.Common.{ap, ◌*◌, ◌+◌, ◌-◌, get_or, ◌∙◌, sym, arith}
use Rattle.asn1_times.proofs.Decimals.{value_more, digit_below, power_more, power_small}
use Rattle.asn1_times.proofs.time_read.number_of.Goals as goal

pub overflow_mul-number : goal.overflow_mul-number
overflow_mul-number c = let small = power_small c.loop-digit.number c.loop-digit.digit-index c.loop-digit.invariant.bound (omega arith) in omega arith

pub overflow_add-number : goal.overflow_add-number
overflow_add-number c =
    let small = power_small c.loop-digit.number c.loop-digit.digit-index c.loop-digit.invariant.bound (omega arith) in
    let digit = digit_below c.args.digits.now c.loop-digit.digit-index c.requires.digits c.loop-digit-test.true in
    omega arith

pub loop-digit-preserved : goal.loop-digit-preserved
loop-digit-preserved c =
    let digits = c.args.digits.now in
    let i = c.loop-digit.digit-index in
    let digit = digit_below digits i c.requires.digits c.loop-digit-test.true in
    record {
      value_is = ap (λ n. n * 10 + (get_or digits i 0 - 0x30)) c.loop-digit.invariant.value_is ∙ sym (value_more digits i c.loop-digit-test.true);
      bound = power_more c.loop-digit.number (get_or digits i 0 - 0x30) i c.loop-digit.invariant.bound digit;
    }
