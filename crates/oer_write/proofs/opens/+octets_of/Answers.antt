use Rattle.std.proofs.Common.{arith, ◌/◌, ◌<◌}
use Rattle.oer_spec.proofs.Written.{few_digits}
use Rattle.oer_write.proofs.Mapped.{one_digit, more_digits}
use Rattle.oer_write.proofs.opens.+octets_of.Goals as goal

pub returns-then-number-lt256 : goal.returns-then-number-lt256
returns-then-number-lt256 t c = one_digit c.args.number c.requires (omega arith)

pub overflow_add-result : goal.overflow_add-result
overflow_add-result t c =
    let r = c.octets_of.ensures in
    let l : c.args.number / 256 < 18446744073709551616 = omega arith in
    let d = few_digits (c.args.number / 256) (omega (arith, l)) in
    omega (arith, r, d)

pub returns : goal.returns
returns t c = more_digits c.args.number c.octets_of.result (omega arith) c.octets_of.ensures
