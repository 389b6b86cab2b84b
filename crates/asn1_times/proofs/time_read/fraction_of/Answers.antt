use Rattle.std.proofs.Common.{◌≡◌, ◌*◌, length, ap, ap₂, sym, ◌∙◌, true, arith}
use Rattle.std.specs.List.{list_all}
use Rattle.asn1_core.specs.Texts.{is_digit}
use Rattle.asn1_times.specs.Times.{fraction}
use Rattle.asn1_times.proofs.Decimals.{value}
use Rattle.asn1_times.proofs.Fractions.{scaled_small, fraction_is, take_all}
use Rattle.asn1_times.proofs.time_read.fraction_of.Goals as goal

pub overflow_mul-result : goal.overflow_mul-result
overflow_mul-result c =
    let small = scaled_small c.number_of.result (length c.args.digits.now) c.number_of.ensures.bound c.if-digits-gt9.false in
    let product = ap (λ p. c.number_of.result * p) c.pow.ensures in
    omega (arith, small, product)

pub returns-clause-value : goal.returns-clause-value
returns-clause-value c =
    let digits = c.args.digits.now in
    let small = scaled_small c.number_of.result (length digits) c.number_of.ensures.bound c.if-digits-gt9.false in
    let product = ap (λ p. c.number_of.result * p) c.pow.ensures in
    let number : c.number_of.result ≡ value digits = c.number_of.ensures.value ∙ ap value (take_all digits) in
    let each : list_all is_digit digits ≡ true = sym c.if-not-are_digits.ensures in
    (omega (arith, small, product), ap₂ (λ n p. fraction (n * p)) number c.pow.ensures ∙ fraction_is digits c.if-digits-gt9.false (omega arith) each c.if-last-eq48.false)
