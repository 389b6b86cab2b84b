use Rattle.std.proofs.Common.{◌≡◌, ◌∙◌, ap, ap₂, subst, sym, true, false, drop}
use Rattle.std.specs.Prelude.{◌&&◌, is_some}
use Rattle.std.proofs.Math.Bool.{and-true}
use Rattle.asn1_core.specs.Texts.{digits_at, is_day, is_clock, is_ending}
use Rattle.asn1_times.specs.Times.{HasDay, HasClock}
use Rattle.asn1_times.proofs.TimeTexts.{generalized_written, generalized_rest, tail_is}
use Rattle.asn1_times.proofs.time_read.generalized_of.Goals as goal

pub returns-in_err-nanosecond-clause-found : goal.returns-in_err-nanosecond-clause-found
returns-in_err-nanosecond-clause-found c =
    let text = c.args.text.now in
    let rest = generalized_rest text c.if-text-lt15.false (sym c.if-not-are_digits.ensures) in
    let none : false ≡ is_ending (drop 14 text) = c.in_err-nanosecond.ensures.found ∙ ap is_ending (tail_is 14 text) in
    ap is_some c.from_residual.ensures ∙ ap (λ t. t && (is_day (digits_at text 0 4) (digits_at text 4 2) (digits_at text 6 2) && is_clock (digits_at text 8 2) (digits_at text 10 2) (digits_at text 12 2))) none ∙ sym rest

pub returns-clause-found : goal.returns-clause-found
returns-clause-found c =
    let text = c.args.text.now in
    let rest = generalized_rest text c.if-text-lt15.false (sym c.if-not-are_digits.ensures) in
    let day : true ≡ is_day (digits_at text 0 4) (digits_at text 4 2) (digits_at text 6 2) = c.in_ok-date.ensures.found ∙ ap (λ y. is_day y (digits_at text 4 2) (digits_at text 6 2)) c.year_at.ensures.value in
    c.in_ok-nanosecond.ensures.found ∙ ap is_ending (tail_is 14 text) ∙ sym (and-true (is_ending (drop 14 text))) ∙ ap₂ (λ a b. is_ending (drop 14 text) && (a && b)) day c.in_ok-time.ensures.found ∙ sym rest

pub returns-clause-value : goal.returns-clause-value
returns-clause-value c =
    let text = c.args.text.now in
    let t = c.from_parts.result in
    let date : HasDay t.date (digits_at text 0 4) (digits_at text 4 2) (digits_at text 6 2) =
    subst (λ d. HasDay d (digits_at text 0 4) (digits_at text 4 2) (digits_at text 6 2)) (sym c.from_parts.ensures.date) (subst (λ y. HasDay c.in_ok-date.date y (digits_at text 4 2) (digits_at text 6 2)) c.year_at.ensures.value c.in_ok-date.ensures.parts) in
    let time : HasClock t.time (digits_at text 8 2) (digits_at text 10 2) (digits_at text 12 2) c.in_ok-nanosecond.nanosecond =
    subst (λ d. HasClock d (digits_at text 8 2) (digits_at text 10 2) (digits_at text 12 2) c.in_ok-nanosecond.nanosecond) (sym c.from_parts.ensures.time) c.in_ok-time.ensures.parts in
    generalized_written t text c.in_ok-nanosecond.nanosecond c.if-text-lt15.false (sym c.if-not-are_digits.ensures) (c.in_ok-nanosecond.ensures.value.1 ∙ tail_is 14 text) date time
