use Rattle.std.proofs.Common.{◌∙◌, ap, subst, sym}
use Rattle.asn1_core.specs.Texts.{digits_at, full_year}
use Rattle.asn1_times.specs.Times.{HasDay, HasClock}
use Rattle.asn1_times.proofs.TimeTexts.{utc_written}
use Rattle.asn1_times.proofs.time_read.utc_of.Goals as goal

pub returns-clause-value : goal.returns-clause-value
returns-clause-value c =
    let text = c.args.text.now in
    let t = c.from_parts.result in
    let year = c.full_year.ensures ∙ ap full_year c.two_at.ensures in
    let date : HasDay t.date (full_year (digits_at text 0 2)) (digits_at text 2 2) (digits_at text 4 2) =
    subst (λ d. HasDay d (full_year (digits_at text 0 2)) (digits_at text 2 2) (digits_at text 4 2)) (sym c.from_parts.ensures.date) (subst (λ y. HasDay c.in_ok-date.date y (digits_at text 2 2) (digits_at text 4 2)) year c.in_ok-date.ensures.parts) in
    let time : HasClock t.time (digits_at text 6 2) (digits_at text 8 2) (digits_at text 10 2) 0 =
    subst (λ d. HasClock d (digits_at text 6 2) (digits_at text 8 2) (digits_at text 10 2) 0) (sym c.from_parts.ensures.time) c.in_ok-time.ensures.parts in
    utc_written t text c.if-text-ne13.false (sym c.if-not-are_digits.ensures) c.if-text-ne90.false date time
