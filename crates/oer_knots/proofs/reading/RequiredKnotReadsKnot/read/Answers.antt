use Rattle.std.proofs.Common.{ap, Some}
use Rattle.std.proofs.lemmas.Result.{err_from_is_err_and}
use Rattle.oer_rows.specs.Values.{both}
use Rattle.oer_rows.proofs.Chained.{chained}
use Rattle.oer_rows.specs.Refusals.{Here, Behind}
use Rattle.oer_knots.proofs.reading.RequiredKnotReadsKnot.read.Goals as goal

pub returns-in_err-value-clause-stops : goal.returns-in_err-value-clause-stops
returns-in_err-value-clause-stops g c = search chained

pub returns-in_err-read-clause-stops : goal.returns-in_err-read-clause-stops
returns-in_err-read-clause-stops g c = search chained

pub returns-clause-read : goal.returns-clause-read
returns-clause-read g c = let rest = c.in_ok-read.ensures.read in (both c.in_ok-value.value rest.0, ap (λ z. both (Some c.in_ok-value.value) z) rest.1, search (chained, rest.2), (c.in_ok-value.ensures.law.read.value, rest.3), rest.4)

pub returns-in_err-value-clause-refused : goal.returns-in_err-value-clause-refused
returns-in_err-value-clause-refused g c =
    let p = err_from_is_err_and c.from_residual.result c.from_residual.ensures.1 in
    rw (p.1, p.2) (Here _ (record { law = c.in_err-value.ensures.law; answered = c.in_err-value.ensures.answered }))

pub returns-in_err-read-clause-refused : goal.returns-in_err-read-clause-refused
returns-in_err-read-clause-refused g c =
    let p = err_from_is_err_and c.from_residual-in_err-read.result c.from_residual-in_err-read.ensures.1 in
    rw (p.1, p.2) (Behind _ _ (record { law = c.in_ok-value.ensures.law; answered = c.in_ok-value.ensures.answered }) c.in_err-read.ensures.refused)
