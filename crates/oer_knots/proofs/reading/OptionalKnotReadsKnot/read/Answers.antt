use Rattle.std.proofs.Common.{ap}
use Rattle.std.proofs.lemmas.Result.{err_from_is_err_and}
use Rattle.oer_rows.specs.Values.{both}
use Rattle.oer_rows.proofs.Chained.{asked_there, chained}
use Rattle.oer_rows.specs.Refusals.{Here, Behind}
use Rattle.oer_knots.proofs.reading.OptionalKnotReadsKnot.read.Goals as goal

pub returns-in_err-value-clause-stops : goal.returns-in_err-value-clause-stops
returns-in_err-value-clause-stops g c = search chained

pub returns-in_err-read-clause-stops : goal.returns-in_err-read-clause-stops
returns-in_err-read-clause-stops g c = search chained

pub returns-clause-read : goal.returns-clause-read
returns-clause-read g c = let rest = c.in_ok-read.ensures.read in (both c.in_ok-value.value rest.0, ap (λ z. both c.in_ok-value.value z) rest.1, search (chained, rest.2), (asked_there _ _ _ _ _ _ _ c.in_ok-value.ensures.read, rest.3), rest.4)

pub returns-in_err-value-clause-refused : goal.returns-in_err-value-clause-refused
returns-in_err-value-clause-refused g c =
    let p = err_from_is_err_and c.from_residual.result c.from_residual.ensures.1 in
    rw (p.1, p.2) (Here _ (rw c.tag.ensures at c.in_err-value.ensures))

pub returns-in_err-read-clause-refused : goal.returns-in_err-read-clause-refused
returns-in_err-read-clause-refused g c =
    let p = err_from_is_err_and c.from_residual-in_err-read.result c.from_residual-in_err-read.ensures.1 in
    rw (p.1, p.2) (Behind _ _ (rw c.tag.ensures at c.in_ok-value.ensures) c.in_err-read.ensures.refused)
