use Rattle.std.proofs.lemmas.Result.{err_from_is_err_and}
use Rattle.oer_read.specs.Additions.{Within, LeftOver}
use Rattle.oer_read.proofs.decoder.Decoder.open_typed.Goals as goal

pub returns-in_err-value-clause-err : goal.returns-in_err-value-clause-err
returns-in_err-value-clause-err g c =
    let p = err_from_is_err_and c.from_residual.result c.from_residual.ensures.1 in
    let d = rw c.inside-inner.ensures at c.in_err-value.ensures.law in
    rw (p.1, p.2) (Within _ (rw c.inside-inner.ensures at c.in_err-value.ensures.answered) d.refused.mode d.refused.none)

pub returns-in_err-require_whole-clause-err : goal.returns-in_err-require_whole-clause-err
returns-in_err-require_whole-clause-err g c =
    let p = err_from_is_err_and c.from_residual-in_err-require_whole.result c.from_residual-in_err-require_whole.ensures.1 in
    let d = rw c.inside-inner.ensures at c.in_ok-value.ensures.law in
    let k = c.in_err-require_whole.ensures.err in
    rw (p.1, p.2) (LeftOver c.in_ok-value.value _ d.read (rw c.inside-inner.ensures at c.in_ok-value.ensures.answered) (rw c.remaining.ensures at k.0) k.1 k.2)
