use Rattle.std.proofs.Common.{sym, ◌∙◌}
use Rattle.std.proofs.lemmas.Result.{err_from_is_err_and}
use Rattle.oer_read.specs.Additions.{Within, LeftOver}
use Rattle.oer_read.proofs.Called.{called_at}
use Rattle.oer_read.proofs.decoder.Decoder.open_type.Goals as goal

pub returns-in_err-value-clause-err : goal.returns-in_err-value-clause-err
returns-in_err-value-clause-err g c =
    let p = err_from_is_err_and c.from_residual.result c.from_residual.ensures.1 in
    let ran = called_at _ _ _ _ _ _ c.inside-inner.ensures c.in_err-value.ensures in
    let d = c.requires.law _ _ ran in
    rw (p.1, p.2) (Within _ ran d.refused.mode d.refused.none)

pub returns-in_err-require_whole-clause-err : goal.returns-in_err-require_whole-clause-err
returns-in_err-require_whole-clause-err g c =
    let p = err_from_is_err_and c.from_residual-in_err-require_whole.result c.from_residual-in_err-require_whole.ensures.1 in
    let ran = called_at _ _ _ _ _ _ c.inside-inner.ensures c.in_ok-value.ensures in
    let k = c.in_err-require_whole.ensures.err in
    rw (p.1, p.2) (LeftOver c.in_ok-value.value _ (c.requires.law _ _ ran).read ran (rw c.remaining.ensures at k.0) k.1 k.2)

pub returns-clause-ok : goal.returns-clause-ok
returns-clause-ok g c =
    let ran = called_at _ _ _ _ _ _ c.inside-inner.ensures c.in_ok-value.ensures in
    record { after = _; reads = (c.requires.law _ _ ran).read; answered = ran; whole = λ e. sym c.remaining.ensures ∙ c.in_ok-require_whole.ensures.ok e }
