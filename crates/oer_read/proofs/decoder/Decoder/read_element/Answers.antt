use Rattle.std.proofs.Common.{refl}
use Rattle.std.proofs.lemmas.Result.{err_from_is_err_and}
use Rattle.oer_read.proofs.decoder.Decoder.read_element.Goals as goal

pub returns-in_err-item-clause-err : goal.returns-in_err-item-clause-err
returns-in_err-item-clause-err g c =
    let p = err_from_is_err_and c.from_residual.result c.from_residual.ensures.1 in
    rw (p.1, p.2) (c.f.new.arg2, record { shown = _; shows = c.requires.lent; left = _; met = c.in_err-item.ensures; leaves = refl })

pub returns-clause-ok : goal.returns-clause-ok
returns-clause-ok g c = (c.f.new.arg2, record { shown = _; shows = c.requires.lent; left = _; met = c.in_ok-item.ensures; leaves = refl }, c.lend_again.ensures)
